pub mod CoveredTests
pub mod Sides
pub mod SpaceTests
pub mod ModelVariables
pub mod EachTests
