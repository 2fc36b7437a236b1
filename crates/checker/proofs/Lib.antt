pub mod Acceptance
pub mod Ordering
pub mod SectionTests
pub mod Counting
