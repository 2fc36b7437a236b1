pub mod Asking
pub mod BlockPositions
pub mod BoardCells
pub mod ByColumn
pub mod LinePositions
pub mod CoveringPositions
pub mod Ruling
