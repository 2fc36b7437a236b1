pub mod Masks
pub mod PointCells
