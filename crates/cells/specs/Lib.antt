pub mod Asked
pub mod Cells
pub mod Found
pub mod Given
pub mod Held
