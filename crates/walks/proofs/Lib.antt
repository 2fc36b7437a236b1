pub mod Passing
pub mod Onwards
