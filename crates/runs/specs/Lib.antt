pub mod Begins
pub mod Strided
