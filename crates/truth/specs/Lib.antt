pub mod Truth
pub mod Tested
