pub mod Meaning
pub mod Pictures
pub mod Examples
