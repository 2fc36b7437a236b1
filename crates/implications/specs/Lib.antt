pub mod Sizes
pub mod Meaning
pub mod Held
