pub mod Each
pub mod Wrote
