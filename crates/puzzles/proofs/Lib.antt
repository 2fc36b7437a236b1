pub mod Readers
pub mod Lines
pub mod Accepting
pub mod ColorSets
pub mod Places
pub mod Stopping
