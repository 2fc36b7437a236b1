pub mod Readers
pub mod Ahead
pub mod Accepting
pub mod Stopping
