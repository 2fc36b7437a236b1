pub mod Answering
pub mod Called
pub mod Offending
pub mod Walking
pub mod Readers
pub mod Passing
pub mod Stopping
pub mod Never
