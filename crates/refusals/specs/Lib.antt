pub mod Verdict
pub mod Told
pub mod Outcome
pub mod Walk
pub mod Stops
