pub mod ProbeReaders
pub mod ProbeWalk
pub mod AcceptedProbes
pub mod Stopping
pub mod Ahead
