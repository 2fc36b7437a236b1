pub mod Probes
pub mod Words
pub mod Parts
pub mod Stops
pub mod Onward
