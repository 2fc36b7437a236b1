pub mod Words
pub mod Signs
pub mod Readings
