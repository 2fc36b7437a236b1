pub mod Models
pub mod Sides
pub mod Held
