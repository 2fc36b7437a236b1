pub mod Models
pub mod Accepted
