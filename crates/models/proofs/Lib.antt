pub mod Showing
pub mod Negating
pub mod Answered
