pub mod Entries
pub mod BufferText
pub mod Sixteen
