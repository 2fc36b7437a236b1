pub mod Determined
pub mod BufferText
pub mod Sixteen
