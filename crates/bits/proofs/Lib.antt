pub mod SetBits
pub mod LowestFirst
pub mod Collecting
