pub mod Known
pub mod OneProof
pub mod Held
