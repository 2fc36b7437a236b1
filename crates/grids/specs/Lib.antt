pub mod Grid
pub mod Sized
pub mod OneProof
pub mod Mask
