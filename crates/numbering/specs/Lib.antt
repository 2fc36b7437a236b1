pub mod Variables
pub mod Tables
pub mod Names
pub mod OneProof
pub mod Held
