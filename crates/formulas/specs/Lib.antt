pub mod Walk
pub mod Clauses
pub mod Stops
pub mod OneProof
