pub mod Clue
pub mod Line
pub mod Arrangement
pub mod Runs
pub mod Calls
