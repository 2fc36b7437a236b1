pub mod Coloring
pub mod Boards
