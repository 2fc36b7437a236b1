pub mod Layout
pub mod Table
