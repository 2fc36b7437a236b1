pub mod Placement
pub mod PairRows
