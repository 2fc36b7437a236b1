pub mod CellClauses
