pub mod ClaimWords
pub mod Counting
pub mod Calling
pub mod ProbeClauses
pub mod ProbePlaces
pub mod ProbeSizes
pub mod ProbesMeaning
