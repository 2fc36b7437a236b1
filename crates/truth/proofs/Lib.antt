pub mod Testing
pub mod RowTests
pub mod AllTested
pub mod JoinedTests
