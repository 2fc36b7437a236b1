pub mod NumberText
pub mod PutDigits
pub mod ReadBack
pub mod ClauseLines
pub mod HeaderLine
pub mod LineLoops
