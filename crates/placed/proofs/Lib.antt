pub mod SomePosition
pub mod BlockTests
pub mod KnownLines
