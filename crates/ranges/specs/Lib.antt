pub mod Spanned
