pub mod Numbers
pub mod Multisets
pub mod Halves
pub mod Texts
pub mod Lists
pub mod Outcomes
pub mod Rows
