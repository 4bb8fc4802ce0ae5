pub mod Truths
pub mod Options
pub mod Lists
pub mod Bytes
pub mod Contained
pub mod Results
pub mod Each
