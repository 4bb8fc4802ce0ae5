pub mod Collecting
pub mod Refusing
pub mod Stepping
pub mod Telling
