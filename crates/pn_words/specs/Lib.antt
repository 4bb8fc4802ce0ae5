pub mod Languages
pub mod Numbers
pub mod Turns
