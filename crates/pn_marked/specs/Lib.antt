pub mod Ground
pub mod Marked
pub mod Gathering
