pub mod Rules
pub mod Numbers
pub mod Attributes
pub mod Spots
pub mod Faults
pub mod Shaped
