pub mod Flat
pub mod Gathering
pub mod Sides
pub mod Naming
pub mod Following
pub mod Linking
pub mod Wiring
pub mod Judging
