pub mod Carriers
pub mod Members
pub mod Sizes
