pub mod Standing
pub mod Lookups
pub mod Kept
pub mod Keeping
pub mod Settling
pub mod Order
