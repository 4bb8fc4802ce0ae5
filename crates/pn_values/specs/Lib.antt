pub mod Kin
pub mod Sizes
pub mod Order
pub mod OrderLaws
