pub mod Order
pub mod Rows
pub mod Sorts
pub mod Standing
pub mod Terms
pub mod Variables
