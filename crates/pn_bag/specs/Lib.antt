pub mod Counts
pub mod Algebra
pub mod Short
pub mod Bag
pub mod Places
pub mod Copies
