pub mod Assignments
pub mod Outcomes
pub mod Ready
pub mod Values
