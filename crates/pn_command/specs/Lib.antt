pub mod Words
pub mod Lines
pub mod Outputs
pub mod Verdict
pub mod Answer
pub mod Reading
pub mod ModesOfNets
pub mod Stepped
