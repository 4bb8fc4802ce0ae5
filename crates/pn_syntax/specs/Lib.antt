pub mod Offsets
pub mod TermOffsets
