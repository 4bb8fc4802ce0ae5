pub mod WritingLemmas
pub mod GroundLemmas
pub mod BagTermLemmas
pub mod MarkedLemmas
