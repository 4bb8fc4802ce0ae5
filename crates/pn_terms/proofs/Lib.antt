pub mod OffsetLemmas
pub mod OrderLemmas
pub mod SortLemmas
pub mod SoundLemmas
pub mod TermLemmas
pub mod VariableLemmas
pub mod WalkLemmas
