pub mod BaseLemmas
pub mod TableLemmas
pub mod SplitLemmas
