pub mod PartLemmas
pub mod ReadLemmas
pub mod PageLemmas
pub mod OperatorLemmas
pub mod WritingLemmas
pub mod WriteLemmas
