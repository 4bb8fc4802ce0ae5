pub mod DeclaredLemmas
pub mod OrderLemmas
pub mod RowLemmas
pub mod NameLemmas
pub mod AlikeLemmas
pub mod DocumentLemmas
pub mod TableLemmas
