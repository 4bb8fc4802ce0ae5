pub mod DivisionLemmas
pub mod CountLemmas
pub mod SumLemmas
pub mod KeepLemmas
