pub mod ListLemmas
pub mod OneListLemmas
