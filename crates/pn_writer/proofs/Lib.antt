pub mod GivingLemmas
pub mod PrefixLemmas
