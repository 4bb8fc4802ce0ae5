pub mod KidLemmas
pub mod InsideLemmas
pub mod PartsLemmas
pub mod PrefixLemmas
