pub mod ByteLemmas
pub mod TextLemmas
