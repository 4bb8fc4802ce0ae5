pub mod KeepLemmas
pub mod CountLemmas
pub mod WalkLemmas
