pub mod LeastLemmas
pub mod RisingLemmas
pub mod WalkLemmas
