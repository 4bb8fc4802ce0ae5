pub mod SampleLemmas
pub mod PartLemmas
pub mod ColouredLemmas
