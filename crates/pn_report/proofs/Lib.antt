pub mod LineLemmas
pub mod SummaryLemmas
