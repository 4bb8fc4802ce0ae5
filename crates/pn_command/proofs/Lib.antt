pub mod StepLemmas
pub mod OutputLemmas
pub mod BreakLemmas
pub mod AnswerLemmas
pub mod StatusLemmas
pub mod ReadingLemmas
pub mod SteppedLemmas
