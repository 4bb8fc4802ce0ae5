pub mod StepLemmas
pub mod OneStepLemmas
pub mod RefusalLemmas
