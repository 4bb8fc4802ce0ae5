pub mod AlikeNetLemmas
pub mod EndLemmas
pub mod ReadBackLemmas
pub mod OneFlatLemmas
