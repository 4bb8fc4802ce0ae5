pub mod Sample
pub mod Parts
pub mod Coloured
