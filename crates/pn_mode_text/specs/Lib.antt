pub mod Texts
pub mod Pieces
pub mod Words
pub mod Readings
pub mod Quoted
pub mod ValueReadings
pub mod ModeReadings
pub mod Unescaped
