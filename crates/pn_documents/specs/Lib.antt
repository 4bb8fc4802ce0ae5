pub mod Fit
pub mod Written
