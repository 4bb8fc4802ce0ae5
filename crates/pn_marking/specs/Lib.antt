pub mod Totals
pub mod Modes
pub mod Steps
pub mod Known
pub mod Flows
pub mod Moves
pub mod Firing
