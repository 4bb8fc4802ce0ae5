pub mod Graphs
pub mod Orders
pub mod Searches
pub mod States
pub mod Rows
