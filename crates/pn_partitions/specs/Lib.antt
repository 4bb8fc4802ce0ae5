pub mod Partitions
pub mod Tables
