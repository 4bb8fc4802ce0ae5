pub mod Characters
pub mod Open
