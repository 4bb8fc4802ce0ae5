pub mod Bytes
pub mod Misc
pub mod References
pub mod Tags
pub mod Content
pub mod Declaration
pub mod Document
pub mod Offsets
