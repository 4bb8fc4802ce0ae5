pub mod Cause
pub mod Taking
pub mod Memory
pub mod MemoryTelling
pub mod Streams
pub mod Buffered
