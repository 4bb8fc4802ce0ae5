pub mod Reasons
pub mod Order
pub mod Least
pub mod Standing
pub mod Walks
pub mod Rising
