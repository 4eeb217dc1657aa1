pub mod Seen
pub mod Fresh
pub mod Ring
pub mod Near
pub mod Pairs
pub mod Reach
pub mod Answer
