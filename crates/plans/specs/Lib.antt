pub mod Complete
pub mod Answer
pub mod Text
