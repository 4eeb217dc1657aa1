pub mod Call
pub mod Number
pub mod Law
