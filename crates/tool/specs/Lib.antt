pub mod Text
pub mod Outcome
pub mod Asked
pub mod Reply
