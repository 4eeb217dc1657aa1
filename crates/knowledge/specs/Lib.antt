pub mod Row
pub mod Outcome
pub mod Law
