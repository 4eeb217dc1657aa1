pub mod Rows
pub mod Finds
pub mod Runs
pub mod Single
