pub mod All
pub mod Keeping
