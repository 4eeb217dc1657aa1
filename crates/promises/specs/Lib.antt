pub mod All
pub mod Code
