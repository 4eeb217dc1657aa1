pub mod Fewest
pub mod Own
