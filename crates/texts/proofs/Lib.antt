pub mod Chains
pub mod Digits
pub mod Examples
pub mod Pairs
pub mod Words
