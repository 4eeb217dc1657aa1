pub mod Counts
pub mod Moments
pub mod Learned
pub mod Heard
pub mod Together
pub mod Unheard
pub mod Fewest
