pub mod Set
pub mod Word
