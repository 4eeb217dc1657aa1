pub mod Line
pub mod Way
pub mod Square
pub mod Row
pub mod Order
pub mod Partner
pub mod Plan
pub mod Law
