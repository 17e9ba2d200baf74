pub mod Items
pub mod MarksMade
