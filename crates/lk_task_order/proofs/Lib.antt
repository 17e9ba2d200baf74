pub mod BlockersReached
pub mod Listing
pub mod SlotsSeen
pub mod BlockersSwept
pub mod FirstFound
