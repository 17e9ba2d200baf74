pub mod FreeSlots
pub mod SlotsGiven
