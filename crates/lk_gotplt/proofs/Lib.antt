pub mod QueueCounts
pub mod SlotsFree
pub mod KeysPlaced
