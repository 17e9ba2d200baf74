pub mod ObjectParts
pub mod PieceParts
pub mod RelocatedSections
pub mod StackRequests
pub mod RelaLists
pub mod RelocationLists
pub mod ReadObjects
