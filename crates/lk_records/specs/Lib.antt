pub mod Occurrences
pub mod InputRecords
pub mod Gathered
pub mod StackRequests
