pub mod OccurrencesCounted
pub mod OneForEach
pub mod LinkRecorded
pub mod StacksAsked
