pub mod LinkAnswers
pub mod ReadInputs
pub mod Committing
pub mod Outer
pub mod LinkPasses
pub mod ImageGiven
pub mod LinkStatuses
