pub mod ImageAnswers
pub mod PlacedLinks
pub mod Tails
pub mod Writes
