pub mod Numbers
pub mod Spelling
pub mod WordsSpelled
pub mod TextsNoted
pub mod TailsMade
