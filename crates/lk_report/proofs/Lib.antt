pub mod PartByPart
pub mod Digits
mod TextExamples
