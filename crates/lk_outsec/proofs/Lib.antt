pub mod Sorting
pub mod PatchedExamples
pub mod NamesUnder
pub mod PieceTypes
