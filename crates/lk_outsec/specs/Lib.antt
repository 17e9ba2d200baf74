pub mod CommonNames
pub mod PieceTypes
