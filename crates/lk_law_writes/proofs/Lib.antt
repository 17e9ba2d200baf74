pub mod WrittenBytes
pub mod PairsOfLists
pub mod SpansApart
pub mod HolesApart
pub mod FillLengths
pub mod TableLengths
pub mod TailRises
pub mod PiecesInRows
pub mod RowStretches
pub mod RowBounds
pub mod LinkApart
pub mod ZeroTables
pub mod LinkWritten
pub mod FullWritten
mod Examples
