pub mod FieldBytes
pub mod Rows
pub mod Counted
pub mod PutInTurn
pub mod TailEnds
pub mod FrontLengths
pub mod SectionsPut
pub mod ModelRows
