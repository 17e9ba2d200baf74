pub mod BestsKept
pub mod Entries
pub mod SymbolsFound
pub mod RowsStay
pub mod NamesNumbered
pub mod SymbolsNoted
pub mod SymbolsNamed
