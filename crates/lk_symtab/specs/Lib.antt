pub mod Bests
pub mod NameRows
pub mod NamesOfSymbols
pub mod RowEntries
pub mod SymbolLaws
