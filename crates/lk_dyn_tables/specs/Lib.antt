pub mod NamedRows
pub mod SymbolPlaces
pub mod SymbolEntries
pub mod SymbolTables
pub mod WinnerNames
