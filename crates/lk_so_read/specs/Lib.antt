pub mod SharedParts
pub mod DynamicParts
pub mod OfferedSymbols
pub mod SymbolRows
pub mod Needs
