pub mod FileParts
pub mod SharedFaults
pub mod SharedSummaries
pub mod EntriesFound
pub mod NeedsFound
pub mod FirstDefinitions
pub mod NamesDefined
pub mod SymbolsKept
