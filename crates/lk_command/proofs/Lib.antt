pub mod WordTables
pub mod PhraseFaults
pub mod RunPaths
pub mod LastValues
pub mod GrammarReported
