pub mod Addends
pub mod TypesFound
pub mod RulesFound
pub mod LowBytes
pub mod FieldsRead
pub mod FormsFound
