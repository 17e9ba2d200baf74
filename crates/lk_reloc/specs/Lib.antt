pub mod Rules
pub mod FieldLaws
pub mod Forms
