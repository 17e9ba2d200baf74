pub mod Apart
pub mod ShortFields
