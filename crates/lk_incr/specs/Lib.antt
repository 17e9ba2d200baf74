pub mod Words
pub mod NotedTexts
pub mod RecordParts
pub mod TailParts
