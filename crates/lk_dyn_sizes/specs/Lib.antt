pub mod SizeRows
pub mod DynamicRows
pub mod Fills
pub mod DynamicStrings
pub mod EntryCounts
pub mod SizesIn
