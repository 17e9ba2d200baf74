pub mod Ranges
pub mod EntriesCounted
pub mod AllOf
pub mod HeaderRefusals
pub mod RunsGathered
pub mod PartsNamed
pub mod ImagesLoaded
