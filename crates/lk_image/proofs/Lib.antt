pub mod Refusals
pub mod TailsPlaced
pub mod FrontReported
pub mod BytesPut
pub mod SectionsWritten
pub mod ImageWritten
pub mod ImageReported
