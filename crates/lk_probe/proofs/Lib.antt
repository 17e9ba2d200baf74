pub mod FirstHeaders
pub mod InputsPlaced
pub mod CommandPlaced
pub mod TextSaid
pub mod CommandsResolved
pub mod TextsPut
