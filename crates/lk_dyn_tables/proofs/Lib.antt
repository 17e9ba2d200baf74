pub mod PlacesFound
pub mod EntriesLow
pub mod EntriesGiven
pub mod TablesPut
pub mod WinnersGiven
