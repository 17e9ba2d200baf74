pub mod SoundPieces
pub mod SoundInputs
pub mod LawfulPlaces
