pub mod Loadable
pub mod LoadedPlaces
