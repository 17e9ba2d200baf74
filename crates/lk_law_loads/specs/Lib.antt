pub mod TakenImages
