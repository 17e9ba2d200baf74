pub mod Written
pub mod WrittenLaws
pub mod Layable
pub mod LaidLaws
