pub mod Spoken
pub mod FileMap
pub mod Texts
pub mod Exit
pub mod Goes
