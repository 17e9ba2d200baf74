pub mod Firsts
pub mod NodesBelow
pub mod Listed
pub mod WaitersLinked
pub mod Counting
pub mod Wakes
pub mod Steps
pub mod MarksFound
