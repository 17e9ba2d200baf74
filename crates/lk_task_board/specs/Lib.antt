pub mod Trees
pub mod Tokens
pub mod Waiting
pub mod Boards
