-- The laws that rest on other laws.
pub mod Tries
pub mod Levels
pub mod Searching
