-- The laws that rest on other laws.
pub mod Equal
pub mod Pins
