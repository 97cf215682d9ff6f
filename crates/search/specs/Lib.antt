-- What a search promises: read `Meaning` first.
pub mod Meaning
pub mod Coded
pub mod Read
pub mod Walking
pub mod Whole
pub mod Unique
pub mod Equal
pub mod Pins
