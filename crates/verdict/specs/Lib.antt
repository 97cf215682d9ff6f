-- What a verdict promises: read `Meaning` first, then `Released`.
pub mod Meaning
pub mod Released
pub mod Unique
pub mod Steps
pub mod Deciding
pub mod Pins
pub mod Versions
