-- What a replay promises: read `Meaning` first.
pub mod Meaning
pub mod Steps
