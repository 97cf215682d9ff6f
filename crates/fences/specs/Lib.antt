-- What a fence check promises: read `Meaning` first.
pub mod Meaning
pub mod Places
