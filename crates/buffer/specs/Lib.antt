pub mod Held
pub mod HeldLaws
pub mod EntryLaws
pub mod Places
pub mod Posts
