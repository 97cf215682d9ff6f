pub mod Held
pub mod Parts
pub mod InRange
pub mod HeldLaws
