-- The laws that rest on other laws, in the order in which they are built.
pub mod Accepted
pub mod Asked
pub mod BufferLaws
pub mod Keeps
pub mod ReasonLaws
pub mod Groups
pub mod Versions
pub mod Worked
pub mod DeadCode
