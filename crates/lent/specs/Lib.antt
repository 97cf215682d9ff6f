-- A search over memory that the caller lends, of any system whose states have bytes. Read in this order: what is answered and what the memory
-- then holds, what a coding is, what the parts of a search promise; then the laws.
pub mod Meaning
pub mod Coding
pub mod Parts
pub mod Kept
pub mod Tries
pub mod Looking
pub mod Goals
pub mod Levels
pub mod Searching
