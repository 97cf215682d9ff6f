-- The laws that rest on other laws, in the order in which they are built.
pub mod OrderLaws
pub mod RunLaws
pub mod ReplayLaws
pub mod Offers
pub mod Levels
pub mod PutLaws
pub mod Bounded
pub mod Found
pub mod Unique
pub mod Promise
