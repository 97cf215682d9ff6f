pub mod Refusals
pub mod Passed
pub mod Stages
