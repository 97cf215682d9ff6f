pub mod Passed
pub mod Stages
pub mod Laid
pub mod JobOf
