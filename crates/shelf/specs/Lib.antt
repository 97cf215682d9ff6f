pub mod Front
pub mod Back
