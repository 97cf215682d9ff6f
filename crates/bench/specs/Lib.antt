-- How a step is printed.
pub mod Hex
