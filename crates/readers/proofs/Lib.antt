pub mod Widths
pub mod Readers
pub mod Fields
