-- What the formatter's hex digits are.
pub mod Hex
