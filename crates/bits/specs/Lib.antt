-- A set of numbers below 64 as one number: its bits and what its operations give.
pub mod Bits
pub mod BitLaws
