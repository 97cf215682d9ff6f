-- The laws that rest on other laws.
pub mod Live
pub mod TsoToSc
pub mod Signed
pub mod NeverContradict
