-- The laws that rest on other laws.
pub mod BitLaws
