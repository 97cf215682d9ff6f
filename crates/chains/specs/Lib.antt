pub mod Sums
pub mod Chains
pub mod ChainLaws
