pub mod At
pub mod Mask
