pub mod MoveLaws
pub mod PlaceLaws
pub mod ReadLaws
pub mod GroupLaws
