pub mod BufferLaws
pub mod StateLaws
pub mod Sizes
pub mod BytesLaws
pub mod StateHeld
pub mod ReadHeld
