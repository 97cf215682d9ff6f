pub mod Bytes
pub mod BytesLaws
pub mod BufferHeld
pub mod Table
