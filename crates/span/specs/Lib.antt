pub mod Span
pub mod SpanLaws
pub mod Pieces
