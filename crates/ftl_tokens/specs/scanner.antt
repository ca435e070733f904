pub mod Kinds
pub mod Piece
pub mod Run
pub mod Scan
pub mod Scans
pub mod Tokenized
pub use Rattle.ftl_model.specs.layout.Outcome
