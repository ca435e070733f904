pub mod WordValues
pub mod Shows
pub mod PieceRoom
pub mod LinePieces
pub mod Piece
pub use Rattle.ftl_model.specs.layout.Boxes
