pub mod ReadBack
pub use Rattle.ftl_document.specs.faults.WrittenOf
