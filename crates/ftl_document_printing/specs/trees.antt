pub mod Left
pub use Rattle.ftl_document.specs.faults.WrittenOf
