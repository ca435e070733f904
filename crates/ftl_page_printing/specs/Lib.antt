pub mod pages
pub use Rattle.ftl_page.specs.sections.Page
pub use Rattle.ftl_tokens.specs.scanner.Scan
