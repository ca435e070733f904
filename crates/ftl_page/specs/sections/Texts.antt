-- How long the texts of a page are.
use Rattle.std.specs.Prelude.{ℕ, ◌≤◌, length, IfSome}
use Rattle.ftl_page.specs.declared.sections.page.Page.{Page}

-- no text of the page has more bytes
pub record HasTextsUpTo (limit : ℕ) (page : Page) : Type 0 where
  pub grammar : length page.grammar ≤ limit
  pub schedule : IfSome page.schedule (λ text. length text ≤ limit)
  pub document : IfSome page.document (λ text. length text ≤ limit)
  pub edits : IfSome page.edits (λ text. length text ≤ limit)
