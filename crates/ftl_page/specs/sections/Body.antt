-- The lines of a text before its first heading.
use Rattle.std.specs.Prelude.{◌≡◌, ℕ, ◌≤◌, true, List, ◌++◌, length, ◌⊎◌}
use Rattle.std.specs.List.{list_all}
use Rattle.ftl_page.specs.sections.Lines.{lines_of, is_heading, is_body_line}

-- the front of the text, of so many lines, has no heading, and a heading follows it or nothing
pub record IsBody (text front : List ℕ) (lines : ℕ) (rest : List ℕ) : Type 0 where
  pub all_lines : lines_of text ≡ lines_of front ++ lines_of rest
  pub no_heading : list_all is_body_line (lines_of front) ≡ true
  pub count : lines ≡ length (lines_of front)
  pub whole : text ≡ front ++ rest
  pub short : lines ≤ length front
  pub next : (length rest ≡ 0) ⊎ (is_heading rest ≡ true)
