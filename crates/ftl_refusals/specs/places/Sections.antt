-- Where sections stand in the file of a page.
use Rattle.std.specs.Prelude.{◌≡◌, ℕ, ◌+◌, ◌++◌, List, ◌∷◌, drop, length}
use Rattle.std.specs.List.{concat}
use Rattle.ftl_page.specs.sections.Lines.{lines_of}

-- The text stands at this byte of the file, right behind a line that begins with the word.
pub record IsSectionAt (file word text : List ℕ) (start : ℕ) : Type 0 where
  -- the lines before the heading, the heading with its word, and what follows the text
  pub lines : List (List ℕ)
  pub more : List ℕ
  pub rest : List ℕ
  pub heading : lines_of file ≡ lines ++ (word ++ more) ∷ lines_of (text ++ rest)
  -- it begins behind the bytes of these lines and of the heading
  pub start_is : start ≡ length (concat lines) + length (word ++ more)
  pub text_is : drop start file ≡ text ++ rest
