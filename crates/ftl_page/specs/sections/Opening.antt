-- Line 1 of a page, and the width that it names.
use Rattle.std.specs.Prelude.{ℕ, List, [], ◌∷◌, Option, Some, None, codes, if◌then◌else◌}
use Rattle.std.specs.Str.{bytes_eq}
use Rattle.ftl_base.specs.declared.width.Width.{Width}
use Rattle.ftl_base.specs.declared.width.Width.TheVariants.{Narrow, Wide}
use Rattle.ftl_page.specs.sections.Lines.{words_of, is_heading}

-- the width of a version, which is the word `1` or `2` and no other
abbrev pub width_of_version : List (List ℕ) → Option Width
width_of_version (word ∷ []) =
    if bytes_eq word (codes "1") then Some Narrow
    else (if bytes_eq word (codes "2") then Some Wide
    else None)
width_of_version _ = None

-- the width of the words `%page` and a version
abbrev pub width_of_opening : List (List ℕ) → Option Width
width_of_opening [] = None
width_of_opening (first ∷ words) = if bytes_eq first (codes "%page") then width_of_version words else None

-- the width that line 1 names, where it is the heading of such words
abbrev pub width_of_line : List ℕ → Option Width
width_of_line line = if is_heading line then width_of_opening (words_of line) else None
