-- The brackets of grammar texts, and how many may stand in one another.
use Rattle.std.specs.Prelude.{ℕ, [], ◌∷◌}
use Rattle.ftl_tokens.specs.declared.scanner.kind.Kind.TheVariants as kind
use Rattle.ftl_tokens.specs.reading.Depth.{Brackets}

-- round and square brackets
abbrev pub brackets : Brackets
brackets = record {
  opening = kind.LeftParen ∷ kind.LeftBracket ∷ [];
  closing = kind.RightParen ∷ kind.RightBracket ∷ [];
}

-- how many brackets may be open at once
abbrev pub limit : ℕ
limit = 64
