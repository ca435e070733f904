-- The braces of documents, and how many may stand in one another.
use Rattle.std.specs.Prelude.{ℕ, [], ◌∷◌}
use Rattle.ftl_tokens.specs.declared.scanner.kind.Kind.TheVariants as kind
use Rattle.ftl_tokens.specs.reading.Depth.{Brackets}

-- the marks around the fields of a node
abbrev pub braces : Brackets
braces = record { opening = kind.LeftBrace ∷ []; closing = kind.RightBrace ∷ [] }

-- how many braces may be open at once
abbrev pub deepest : ℕ
deepest = 512
