-- Words that are cut into parts.
use Rattle.std.specs.Prelude.{◌≡◌, ◌≤◌, ◌⊎◌, ℕ, List, [], ◌∷◌, ◌++◌, length, Vec}
use Rattle.std.specs.List.{All}
use Rattle.std.specs.Vec.{vec_capacity}
use Rattle.std.specs.declared.alloc.Global.{Global}

-- the words of a part
abbrev pub Part : Type 0
Part = Vec ℕ Global

-- those of all parts, one part after the other
abbrev pub all_words : List Part → List ℕ
all_words [] = []
all_words (part ∷ parts) = part.items ++ all_words parts

-- each part has so many words, or fewer where no word comes after them
abbrev pub IsCut : (size : ℕ) → List Part → Type 0
IsCut size [] = Unit {0}
IsCut size (part ∷ parts) =
    (length part.items ≤ size) × ((length part.items ≡ size) ⊎ (length (all_words parts) ≡ 0)) × IsCut size parts

-- the words, cut into so many parts
pub record IsCutInto (size : ℕ) (words : List ℕ) (count : ℕ) (parts : List Part) : Type 0 where
  pub count_is : length parts ≡ count
  pub words_are : all_words parts ≡ words
  pub cut : IsCut size parts

-- each part has room for so many words
abbrev pub HaveRoom : (size : ℕ) → List Part → Type 0
HaveRoom size parts = All (λ (p : Part). size ≤ vec_capacity p) parts
