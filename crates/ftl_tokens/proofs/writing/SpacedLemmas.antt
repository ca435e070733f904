-- Tokens with white space behind each of them are read as they were written.
use Rattle.std.proofs.Common.{◌≡◌, ℕ, true, List, [], ◌∷◌, ◌++◌, ap, ◌∙◌, subst, sym}
use Rattle.std.specs.List.{list_all}
use Rattle.std.specs.Str.{chars}
use Rattle.std.proofs.lemmas.Bool.{and_parts}
use Rattle.std.proofs.lemmas.Str.{chars-append, chars-IsAscii, IsUtf8-from_ascii}
use Rattle.ftl_tokens.specs.scanner.Scan.{is_white_space}
use Rattle.ftl_tokens.specs.writing.Written.{Written, symbol_text, text_of, StandsApart, IsSpace, AreSpaced, AreReadable}
use Rattle.ftl_tokens.proofs.writing.ApartLemmas.{white_stands_apart}
use Rattle.ftl_tokens.proofs.writing.WrittenScan.{white_ascii}

space_is_white : (gap : List ℕ) → IsSpace gap → list_all is_white_space gap ≡ true
space_is_white [] space = absurd space
space_is_white (c ∷ cs) space = space

-- white space does not go on a token
space_stands_apart : (token gap rest : List ℕ) → IsSpace gap → StandsApart token (chars (gap ++ rest))
space_stands_apart token [] rest space = absurd space
space_stands_apart token (c ∷ cs) rest space =
    let ascii = white_ascii (c ∷ cs) space in
    let letters : chars ((c ∷ cs) ++ rest) ≡ c ∷ (cs ++ chars rest) =
    chars-append (c ∷ cs) rest (IsUtf8-from_ascii (c ∷ cs) ascii) ∙ ap (λ l. l ++ chars rest) (chars-IsAscii (c ∷ cs) ascii) in
    subst (StandsApart token) (sym letters) (white_stands_apart token c (and_parts _ _ space).0)

pub spaced_are_readable : (greatest : ℕ) (tokens : List Written) → AreSpaced greatest tokens → AreReadable greatest tokens
spaced_are_readable greatest [] spaced = tt
spaced_are_readable greatest (t ∷ ts) spaced = (
  record {
    says = spaced.0;
    gap = space_is_white t.gap spaced.1;
    apart = space_stands_apart (chars (symbol_text t.says)) t.gap (text_of ts) spaced.1;
  },
  spaced_are_readable greatest ts spaced.2,
)
