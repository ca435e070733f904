-- Tokens that are read as they were written in front of any others that are.
use Rattle.std.proofs.Common.{◌≡◌, ℕ, true, List, [], ◌∷◌, ◌++◌, flat_map, codes, refl, sym, ◌∙◌, ap, subst, append_assoc}
use Rattle.std.specs.List.{All, list_all}
use Rattle.std.specs.Str.{chars}
use Rattle.std.proofs.lemmas.Bool.{and_parts}
use Rattle.std.proofs.lemmas.Str.{chars-append, chars-IsAscii, IsUtf8-from_ascii}
use Rattle.ftl_tokens.specs.declared.scanner.kind.Kind.TheVariants as kind
use Rattle.ftl_tokens.specs.scanner.Scan.{is_white_space}
use Rattle.ftl_tokens.specs.scanner.Tokenized.{fixed, name}
use Rattle.ftl_tokens.specs.writing.Written.{AreReadable, CanBeSaid, IsReadable, IsSpace, StandsApart, Written, symbol_text, text_of}
use Rattle.ftl_tokens.specs.writing.Written.{written}
use Rattle.ftl_tokens.proofs.writing.ApartLemmas.{white_stands_apart}
use Rattle.ftl_tokens.proofs.writing.WrittenScan.{white_ascii}
use Rattle.ftl_schedule.specs.declared.syntax.types.AttributeName.{AttributeName}
use Rattle.ftl_schedule.specs.text.ScheduleText.{HasNames, attribute_written}
use Rattle.ftl_schedule.proofs.text.Dots.{dot_apart, name_apart}

-- they are read as they were written, where what follows is
abbrev pub Fronts : List Written → Type 0
Fronts xs = (rest : List Written) → AreReadable 2147483647 rest → AreReadable 2147483647 (xs ++ rest)

pub no_front : Fronts []
no_front rest ok = ok

pub front-append : (xs ys : List Written) → Fronts xs → Fronts ys → Fronts (xs ++ ys)
front-append xs ys first later rest ok =
    subst (AreReadable 2147483647) (sym (append_assoc xs ys rest)) (first (ys ++ rest) (later rest ok))

-- white space does not go on a token
pub apart : (token gap rest : List ℕ) → IsSpace gap → StandsApart token (chars (gap ++ rest))
apart token [] rest space = absurd space
apart token (c ∷ cs) rest space =
    let ascii = white_ascii (c ∷ cs) space in
    let letters : chars ((c ∷ cs) ++ rest) ≡ c ∷ (cs ++ chars rest) =
    chars-append (c ∷ cs) rest (IsUtf8-from_ascii (c ∷ cs) ascii) ∙ ap (λ l. l ++ chars rest) (chars-IsAscii (c ∷ cs) ascii) in
    subst (StandsApart token) (sym letters) (white_stands_apart token c (and_parts _ _ space).0)

pub space_is_white : (gap : List ℕ) → IsSpace gap → list_all is_white_space gap ≡ true
space_is_white [] space = absurd space
space_is_white (c ∷ cs) space = space

-- a token with white space behind it
pub spaced_front : (t : Written) → CanBeSaid 2147483647 t.says → IsSpace t.gap → Fronts (t ∷ [])
spaced_front t said space rest ok = (
  record {
    says = said;
    gap = space_is_white t.gap space;
    apart = apart (chars (symbol_text t.says)) t.gap (text_of rest) space;
  },
  ok,
)

-- an attribute
pub attribute_front : (x : AttributeName) → HasNames x → Fronts (attribute_written x)
attribute_front x names rest ok =
    let last = spaced_front (written (name x.attr) (codes " ")) names.1 refl rest ok in (
      record {
        says = names.0;
        gap = refl;
        apart = name_apart x.owner (text_of (written (name x.attr) (codes " ") ∷ rest)) names.0.1;
      },
      (
        record {
          says = tt;
          gap = refl;
          apart = subst (λ l. StandsApart (chars (46 ∷ [])) (chars l)) (sym (append_assoc x.attr (codes " ") (text_of rest)))
              (dot_apart x.attr (codes " " ++ text_of rest) names.1.0);
        },
        last,
      ),
    )
