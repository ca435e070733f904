-- Tokens that are read as they were written in front of any others that are.
use Rattle.std.proofs.Common.{◌≡◌, ℕ, zero, suc, true, List, [], ◌∷◌, ◌++◌, codes, ℤ, pos, negsuc, refl, sym, ◌∙◌, ap}
use Rattle.std.proofs.Common.{subst, append_assoc, arith, lit<, None}
use Rattle.std.specs.List.{list_all}
use Rattle.std.specs.Str.{chars, IsAscii}
use Rattle.std.proofs.lemmas.Bool.{and_left, and_parts}
use Rattle.std.proofs.lemmas.Int.{ints}
use Rattle.std.proofs.lemmas.Str.{chars-append, chars-IsAscii, IsUtf8-from_ascii}
use Rattle.ftl_tokens.specs.scanner.Kinds.{kind_of, kind_of_mark}
use Rattle.ftl_tokens.specs.scanner.Scan.{is_white_space}
use Rattle.ftl_tokens.specs.scanner.Tokenized.{number}
use Rattle.ftl_tokens.proofs.scanner.FrontLemmas.{kind_of-mark}
use Rattle.ftl_tokens.proofs.scanner.KindLemmas.{begins_word-ascii}
use Rattle.ftl_model.specs.layout.TreeOf.{IsInput}
use Rattle.ftl_tokens.specs.writing.Written.{AreReadable, CanBeSaid, IsSpace, StandsApart, Written, symbol_text}
use Rattle.ftl_tokens.specs.writing.Written.{text_of, written}
use Rattle.ftl_tokens.proofs.writing.ApartLemmas.{white_stands_apart}
use Rattle.ftl_tokens.proofs.writing.WrittenScan.{white_ascii}
use Rattle.ftl_document_printing.specs.text.DocumentText.{number_written}

-- they are read as they were written, where what follows is
abbrev pub Fronts : (greatest : ℕ) → List Written → Type 0
Fronts greatest xs = (rest : List Written) → AreReadable greatest rest → AreReadable greatest (xs ++ rest)

pub front-append : (greatest : ℕ) (xs ys : List Written) → Fronts greatest xs → Fronts greatest ys
    → Fronts greatest (xs ++ ys)
front-append greatest xs ys first later rest ok =
    subst (AreReadable greatest) (sym (append_assoc xs ys rest)) (first (ys ++ rest) (later rest ok))

-- white space does not go on a token
apart : (token gap rest : List ℕ) → IsSpace gap → StandsApart token (chars (gap ++ rest))
apart token [] rest space = absurd space
apart token (c ∷ cs) rest space =
    let ascii = white_ascii (c ∷ cs) space in
    let letters : chars ((c ∷ cs) ++ rest) ≡ c ∷ (cs ++ chars rest) =
    chars-append (c ∷ cs) rest (IsUtf8-from_ascii (c ∷ cs) ascii)
    ∙ ap (λ l. l ++ chars rest) (chars-IsAscii (c ∷ cs) ascii) in
    subst (StandsApart token) (sym letters) (white_stands_apart token c (and_parts _ _ space).0)

space_is_white : (gap : List ℕ) → IsSpace gap → list_all is_white_space gap ≡ true
space_is_white [] space = absurd space
space_is_white (c ∷ cs) space = space

-- a token with white space behind it
pub spaced_front : (greatest : ℕ) (t : Written) → CanBeSaid greatest t.says → IsSpace t.gap → Fronts greatest (t ∷ [])
spaced_front greatest t said space rest ok = (
  record {
    says = said;
    gap = space_is_white t.gap space;
    apart = apart (chars (symbol_text t.says)) t.gap (text_of rest) space;
  },
  ok,
)

-- no character goes on a minus; 45 is `-`
minus_then : (c : ℕ) → kind_of (45 ∷ c ∷ []) ≡ None
unfolding kind_of_mark
minus_then c = kind_of-mark (45 ∷ c ∷ []) (and_left _ _ (begins_word-ascii 45 (lit< tt))) refl

minus_is_ascii : IsAscii (45 ∷ [])
minus_is_ascii zero = lit< tt
minus_is_ascii (suc i) = omega arith

-- a minus stands apart from whatever is behind it
minus_apart : (rest : List ℕ) → StandsApart (chars (45 ∷ [])) rest
minus_apart rest = subst (λ l. StandsApart l rest) (sym (chars-IsAscii (45 ∷ []) minus_is_ascii)) (by rest)
  where
    by : (cs : List ℕ) → StandsApart (45 ∷ []) cs
    by [] = tt
    by (c ∷ cs) = minus_then c

-- a number with its sign
pub number_front : (greatest : ℕ) (n : ℤ) → IsInput greatest n → Fronts greatest (number_written n)
number_front greatest (pos n) input rest ok =
    spaced_front greatest (written (number n) (codes " ")) (omega (arith, ints, input.1)) refl rest ok
number_front greatest (negsuc n) input rest ok =
    let digits = written (number (suc n)) (codes " ") in (
      record {
        says = tt;
        gap = refl;
        apart = minus_apart (chars (text_of (digits ∷ rest)));
      },
      spaced_front greatest digits (omega (arith, ints, input.0)) refl rest ok,
    )
