-- Lines that tell a byte, part by part.
use Rattle.std.proofs.Common.{◌≡◌, ◌≢◌, ℕ, ◌<◌, ◌^◌, ◌⊎◌, inr, ⊎_elim, List, ◌++◌, codes, sym, ap, subst, ◌∙◌, arith}
use Rattle.std.proofs.Common.{append_assoc, Option, Some, None, Result, Ok, Err}
use Rattle.std.proofs.lemmas.Fmt.{IsAscii-decimal, parse-decimal}
use Rattle.std.proofs.lemmas.List.{append_cancel_left, append_cancel_right}
use Rattle.std.proofs.lemmas.Str.{IsUtf8-from_ascii}
use Rattle.std.specs.Fmt.{decimal}
use Rattle.std.specs.Str.{IsUtf8}
use Rattle.std.specs.Str.Parse.{ParsesUnsigned}
use Rattle.ftl_page.specs.declared.sections.fault.Section.{Section}
use Rattle.ftl_page.specs.declared.sections.fault.Section.TheVariants as section
use Rattle.ftl_answer.specs.refusals.Names.{section_name}
use Rattle.ftl_answer.specs.refusals.TextLines.{at_byte}
use Rattle.maugzeris.specs.refusals.Places.{IsLine, TellsByte, TellsByteOf, ToldByte}

-- ---- numbers

-- the digits of a number are text
pub no_text : (bs : List ℕ) → (IsUtf8 bs → ⊥) → (n : ℕ) → n < 2 ^ 32 → bs ≡ decimal n → ⊥
no_text bs none n few is =
    none (subst (λ (x : List ℕ). IsUtf8 x) (sym is) (IsUtf8-from_ascii (decimal n) (IsAscii-decimal n (omega (arith, few)))))

-- which is read as that number
pub no_number : {E : Type 0} (bs : List ℕ) (x : E) → ParsesUnsigned 32 10 bs (Err x) → (n : ℕ) → n < 2 ^ 32
    → bs ≡ decimal n → ⊥
no_number {E} bs x read n few is =
    let same : Err x ≡ Ok n = parse-decimal {E = E} 32 n bs (Err x) few (omega (arith, few)) is read in cc

-- and as no other
pub other_number : {E : Type 0} (bs : List ℕ) (m : ℕ) (r : Result ℕ E) → r ≡ Ok m → ParsesUnsigned 32 10 bs r
    → decimal m ≢ bs → (n : ℕ) → n < 2 ^ 32 → bs ≡ decimal n → ⊥
other_number {E} bs m r ok read other n few is =
    let read_as : r ≡ Ok n = parse-decimal {E = E} 32 n bs r few (omega (arith, few)) is read in
    let same : m ≡ n = cc in
    other (ap decimal same ∙ sym is)

-- ---- the parts of a line

-- the line with its line feed, part by part
flat : (which : Section) (what : List ℕ) (n : ℕ)
    → at_byte which what n ++ codes "\n"
    ≡ codes "refused "
    ++ (section_name which ++ (codes ": " ++ (what ++ (codes " at " ++ (decimal n ++ codes "\n")))))
flat which what n =
    let name = section_name which in
    let place = codes " at " ++ decimal n in
    let feed = codes "\n" in
    append_assoc (codes "refused " ++ (name ++ codes ": ")) (what ++ place) feed
    ∙ append_assoc (codes "refused ") (name ++ codes ": ") ((what ++ place) ++ feed)
    ∙ ap (λ x. codes "refused " ++ x)
    (append_assoc name (codes ": ") ((what ++ place) ++ feed)
    ∙ ap (λ x. name ++ (codes ": " ++ x))
    (append_assoc what place feed ∙ ap (λ x. what ++ x) (append_assoc (codes " at ") (decimal n) feed)))

-- what stands behind four parts of it
module _ (which : Section) (what line a name b c d : List ℕ) (first : line ≡ codes "refused " ++ a)
    (named : name ≡ section_name which) (second : a ≡ name ++ b) (third : b ≡ codes ": " ++ c) (fourth : c ≡ what ++ d) where
  -- the number comes next
  pub place_next : (n : ℕ) → IsLine (at_byte which what n) line → d ≡ codes " at " ++ (decimal n ++ codes "\n")
  place_next n is =
      let place = codes " at " ++ (decimal n ++ codes "\n") in
      let one : a ≡ section_name which ++ (codes ": " ++ (what ++ place)) =
      append_cancel_left (codes "refused ") a (section_name which ++ (codes ": " ++ (what ++ place)))
      (sym first ∙ is ∙ flat which what n) in
      let two : b ≡ codes ": " ++ (what ++ place) =
      append_cancel_left name b (codes ": " ++ (what ++ place))
      (sym second ∙ one ∙ ap (λ x. x ++ (codes ": " ++ (what ++ place))) (sym named)) in
      let three : c ≡ what ++ place = append_cancel_left (codes ": ") c (what ++ place) (sym third ∙ two) in
      append_cancel_left what d place (sym fourth ∙ three)

  -- where no place comes next, the line tells none
  pub no_place : ((rest : List ℕ) → d ≢ codes " at " ++ rest) → (n : ℕ) → n < 2 ^ 32
      → IsLine (at_byte which what n) line → ⊥
  no_place none n few is = none (decimal n ++ codes "\n") (place_next n is)

  module _ (e : List ℕ) (fifth : d ≡ codes " at " ++ e) where
    number_next : (n : ℕ) → IsLine (at_byte which what n) line → e ≡ decimal n ++ codes "\n"
    number_next n is =
        append_cancel_left (codes " at ") e (decimal n ++ codes "\n") (sym fifth ∙ place_next n is)

    -- nor where no line feed is at the end
    pub no_end : ((front : List ℕ) → e ≢ front ++ codes "\n") → (n : ℕ) → n < 2 ^ 32
        → IsLine (at_byte which what n) line → ⊥
    no_end none n few is = none (decimal n) (number_next n is)

    -- the digits before it decide
    pub by_digits : (digits : List ℕ) → e ≡ digits ++ codes "\n" → (r : Option ℕ)
        → ToldByte (λ n. digits ≡ decimal n) r → ToldByte (λ n. IsLine (at_byte which what n) line) r
    by_digits digits last (Some n) is =
        first
        ∙ ap (λ x. codes "refused " ++ x)
        (second
        ∙ ap (λ x. x ++ b) named
        ∙ ap (λ x. section_name which ++ x)
        (third
        ∙ ap (λ x. codes ": " ++ x)
        (fourth
        ∙ ap (λ x. what ++ x) (fifth ∙ ap (λ x. codes " at " ++ x) (last ∙ ap (λ x. x ++ codes "\n") is)))))
        ∙ sym (flat which what n)
    by_digits digits last None none =
        λ n few is. none n few (append_cancel_right digits (decimal n) (codes "\n") (sym last ∙ number_next n is))

-- ---- one of several

-- no earlier one holds
pub told_last : (P Q : ℕ → Type 0) → ((n : ℕ) → n < 2 ^ 32 → P n → ⊥) → (r : Option ℕ) → ToldByte Q r
    → ToldByte (λ n. P n ⊎ Q n) r
told_last P Q none (Some n) h = inr h
told_last P Q none None h = λ n few told. ⊎_elim (none n few) (h n few) told

-- none of the sections
pub told_of_sections : (text : List ℕ) → ((n : ℕ) → n < 2 ^ 32 → TellsByteOf section.Grammar text n → ⊥)
    → ((n : ℕ) → n < 2 ^ 32 → TellsByteOf section.Schedule text n → ⊥)
    → ((n : ℕ) → n < 2 ^ 32 → TellsByteOf section.Document text n → ⊥)
    → (r : Option ℕ) → ToldByte (TellsByteOf section.Edits text) r → ToldByte (TellsByte text) r
told_of_sections text g s d (Some n) h = (section.Edits, h)
told_of_sections text g s d None h = λ n few told. by_section n few told.0 told.1
  where
    by_section : (n : ℕ) → n < 2 ^ 32 → (which : Section) → TellsByteOf which text n → ⊥
    by_section n few section.Grammar t = g n few t
    by_section n few section.Schedule t = s n few t
    by_section n few section.Document t = d n few t
    by_section n few section.Edits t = h n few t
