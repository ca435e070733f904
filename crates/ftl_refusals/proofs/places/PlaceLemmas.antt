-- Places behind longer texts.
use Rattle.std.proofs.Common.{◌≡◌, ℕ, zero, suc, ◌+◌, ◌<◌, ◌≤◌, Bool, true, false, not, cond, eqb, List, [], ◌∷◌, ◌++◌}
use Rattle.std.proofs.Common.{length, take, reverse, sym, refl, ap, ◌∙◌, append_assoc, arith}
use Rattle.std.proofs.Common.{get_or, ⊎_elim, append-nil, zero-add}
use Rattle.std.specs.Prelude.{◌&&◌}
use Rattle.std.proofs.lemmas.Bool.{and_from, and_parts, cases_Bool, cases_order, cond-true, cond-false, eq-eqb, eqb-true}
use Rattle.std.proofs.lemmas.Bool.{false_from_ne_true}
use Rattle.std.proofs.lemmas.List.FromFn.{get_or-range_with_len, length-range_with_len}
use Rattle.std.proofs.lemmas.List.{reverse-append}
use Rattle.std.proofs.lemmas.List.Sums.{position_or_len_is, sum_by-append, take_while-cons}
use Rattle.std.specs.List.{count_by, range_with_len, take_while}
use Rattle.ftl_refusals.specs.declared.places.place.Place.{Place}
use Rattle.ftl_refusals.specs.places.Places.{BeginsCharacter, begins_character, column_behind, ends_line, last_line, line_behind}
use Rattle.ftl_refusals.specs.places.Places.{byte_at, is_same, place_at}

abbrev goes_on : ℕ → Bool
goes_on b = not (ends_line b)

-- a byte that is no line feed belongs to the last line
last_line-more : (before : List ℕ) (b : ℕ) → ends_line b ≡ false
    → last_line (before ++ b ∷ []) ≡ last_line before ++ b ∷ []
last_line-more before b goes =
    ap (λ xs. reverse (take_while goes_on xs)) (reverse-append before (b ∷ []))
    ∙ ap reverse (take_while-cons goes_on b (reverse before) ∙ cond-true (goes_on b) _ _ (ap not goes))
    ∙ reverse-append (b ∷ []) (take_while goes_on (reverse before))

count_by-cons : (p : ℕ → Bool) (b : ℕ) (more : List ℕ) → count_by p (b ∷ more) ≡ cond (p b) 1 0 + count_by p more
count_by-cons p b more =
    sum_by-append (λ x. cond (p x) 1 0) (b ∷ []) more
    ∙ ap (λ n. n + count_by p more) (zero-add (cond (p b) 1 0))

-- and so do any that have none
last_line-append : (before more : List ℕ) → count_by ends_line more ≡ 0
    → last_line (before ++ more) ≡ last_line before ++ more
last_line-append before [] none = ap last_line (append-nil before) ∙ sym (append-nil (last_line before))
last_line-append before (b ∷ more) none =
    ⊎_elim
    (λ ends. absurd (omega (arith, none, count_by-cons ends_line b more, cond-true {A = ℕ} (ends_line b) 1 0 ends)))
    (λ goes.
    ap last_line (sym (append_assoc before (b ∷ []) more))
    ∙ last_line-append (before ++ b ∷ []) more (omega (arith, none, count_by-cons ends_line b more, cond-false {A = ℕ} (ends_line b) 1 0 goes))
    ∙ ap (λ xs. xs ++ more) (last_line-more before b goes)
    ∙ append_assoc (last_line before) (b ∷ []) more)
    (cases_Bool (ends_line b))

-- behind more bytes, of which the first begins a character, is another place
later : (before more : List ℕ) (b : ℕ) → begins_character b ≡ true
    → line_behind before ≡ line_behind (before ++ b ∷ more)
    → column_behind before ≡ column_behind (before ++ b ∷ more) → ⊥
later before more b begins line column =
    let lines = sum_by-append (λ x. cond (ends_line x) 1 0) before (b ∷ more) in
    let none : count_by ends_line (b ∷ more) ≡ 0 = omega (arith, lines, line) in
    let same = ap (count_by begins_character) (last_line-append before (b ∷ more) none) in
    let columns = sum_by-append (λ x. cond (begins_character x) 1 0) (last_line before) (b ∷ more) in
    let one = count_by-cons begins_character b more ∙ ap (λ n. n + count_by begins_character more)
    (cond-true {A = ℕ} (begins_character b) 1 0 begins) in
    omega (arith, same, columns, one, column)

-- a longer front of a text goes on with the byte behind the shorter one
take-longer : (text : List ℕ) (i j : ℕ) → i < j → j ≤ length text
    → (more : List ℕ) × (take j text ≡ take i text ++ get_or text i 0 ∷ more)
take-longer [] i j less within = absurd (omega (arith, less, within))
take-longer (x ∷ xs) zero zero less within = absurd (omega (arith, less))
take-longer (x ∷ xs) zero (suc j) less within = (take j xs, refl)
take-longer (x ∷ xs) (suc i) zero less within = absurd (omega (arith, less))
take-longer (x ∷ xs) (suc i) (suc j) less within =
    let rest = take-longer xs i j (omega (arith, less)) (omega (arith, within)) in
    (rest.0, ap (λ (l : List ℕ). x ∷ l) rest.1)

-- the later of two bytes at which characters begin has another place
earlier : (text : List ℕ) (i j : ℕ) → BeginsCharacter text i → i < j → j ≤ length text
    → place_at text i ≡ place_at text j → ⊥
earlier text i j at less within same =
    let longer = take-longer text i j less within in
    later (take i text) longer.0 (get_or text i 0) (at.begins (omega (arith, less, within)))
    (ap (λ (p : Place). p.line) same ∙ ap line_behind longer.1)
    (ap (λ (p : Place). p.column) same ∙ ap column_behind longer.1)

pub places_differ : (text : List ℕ) (i j : ℕ) → BeginsCharacter text i → BeginsCharacter text j
    → place_at text i ≡ place_at text j → i ≡ j
places_differ text i j first second same =
    ⊎_elim (λ one. one)
    (λ other.
    ⊎_elim
    (λ less. absurd (earlier text i j first less second.within same))
    (λ more. absurd (earlier text j i second more first.within (sym same)))
    other)
    (cases_order i j)

-- two places that pass the test are one
same_place : (p q : Place) → is_same p q ≡ true → p ≡ q
same_place p q passed =
    let both = and_parts (eqb p.line q.line) (eqb p.column q.column) passed in
    let at : ℕ → ℕ → Place = λ line column. record { line = line; column = column } in
    ap (λ n. at n p.column) (eqb-true p.line q.line both.0) ∙ ap (at q.line) (eqb-true p.column q.column both.1)

-- and one place passes it
same_passes : (p : Place) → is_same p p ≡ true
same_passes p =
    and_from (eqb p.line p.line) (eqb p.column p.column) (eq-eqb p.line p.line refl) (eq-eqb p.column p.column refl)

-- the first byte with its place is that byte
pub byte_back : (text : List ℕ) (byte : ℕ) → BeginsCharacter text byte → byte_at text (place_at text byte) ≡ byte
byte_back text byte at =
    let place = place_at text byte in
    let test : ℕ → Bool = λ k. begins_character (get_or text k 0) && is_same place (place_at text k) in
    let numbers = range_with_len 0 (length text) in
    let long : length numbers ≡ length text = length-range_with_len 0 (length text) in
    let number : (k : ℕ) → k < length text → get_or numbers k 0 ≡ k =
    λ k below. get_or-range_with_len 0 (length text) k 0 below ∙ zero-add k in
    position_or_len_is test numbers byte 0 (omega (arith, long, at.within))
    (λ k before.
    ap test (number k (omega (arith, before, at.within)))
    ∙ false_from_ne_true (test k)
    (λ passed.
    let both = and_parts (begins_character (get_or text k 0)) (is_same place (place_at text k)) passed in
    let here : BeginsCharacter text k = record { within = omega (arith, before, at.within); begins = λ below. both.0 } in
    let one = places_differ text byte k at here (same_place place (place_at text k) both.1) in
    omega (arith, one, before)))
    (λ below.
    let inside : byte < length text = omega (arith, long, below) in
    ap test (number byte inside)
    ∙ and_from (begins_character (get_or text byte 0)) (is_same place place) (at.begins inside) (same_passes place))
