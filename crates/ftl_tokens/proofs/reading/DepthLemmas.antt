-- How many brackets are open, by the most that are open at once.
use Rattle.std.proofs.Common.{◌≡◌, ℕ, zero, suc, ◌+◌, ◌-◌, ◌≤◌, Bool, true, false, cond, if◌then◌else◌, [], ◌∷◌, ◌++◌}
use Rattle.std.proofs.Common.{refl, ap, ◌∙◌, zero-le, arith}
use Rattle.std.proofs.lemmas.List.Sums.{sum_by-cons}
use Rattle.ftl_tokens.specs.scanner.Tokenized.{Symbol}
use Rattle.ftl_tokens.specs.reading.Reader.{Tokens}
use Rattle.ftl_tokens.specs.reading.Depth.{Brackets, is_among, count_of, IsShallow}

-- the most brackets that are open at once: the most that the openings in a front outnumber the closings in it
unfoldable pub peak : Brackets → Tokens → ℕ
peak brackets [] = 0
peak brackets (t ∷ ts) =
    if is_among brackets.opening t then suc (peak brackets ts)
    else (if is_among brackets.closing t then peak brackets ts - 1
    else peak brackets ts)

-- no token both opens and closes a bracket
pub record AreApart (brackets : Brackets) : Type 0 where
  pub apart : (t : Symbol) → is_among brackets.opening t ≡ true → is_among brackets.closing t ≡ true → ⊥

-- how a count grows by one more token in front
count_of-cons : (brackets : Brackets) (t : Symbol) (front : Tokens) (opens closes : Bool)
    → is_among brackets.opening t ≡ opens → is_among brackets.closing t ≡ closes
    → (count_of brackets.opening (t ∷ front) ≡ cond opens 1 0 + count_of brackets.opening front)
    × (count_of brackets.closing (t ∷ front) ≡ cond closes 1 0 + count_of brackets.closing front)
count_of-cons brackets t front opens closes o c = (
  sum_by-cons (λ u. cond (is_among brackets.opening u) 1 0) t front ∙ ap {B = ℕ}
      (λ b. cond b 1 0 + count_of brackets.opening front) o,
  sum_by-cons (λ u. cond (is_among brackets.closing u) 1 0) t front ∙ ap {B = ℕ}
      (λ b. cond b 1 0 + count_of brackets.closing front) c,
)

-- what is asked of a front, one token further on
module _ {brackets : Brackets} {n : ℕ} {t : Symbol} {ts : Tokens} (shallow : IsShallow brackets n (t ∷ ts)) where
  -- what the fronts of the tokens behind may open
  tail_counts : (opens closes : Bool) → is_among brackets.opening t ≡ opens → is_among brackets.closing t ≡ closes
      → (front rest : Tokens) → ts ≡ front ++ rest
      → cond opens 1 0 + count_of brackets.opening front ≤ cond closes 1 0 + count_of brackets.closing front + n
  tail_counts opens closes o c front rest e =
      let few = shallow.within (t ∷ front) rest (ap (λ l. t ∷ l) e) in
      let counts = count_of-cons brackets t front opens closes o c in
      omega (arith, counts.0, counts.1)

module _ {brackets : Brackets} (separate : AreApart brackets) where
  -- one token more
  peak_turn : (opens closes : Bool) (n : ℕ) (t : Symbol) (ts : Tokens) → is_among brackets.opening t ≡ opens
      → is_among brackets.closing t ≡ closes → IsShallow brackets n (t ∷ ts)
      → ((m : ℕ) → IsShallow brackets m ts → peak brackets ts ≤ m)
      → (if opens then suc (peak brackets ts) else (if closes then peak brackets ts - 1 else peak brackets ts)) ≤ n
  peak_turn true true n t ts o c shallow below = absurd (separate.apart t o c)
  peak_turn true false zero t ts o c shallow below =
      absurd (let few = tail_counts shallow true false o c [] ts refl in omega (arith, few))
  peak_turn true false (suc n) t ts o c shallow below =
      let few = below n
      (record {
        within = λ front rest e. let few = tail_counts shallow true false o c front rest e in omega
            (arith, few);
      }) in
      omega (arith, few)
  peak_turn false true n t ts o c shallow below =
      let few = below (suc n)
      (record {
        within = λ front rest e. let few = tail_counts shallow false true o c front rest e in omega
            (arith, few);
      }) in
      omega (arith, few)
  peak_turn false false n t ts o c shallow below =
      below n (record {
        within = λ front rest e. let few = tail_counts shallow false false o c front rest e in omega
            (arith, few);
      })

  -- where no token has more open, no more are open at once
  pub peak_le : (n : ℕ) (ts : Tokens) → IsShallow brackets n ts → peak brackets ts ≤ n
  unfolding peak
  peak_le n [] shallow = zero-le
  peak_le n (t ∷ ts) shallow =
      peak_turn (is_among brackets.opening t) (is_among brackets.closing t) n t ts refl refl shallow
      (λ m s. peak_le m ts s)
