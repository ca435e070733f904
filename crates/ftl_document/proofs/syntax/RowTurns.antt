-- Rounds of a reader, as a loop has come through some of them.
use Rattle.std.proofs.Common.{◌≡◌, ◌≢◌, ℕ, zero, suc, ◌-◌, ◌<◌, ◌≤◌, [], ◌∷◌, length, Option, Some, Ok, refl, ap, ◌∙◌, arith}
use Rattle.ftl_tokens.specs.declared.scanner.kind.Kind.{Kind}
use Rattle.ftl_tokens.specs.declared.scanner.kind.Kind.TheVariants as kind
use Rattle.ftl_tokens.specs.reading.Reader.{Tokens, and_then, next_kind}
use Rattle.ftl_document.specs.syntax.RowReading.{Found, RowReader, round_by, rounds, rounds_of}

-- what so many rounds give here is what all of them give, they are no fewer than the tokens that are left, and no row is
-- lost
pub record Turned (item : RowReader) (first : Found) (all : Tokens) (found : Found) (ts : Tokens) : Type 0 where
  pub turns : ℕ
  pub enough : length ts ≤ turns
  pub same : rounds_of item first all ≡ rounds item turns found ts
  pub grows : length first ≤ length found

-- none was made
pub no_turn_yet : (item : RowReader) (first : Found) (all : Tokens) → Turned item first all first all
no_turn_yet item first all = record { turns = length all; enough = omega arith; same = refl; grows = omega arith }

module _ (item : RowReader) (first : Found) (all : Tokens) (found : Found) (ts : Tokens)
    (before : Turned item first all found ts) where
  one_more : (n : ℕ) → length ts ≤ n → next_kind ts ≡ Some kind.Name
      → rounds item n found ts ≡ and_then (item found ts) (λ more. rounds item (n - 1) more)
  unfolding rounds next_kind
  one_more zero enough comes = absurd (none ts enough comes)
    where
      none : (us : Tokens) → length us ≤ 0 → next_kind us ≡ Some kind.Name → ⊥
      none [] few some = cc
      none (u ∷ us) few some = omega (arith, few)
  one_more (suc n) enough comes =
      let one : n ≡ suc n - 1 = omega arith in
      ap (λ k. round_by (item found) (λ more. rounds item n more) found k ts) comes
      ∙ ap (λ m. and_then (item found ts) (λ more. rounds item m more)) one

  -- one more round
  pub turn : next_kind ts ≡ Some kind.Name
      → rounds_of item first all ≡ and_then (item found ts) (λ more. rounds item (before.turns - 1) more)
  turn comes = before.same ∙ one_more before.turns before.enough comes

  -- the next round, by what comes next
  pub looked : (k : Kind) → next_kind ts ≡ Some k
      → rounds_of item first all
      ≡ round_by (item found) (λ more. rounds item (before.turns - 1) more) found (Some k) ts
  unfolding rounds next_kind
  looked k comes = before.same ∙ by before.turns before.enough
    where
      none : (us : Tokens) → length us ≤ 0 → next_kind us ≡ Some k → ⊥
      none [] few some = cc
      none (u ∷ us) few some = omega (arith, few)

      by : (n : ℕ) → length ts ≤ n
          → rounds item n found ts ≡ round_by (item found) (λ more. rounds item (n - 1) more) found (Some k) ts
      by zero enough = absurd (none ts enough comes)
      by (suc n) enough =
          let one : n ≡ suc n - 1 = omega arith in
          ap (λ o. round_by (item found) (λ more. rounds item n more) found o ts) comes
          ∙ ap (λ m. round_by (item found) (λ more. rounds item m more) found (Some k) ts) one

  -- it has read more rows, and taken a token at least
  pub turned : (more : Found) (left : Tokens) → next_kind ts ≡ Some kind.Name → item found ts ≡ Ok (more, left)
      → length left < length ts → length found ≤ length more → Turned item first all more left
  turned more left comes read takes grows = record {
    turns = before.turns - 1;
    enough = omega (arith, before.enough, takes);
    same = turn comes ∙ ap (λ o. and_then o (λ l. rounds item (before.turns - 1) l)) read;
    grows = omega (arith, before.grows, grows);
  }

  -- no more rounds
  pub no_turn : next_kind ts ≢ Some kind.Name → rounds_of item first all ≡ Ok (found, ts)
  unfolding rounds
  no_turn other = before.same ∙ by before.turns
    where
      none : (k : Option Kind) → k ≢ Some kind.Name → (n : ℕ)
          → round_by (item found) (λ more. rounds item n more) found k ts ≡ Ok (found, ts)
      none (Some kind.Name) differs n = absurd (differs refl)
      none _ differs n = refl

      by : (n : ℕ) → rounds item n found ts ≡ Ok (found, ts)
      by zero = refl
      by (suc n) = none (next_kind ts) other n
