-- Matrices that have one entry more, and tests of constraints.
use Rattle.std.proofs.Common.{◌≡◌, ◌⊎◌, ℕ, ◌==◌, ◌&&◌, Bool, true, List, refl, sym, ◌∙◌, inl, inr, ⊎_elim, eqb-true, eq-eqb}
use Rattle.std.proofs.lemmas.Bool.{and_from, and_parts, or_cases, or_left, or_right}
use Rattle.lane_rows.specs.Matrix.{entry}
use Rattle.ftl_scheduler.specs.largest_sets.Rows.{Row}
use Rattle.ftl_scheduler.specs.outcomes.Constraint.{Constraint, beside, done_before, earlier}
use Rattle.ftl_scheduler.specs.finding.Entered.{Grows, is_earlier, is_late, is_use}

module _ (adds : Bool) (old new : List Row) (start end : ℕ) (grows : Grows adds old new start end) where
  -- whether this is the place of the new entry
  abbrev here : (a b : ℕ) → Bool
  here a b = adds && ((a == start) && (b == end))

  pub grown_old : (a b : ℕ) → entry old a b ≡ true → entry new a b ≡ true
  grown_old a b e = grows a b ∙ or_right (here a b) (entry old a b) e

  pub grown_here : adds ≡ true → entry new start end ≡ true
  grown_here e =
      grows start end
      ∙ or_left (here start end) (entry old start end)
      (and_from adds ((start == start) && (end == end)) e
      (and_from (start == start) (end == end) (eq-eqb start start refl) (eq-eqb end end refl)))

  pub grown_only : (a b : ℕ) → entry new a b ≡ true
      → (entry old a b ≡ true) ⊎ ((adds ≡ true) × ((a ≡ start) × (b ≡ end)))
  grown_only a b e =
      ⊎_elim
      (λ put.
      let both = and_parts adds ((a == start) && (b == end)) put in
      let places = and_parts (a == start) (b == end) both.1 in
      inr (both.0, (eqb-true a start places.0, eqb-true b end places.1)))
      (λ there. inl there) (or_cases (here a b) (entry old a b) (sym (grows a b) ∙ e))

pub only_earlier : (constraint : Constraint) → is_earlier constraint ≡ true → constraint ≡ earlier
only_earlier beside e = cc
only_earlier earlier e = refl
only_earlier done_before e = cc

pub only_use : (constraint : Constraint) → is_use constraint ≡ true → (constraint ≡ beside) ⊎ (constraint ≡ earlier)
only_use beside e = inl refl
only_use earlier e = inr refl
only_use done_before e = cc

pub only_late : (constraint : Constraint) → is_late constraint ≡ true → constraint ≡ done_before
only_late beside e = cc
only_late earlier e = cc
only_late done_before e = refl
