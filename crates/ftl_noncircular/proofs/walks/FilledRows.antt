-- A row that is being filled by walks.
use Rattle.std.proofs.Common.{◌≡◌, ◌⊎◌, ℕ, ◌+◌, ◌<◌, ◌≤◌, true, false, Bool, List, [], ◌∷◌, ◌++◌, length, not, ◌||◌}
use Rattle.std.proofs.Common.{◌==◌, get_or, eqb-true, inl, inr, refl, sym, ap, ◌∙◌, subst, cond}
use Rattle.std.specs.Ordering.{nat_cmp}
use Rattle.std.specs.FinSet as set
use Rattle.std.specs.Cmp.{nat_cmp_total}
use Rattle.std.proofs.lemmas.Bool.{or_cases, or_left, or_right, and_parts, and_from, both_ways}
use Rattle.lane_rows.specs.Matrix.{entry, IsWalk}
use Rattle.lane_rows.specs.Least.{IsLeastOf}
use Rattle.lane_rows.proofs.Bits.{contains-insert_nat}
use Rattle.lane_rows.proofs.Rows.{Rows}
use Rattle.ftl_noncircular.specs.walks.Spreads.{IsWithinSize, IsLedTo, LeadsOn}

pub record IsFilling (edges : Rows) (start row done : set.FinSet nat_cmp) : Type 0 where
  pub small : set.len done ≤ 2048
  pub kept : (b : ℕ) → set.contains start b ≡ true → set.contains row b ≡ true
  pub led : (b : ℕ) → set.contains row b ≡ true → IsLedTo edges start b
  pub on : LeadsOn edges done row
  pub known : IsWithinSize edges row

-- a walk goes on by an entry
pub walk_on : (edges : Rows) (a : ℕ) (between : List ℕ) (b c : ℕ) → IsWalk edges a between b → entry edges b c ≡ true
    → IsWalk edges a (between ++ b ∷ []) c
walk_on edges a [] b c walk e = (walk, e)
walk_on edges a (next ∷ between) b c walk e = (walk.0, walk_on edges next between b c walk.1 e)

pub led_on : (edges : Rows) (start : set.FinSet nat_cmp) (b c : ℕ) → IsLedTo edges start b → entry edges b c ≡ true
    → IsLedTo edges start c
led_on edges start b c (inl here) e = inr (b, here, ([], e))
led_on edges start b c (inr led) e = inr (led.0, led.1, (led.2.0 ++ b ∷ [], walk_on edges led.0 led.2.0 b c led.2.1 e))

flipped : (x : Bool) → not x ≡ true → x ≡ false
flipped true e = absurd (both_ways true (sym e) refl)
flipped false e = refl

module _ (edges : Rows) (start row done : set.FinSet nat_cmp) (h : IsFilling edges start row done) (next : ℕ)
    (least : IsLeastOf (set.difference row done) next) where
  both : (set.contains row next ≡ true) × (not (set.contains done next) ≡ true)
  both =
      and_parts (set.contains row next) (not (set.contains done next))
      (sym (set.contains-difference nat_cmp_total row done next) ∙ least.is_in)

  there : set.contains row next ≡ true
  there = both.0

  not_done : set.contains done next ≡ false
  not_done = flipped (set.contains done next) both.1

  pub next_known : next < length edges
  next_known = h.known next there

  pub one_more : set.len (set.insert done next) ≡ set.len done + 1
  one_more = set.len-insert nat_cmp_total done next ∙ ap (λ b. cond b (set.len done) (set.len done + 1)) not_done

  pub filled : (ends : (a b : ℕ) → entry edges a b ≡ true → b < length edges)
      (new_done new_row own : set.FinSet nat_cmp)
      → new_done ≡ set.insert done next → set.len new_done ≤ 2048 → own ≡ get_or edges next set.empty
      → new_row ≡ set.union row own
      → IsFilling edges start new_row new_done
  filled ends new_done new_row own is few own_is row_is = record {
    small = few;
    kept = λ b k. joined_left b (h.kept b k);
    led = λ b k. elim (new_cases b k)
        [ inl old ↦ h.led b old | inr e ↦ led_on edges start next b (h.led next there) e ];
    on = λ a b d e. elim (done_cases a d) [
      | inl same ↦ joined_right b (subst (λ x. entry edges x b ≡ true) same e)
      | inr old ↦ joined_left b (h.on a b old e)
    ];
    known = λ b k. elim (new_cases b k) [ inl old ↦ h.known b old | inr e ↦ ends next b e ];
  }
    where
      joined : (b : ℕ) → set.contains new_row b ≡ (set.contains row b || entry edges next b)
      joined b = ap (λ s. set.contains s b) row_is ∙ set.contains-union nat_cmp_total row own b
          ∙ ap (λ s. set.contains row b || set.contains s b) own_is

      joined_left : (b : ℕ) → set.contains row b ≡ true → set.contains new_row b ≡ true
      joined_left b k = joined b ∙ or_left (set.contains row b) (entry edges next b) k

      joined_right : (b : ℕ) → entry edges next b ≡ true → set.contains new_row b ≡ true
      joined_right b k = joined b ∙ or_right (set.contains row b) (entry edges next b) k

      new_cases : (b : ℕ) → set.contains new_row b ≡ true → (set.contains row b ≡ true) ⊎ (entry edges next b ≡ true)
      new_cases b k = or_cases (set.contains row b) (entry edges next b) (sym (joined b) ∙ k)

      done_cases : (a : ℕ) → set.contains new_done a ≡ true → (a ≡ next) ⊎ (set.contains done a ≡ true)
      done_cases a d =
          elim (or_cases (a == next) (set.contains done a)
          (sym (contains-insert_nat done next a) ∙ sym (ap (λ s. set.contains s a) is) ∙ d)) [
            | inl same ↦ inl (eqb-true a next same)
            | inr old ↦ inr old
          ]

-- where nothing is left, what is there leads on to what is there
pub all_filled : (edges : Rows) (start row done : set.FinSet nat_cmp) → IsFilling edges start row done
    → set.difference row done ≡ set.empty → LeadsOn edges row row
all_filled edges start row done h none a b there e =
    h.on a b (go (set.contains done a) refl) e
  where
    go : (x : Bool) → set.contains done a ≡ x → set.contains done a ≡ true
    go true d = d
    go false d =
        absurd (both_ways (set.contains (set.difference row done) a)
        (ap (λ s. set.contains s a) none ∙ set.contains-empty nat_cmp a)
        (set.contains-difference nat_cmp_total row done a
        ∙ and_from (set.contains row a) (not (set.contains done a)) there (ap not d)))
