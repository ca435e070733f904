-- Which kids come to hand in a part that has reads, and that what is read there is there.
use Rattle.std.proofs.Common.{◌≡◌, ℕ, zero, suc, ◌<◌, true, refl, ap, subst, arith, [], ◌∷◌, Contains, Option, None}
use Rattle.std.proofs.Common.{eqb-true, eq-eqb}
use Rattle.std.specs.List.{range_with_len}
use Rattle.ftl_model.proofs.lists.Elements.{nothing_in}
use Rattle.ftl_model.specs.layout.AttributeGrammar.{Part, Parts, Read, first_part, first_then, fold_over, from_part}
use Rattle.ftl_model.specs.layout.AttributeGrammar.{plain, plain_part, reads_in, then_part, with_part}
use Rattle.ftl_visit.specs.step_reads.StepReads.{AreOfChildren, IsOfChildren}
use Rattle.ftl_example.specs.shows.Shows.{at_hand}
use Rattle.ftl_example.specs.sizes.Place.{goes_over}
use Rattle.ftl_example.specs.pairs.PairMeant.{is_child}

module _ (kids : ℕ → ℕ) (k : ℕ) (r : Read) where
  pub plain_hand : (parts : Parts) → Contains (reads_in parts plain_part) r → at_hand parts plain_part kids k ≡ k ∷ []
  plain_hand (plain reads) h = refl
  plain_hand (first_then first later) h = absurd (nothing_in r h)
  plain_hand (fold_over c start step) h = absurd (nothing_in r h)

  pub from_hand : (parts : Parts) → Contains (reads_in parts from_part) r → at_hand parts from_part kids k ≡ k ∷ []
  from_hand (plain reads) h = absurd (nothing_in r h)
  from_hand (first_then first later) h = absurd (nothing_in r h)
  from_hand (fold_over c start step) h = refl

  pub with_hand : (parts : Parts) (c : ℕ) → Contains (reads_in parts with_part) r → goes_over parts with_part c ≡ true
      → at_hand parts with_part kids k ≡ range_with_len 0 (kids c)
  with_hand (plain reads) c h over = absurd (nothing_in r h)
  with_hand (first_then first later) c h over = absurd (nothing_in r h)
  with_hand (fold_over d start step) c h over = ap (λ x. range_with_len 0 (kids x)) (eqb-true d c over)

  pub first_hand : (parts : Parts) → Contains (reads_in parts first_part) r → k ≡ 0
      → at_hand parts first_part kids k ≡ 0 ∷ []
  first_hand (plain reads) h e = absurd (nothing_in r h)
  first_hand (first_then first later) h e =
      ap (λ n. at_hand (first_then first later) first_part kids n) e
  first_hand (fold_over c start step) h e = absurd (nothing_in r h)

  pub later_first : (parts : Parts) → (k ≡ 0 → ⊥) → at_hand parts first_part kids k ≡ []
  later_first (plain reads) some = refl
  later_first (first_then first later) some = by k some
    where
      by : (n : ℕ) → (n ≡ 0 → ⊥) → at_hand (first_then first later) first_part kids n ≡ []
      by zero some = absurd (some refl)
      by (suc n) some = refl
  later_first (fold_over c start step) some = refl

  pub then_hand : (parts : Parts) → Contains (reads_in parts then_part) r → (k ≡ 0 → ⊥)
      → at_hand parts then_part kids k ≡ k ∷ []
  then_hand (plain reads) h some = absurd (nothing_in r h)
  then_hand (first_then first later) h some = by k some
    where
      by : (n : ℕ) → (n ≡ 0 → ⊥) → at_hand (first_then first later) then_part kids n ≡ n ∷ []
      by zero some = absurd (some refl)
      by (suc n) some = refl
  then_hand (fold_over c start step) h some = absurd (nothing_in r h)

  pub first_then_none : (parts : Parts) → k ≡ 0 → at_hand parts then_part kids k ≡ []
  first_then_none (plain reads) e = refl
  first_then_none (first_then first later) e = ap (λ n. at_hand (first_then first later) then_part kids n) e
  first_then_none (fold_over c start step) e = refl

-- the child that the step of a fold goes over
pub over_some : (parts : Parts) (r : Read) (over : Option ℕ) → Contains (reads_in parts with_part) r
    → ((c : ℕ) → goes_over parts with_part c ≡ is_child over c) → over ≡ None → ⊥
over_some (plain reads) r over h same none = nothing_in r h
over_some (first_then first later) r over h same none = nothing_in r h
over_some (fold_over d start step) r over h same none =
    let e : goes_over (fold_over d start step) with_part d ≡ is_child None d = subst (λ o. goes_over (fold_over d start step) with_part d ≡ is_child o d) none (same d) in
    let f : goes_over (fold_over d start step) with_part d ≡ true = eq-eqb d d refl in
    let z : ⊥ = grind (arith, e, f) in z

pub over_child : (parts : Parts) (r : Read) (c n : ℕ) → Contains (reads_in parts with_part) r → AreOfChildren n parts
    → goes_over parts with_part c ≡ true → c < n
over_child (plain reads) r c n h may over = absurd (nothing_in r h)
over_child (first_then first later) r c n h may over = absurd (nothing_in r h)
over_child (fold_over d start step) r c n h may over = subst (λ x. x < n) (eqb-true d c over) may.0

-- a read of a part is of a child that is there
pub read_child : (n : ℕ) (parts : Parts) (part : Part) (r : Read) → AreOfChildren n parts → Contains (reads_in parts part) r
    → IsOfChildren n r
read_child n (plain reads) plain_part r may h = may r h
read_child n (plain reads) first_part r may h = absurd (nothing_in r h)
read_child n (plain reads) then_part r may h = absurd (nothing_in r h)
read_child n (plain reads) from_part r may h = absurd (nothing_in r h)
read_child n (plain reads) with_part r may h = absurd (nothing_in r h)
read_child n (first_then first later) plain_part r may h = absurd (nothing_in r h)
read_child n (first_then first later) first_part r may h = may.0 r h
read_child n (first_then first later) then_part r may h = may.1 r h
read_child n (first_then first later) from_part r may h = absurd (nothing_in r h)
read_child n (first_then first later) with_part r may h = absurd (nothing_in r h)
read_child n (fold_over c start step) plain_part r may h = absurd (nothing_in r h)
read_child n (fold_over c start step) first_part r may h = absurd (nothing_in r h)
read_child n (fold_over c start step) then_part r may h = absurd (nothing_in r h)
read_child n (fold_over c start step) from_part r may h = may.1 r h
read_child n (fold_over c start step) with_part r may h = may.2 r h
