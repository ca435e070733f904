-- Rows of what walks lead to, as entries are added.
use Rattle.std.proofs.Common.{◌≡◌, ◌⊎◌, ◌↔◌, ℕ, ◌<◌, ◌==◌, true, false, List, [], ◌∷◌, ◌++◌, length, inl, inr, refl}
use Rattle.std.proofs.Common.{sym, ap, ◌∙◌, subst, eqb-true, eq-eqb}
use Rattle.std.specs.Ordering.{nat_cmp}
use Rattle.std.specs.FinSet as set
use Rattle.std.specs.Cmp.{nat_cmp_total}
use Rattle.std.proofs.lemmas.Bool.{or_cases, or_left, or_right, both_ways}
use Rattle.lane_rows.specs.Matrix.{entry, IsWalk, Leads}
use Rattle.lane_rows.proofs.Bits.{contains-insert_nat}
use Rattle.lane_rows.proofs.Rows.{Rows}
use Rattle.ftl_noncircular.specs.walks.Spreads.{IsWithinSize, IsLedTo, LeadsOn}
use Rattle.ftl_noncircular.specs.walks.WalkTables.{EndWithin, IsClosedBut, IsExact, IsFrom, IsLedFrom}

abbrev pub Row : Type 0
Row = set.FinSet nat_cmp

-- ---- walks

pub walk_joined : (edges : Rows) (a : ℕ) (first : List ℕ) (p : ℕ) (second : List ℕ) (b : ℕ) → IsWalk edges a first p
    → IsWalk edges p second b → IsWalk edges a (first ++ p ∷ second) b
walk_joined edges a [] p second b x y = (x, y)
walk_joined edges a (next ∷ first) p second b x y = (x.0, walk_joined edges next first p second b x.1 y)

pub leads_joined : (edges : Rows) (a p b : ℕ) → Leads edges a p → Leads edges p b → Leads edges a b
leads_joined edges a p b x y = (x.0 ++ p ∷ y.0, walk_joined edges a x.0 p y.0 b x.1 y.1)

pub from_on : (edges : Rows) (start b c : ℕ) → IsFrom edges start b → Leads edges b c → IsFrom edges start c
from_on edges start b c (inl same) walk = inr (subst (λ x. Leads edges x c) same walk)
from_on edges start b c (inr led) walk = inr (leads_joined edges start b c led walk)

pub from_by : (edges : Rows) (start b c : ℕ) → IsFrom edges start b → entry edges b c ≡ true → IsFrom edges start c
from_by edges start b c from e = from_on edges start b c from ([], e)

walk_known : (edges : Rows) → EndWithin edges → (a : ℕ) (between : List ℕ) (b : ℕ) → IsWalk edges a between b
    → b < length edges
walk_known edges ends a [] b walk = ends a b walk
walk_known edges ends a (next ∷ between) b walk = walk_known edges ends next between b walk.1

pub from_known : (edges : Rows) → EndWithin edges → (start b : ℕ) → start < length edges → IsFrom edges start b
    → b < length edges
from_known edges ends start b known (inl same) = subst (λ x. x < length edges) (sym same) known
from_known edges ends start b known (inr led) = walk_known edges ends start led.0 b led.1

-- a row that is closed has all that walks lead to from what it has
walk_within : (edges : Rows) (row : Row) → LeadsOn edges row row → (a : ℕ) (between : List ℕ) (b : ℕ)
    → set.contains row a ≡ true → IsWalk edges a between b → set.contains row b ≡ true
walk_within edges row closed a [] b there walk = closed a b there walk
walk_within edges row closed a (next ∷ between) b there walk =
    walk_within edges row closed next between b (closed a next there walk.0) walk.1

pub exact_has : (edges : Rows) (start : ℕ) (row : Row) → IsExact edges start row → (b : ℕ) → IsFrom edges start b
    → set.contains row b ≡ true
exact_has edges start row h b (inl same) = subst (λ x. set.contains row x ≡ true) (sym same) h.here
exact_has edges start row h b (inr led) = walk_within edges row h.closed start led.0 b h.here led.1

pub exact_tells : (edges : Rows) (start : ℕ) (row : Row) → IsExact edges start row → (b : ℕ)
    → (set.contains row b ≡ true) ↔ IsFrom edges start b
exact_tells edges start row h b = (h.led b, exact_has edges start row h b)

-- ---- a row is spread

pub led_from : (edges : Rows) (start : ℕ) (row : Row) → IsLedFrom edges start row → (b : ℕ) → IsLedTo edges row b
    → IsFrom edges start b
led_from edges start row h b (inl here) = h.led b here
led_from edges start row h b (inr led) = from_on edges start led.0 b (h.led led.0 led.1) led.2

pub spread_exact : (edges : Rows) (start : ℕ) (row new : Row) → start < length edges → IsLedFrom edges start row
    → ((b : ℕ) → set.contains row b ≡ true → set.contains new b ≡ true) → LeadsOn edges new new
    → ((b : ℕ) → set.contains new b ≡ true → IsLedTo edges row b) → IsExact edges start new
spread_exact edges start row new known h kept closed led = record {
  here = kept start h.here;
  closed = closed;
  led = λ b there. led_from edges start row h b (led b there);
  known = known;
}

-- ---- the first row of a start

contains_one : (row : Row) (start b : ℕ) → row ≡ set.insert set.empty start → set.contains row b ≡ true → b ≡ start
contains_one row start b is there =
    elim (or_cases (b == start) (set.contains set.empty b)
    (sym (ap (λ s. set.contains s b) is ∙ contains-insert_nat set.empty start b) ∙ there)) [
      | inl same ↦ eqb-true b start same
      | inr none ↦ absurd (both_ways (set.contains (set.empty {R = nat_cmp}) b) (set.contains-empty nat_cmp b) none)
    ]

has_one : (row : Row) (start : ℕ) → row ≡ set.insert set.empty start → set.contains row start ≡ true
has_one row start is =
    ap (λ s. set.contains s start) is
    ∙ contains-insert_nat set.empty start start
    ∙ or_left (start == start) (set.contains set.empty start) (eq-eqb start start refl)

pub one_known : (edges : Rows) (row : Row) (start : ℕ) → start < length edges → row ≡ set.insert set.empty start
    → IsWithinSize edges row
one_known edges row start known is b there =
    subst (λ x. x < length edges) (sym (contains_one row start b is there)) known

pub none_leads : (edges : Rows) (done row : Row) → done ≡ set.empty → LeadsOn edges done row
none_leads edges done row is a b there e =
    absurd (both_ways (set.contains done a) (ap (λ s. set.contains s a) is ∙ set.contains-empty nat_cmp a) there)

pub one_led : (edges : Rows) (row : Row) (start : ℕ) → row ≡ set.insert set.empty start → IsLedFrom edges start row
one_led edges row start is = record {
  here = has_one row start is;
  led = λ b there. inl (contains_one row start b is there);
}

-- ---- an entry is added

module _ (edges : Rows) (row : Row) (from to : ℕ) (but : IsClosedBut edges row from to) where
  -- the row has no number that the entry leads on from, or it has what it leads to
  pub closed_without : set.contains row from ≡ false → LeadsOn edges row row
  closed_without none a b there e = elim (but a b there e) [
    | inl both ↦ absurd (both_ways (set.contains row from) none (subst (λ x. set.contains row x ≡ true) both.0 there))
    | inr has ↦ has
  ]

  pub closed_with : set.contains row to ≡ true → LeadsOn edges row row
  closed_with has a b there e = elim (but a b there e) [
    | inl both ↦ subst (λ x. set.contains row x ≡ true) (sym both.1) has
    | inr old ↦ old
  ]

  module _ (new : Row) (is : new ≡ set.insert row to) where
    pub new_has : (b : ℕ) → set.contains row b ≡ true → set.contains new b ≡ true
    new_has b there =
        ap (λ s. set.contains s b) is
        ∙ contains-insert_nat row to b
        ∙ or_right (b == to) (set.contains row b) there

    has_to : set.contains new to ≡ true
    has_to =
        ap (λ s. set.contains s to) is
        ∙ contains-insert_nat row to to
        ∙ or_left (to == to) (set.contains row to) (eq-eqb to to refl)

    new_cases : (b : ℕ) → set.contains new b ≡ true → (b ≡ to) ⊎ (set.contains row b ≡ true)
    new_cases b there =
        elim (or_cases (b == to) (set.contains row b)
        (sym (ap (λ s. set.contains s b) is ∙ contains-insert_nat row to b) ∙ there)) [
          | inl same ↦ inl (eqb-true b to same)
          | inr old ↦ inr old
        ]

    pub done_leads : (done : Row) → done ≡ set.union set.empty row → LeadsOn edges done new
    done_leads done done_is a b there e = elim (but a b (in_row a there) e) [
      | inl both ↦ subst (λ x. set.contains new x ≡ true) (sym both.1) has_to
      | inr has ↦ new_has b has
    ]
      where
        in_row : (a : ℕ) → set.contains done a ≡ true → set.contains row a ≡ true
        in_row a there =
            elim (or_cases (set.contains set.empty a) (set.contains row a)
            (sym (ap (λ s. set.contains s a) done_is ∙ set.contains-union nat_cmp_total set.empty row a) ∙ there)) [
              | inl none ↦ absurd (both_ways (set.contains (set.empty {R = nat_cmp}) a) (set.contains-empty nat_cmp a)
                  none)
              | inr has ↦ has
            ]

    pub new_known : to < length edges → IsWithinSize edges row → IsWithinSize edges new
    new_known known old b there = elim (new_cases b there) [
      | inl same ↦ subst (λ x. x < length edges) (sym same) known
      | inr has ↦ old b has
    ]

    pub new_led : entry edges from to ≡ true → set.contains row from ≡ true → (start : ℕ)
        → IsLedFrom edges start row → IsLedFrom edges start new
    new_led e there start h = record {
      here = new_has start h.here;
      led = λ b has. elim (new_cases b has) [
        | inl same ↦ subst (λ x. IsFrom edges start x) (sym same) (from_by edges start from to (h.led from there) e)
        | inr old ↦ h.led b old
      ];
    }
