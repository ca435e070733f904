-- A read is ordered in the next pass exactly where the constraint of its writer is met.
use Rattle.std.proofs.Common.{◌≡◌, ◌≢◌, ◌⊎◌, ℕ, ◌<◌, ◌==◌, ◌||◌, ◌&&◌, Bool, true, false, nat_lt, if◌then◌else◌, refl, sym, ◌∙◌}
use Rattle.std.proofs.Common.{ap, ap₂, subst, inl, inr, ⊎_elim, arith, eq-eqb, ne_eqb, List, Contains}
use Rattle.std.proofs.lemmas.Bool.{cases_eq, cases_lt, false_from_ne_true, le-ltb, lt-ltb, ltb-true, true≢false}
use Rattle.ftl_model.specs.lists.Lists.{is_listed, place_in}
use Rattle.ftl_model.proofs.lists.Listed.{is_there}
use Rattle.ftl_order.specs.orders.Ordered.{VisitPlace}
use Rattle.ftl_order.specs.orders.Schedule.{PassKind, Placing, bottomup, inorder, topdown}
use Rattle.ftl_order.specs.declared.dependencies.dep_read.DepRead.{DepRead}
use Rattle.ftl_order.specs.declared.dependencies.dep_read.Site.{Site}
use Rattle.ftl_order.specs.declared.dependencies.dep_read.Site.TheVariants as sites
use Rattle.ftl_order.specs.faults.OrderedReads.{has_earlier_block, has_smaller_key, in_pass_by, is_same_block}
use Rattle.ftl_order.specs.automatic.Fitting.{placing_after, stage_after}
use Rattle.ftl_order.proofs.automatic.PairsInPass.{stage_of_done, stage_of_next}
use Rattle.ftl_order.proofs.automatic.Turns.{cases_in, same_place}
use Rattle.ftl_scheduler.specs.outcomes.Constraint.{Constraint, beside, done_before, earlier, in_pass_with}
use Rattle.ftl_scheduler.specs.outcomes.Constraint.{constraint_by, constraint_of}

-- the keys are all that the row asks of the places
by_key : (s : Site) (kind : PassKind) (at : Placing) (d : DepRead) (x y : VisitPlace)
    → in_pass_by s kind at d x y ≡ in_pass_with s kind (has_smaller_key at x y) d x y
by_key sites.Input kind at d x y = refl
by_key sites.SameVisit topdown at d x y = refl
by_key sites.SameVisit bottomup at d x y = refl
by_key sites.SameVisit inorder at d x y = refl
by_key sites.Above kind at d x y = refl
by_key sites.Below kind at d x y = refl

or_more : (a b : Bool) → (a || b) ≡ true → (a || true) ≡ true
or_more true b e = refl
or_more false b e = refl

block_more : (a b p : Bool) → (a || (b && (false || p))) ≡ true → (a || (b && (true || p))) ≡ true
block_more true b p e = refl
block_more false true p e = refl
block_more false false p e = e

-- a smaller key is enough
more : (s : Site) (kind : PassKind) (d : DepRead) (x y : VisitPlace) → in_pass_with s kind false d x y ≡ true
    → in_pass_with s kind true d x y ≡ true
more sites.Input kind d x y e = refl
more sites.SameVisit topdown d x y e = refl
more sites.SameVisit bottomup d x y e = refl
more sites.SameVisit inorder d x y e = block_more (has_earlier_block x y) (is_same_block x y) _ e
more sites.Above kind d x y e = e
more sites.Below kind d x y e = e

-- by the stages and the row
abbrev tell : ℕ → ℕ → Bool → Bool
tell sx sy row = nat_lt sx sy || ((sx == sy && 0 == 0) && row)

-- what a constraint asks of a writer that is in the list
abbrev pub MetInList : Constraint → (first : Type 0) → Type 0
MetInList beside first = Unit {0}
MetInList earlier first = first
MetInList done_before first = ⊥

-- the constraint is met: the writer x is done, or in the list and there as it is asked
abbrev pub MetConstraint : (done list : List ℕ) → Constraint → (x y : ℕ) → Type 0
MetConstraint done list constraint x y =
    Contains done x ⊎ (Contains list x × MetInList constraint (place_in list x < place_in list y))

-- by both rows
met_by : (t u : Bool) (first : Type 0) → u ≡ true → first → MetInList (constraint_by t u) first
met_by true u first e f = tt
met_by false true first e f = f
met_by false false first e f = absurd (true≢false (sym e))

met_always : (t u : Bool) (first : Type 0) → t ≡ true → MetInList (constraint_by t u) first
met_always true u first e = tt
met_always false u first e = absurd (true≢false (sym e))

of_met_by : (t u : Bool) (first : Type 0) → (t ≡ true → u ≡ true) → MetInList (constraint_by t u) first → u ≡ true
of_met_by true u first up m = up refl
of_met_by false true first up m = refl
of_met_by false false first up m = absurd m

of_met_always : (t u : Bool) (first : Type 0) → (first → ⊥) → MetInList (constraint_by t u) first → t ≡ true
of_met_always true u first away m = refl
of_met_always false true first away m = absurd (away m)
of_met_always false false first away m = absurd m

module _ (kind : PassKind) (done list : List ℕ) (d : DepRead) (x y : VisitPlace) (out : Contains done y.attribute → ⊥)
    (there : Contains list y.attribute) where
  abbrev at : Placing
  at = placing_after done kind list

  abbrev row : Bool
  row = in_pass_by d.site kind at d x y

  abbrev ordered : Bool
  ordered = tell (stage_after done list x.attribute) (stage_after done list y.attribute) row

  stage_y : stage_after done list y.attribute ≡ 1
  stage_y = stage_of_next done list y.attribute out there

  where_done : Contains done x.attribute → ordered ≡ true
  where_done h = ap₂ (λ m n. tell m n row) (stage_of_done done list x.attribute h) stage_y

  where_listed : (Contains done x.attribute → ⊥) → Contains list x.attribute → ordered ≡ row
  where_listed away h = ap₂ (λ m n. tell m n row) (stage_of_next done list x.attribute away h) stage_y

  where_neither : (Contains done x.attribute → ⊥) → (Contains list x.attribute → ⊥) → ordered ≡ false
  where_neither away not =
      ap₂ (λ m n. tell m n row)
      (ap₂ (λ a b. if a then 0 else (if b then 1 else 2))
      (false_from_ne_true (is_listed done x.attribute) (λ e. away (is_there done x.attribute e)))
      (false_from_ne_true (is_listed list x.attribute) (λ e. not (is_there list x.attribute e)))) stage_y

  abbrev first : Type 0
  first = place_in list x.attribute < place_in list y.attribute

  abbrev constraint : Constraint
  constraint = constraint_of kind d x y

  key_same : x.attribute ≡ y.attribute → has_smaller_key at x y ≡ nat_lt x.child y.child
  key_same e =
      ap₂ (λ a b. a || (b && nat_lt x.child y.child))
      (le-ltb (place_in list x.attribute) (place_in list y.attribute)
      (let p = ap (place_in list) e in omega (arith, p)))
      (eq-eqb (place_in list x.attribute) (place_in list y.attribute) (ap (place_in list) e))

  key_first : first → has_smaller_key at x y ≡ true
  key_first less =
      ap (λ a. a || (place_in list x.attribute == place_in list y.attribute && nat_lt x.child y.child))
      (lt-ltb (place_in list x.attribute) (place_in list y.attribute) less)

  key_later : Contains list x.attribute → x.attribute ≢ y.attribute → (first → ⊥) → has_smaller_key at x y ≡ false
  key_later h other away =
      ap₂ (λ a b. a || (b && nat_lt x.child y.child))
      (false_from_ne_true (nat_lt (place_in list x.attribute) (place_in list y.attribute))
      (λ e. away (ltb-true (place_in list x.attribute) (place_in list y.attribute) e)))
      (ne_eqb (place_in list x.attribute) (place_in list y.attribute)
      (λ e. other (same_place list x.attribute y.attribute h there e)))

  constraint_same : x.attribute ≡ y.attribute
      → constraint ≡ constraint_by (in_pass_with d.site kind (nat_lt x.child y.child) d x y) false
  constraint_same e =
      ap (λ b. if b then constraint_by (in_pass_with d.site kind (nat_lt x.child y.child) d x y) false
      else constraint_by (in_pass_with d.site kind false d x y) (in_pass_with d.site kind true d x y))
      (eq-eqb x.attribute y.attribute e)

  constraint_other : x.attribute ≢ y.attribute
      → constraint ≡ constraint_by (in_pass_with d.site kind false d x y) (in_pass_with d.site kind true d x y)
  constraint_other e =
      ap (λ b. if b then constraint_by (in_pass_with d.site kind (nat_lt x.child y.child) d x y) false
      else constraint_by (in_pass_with d.site kind false d x y) (in_pass_with d.site kind true d x y))
      (ne_eqb x.attribute y.attribute e)

  row_with : (key : Bool) → has_smaller_key at x y ≡ key → row ≡ in_pass_with d.site kind key d x y
  row_with key e = by_key d.site kind at d x y ∙ ap (λ k. in_pass_with d.site kind k d x y) e

  row_met : Contains list x.attribute → row ≡ true → MetInList constraint first
  row_met h e =
      ⊎_elim
      (λ same.
      subst (λ n. MetInList n first) (sym (constraint_same same))
      (met_always (in_pass_with d.site kind (nat_lt x.child y.child) d x y) false first
      (sym (row_with (nat_lt x.child y.child) (key_same same)) ∙ e)))
      (λ other.
      subst (λ n. MetInList n first) (sym (constraint_other other))
      (⊎_elim
      (λ less.
      met_by (in_pass_with d.site kind false d x y) (in_pass_with d.site kind true d x y) first
      (sym (row_with true (key_first less)) ∙ e) less)
      (λ away.
      met_always (in_pass_with d.site kind false d x y) (in_pass_with d.site kind true d x y) first
      (sym (row_with false (key_later h other (λ less. let z : ⊥ = omega (arith, less, away) in z))) ∙ e))
      (cases_lt (place_in list x.attribute) (place_in list y.attribute))))
      (cases_eq x.attribute y.attribute)

  met_row : Contains list x.attribute → MetInList constraint first → row ≡ true
  met_row h m =
      ⊎_elim
      (λ same.
      row_with (nat_lt x.child y.child) (key_same same)
      ∙ of_met_always (in_pass_with d.site kind (nat_lt x.child y.child) d x y) false first
      (λ less. let p = ap (place_in list) same in let z : ⊥ = omega (arith, less, p) in z)
      (subst (λ n. MetInList n first) (constraint_same same) m))
      (λ other.
      ⊎_elim
      (λ less.
      row_with true (key_first less)
      ∙ of_met_by (in_pass_with d.site kind false d x y) (in_pass_with d.site kind true d x y) first
      (more d.site kind d x y) (subst (λ n. MetInList n first) (constraint_other other) m))
      (λ away.
      row_with false (key_later h other (λ less. let z : ⊥ = omega (arith, less, away) in z))
      ∙ of_met_always (in_pass_with d.site kind false d x y) (in_pass_with d.site kind true d x y) first
      (λ less. let z : ⊥ = omega (arith, less, away) in z) (subst (λ n. MetInList n first) (constraint_other other) m))
      (cases_lt (place_in list x.attribute) (place_in list y.attribute)))
      (cases_eq x.attribute y.attribute)

  pub ordered_met : ordered ≡ true → MetConstraint done list constraint x.attribute y.attribute
  ordered_met e =
      ⊎_elim (λ h. inl h)
      (λ away.
      ⊎_elim (λ h. inr (h, row_met h (sym (where_listed away h) ∙ e)))
      (λ not. absurd (true≢false (sym e ∙ where_neither away not))) (cases_in list x.attribute))
      (cases_in done x.attribute)

  pub met_ordered : MetConstraint done list constraint x.attribute y.attribute → ordered ≡ true
  met_ordered m =
      ⊎_elim (λ h. where_done h)
      (λ here.
      ⊎_elim (λ h. where_done h) (λ away. where_listed away here.0 ∙ met_row here.0 here.1) (cases_in done x.attribute)) m
