-- What meets the constraints of a kind by its rows is what fits it.
use Rattle.std.proofs.Common.{◌≡◌, ℕ, ◌<◌, Bool, true, false, if◌then◌else◌, refl, sym, ◌∙◌, ap, subst, inl, inr}
use Rattle.std.proofs.Common.{⊎_elim, List, [], Contains, length, get_or, Option, Some, None}
use Rattle.std.specs.FinSet as set
use Rattle.std.proofs.lemmas.Bool.{false_from_ne_true, true≢false}
use Rattle.std.proofs.lemmas.List.Elements.{Contains-get_or}
use Rattle.lane_rows.proofs.Rows.{get_or-any}
use Rattle.ftl_model.proofs.lists.FirstAlong.{along_none, none_along}
use Rattle.ftl_model.specs.layout.AttributeGrammar.{AttributeGrammar, RuleName, for_self}
use Rattle.ftl_order.specs.orders.Lawful.{IsLawful, class_of_rule}
use Rattle.ftl_order.specs.orders.Ordered.{visit_place}
use Rattle.ftl_order.specs.orders.Schedule.{PassKind, Placing}
use Rattle.ftl_order.specs.dependencies.DepReads.{rule_reads}
use Rattle.ftl_order.specs.dependencies.Writers.{first_writer}
use Rattle.ftl_order.specs.declared.dependencies.dep_read.DepRead.{DepRead}
use Rattle.ftl_order.specs.faults.FirstFault.{fault_by, reads_fault, unordered_writer}
use Rattle.ftl_order.specs.faults.OrderedReads.{is_ordered_read}
use Rattle.ftl_order.proofs.faults.Pairs.{no_fault_by, reader_free, reader_ordered}
use Rattle.ftl_schedule.specs.check.RuleAt.{read_at, rule_at}
use Rattle.ftl_schedule.proofs.check.FirstWriters.{first_tells, late_writer}
use Rattle.ftl_order.specs.automatic.Fitting.{Fits, IsListOf, placing_after}
use Rattle.ftl_scheduler.specs.largest_sets.LargestList.{IsLargestList, MeetsConstraints}
use Rattle.ftl_scheduler.specs.largest_sets.Rows.{Row}
use Rattle.ftl_scheduler.specs.declared.largest_sets.constraints.Constraints.{Constraints}
use Rattle.ftl_scheduler.specs.outcomes.Constraint.{Asks, Constraint, beside, done_before, earlier, constraint_of}
use Rattle.ftl_scheduler.specs.outcomes.ConstraintRows.{AreConstraintsOf, HasComputed, IsRowOf}
use Rattle.ftl_scheduler.proofs.outcomes.ConstraintTests.{MetConstraint, met_ordered, ordered_met}

-- an entry has a place, by any default
at_place : {X : Type 0} (xs : List X) (x d : X) → Contains xs x
    → (k : ℕ) × (k < length xs) × (get_or xs k d ≡ x)
at_place xs x d h = (h.0, h.1, get_or-any xs h.0 d x h.1 ∙ h.2)

-- no late writer
late_none : (g : AttributeGrammar) (at : Placing) (w : RuleName) (d : DepRead) (v : ℕ)
    → late_writer g at w d (Some v) ≡ None → is_ordered_read g at d (rule_at g v) w ≡ true
late_none g at w d v e = by (is_ordered_read g at d (rule_at g v) w) refl e
  where
    by : (b : Bool) → is_ordered_read g at d (rule_at g v) w ≡ b → (if b then None else Some v) ≡ None
        → is_ordered_read g at d (rule_at g v) w ≡ true
    by true is e = is
    by false is e = cc

none_late : (g : AttributeGrammar) (at : Placing) (w : RuleName) (d : DepRead) (v : ℕ)
    → is_ordered_read g at d (rule_at g v) w ≡ true → late_writer g at w d (Some v) ≡ None
none_late g at w d v e = ap (λ b. if b then None else Some v) e

module _ (g : AttributeGrammar) (law : IsLawful g) (kind : PassKind) (n : Constraints) (constraints : AreConstraintsOf g kind n)
    (all done_row : Row) (computed : HasComputed g all) (done : List ℕ) (is_row : IsRowOf done done_row) where
  -- the constraints of the list are met
  abbrev AreMet : List ℕ → Type 0
  AreMet list = (constraint : Constraint) (x y : ℕ) → Asks g kind constraint x y → Contains list y → MetConstraint done list constraint x y

  fits_met : (list : List ℕ) → Fits g kind done list → AreMet list
  fits_met list f constraint x y a there =
      let at = placing_after done kind list in
      let w = rule_at g a.rule in
      let d = read_at (rule_reads g w) a.place in
      let in_list = subst (Contains list) (sym a.reads) there in
      let rule = law.rules_are w (Contains-get_or g.rules a.rule _ a.known) in
      let free =
      reader_free g at law w
      (λ pair is same. f.ordered pair is (subst (λ v. Contains list (visit_place g v).attribute) (sym same) in_list)) 0 rule in
      let none =
      no_fault_by 0 (unordered_writer g at w d)
      (none_along (λ e. fault_by 0 (unordered_writer g at w e)) (rule_reads g w) free d
      (Contains-get_or (rule_reads g w) a.place _ a.within)) in
      let ordered =
      late_none g at w d a.writer (sym (first_tells g at w d ∙ ap (late_writer g at w d) a.first) ∙ none) in
      subst (λ z. MetConstraint done list constraint z y) a.written
      (subst (λ z. MetConstraint done list constraint (visit_place g (rule_at g a.writer)).attribute z) a.reads
      (subst (λ m. MetConstraint done list m (visit_place g (rule_at g a.writer)).attribute (visit_place g w).attribute) a.constraints
      (ordered_met kind done list d (visit_place g (rule_at g a.writer)) (visit_place g w)
      (f.not_done (visit_place g w).attribute in_list) in_list ordered)))

  -- where the constraints are met no fault of a read is found
  free_read : (list : List ℕ) → AreMet list → (r : ℕ) → r < length g.rules
      → (Contains done (visit_place g (rule_at g r)).attribute → ⊥) → Contains list (visit_place g (rule_at g r)).attribute
      → (k : ℕ) → k < length (rule_reads g (rule_at g r))
      → unordered_writer g (placing_after done kind list) (rule_at g r) (read_at (rule_reads g (rule_at g r)) k) ≡ None
  free_read list met r known out there k within =
      by (first_writer g (class_of_rule w) d) refl
    where
      w : RuleName
      w = rule_at g r

      d : DepRead
      d = read_at (rule_reads g w) k

      by : (o : Option ℕ) → first_writer g (class_of_rule w) d ≡ o
          → unordered_writer g (placing_after done kind list) w d ≡ None
      by None e =
          first_tells g (placing_after done kind list) w d ∙ ap (late_writer g (placing_after done kind list) w d) e
      by (Some v) e =
          first_tells g (placing_after done kind list) w d
          ∙ ap (late_writer g (placing_after done kind list) w d) e
          ∙ none_late g (placing_after done kind list) w d v
          (met_ordered kind done list d (visit_place g (rule_at g v)) (visit_place g w) out there
          (met (constraint_of kind d (visit_place g (rule_at g v)) (visit_place g w)) (visit_place g (rule_at g v)).attribute
          (visit_place g w).attribute
          (record {
            rule = r;
            place = k;
            writer = v;
            known = known;
            within = within;
            first = e;
            written = refl;
            reads = refl;
            constraints = refl;
          }) there))

  rows_met : (list : List ℕ) → MeetsConstraints n all done_row list → AreMet list
  rows_met list m beside x y a there =
      ⊎_elim (λ d. inl ((is_row x).0 d)) (λ here. inr (here, tt)) (m.used x y there ((constraints.used x y).1 (inl a)))
  rows_met list m earlier x y a there =
      ⊎_elim (λ d. inl ((is_row x).0 d)) (λ here. inr here) (m.in_turn x y there ((constraints.before x y).1 a))
  rows_met list m done_before x y a there = inl ((is_row x).0 (m.late x y there ((constraints.late x y).1 a)))

  of_row : (a : ℕ) → set.contains done_row a ≡ false → Contains done a → ⊥
  of_row a e h = true≢false (sym ((is_row a).1 h) ∙ e)

  meets_fits : (list : List ℕ) → MeetsConstraints n all done_row list → Fits g kind done list
  meets_fits list m =
      record {
        distinct = m.distinct;
        computed = λ a h. (computed a).0 (m.within a h);
        not_done = λ a h old. of_row a (m.not_done a h) old;
        ordered = λ pair is there.
            reader_ordered g (placing_after done kind list) law pair is 0
            (free_rule pair.reader (law.rules_have pair.reader is.0.0) there);
      }
    where
      free_at : (r : ℕ) → r < length g.rules → Contains list (visit_place g (rule_at g r)).attribute
          → reads_fault g (placing_after done kind list) (0, rule_at g r) ≡ None
      free_at r known there =
          along_none (λ d. fault_by 0 (unordered_writer g (placing_after done kind list) (rule_at g r) d))
          (rule_reads g (rule_at g r))
          (λ d in_it.
          let at_k = at_place (rule_reads g (rule_at g r)) d (read_at [] 0) in_it in
          ap (fault_by 0)
          (subst (λ e. unordered_writer g (placing_after done kind list) (rule_at g r) e ≡ None) at_k.2
          (free_read list (rows_met list m) r known
          (of_row (visit_place g (rule_at g r)).attribute (m.not_done (visit_place g (rule_at g r)).attribute there)) there
          at_k.0 at_k.1)))

      free_rule : (w : RuleName) → Contains g.rules w → Contains list (visit_place g w).attribute
          → reads_fault g (placing_after done kind list) (0, w) ≡ None
      free_rule w in_rules there =
          let at_r = at_place g.rules w (for_self 0 0) in_rules in
          subst (λ v. reads_fault g (placing_after done kind list) (0, v) ≡ None) at_r.2
          (free_at at_r.0 at_r.1 (subst (λ v. Contains list (visit_place g v).attribute) (sym at_r.2) there))

  fits_meets : (list : List ℕ) → Fits g kind done list → MeetsConstraints n all done_row list
  fits_meets list f =
      record {
        distinct = f.distinct;
        within = λ a h. (computed a).1 (f.computed a h);
        not_done = λ a h. false_from_ne_true (set.contains done_row a) (λ e. f.not_done a h ((is_row a).0 e));
        used = λ x y h e.
            ⊎_elim (λ a. ⊎_elim (λ d. inl ((is_row x).1 d)) (λ here. inr here.0) (fits_met list f beside x y a h))
            (λ a. ⊎_elim (λ d. inl ((is_row x).1 d)) (λ here. inr here.0) (fits_met list f earlier x y a h))
            ((constraints.used x y).0 e);
        in_turn = λ x y h e.
            ⊎_elim (λ d. inl ((is_row x).1 d)) (λ here. inr here)
            (fits_met list f earlier x y ((constraints.before x y).0 e) h);
        late = λ x y h e.
            ⊎_elim (λ d. (is_row x).1 d) (λ here. absurd here.1)
            (fits_met list f done_before x y ((constraints.late x y).0 e) h);
      }

  pub list_by_rows : (list : List ℕ) → IsLargestList n all done_row list → IsListOf g kind done list
  list_by_rows list p =
      record {
        fits = meets_fits list p.meets;
        largest = λ other f. p.largest other (fits_meets other f);
        least = λ other f has. p.least other (fits_meets other f) has;
      }

pub rows_give_list : (g : AttributeGrammar) (kind : PassKind) (n : Constraints) (all done_row : Row) (done list : List ℕ) → IsLawful g
    → AreConstraintsOf g kind n → HasComputed g all → IsRowOf done done_row → IsLargestList n all done_row list
    → IsListOf g kind done list
rows_give_list g kind n all done_row done list law constraints computed is_row p =
    list_by_rows g law kind n constraints all done_row computed done is_row list p
