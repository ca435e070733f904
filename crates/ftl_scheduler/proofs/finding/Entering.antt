-- Rows of constraints, read by read.
use Rattle.std.proofs.Common.{◌≡◌, ◌⊎◌, ℕ, ◌+◌, ◌<◌, ◌==◌, ◌&&◌, ◌||◌, Bool, true, false, length, refl, sym, ◌∙◌, ap, ap₂, subst, inl, inr, ⊎_elim, arith, Some, None}
use Rattle.std.proofs.lemmas.Bool.{cases_lt, true≢false}
use Rattle.std.proofs.lemmas.Option.{none-some, same_Some}
use Rattle.lane_rows.specs.Matrix.{entry}
use Rattle.ftl_model.specs.layout.AttributeGrammar.{AttributeGrammar}
use Rattle.ftl_order.specs.orders.Lawful.{class_of_rule}
use Rattle.ftl_order.specs.orders.Ordered.{visit_place}
use Rattle.ftl_order.specs.orders.Schedule.{PassKind}
use Rattle.ftl_order.specs.dependencies.DepReads.{rule_reads}
use Rattle.ftl_order.specs.dependencies.Writers.{first_writer}
use Rattle.ftl_order.specs.declared.dependencies.dep_read.DepRead.{DepRead}
use Rattle.ftl_scheduler.specs.declared.largest_sets.constraints.Constraints.{Constraints}
use Rattle.ftl_schedule.specs.check.RuleAt.{read_at, rule_at}
use Rattle.ftl_scheduler.specs.outcomes.Constraint.{Asks, Constraint, beside, done_before, earlier, constraint_of}
use Rattle.ftl_scheduler.specs.outcomes.ConstraintRows.{AreConstraintsOf}
use Rattle.ftl_scheduler.specs.finding.Entered.{AreEmpty, AreEnteredTo, AreOfSize, HasConstraint, HasRead, IsEntered}
use Rattle.ftl_scheduler.specs.finding.Entered.{is_earlier, is_late, is_use}
use Rattle.ftl_scheduler.proofs.finding.Grown.{grown_here, grown_old, grown_only, only_earlier, only_late, only_use}

and_comm : (a b : Bool) → (a && b) ≡ (b && a)
and_comm true true = refl
and_comm true false = refl
and_comm false true = refl
and_comm false false = refl

module _ (g : AttributeGrammar) (kind : PassKind) where
  -- before the first read
  pub entered_none : (n : Constraints) → AreOfSize n g.attribute_count → AreEmpty n → AreEnteredTo g kind n 0 0
  entered_none n sized none =
      record {
        sized = sized;
        turned = λ x y. none.followers x y ∙ sym (none.earlier y x);
        before = λ x y e. absurd (true≢false (sym e ∙ none.earlier y x));
        used = λ x y e. absurd (true≢false (sym e ∙ none.users x y));
        late = λ x y e. absurd (true≢false (sym e ∙ none.late y x));
        reads = λ r k there within.
            absurd (⊎_elim (λ less. let z : ⊥ = omega (arith, less) in z)
            (λ at. let less = at.1 in let z : ⊥ = omega (arith, less) in z) there);
      }

  -- the attribute that a rule is for
  abbrev for_rule : ℕ → ℕ
  for_rule r = (visit_place g (rule_at g r)).attribute

  -- the read of a rule at a place
  abbrev read : (rule place : ℕ) → DepRead
  read r k = read_at (rule_reads g (rule_at g r)) k

  -- what that read asks of a writer
  abbrev asked : (rule place writer : ℕ) → Constraint
  asked r k v = constraint_of kind (read r k) (visit_place g (rule_at g v)) (visit_place g (rule_at g r))

  -- after all reads
  module _ (n : Constraints) (h : AreEnteredTo g kind n (length g.rules) 0) where
    has : (constraint : Constraint) (x y : ℕ) → Asks g kind constraint x y → HasConstraint n x y constraint
    has constraint x y a =
        subst (λ v. HasConstraint n v y constraint) a.written
        (subst (λ v. HasConstraint n (for_rule a.writer) v constraint) a.reads
        (subst (HasConstraint n (for_rule a.writer) (for_rule a.rule)) a.constraints
        (h.reads a.rule a.place (inl a.known) a.within a.writer a.first)))

    pub are_constraints : AreConstraintsOf g kind n
    are_constraints =
        record {
          before = λ x y. (h.before x y, λ a. (has earlier x y a).1);
          used = λ x y. (h.used x y, λ a. ⊎_elim (λ b. has beside x y b) (λ b. (has earlier x y b).0) a);
          late = λ x y. (h.late x y, λ a. has done_before x y a);
        }

  -- all reads of a rule are entered
  pub entered_rule : (n : Constraints) (rule : ℕ) → AreEnteredTo g kind n rule (length (rule_reads g (rule_at g rule)))
      → AreEnteredTo g kind n (rule + 1) 0
  entered_rule n rule h =
      record {
        sized = h.sized;
        turned = h.turned;
        before = h.before;
        used = h.used;
        late = h.late;
        reads = λ r k there within.
            ⊎_elim
            (λ less.
            ⊎_elim (λ old. h.reads r k (inl old) within)
            (λ more.
            let same : r ≡ rule = omega (arith, less, more) in
            h.reads r k (inr (same, subst (λ m. k < length (rule_reads g (rule_at g m))) same within)) within)
            (cases_lt r rule))
            (λ at. let none = at.1 in absurd (let z : ⊥ = omega (arith, none) in z)) there;
      }

  -- one read more
  module _ (old new : Constraints) (rule place : ℕ) (h : AreEnteredTo g kind old rule place) where
    -- the reads before it have what they had, and it has what it asks
    reads_more : ((r k : ℕ) → HasRead g kind old r k → HasRead g kind new r k) → HasRead g kind new rule place
        → (r k : ℕ) → (r < rule) ⊎ ((r ≡ rule) × (k < place + 1)) → k < length (rule_reads g (rule_at g r))
        → HasRead g kind new r k
    reads_more keeps this r k there within =
        ⊎_elim (λ less. keeps r k (h.reads r k (inl less) within))
        (λ at.
        let low = at.1 in
        ⊎_elim (λ less. keeps r k (h.reads r k (inr (at.0, less)) within))
        (λ more.
        let same : k ≡ place = omega (arith, low, more) in
        subst (λ m. HasRead g kind new m k) (sym at.0) (subst (λ m. HasRead g kind new rule m) (sym same) this))
        (cases_lt k place)) there

  -- it has no writer
  pub entered_nothing : (n : Constraints) (rule place : ℕ) → AreEnteredTo g kind n rule place
      → first_writer g (class_of_rule (rule_at g rule)) (read rule place) ≡ None
      → AreEnteredTo g kind n rule (place + 1)
  entered_nothing n rule place h none =
      record {
        sized = h.sized;
        turned = h.turned;
        before = h.before;
        used = h.used;
        late = h.late;
        reads = reads_more n n rule place h (λ r k has. has) (λ v is. absurd (none-some v (sym none ∙ is)));
      }

  module _ (old new : Constraints) (rule place writer : ℕ) (h : AreEnteredTo g kind old rule place)
      (known : rule < length g.rules) (within : place < length (rule_reads g (rule_at g rule)))
      (first : first_writer g (class_of_rule (rule_at g rule)) (read rule place) ≡ Some writer)
      (sized : AreOfSize new g.attribute_count)
      (put : IsEntered (asked rule place writer) old new (for_rule writer) (for_rule rule)) where
    constraint_kept : (constraint : Constraint) (x y : ℕ) → HasConstraint old x y constraint → HasConstraint new x y constraint
    constraint_kept beside x y has =
        grown_old (is_use (asked rule place writer)) old.users new.users (for_rule writer) (for_rule rule) put.users x y has
    constraint_kept earlier x y has = (
      grown_old (is_use (asked rule place writer)) old.users new.users (for_rule writer) (for_rule rule) put.users x y has.0,
      grown_old (is_earlier (asked rule place writer)) old.earlier new.earlier (for_rule rule) (for_rule writer) put.earlier
          y x has.1,
    )
    constraint_kept done_before x y has =
        grown_old (is_late (asked rule place writer)) old.late new.late (for_rule rule) (for_rule writer) put.late y x has

    asks_this : (constraint : Constraint) (x y : ℕ) → asked rule place writer ≡ constraint → x ≡ for_rule writer → y ≡ for_rule rule
        → Asks g kind constraint x y
    asks_this constraint x y is at_x at_y =
        record {
          rule = rule;
          place = place;
          writer = writer;
          known = known;
          within = within;
          first = first;
          written = sym at_x;
          reads = sym at_y;
          constraints = is;
        }

    has_this : (constraint : Constraint) → asked rule place writer ≡ constraint → HasConstraint new (for_rule writer) (for_rule rule) constraint
    has_this beside is =
        grown_here (is_use (asked rule place writer)) old.users new.users (for_rule writer) (for_rule rule) put.users
        (ap is_use is)
    has_this earlier is = (
      grown_here (is_use (asked rule place writer)) old.users new.users (for_rule writer) (for_rule rule) put.users
          (ap is_use is),
      grown_here (is_earlier (asked rule place writer)) old.earlier new.earlier (for_rule rule) (for_rule writer) put.earlier
          (ap is_earlier is),
    )
    has_this done_before is =
        grown_here (is_late (asked rule place writer)) old.late new.late (for_rule rule) (for_rule writer) put.late
        (ap is_late is)

    read_this : HasRead g kind new rule place
    read_this v is =
        subst (λ w. HasConstraint new (for_rule w) (for_rule rule) (asked rule place w)) (same_Some writer v (sym first ∙ is))
        (has_this (asked rule place writer) refl)

    turned : (x y : ℕ) → entry new.followers x y ≡ entry new.earlier y x
    turned x y =
        put.followers x y
        ∙ ap₂ (λ s t. (is_earlier (asked rule place writer) && s) || t)
        (and_comm (x == for_rule writer) (y == for_rule rule)) (h.turned x y)
        ∙ sym (put.earlier y x)

    pub entered_more : AreEnteredTo g kind new rule (place + 1)
    entered_more =
        record {
          sized = sized;
          turned = turned;
          before = λ x y e.
              ⊎_elim (λ there. h.before x y there)
              (λ at. asks_this earlier x y (only_earlier (asked rule place writer) at.0) at.1.1 at.1.0)
              (grown_only (is_earlier (asked rule place writer)) old.earlier new.earlier (for_rule rule) (for_rule writer)
              put.earlier y x e);
          used = λ x y e.
              ⊎_elim (λ there. h.used x y there)
              (λ at.
              ⊎_elim (λ is. inl (asks_this beside x y is at.1.0 at.1.1)) (λ is. inr (asks_this earlier x y is at.1.0 at.1.1))
              (only_use (asked rule place writer) at.0))
              (grown_only (is_use (asked rule place writer)) old.users new.users (for_rule writer) (for_rule rule)
              put.users x y e);
          late = λ x y e.
              ⊎_elim (λ there. h.late x y there)
              (λ at. asks_this done_before x y (only_late (asked rule place writer) at.0) at.1.1 at.1.0)
              (grown_only (is_late (asked rule place writer)) old.late new.late (for_rule rule) (for_rule writer)
              put.late y x e);
          reads = reads_more old new rule place h
              (λ r k has v is. constraint_kept (asked r k v) (for_rule v) (for_rule r) (has v is)) read_this;
        }
