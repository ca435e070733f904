-- The attributes that the rules of a checked grammar are for, and tables that are usable.
use Rattle.std.proofs.Common.{◌≡◌, ◌≢◌, ℕ, ◌<◌, ◌≤◌, true, not, length, refl, sym, ◌∙◌, ap, subst, inr, ⊎_elim, None}
use Rattle.std.proofs.lemmas.Bool.{cases_lt, not-true, true≢false}
use Rattle.std.proofs.lemmas.List.Quantifiers.{position-Some}
use Rattle.ftl_base.specs.Widths.{greatest_of_width}
use Rattle.ftl_model.specs.layout.AttributeGrammar.{AttributeGrammar, Sort, for_self, inherited, input, is_input, local, synthesized}
use Rattle.ftl_order.specs.orders.Lawful.{IsLawful, IsRule, class_of_rule}
use Rattle.ftl_order.specs.orders.Ordered.{visit_place}
use Rattle.ftl_order.specs.orders.Schedule.{PassKind}
use Rattle.ftl_meaning.specs.faults.Checked.{CheckedGrammar, all_rules}
use Rattle.ftl_meaning.specs.faults.FirstFault.{first_fault}
use Rattle.ftl_order.specs.dependencies.DepReads.{rule_reads}
use Rattle.ftl_order.specs.dependencies.Writers.{first_writer, is_writer}
use Rattle.ftl_meaning.specs.faults.Kinds.{HasKinds}
use Rattle.ftl_meaning.proofs.lawful.Lawfulness.{faultless_lawful}
use Rattle.ftl_meaning.proofs.lawful.WithinLimits.{within_limits}
use Rattle.ftl_deps.specs.reads.DepRows.{DepRows, dep_rows, writer_at}
use Rattle.ftl_deps.specs.reads.Meant.{meant}
use Rattle.ftl_deps.proofs.reads.RuleNumbers.{info_is, info_rule}
use Rattle.ftl_order.specs.automatic.Fitting.{IsComputed}
use Rattle.ftl_order.proofs.automatic.Targets.{target_computed}
use Rattle.ftl_scheduler.specs.largest_sets.Rows.{AreSized, AreWhole, Has, Row}
use Rattle.ftl_scheduler.specs.declared.largest_sets.constraints.Constraints.{Constraints}
use Rattle.ftl_scheduler.proofs.largest_sets.Marks.{IsMarked}
use Rattle.ftl_schedule.specs.check.RuleAt.{read_at, rule_at}
use Rattle.ftl_schedule.proofs.check.RuleCount.{rules_counted, writer_there}
use Rattle.ftl_scheduler.specs.outcomes.Constraint.{Asks, Constraint, beside, earlier}
use Rattle.ftl_scheduler.specs.outcomes.ConstraintRows.{HasComputed}
use Rattle.ftl_scheduler.specs.finding.Entered.{AreEnteredTo}
use Rattle.ftl_scheduler.proofs.finding.Entering.{are_constraints}

not_input : (s : Sort) → s ≢ input → not (is_input s) ≡ true
not_input input n = absurd (n refl)
not_input inherited n = refl
not_input synthesized n = refl
not_input local n = refl

-- the row that has each number whose attribute is not an input
pub marked_computed : (g : AttributeGrammar) (row : Row) → IsMarked (λ a. not (is_input (g.sort a))) row g.attribute_count
    → HasComputed g row
marked_computed g row m a = (
  (λ there.
      ⊎_elim
      (λ less. (
        less,
        (λ e. true≢false (sym (ap is_input e) ∙ not-true (is_input (g.sort a)) (sym (m.below a less) ∙ there))),
      ))
      (λ more. absurd (true≢false (sym there ∙ m.above a more))) (cases_lt a g.attribute_count)),
  (λ is. m.below a is.0 ∙ not_input (g.sort a) is.1),
)

module _ (c : CheckedGrammar) (none : first_fault c.grammar ≡ None) where
  -- attributes are few
  pub few_attributes : (meant c).attribute_count ≤ 2048
  few_attributes = (within_limits c.grammar none (greatest_of_width c.width)).attributes

  module _ (kinds : HasKinds c.grammar) where
    pub lawful : IsLawful (meant c)
    lawful = faultless_lawful c.grammar c.width (record { faults = none; kinds = kinds })

    pub rule_computed : (n : ℕ) → n < length (all_rules c.grammar)
        → IsComputed (meant c) (visit_place (meant c) (rule_at (meant c) n)).attribute
    rule_computed n within =
        target_computed (meant c) lawful (rule_at (meant c) n)
        (subst (IsRule (meant c)) (sym (info_is c none n within)) (info_rule c none n within))

    -- the table has all that is asked, and nothing else
    module _ (kind : PassKind) (n : Constraints) (all : Row) (h : AreEnteredTo (meant c) kind n (length (meant c).rules) 0)
        (computed : HasComputed (meant c) all) where
      by_number : (r : ℕ) → r < length (meant c).rules → Has all (visit_place (meant c) (rule_at (meant c) r)).attribute
      by_number r known =
          (computed (visit_place (meant c) (rule_at (meant c) r)).attribute).1
          (rule_computed r (subst (λ m. r < m) (sym (rules_counted c none)) known))

      writer_in : (constraint : Constraint) (x y : ℕ) → Asks (meant c) kind constraint x y → Has all x
      writer_in constraint x y a =
          subst (Has all) a.written
          (by_number a.writer
          (position-Some
          (is_writer (meant c) (class_of_rule (rule_at (meant c) a.rule))
          (read_at (rule_reads (meant c) (rule_at (meant c) a.rule)) a.place)) (meant c).rules a.writer (for_self 0 0) a.first).0)

      reader_in : (constraint : Constraint) (x y : ℕ) → Asks (meant c) kind constraint x y → Has all y
      reader_in constraint x y a = subst (Has all) a.reads (by_number a.rule a.known)

      pub sized : AreSized n all (meant c).attribute_count
      sized =
          record {
            few = few_attributes;
            earlier = h.sized.earlier;
            followers = h.sized.followers;
            users = h.sized.users;
            late = h.sized.late;
            known = λ a there. ((computed a).0 there).0;
          }

      pub whole : AreWhole n all
      whole =
          record {
            turned = h.turned;
            used = λ x y e. ((are_constraints (meant c) kind n h).used x y).1 (inr (h.before x y e));
            writers = λ x y e. ⊎_elim (writer_in beside x y) (writer_in earlier x y) (h.used x y e);
            readers = λ x y e. ⊎_elim (reader_in beside x y) (reader_in earlier x y) (h.used x y e);
          }

-- the first writer of a read, as the table has it
pub first_found : (c : CheckedGrammar) (none : first_fault c.grammar ≡ None) (n : ℕ) (within : n < length (all_rules c.grammar))
    (t : DepRows) (is : t ≡ dep_rows (meant c)) (k : ℕ) (place : k < length (rule_reads (meant c) (rule_at (meant c) n)))
    → first_writer (meant c) (class_of_rule (rule_at (meant c) n)) (read_at (rule_reads (meant c) (rule_at (meant c) n)) k)
    ≡ writer_at t n k
first_found c none n within t is k place =
    sym (ap (λ (x : DepRows). writer_at x n k) is ∙ writer_there c none n within k place)
