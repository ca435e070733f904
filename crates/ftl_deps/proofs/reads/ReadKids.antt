-- The children that rules read are children of their classes.
use Rattle.std.proofs.Common.{ℕ, ◌<◌, Contains, sym, subst, ⊎_elim}
use Rattle.std.specs.Prelude.{IfSome}
use Rattle.std.proofs.lemmas.List.Elements.{Contains-append_cases}
use Rattle.ftl_model.proofs.lists.Rising.{in_map}
use Rattle.ftl_model.specs.layout.AttributeGrammar.{AttributeGrammar, Parts, Read, RuleName, each_read, first_then, fold_over, for_child, for_self, last_read, plain, prev_read, self_read, single_read, this_read}
use Rattle.ftl_model.specs.layout.Solves.{rule_named}
use Rattle.ftl_order.specs.orders.Lawful.{IsRule, MayReadForChild, MayReadForSelf, MayReadInStep, MayReadLater, PartsForChild, PartsForSelf, class_of_rule}
use Rattle.ftl_base.specs.Widths.{greatest_of_width}
use Rattle.ftl_meaning.specs.faults.Checked.{CheckedGrammar}
use Rattle.ftl_order.specs.dependencies.DepReads.{dep_read, reads_of_parts, rule_reads}
use Rattle.ftl_order.specs.declared.dependencies.dep_read.DepRead.{DepRead}
use Rattle.ftl_meaning.proofs.lawful.RuleParts.{child_parts, self_parts}
use Rattle.ftl_deps.specs.reads.Meant.{HasKnownChild, meant}

module _ (g : AttributeGrammar) (k : ℕ) where
  -- the child that is read is there
  abbrev pub Known : Read → Type 0
  Known r = IfSome (dep_read g r).child (λ c. c < g.child_count k)

  self_known : (r : Read) → MayReadForSelf g k r → Known r
  self_known (self_read a) h = tt
  self_known (single_read c a) h = h.0.0
  self_known (each_read c a) h = absurd h
  self_known (this_read c a) h = absurd h
  self_known (prev_read c a) h = absurd h
  self_known (last_read c a) h = h.0.0

  step_known : (c : ℕ) → c < g.child_count k → (r : Read) → MayReadInStep g k c r → Known r
  step_known c known (self_read a) h = tt
  step_known c known (single_read d a) h = h.0.0
  step_known c known (each_read d a) h = subst (λ d. d < g.child_count k) (sym h.0) known
  step_known c known (this_read d a) h = absurd h
  step_known c known (prev_read d a) h = absurd h
  step_known c known (last_read d a) h = h.0.0

  kid_known : (c : ℕ) (r : Read) → MayReadForChild g k c r → Known r
  kid_known c (self_read a) h = tt
  kid_known c (single_read d a) h = h.0.0
  kid_known c (each_read d a) h = absurd h
  kid_known c (this_read d a) h = subst (λ d. d < g.child_count k) (sym h.0) h.1.0
  kid_known c (prev_read d a) h = absurd h
  kid_known c (last_read d a) h = h.1.0

  later_known : (c : ℕ) (r : Read) → MayReadLater g k c r → Known r
  later_known c (self_read a) h = tt
  later_known c (single_read d a) h = h.0.0
  later_known c (each_read d a) h = absurd h
  later_known c (this_read d a) h = subst (λ d. d < g.child_count k) (sym h.0) h.1.0
  later_known c (prev_read d a) h = subst (λ d. d < g.child_count k) (sym h.0) h.1.0
  later_known c (last_read d a) h = h.1.0

  self_parts_known : (x : Parts) (r : Read) → PartsForSelf g k x → Contains (reads_of_parts x) r → Known r
  self_parts_known (plain reads) r h there = self_known r (h r there)
  self_parts_known (first_then first later) r h there = absurd h
  self_parts_known (fold_over c start step) r h there =
      ⊎_elim (λ here. self_known r (h.1 r here)) (λ late. step_known c h.0.0 r (h.2 r late))
      (Contains-append_cases start step r there)

  child_parts_known : (c : ℕ) (x : Parts) (r : Read) → PartsForChild g k c x → Contains (reads_of_parts x) r → Known r
  child_parts_known c (plain reads) r h there = kid_known c r (h r there)
  child_parts_known c (first_then first later) r h there =
      ⊎_elim (λ here. kid_known c r (h.1 r here)) (λ late. later_known c r (h.2 r late))
      (Contains-append_cases first later r there)
  child_parts_known c (fold_over d start step) r h there = absurd h

module _ (c : CheckedGrammar) where
  read_known : (w : RuleName) → IsRule (meant c) w → (r : Read)
      → Contains (reads_of_parts (rule_named (meant c) w).parts) r → Known (meant c) (class_of_rule w) r
  read_known (for_self k a) rule r there =
      self_parts_known (meant c) k ((meant c).self_rule k a).parts r
      (self_parts (greatest_of_width c.width) c.grammar k a) there
  read_known (for_child k d a) rule r there =
      child_parts_known (meant c) k d ((meant c).child_rule k d a).parts r
      (child_parts (greatest_of_width c.width) c.grammar k d a rule.1) there

  -- those of each read of a rule
  pub reads_known : (w : RuleName) → IsRule (meant c) w → (d : DepRead) → Contains (rule_reads (meant c) w) d
      → HasKnownChild c.grammar (class_of_rule w) d
  reads_known w rule d there =
      let m = in_map (dep_read (meant c)) (reads_of_parts (rule_named (meant c) w).parts) d there in
      subst (HasKnownChild c.grammar (class_of_rule w)) m.is (read_known w rule m.from m.there)
