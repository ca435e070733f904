-- The reads of the parts of a rule, and that what is read is there.
use Rattle.std.proofs.Common.{ℕ, ◌<◌, sym, subst, ⊎_elim, Contains}
use Rattle.std.proofs.lemmas.List.Elements.{Contains-append_cases, Contains-append_left, Contains-append_right}
use Rattle.ftl_model.specs.layout.AttributeGrammar.{AttributeGrammar, Part, Parts, Read, RuleName, each_read, first_part, first_then, fold_over, for_child, for_self, from_part, last_read, plain, plain_part, prev_read, reads_in, self_read, single_read, then_part, this_read, with_part}
use Rattle.ftl_model.specs.layout.Solves.{rule_named}
use Rattle.ftl_order.specs.orders.Lawful.{IsLawful, IsRule, MayReadForChild, MayReadForSelf, MayReadInStep, MayReadLater, OfChild, OfClass, PartsForChild, PartsForSelf, class_of_rule}
use Rattle.ftl_order.proofs.orders.PartReads.{first_then_reads, fold_reads, plain_reads}
use Rattle.ftl_order.specs.dependencies.DepReads.{reads_of_parts}

pub in_parts : (x : Parts) (r : Read) → Contains (reads_of_parts x) r → (part : Part) × Contains (reads_in x part) r
in_parts (plain reads) r h = (plain_part, h)
in_parts (first_then first later) r h =
    ⊎_elim (λ here. (first_part, here)) (λ there. (then_part, there)) (Contains-append_cases first later r h)
in_parts (fold_over c start step) r h =
    ⊎_elim (λ here. (from_part, here)) (λ there. (with_part, there)) (Contains-append_cases start step r h)

pub of_parts : (x : Parts) (r : Read) (part : Part) → Contains (reads_in x part) r → Contains (reads_of_parts x) r
of_parts (plain reads) r part h = (plain_reads reads part r h).1
of_parts (first_then first later) r part h =
    ⊎_elim (λ here. Contains-append_left first later r here.1) (λ there. Contains-append_right first later r there.1)
    (first_then_reads first later part r h)
of_parts (fold_over c start step) r part h =
    ⊎_elim (λ here. Contains-append_left start step r here.1) (λ there. Contains-append_right start step r there.1)
    (fold_reads c start step part r h)

module _ (g : AttributeGrammar) (law : IsLawful g) where
  -- what is read is an attribute that is there
  abbrev pub IsThere : ℕ → Read → Type 0
  IsThere k (self_read a) = OfClass g k a
  IsThere k (single_read c a) = (c < g.child_count k) × OfChild g k c a
  IsThere k (each_read c a) = (c < g.child_count k) × OfChild g k c a
  IsThere k (this_read c a) = (c < g.child_count k) × OfChild g k c a
  IsThere k (prev_read c a) = (c < g.child_count k) × OfChild g k c a
  IsThere k (last_read c a) = (c < g.child_count k) × OfChild g k c a

  self_there : (k : ℕ) (r : Read) → MayReadForSelf g k r → IsThere k r
  self_there k (self_read a) h = h
  self_there k (single_read c a) h = (h.0.0, h.1)
  self_there k (each_read c a) h = absurd h
  self_there k (this_read c a) h = absurd h
  self_there k (prev_read c a) h = absurd h
  self_there k (last_read c a) h = (h.0.0, h.1)

  step_there : (k c : ℕ) → c < g.child_count k → (r : Read) → MayReadInStep g k c r → IsThere k r
  step_there k c known (self_read a) h = h
  step_there k c known (single_read d a) h = (h.0.0, h.1)
  step_there k c known (each_read d a) h =
      subst (λ d. (d < g.child_count k) × OfChild g k d a) (sym h.0) (known, h.1)
  step_there k c known (this_read d a) h = absurd h
  step_there k c known (prev_read d a) h = absurd h
  step_there k c known (last_read d a) h = (h.0.0, h.1)

  child_there : (k c : ℕ) (r : Read) → MayReadForChild g k c r → IsThere k r
  child_there k c (self_read a) h = h
  child_there k c (single_read d a) h = (h.0.0, h.1)
  child_there k c (each_read d a) h = absurd h
  child_there k c (this_read d a) h = subst (λ d. (d < g.child_count k) × OfChild g k d a) (sym h.0) (h.1.0, h.2)
  child_there k c (prev_read d a) h = absurd h
  child_there k c (last_read d a) h = (h.1.0, h.2)

  later_there : (k c : ℕ) (r : Read) → MayReadLater g k c r → IsThere k r
  later_there k c (self_read a) h = h
  later_there k c (single_read d a) h = (h.0.0, h.1)
  later_there k c (each_read d a) h = absurd h
  later_there k c (this_read d a) h = subst (λ d. (d < g.child_count k) × OfChild g k d a) (sym h.0) (h.1.0, h.2)
  later_there k c (prev_read d a) h = subst (λ d. (d < g.child_count k) × OfChild g k d a) (sym h.0) (h.1.0, h.2)
  later_there k c (last_read d a) h = (h.1.0, h.2)

  self_parts_there : (k : ℕ) (x : Parts) (r : Read) → PartsForSelf g k x → Contains (reads_of_parts x) r → IsThere k r
  self_parts_there k (plain reads) r h in_it = self_there k r (h r in_it)
  self_parts_there k (first_then first later) r h in_it = absurd h
  self_parts_there k (fold_over c start step) r h in_it =
      ⊎_elim (λ here. self_there k r (h.1 r here)) (λ there. step_there k c h.0.0 r (h.2 r there))
      (Contains-append_cases start step r in_it)

  child_parts_there : (k c : ℕ) (x : Parts) (r : Read) → PartsForChild g k c x → Contains (reads_of_parts x) r
      → IsThere k r
  child_parts_there k c (plain reads) r h in_it = child_there k c r (h r in_it)
  child_parts_there k c (first_then first later) r h in_it =
      ⊎_elim (λ here. child_there k c r (h.1 r here)) (λ there. later_there k c r (h.2 r there))
      (Contains-append_cases first later r in_it)
  child_parts_there k c (fold_over d start step) r h in_it = absurd h

  pub read_there : (w : RuleName) (r : Read) → IsRule g w → Contains (reads_of_parts (rule_named g w).parts) r
      → IsThere (class_of_rule w) r
  read_there (for_self k a) r rule in_it = self_parts_there k (g.self_rule k a).parts r (law.self_parts k a rule) in_it
  read_there (for_child k c a) r rule in_it =
      child_parts_there k c (g.child_rule k c a).parts r (law.child_parts k c a rule) in_it
