-- A fault of a schedule with nests that names two rules: what else is none, and that its pair is the only one.
use Rattle.std.proofs.Common.{◌≡◌, ℕ, ◌<◌, ◌&&◌, not, sym, ◌∙◌, ap, subst, ⊎_elim, arith, [], Some, None}
use Rattle.std.specs.Option.{option_or}
use Rattle.std.proofs.lemmas.Bool.{cases_lt}
use Rattle.std.proofs.lemmas.Option.{same_Some}
use Rattle.ftl_model.specs.layout.AttributeGrammar.{AttributeGrammar, Part, Read}
use Rattle.ftl_model.specs.layout.Solves.{rule_named}
use Rattle.ftl_order.specs.declared.faults.fault.VerifyFault.TheVariants.{Unordered}
use Rattle.ftl_order.specs.dependencies.DepReads.{dep_read}
use Rattle.ftl_order.specs.dependencies.Writers.{is_writer}
use Rattle.ftl_order.specs.faults.FirstFault.{first_missing, first_twice}
use Rattle.ftl_order.specs.orders.Lawful.{IsLawful, IsRule, class_of_rule}
use Rattle.ftl_order.specs.orders.Ordered.{visit_place}
use Rattle.ftl_order.specs.orders.Pairs.{IsPair, Pair}
use Rattle.ftl_order.specs.orders.Schedule.{entries}
use Rattle.ftl_order.proofs.dependencies.Places.{none_passes}
use Rattle.ftl_order.proofs.dependencies.ReadsThere.{of_parts}
use Rattle.ftl_order.proofs.dependencies.Writers.{writers_are_rules, writers_of_pairs}
use Rattle.ftl_example.specs.pairs.FirstPair.{placed_at}
use Rattle.ftl_example.proofs.pairs.FirstPairs.{unordered_parts}
use Rattle.ftl_example.proofs.pairs.PairFaults.{both_pass, later_one, missing_not, one_where, pair_by, twice_not}
use Rattle.ftl_nests.specs.Nests.{NestPlacing, NestingSchedule, nest_placing_of, outer_schedule}
use Rattle.ftl_regions.specs.pairs.NestReads.{first_refused, is_nest_ordered, refused_writer}
use Rattle.ftl_regions.proofs.pairs.NestTests.{pair_tells}
use Rattle.ftl_nest_check.specs.check.NestFault.{first_nest_fault}
use Rattle.ftl_example.specs.nests.pairs.NestPair.{IsNestFaultPair, IsNestOrderedPair, IsNestPairOf}

pub record IsRefused (g : AttributeGrammar) (s : NestingSchedule) (r w : ℕ) : Type 0 where
  pub twice : first_twice [] (entries (outer_schedule s)) ≡ None
  pub missing : first_missing g (entries (outer_schedule s)) ≡ None
  pub refused : first_refused g (nest_placing_of s) ≡ Some (Unordered r w)

pub is_refused : (g : AttributeGrammar) (s : NestingSchedule) (r w : ℕ) → first_nest_fault g s ≡ Some (Unordered r w)
    → IsRefused g s r w
is_refused g s r w e =
    let a = later_one (Unordered r w) (first_twice [] (entries (outer_schedule s)))
    (option_or (first_missing g (entries (outer_schedule s))) (first_refused g (nest_placing_of s))) (twice_not r w [] (entries (outer_schedule s))) e in
    let b = later_one (Unordered r w) (first_missing g (entries (outer_schedule s))) (first_refused g (nest_placing_of s))
    (missing_not g r w (entries (outer_schedule s))) a.1 in
    record { twice = a.0; missing = b.0; refused = b.1 }

module _ (g : AttributeGrammar) (at : NestPlacing) (law : IsLawful g) where
  -- an unordered pair has a writer that the schedule doesn't have earlier
  has_writer : (pair : Pair) → IsPair g pair → (IsNestOrderedPair g at pair → ⊥)
      → refused_writer g at pair.reader (dep_read g pair.read) ≡ None → ⊥
  has_writer pair is free none =
      let w = pair.reader in
      let v = pair.writer in
      let r = pair.read in
      let k = class_of_rule w in
      let rule : IsRule g w = is.0.0 in
      let in_it = of_parts (rule_named g w).parts r pair.part is.0.1 in
      let writer : IsRule g v = writers_are_rules g law w r rule in_it v (pair.runs_at, is.1) in
      let writes = (writers_of_pairs g law w r rule in_it v writer).1 (pair.runs_at, is.1) in
      let tells = pair_tells g law at pair is in
      none_passes (λ u. is_writer g k (dep_read g r) u && not (is_nest_ordered at (dep_read g r) (visit_place g u) (visit_place g w))) g.rules none v
      (law.rules_have v writer)
      (both_pass (is_writer g k (dep_read g r) v) (is_nest_ordered at (dep_read g r) (visit_place g v) (visit_place g w)) writes
      (λ e. free (tells.0 e)))

  -- the place of one is not before that of the other
  not_before : (reader writer : ℕ) (x y : Pair) (p : IsNestPairOf g at reader writer x) (q : IsNestPairOf g at reader writer y)
      → x.reader ≡ y.reader → p.place < q.place → ⊥
  not_before reader writer x y p q same less =
      has_writer x p.is p.unordered
      (subst (λ z. refused_writer g at x.reader (dep_read g z.1) ≡ None) p.there
      (subst (λ v. refused_writer g at v (dep_read g (placed_at (rule_named g v).parts p.place).1) ≡ None) (sym same)
      (q.first p.place less)))

  one_of : (reader writer : ℕ) (x y : Pair) → IsNestPairOf g at reader writer x → IsNestPairOf g at reader writer y → x ≡ y
  one_of reader writer x y p q =
      let same = p.reader_is ∙ sym q.reader_is in
      ⊎_elim (λ less. absurd (not_before reader writer x y p q same less))
      (λ high.
      ⊎_elim (λ less. absurd (not_before reader writer y x q p (sym same) less))
      (λ low.
      let place : p.place ≡ q.place = omega (arith, high, low) in
      let first = placed_at (rule_named g x.reader).parts p.place in
      let other = placed_at (rule_named g y.reader).parts q.place in
      let here : first ≡ other =
      ap (λ v. placed_at (rule_named g v).parts p.place) same ∙ ap (placed_at (rule_named g y.reader).parts) place in
      let part : x.part ≡ y.part =
      sym (ap (λ (z : Part × Read). z.0) p.there) ∙ ap (λ (z : Part × Read). z.0) here
      ∙ ap (λ (z : Part × Read). z.0) q.there in
      let read : x.read ≡ y.read =
      sym (ap (λ (z : Part × Read). z.1) p.there) ∙ ap (λ (z : Part × Read). z.1) here
      ∙ ap (λ (z : Part × Read). z.1) q.there in
      pair_by g at.outer law x y same part read (p.writer_is ∙ sym q.writer_is) (one_where g at.outer law x y p.is q.is same read))
      (cases_lt q.place p.place)) (cases_lt p.place q.place)

pub one_fault_pair : (g : AttributeGrammar) (s : NestingSchedule) (x y : Pair) → IsLawful g → IsNestFaultPair g s x → IsNestFaultPair g s y
    → x ≡ y
one_fault_pair g s x y law (r, w, e, p) (a, b, f, q) =
    let same = unordered_parts r w a b (same_Some (Unordered r w) (Unordered a b) (sym e ∙ f)) in
    one_of g (nest_placing_of s) law r w x y p
    (subst (λ n. IsNestPairOf g (nest_placing_of s) n w y) (sym same.0)
    (subst (λ n. IsNestPairOf g (nest_placing_of s) a n y) (sym same.1) q))
