-- No pair is refused exactly where each pair is ordered.
use Rattle.std.proofs.Common.{◌≡◌, ℕ, ◌&&◌, Bool, true, false, not, Option, Some, None, refl, subst, ap, Contains}
use Rattle.std.specs.List.{enumerate_from}
use Rattle.std.proofs.lemmas.Bool.{and_parts, false≢true}
use Rattle.ftl_model.proofs.lists.FirstAlong.{along_none, none_along}
use Rattle.ftl_model.proofs.lists.Rising.{Mapped, in_map, map_has}
use Rattle.ftl_model.specs.layout.AttributeGrammar.{AttributeGrammar, Read, RuleName}
use Rattle.ftl_model.specs.layout.Solves.{rule_named}
use Rattle.ftl_order.specs.orders.Lawful.{IsLawful, IsRule, class_of_rule}
use Rattle.ftl_order.specs.orders.Ordered.{visit_place}
use Rattle.ftl_order.specs.orders.Pairs.{IsPair, Pair}
use Rattle.ftl_order.specs.dependencies.DepReads.{dep_read, reads_of_parts, rule_reads}
use Rattle.ftl_order.specs.dependencies.Writers.{is_writer}
use Rattle.ftl_order.specs.declared.dependencies.dep_read.DepRead.{DepRead}
use Rattle.ftl_order.specs.faults.FirstFault.{fault_by}
use Rattle.ftl_order.proofs.dependencies.Places.{no_position, none_passes}
use Rattle.ftl_order.proofs.dependencies.ReadsThere.{in_parts, of_parts}
use Rattle.ftl_order.proofs.dependencies.Writers.{writers_are_rules, writers_of_pairs}
use Rattle.ftl_order.proofs.faults.Along.{numbered_has, numbered_in}
use Rattle.ftl_nests.specs.Nests.{EachPairNestOrdered, IsNestOrderedRead, NestPlacing}
use Rattle.ftl_regions.specs.pairs.NestReads.{first_refused, is_nest_ordered, refused_reads, refused_writer}
use Rattle.ftl_regions.proofs.pairs.NestTests.{pair_tells}

-- a test that fails on what another passes
holds_else : (writes ordered : Bool) → writes ≡ true → ((writes && not ordered) ≡ true → ⊥) → ordered ≡ true
holds_else writes true w none = refl
holds_else true false w none = absurd (none refl)
holds_else false false w none = absurd (false≢true w)

no_fault_by : (n : ℕ) (o : Option ℕ) → fault_by n o ≡ None → o ≡ None
no_fault_by n None e = refl
no_fault_by n (Some v) e = cc

module _ (g : AttributeGrammar) (at : NestPlacing) (law : IsLawful g) where
  abbrev IsGood : Pair → Type 0
  IsGood pair =
      IsNestOrderedRead at pair.runs_at pair.read (visit_place g pair.writer) (visit_place g pair.reader)

  abbrev passes : DepRead → (writer reader : RuleName) → Bool
  passes d v w = is_nest_ordered at d (visit_place g v) (visit_place g w)

  -- where no fault of a rule's reads is found, each pair of this reader is ordered
  reader_ordered : (pair : Pair) → IsPair g pair → (n : ℕ) → refused_reads g at (n, pair.reader) ≡ None
      → IsGood pair
  reader_ordered pair is n none =
      let w = pair.reader in
      let v = pair.writer in
      let r = pair.read in
      let k = class_of_rule w in
      let rule : IsRule g w = is.0.0 in
      let in_it = of_parts (rule_named g w).parts r pair.part is.0.1 in
      let read = none_along (λ d. fault_by n (refused_writer g at w d)) (rule_reads g w) none (dep_read g r)
      (map_has (dep_read g) (reads_of_parts (rule_named g w).parts) r in_it) in
      let free = no_fault_by n (refused_writer g at w (dep_read g r)) read in
      let writer : IsRule g v = writers_are_rules g law w r rule in_it v (pair.runs_at, is.1) in
      let writes = (writers_of_pairs g law w r rule in_it v writer).1 (pair.runs_at, is.1) in
      let ordered = holds_else (is_writer g k (dep_read g r) v) (passes (dep_read g r) v w) writes
      (none_passes (λ u. is_writer g k (dep_read g r) u && not (passes (dep_read g r) u w)) g.rules
      free v (law.rules_have v writer)) in
      (pair_tells g law at pair is).0 ordered

  -- where no fault of a read is found, each pair is ordered
  pub pairs_ordered : first_refused g at ≡ None → EachPairNestOrdered g at
  pairs_ordered e pair is =
      let number = numbered_has 0 g.rules pair.reader (law.rules_have pair.reader is.0.0) in
      reader_ordered pair is number.0
      (none_along (refused_reads g at) (enumerate_from 0 g.rules) e (number.0, pair.reader) number.1)

  -- each pair of this reader is ordered
  abbrev ReaderOrdered : RuleName → Type 0
  ReaderOrdered w = (pair : Pair) → IsPair g pair → pair.reader ≡ w → IsGood pair

  -- a writer that the schedule doesn't have earlier is none of a pair's
  none_wrong : (w : RuleName) → ReaderOrdered w → (r : Read) → IsRule g w
      → Contains (reads_of_parts (rule_named g w).parts) r → (v : RuleName) → Contains g.rules v
      → (is_writer g (class_of_rule w) (dep_read g r) v && not (passes (dep_read g r) v w)) ≡ true → ⊥
  none_wrong w each r rule in_it v there wrong =
      let k = class_of_rule w in
      let both = and_parts (is_writer g k (dep_read g r) v) (not (passes (dep_read g r) v w)) wrong in
      let somewhere = (writers_of_pairs g law w r rule in_it v (law.rules_are v there)).0 both.0 in
      let part = in_parts (rule_named g w).parts r in_it in
      let pair : Pair = record { reader = w; part = part.0; read = r; writer = v; runs_at = somewhere.0 } in
      let is : IsPair g pair = ((rule, part.1), somewhere.1) in
      let ordered = each pair is refl in
      let test = (pair_tells g law at pair is).1 ordered in
      false≢true (subst (λ b. not b ≡ true) test both.1)

  -- no fault of a read
  no_writer : (w : RuleName) → ReaderOrdered w → (n : ℕ) → IsRule g w → (d : DepRead)
      → Mapped (dep_read g) (reads_of_parts (rule_named g w).parts) d
      → fault_by n (refused_writer g at w d) ≡ None
  no_writer w each n rule d read =
      subst (λ x. fault_by n (refused_writer g at w x) ≡ None) read.is
      (ap (fault_by n)
      (no_position
      (λ u. is_writer g (class_of_rule w) (dep_read g read.from) u
      && not (passes (dep_read g read.from) u w)) g.rules
      (λ v there wrong. none_wrong w each read.from rule read.there v there wrong)))

  -- where each pair of a reader is ordered, no fault of its reads is found
  reader_free : (w : RuleName) → ReaderOrdered w → (n : ℕ) → IsRule g w → refused_reads g at (n, w) ≡ None
  reader_free w each n rule =
      along_none (λ d. fault_by n (refused_writer g at w d)) (rule_reads g w)
      (λ d in_it. no_writer w each n rule d (in_map (dep_read g) (reads_of_parts (rule_named g w).parts) d in_it))

  -- where each pair is ordered, no fault of a read is found
  pub none_refused : EachPairNestOrdered g at → first_refused g at ≡ None
  none_refused each =
      along_none (refused_reads g at) (enumerate_from 0 g.rules)
      (λ n there. reader_free n.1 (λ pair is same. each pair is) n.0
      (law.rules_are n.1 (numbered_in 0 g.rules n there)))
