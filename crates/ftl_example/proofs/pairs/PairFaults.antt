-- A fault that names two rules: what else is none, and that its pair is the only one.
use Rattle.std.proofs.Common.{◌≡◌, ◌≢◌, ℕ, ◌<◌, ◌&&◌, Bool, true, false, not, refl, sym, ◌∙◌, ap, subst, ⊎_elim, arith, List, [], ◌∷◌, Option, Some, None}
use Rattle.std.specs.Option.{option_or}
use Rattle.std.specs.List.{range_with_len}
use Rattle.std.proofs.lemmas.Bool.{cases_lt}
use Rattle.std.proofs.lemmas.Option.{same_Some}
use Rattle.ftl_model.specs.layout.AttributeGrammar.{AttributeGrammar, Part, Read, is_input}
use Rattle.ftl_model.specs.layout.Solves.{rule_named}
use Rattle.ftl_model.specs.lists.Lists.{is_listed}
use Rattle.ftl_order.specs.declared.faults.fault.VerifyFault.{VerifyFault}
use Rattle.ftl_order.specs.declared.faults.fault.VerifyFault.TheVariants.{Missing, Twice, Unordered}
use Rattle.ftl_order.specs.dependencies.DepLaws.{where_of}
use Rattle.ftl_order.specs.dependencies.DepReads.{dep_read}
use Rattle.ftl_order.specs.dependencies.Writers.{is_writer}
use Rattle.ftl_order.specs.faults.FirstFault.{first_fault, first_missing, first_twice, first_unordered, missing_fault, unordered_writer}
use Rattle.ftl_order.specs.faults.OrderedReads.{is_ordered_read}
use Rattle.ftl_order.specs.orders.Lawful.{IsLawful, IsRule, class_of_rule}
use Rattle.ftl_order.specs.orders.Ordered.{IsOrderedPair}
use Rattle.ftl_order.specs.orders.Pairs.{IsPair, Pair}
use Rattle.ftl_order.specs.orders.Schedule.{Placing, Schedule, entries, placing_of}
use Rattle.ftl_order.proofs.dependencies.Places.{none_passes}
use Rattle.ftl_order.proofs.dependencies.ReadsThere.{of_parts}
use Rattle.ftl_order.proofs.dependencies.Writers.{sites_say, writers_are_rules, writers_of_pairs}
use Rattle.ftl_order.proofs.faults.Tests.{ordered_tells}
use Rattle.ftl_schedule.proofs.check.NeverMemory.{along_never, if_never}
use Rattle.ftl_example.specs.examples.Numbered.{IsFaultPair}
use Rattle.ftl_example.specs.pairs.FirstPair.{IsPairOf, placed_at}
use Rattle.ftl_example.proofs.pairs.FirstPairs.{unordered_parts}

-- ---- the other faults

pub twice_not : (r w : ℕ) (before later : List ℕ) → first_twice before later ≢ Some (Unordered r w)
twice_not r w before [] = λ e. cc
twice_not r w before (a ∷ later) =
    if_never (Unordered r w) (is_listed before a) (Some (Twice a)) (first_twice (a ∷ before) later) (λ e. cc)
    (twice_not r w (a ∷ before) later)

pub missing_not : (g : AttributeGrammar) (r w : ℕ) (listed : List ℕ) → first_missing g listed ≢ Some (Unordered r w)
missing_not g r w listed =
    along_never (Unordered r w) (missing_fault g listed) (range_with_len 0 g.attribute_count)
    (λ a.
    if_never (Unordered r w) (not (is_input (g.sort a)) && not (is_listed listed a)) (Some (Missing a)) None (λ e. cc)
    (λ e. cc))

-- where the first of two is not this fault, it is none, and the second is this fault
pub later_one : (f : VerifyFault) (x y : Option VerifyFault) → x ≢ Some f → option_or x y ≡ Some f
    → (x ≡ None) × (y ≡ Some f)
later_one f None y other e = (refl, e)
later_one f (Some z) y other e = absurd (other e)

pub record IsUnordered (g : AttributeGrammar) (s : Schedule) (r w : ℕ) : Type 0 where
  pub twice : first_twice [] (entries s) ≡ None
  pub missing : first_missing g (entries s) ≡ None
  pub unordered : first_unordered g (placing_of s) ≡ Some (Unordered r w)

pub is_unordered : (g : AttributeGrammar) (s : Schedule) (r w : ℕ) → first_fault g s ≡ Some (Unordered r w)
    → IsUnordered g s r w
is_unordered g s r w e =
    let a = later_one (Unordered r w) (first_twice [] (entries s))
    (option_or (first_missing g (entries s)) (first_unordered g (placing_of s))) (twice_not r w [] (entries s)) e in
    let b = later_one (Unordered r w) (first_missing g (entries s)) (first_unordered g (placing_of s))
    (missing_not g r w (entries s)) a.1 in
    record { twice = a.0; missing = b.0; unordered = b.1 }

-- ---- the only pair

-- what passes one test, and not another
pub both_pass : (writes ordered : Bool) → writes ≡ true → (ordered ≡ true → ⊥) → (writes && not ordered) ≡ true
both_pass true true w free = absurd (free refl)
both_pass true false w free = refl
both_pass false ordered w free = let z : ⊥ = cc in absurd z

module _ (g : AttributeGrammar) (at : Placing) (law : IsLawful g) where
  -- an unordered pair has a writer that the schedule doesn't have earlier
  has_writer : (pair : Pair) → IsPair g pair → (IsOrderedPair g at pair → ⊥)
      → unordered_writer g at pair.reader (dep_read g pair.read) ≡ None → ⊥
  has_writer pair is free none =
      let w = pair.reader in
      let v = pair.writer in
      let r = pair.read in
      let k = class_of_rule w in
      let rule : IsRule g w = is.0.0 in
      let in_it = of_parts (rule_named g w).parts r pair.part is.0.1 in
      let writer : IsRule g v = writers_are_rules g law w r rule in_it v (pair.runs_at, is.1) in
      let writes = (writers_of_pairs g law w r rule in_it v writer).1 (pair.runs_at, is.1) in
      let tells = ordered_tells g at pair.runs_at r v w (sites_say g law k r pair.runs_at v is.1) in
      none_passes (λ u. is_writer g k (dep_read g r) u && not (is_ordered_read g at (dep_read g r) u w)) g.rules none v
      (law.rules_have v writer)
      (both_pass (is_writer g k (dep_read g r) v) (is_ordered_read g at (dep_read g r) v w) writes
      (λ e. free (tells.0 e)))

  -- the place of one is not before that of the other
  not_before : (reader writer : ℕ) (x y : Pair) (p : IsPairOf g at reader writer x) (q : IsPairOf g at reader writer y)
      → x.reader ≡ y.reader → p.place < q.place → ⊥
  not_before reader writer x y p q same less =
      has_writer x p.is p.unordered
      (subst (λ z. unordered_writer g at x.reader (dep_read g z.1) ≡ None) p.there
      (subst (λ v. unordered_writer g at v (dep_read g (placed_at (rule_named g v).parts p.place).1) ≡ None) (sym same)
      (q.first p.place less)))

  pub one_where : (x y : Pair) → IsPair g x → IsPair g y → x.reader ≡ y.reader → x.read ≡ y.read → x.runs_at ≡ y.runs_at
  one_where x y p q reader read =
      same_Some x.runs_at y.runs_at
      (sym (sites_say g law (class_of_rule x.reader) x.read x.runs_at x.writer p.1)
      ∙ ap (λ r. where_of (dep_read g r).site) read
      ∙ sites_say g law (class_of_rule y.reader) y.read y.runs_at y.writer q.1)

  pub pair_by : (x y : Pair) → x.reader ≡ y.reader → x.part ≡ y.part → x.read ≡ y.read → x.writer ≡ y.writer
      → x.runs_at ≡ y.runs_at → x ≡ y
  pair_by x y reader part read writer runs_at = grind (arith, reader, part, read, writer, runs_at)

  one_of : (reader writer : ℕ) (x y : Pair) → IsPairOf g at reader writer x → IsPairOf g at reader writer y → x ≡ y
  one_of reader writer x y p q =
      let same = p.reader_is ∙ sym q.reader_is in
      ⊎_elim (λ less. absurd (not_before reader writer x y p q same less))
      (λ high.
      ⊎_elim (λ less. absurd (not_before reader writer y x q p (sym same) less))
      (λ low.
      let place : p.place ≡ q.place = omega (arith, high, low) in
      let first = placed_at (rule_named g x.reader).parts p.place in
      let other = placed_at (rule_named g y.reader).parts q.place in
      let here : first ≡ other =
      ap (λ v. placed_at (rule_named g v).parts p.place) same ∙ ap (placed_at (rule_named g y.reader).parts) place in
      let part : x.part ≡ y.part =
      sym (ap (λ (z : Part × Read). z.0) p.there) ∙ ap (λ (z : Part × Read). z.0) here
      ∙ ap (λ (z : Part × Read). z.0) q.there in
      let read : x.read ≡ y.read =
      sym (ap (λ (z : Part × Read). z.1) p.there) ∙ ap (λ (z : Part × Read). z.1) here
      ∙ ap (λ (z : Part × Read). z.1) q.there in
      pair_by x y same part read (p.writer_is ∙ sym q.writer_is) (one_where x y p.is q.is same read))
      (cases_lt q.place p.place)) (cases_lt p.place q.place)

pub one_fault_pair : (g : AttributeGrammar) (s : Schedule) (x y : Pair) → IsLawful g → IsFaultPair g s x → IsFaultPair g s y
    → x ≡ y
one_fault_pair g s x y law (r, w, e, p) (a, b, f, q) =
    let same = unordered_parts r w a b (same_Some (Unordered r w) (Unordered a b) (sym e ∙ f)) in
    one_of g (placing_of s) law r w x y p
    (subst (λ n. IsPairOf g (placing_of s) n w y) (sym same.0)
    (subst (λ n. IsPairOf g (placing_of s) a n y) (sym same.1) q))
