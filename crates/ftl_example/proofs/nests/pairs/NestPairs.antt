-- The pair of a fault of a schedule with nests.
use Rattle.std.proofs.Common.{◌≡◌, ℕ, ◌+◌, ◌<◌, ◌≤◌, ◌&&◌, Bool, true, not, refl, sym, ◌∙◌, ap, subst, arith, length, get_or, Contains, Some, None}
use Rattle.std.specs.List.{enumerate_from}
use Rattle.std.proofs.lemmas.Bool.{and_parts, false≢true}
use Rattle.std.proofs.lemmas.List.Elements.{Contains-get_or}
use Rattle.std.proofs.lemmas.List.Quantifiers.{position-Some}
use Rattle.ftl_model.specs.layout.AttributeGrammar.{AttributeGrammar, Part, Read, RuleName, for_self, plain_part, reads_in, self_read}
use Rattle.ftl_model.specs.layout.Solves.{rule_named}
use Rattle.ftl_order.specs.declared.dependencies.dep_read.DepRead.{DepRead}
use Rattle.ftl_order.specs.declared.faults.fault.VerifyFault.TheVariants.{Unordered}
use Rattle.ftl_order.specs.dependencies.DepReads.{dep_read, reads_of_parts, rule_reads}
use Rattle.ftl_order.specs.dependencies.Writers.{is_writer}
use Rattle.ftl_order.specs.faults.FirstFault.{fault_by}
use Rattle.ftl_order.specs.orders.Lawful.{IsLawful, IsRule, class_of_rule}
use Rattle.ftl_order.specs.orders.Ordered.{visit_place}
use Rattle.ftl_order.specs.orders.Pairs.{IsPair, Pair}
use Rattle.ftl_order.proofs.dependencies.ReadsThere.{of_parts}
use Rattle.ftl_order.proofs.dependencies.Writers.{writers_of_pairs}
use Rattle.ftl_example.specs.pairs.FirstPair.{placed, placed_at}
use Rattle.ftl_example.proofs.pairs.FirstPairs.{along_some, get_map, get_numbered, length-placed, length-read, no_fault, placed_in, placed_reads, snd_read, some_fault}
use Rattle.ftl_nests.specs.Nests.{NestPlacing}
use Rattle.ftl_regions.specs.pairs.NestReads.{first_refused, is_nest_ordered, refused_reads, refused_writer}
use Rattle.ftl_regions.proofs.pairs.NestTests.{pair_tells}
use Rattle.ftl_example.specs.nests.pairs.NestPair.{IsNestOrderedPair, IsNestPairOf}

module _ (g : AttributeGrammar) (at : NestPlacing) (law : IsLawful g) where
  abbrev passes : DepRead → (writer reader : RuleName) → Bool
  passes d v w = is_nest_ordered at d (visit_place g v) (visit_place g w)

  -- a writer that the schedule doesn't have earlier makes a pair that is not ordered
  pub refused_pair : (w : RuleName) → IsRule g w → (part : Part) (r : Read)
      → Contains (reads_in (rule_named g w).parts part) r → (v : ℕ) → refused_writer g at w (dep_read g r) ≡ Some v
      → (pair : Pair) × (pair.reader ≡ w) × (pair.writer ≡ get_or g.rules v (for_self 0 0)) × (pair.part ≡ part)
      × (pair.read ≡ r) × IsPair g pair × (IsNestOrderedPair g at pair → ⊥)
  refused_pair w rule part r in_part v e =
      let k = class_of_rule w in
      let p = position-Some
      (λ u. is_writer g k (dep_read g r) u && not (passes (dep_read g r) u w)) g.rules v (for_self 0 0) e in
      let u = get_or g.rules v (for_self 0 0) in
      let both = and_parts (is_writer g k (dep_read g r) u) (not (passes (dep_read g r) u w)) p.1 in
      let there = Contains-get_or g.rules v (for_self 0 0) p.0 in
      let in_it = of_parts (rule_named g w).parts r part in_part in
      let somewhere = (writers_of_pairs g law w r rule in_it u (law.rules_are u there)).0 both.0 in
      let pair : Pair = record { reader = w; part = part; read = r; writer = u; runs_at = somewhere.0 } in
      let is : IsPair g pair = ((rule, in_part), somewhere.1) in (
        pair,
        refl,
        refl,
        refl,
        refl,
        is,
        (λ ordered.
            let test = (pair_tells g law at pair is).1 ordered in
            false≢true (subst (λ b. not b ≡ true) test both.1)),
      )

  pub pair_of_fault : (reader writer : ℕ) → first_refused g at ≡ Some (Unordered reader writer)
      → (pair : Pair) × IsNestPairOf g at reader writer pair
  pair_of_fault reader writer e =
      let d : ℕ × RuleName = (0, for_self 0 0) in
      let outer = along_some (refused_reads g at) (enumerate_from 0 g.rules) (Unordered reader writer) e in
      let numbered = get_numbered 0 g.rules outer.place d outer.within in
      by_rule outer.place numbered.0 (get_or (enumerate_from 0 g.rules) outer.place d) numbered.1 numbered.2 (outer.is d)
    where
      by_rule : (n : ℕ) → n < length g.rules → (x : ℕ × RuleName) → x.0 ≡ 0 + n → x.1 ≡ get_or g.rules n (for_self 0 0)
          → refused_reads g at x ≡ Some (Unordered reader writer) → (pair : Pair) × IsNestPairOf g at reader writer pair
      by_rule n known x number rule_is e =
          let w = x.1 in
          let parts = (rule_named g x.1).parts in
          let bottom : Part × Read = (plain_part, self_read 0) in
          let rule : IsRule g x.1 =
          subst (IsRule g) (sym rule_is) (law.rules_are (get_or g.rules n (for_self 0 0)) (Contains-get_or g.rules n (for_self 0 0) known)) in
          let a = along_some (λ d. fault_by x.0 (refused_writer g at x.1 d)) (rule_reads g x.1) (Unordered reader writer) e in
          let w0 = a.within in
          let l1 = length-read g (reads_of_parts parts) in
          let l2 = length-placed parts in
          let known_read : (j : ℕ) → j ≤ a.place → j < length (placed parts) = λ j le. omega (arith, w0, l1, l2, le) in
          let read_is : (j : ℕ) → j ≤ a.place → get_or (rule_reads g x.1) j (dep_read g (self_read 0)) ≡ dep_read g (placed_at parts j).1 =
          λ j le.
          get_map (dep_read g) (reads_of_parts parts) j (self_read 0) (dep_read g (self_read 0)) (let k = known_read j le in omega (arith, k, l2))
          ∙ ap (λ ys. dep_read g (get_or ys j (self_read 0))) (sym (placed_reads parts))
          ∙ ap (dep_read g) (get_map snd_read (placed parts) j bottom (self_read 0) (known_read j le)) in
          let here = some_fault x.0 (refused_writer g at x.1 (dep_read g (placed_at parts a.place).1)) reader writer
          (subst (λ y. fault_by x.0 (refused_writer g at x.1 y) ≡ Some (Unordered reader writer)) (read_is a.place (omega arith))
          (a.is (dep_read g (self_read 0)))) in
          let pr = refused_pair x.1 rule (placed_at parts a.place).0 (placed_at parts a.place).1
          (placed_in parts (placed_at parts a.place) (Contains-get_or (placed parts) a.place bottom (known_read a.place (omega arith))))
          writer here.0 in
          let same : n ≡ reader = (let h = here.1 in omega (arith, number, h)) in (
            pr.0,
            record {
              reader_is = pr.1 ∙ rule_is ∙ ap (λ m. get_or g.rules m (for_self 0 0)) same;
              writer_is = pr.2;
              is = pr.5;
              unordered = pr.6;
              place = a.place;
              there =
                  ap (λ z. placed_at (rule_named g z).parts a.place) pr.1
                  ∙ pair_is pr.0 (placed_at parts a.place) pr.3 pr.4;
              first = λ j less.
                  subst (λ z. refused_writer g at z (dep_read g (placed_at (rule_named g z).parts j).1) ≡ None) (sym pr.1)
                  (no_fault x.0 (refused_writer g at x.1 (dep_read g (placed_at parts j).1))
                  (subst (λ y. fault_by x.0 (refused_writer g at x.1 y) ≡ None) (read_is j (omega (arith, less)))
                  (a.none j (dep_read g (self_read 0)) less)));
            },
          )
        where
          pair_is : (pair : Pair) (y : Part × Read) → pair.part ≡ y.0 → pair.read ≡ y.1 → y ≡ (pair.part, pair.read)
          pair_is pair (part, r) e f = ap (λ z. (z, r)) (sym e) ∙ ap (λ z. (pair.part, z)) (sym f)
