-- The read that is found first is that of the first fault of a schedule with nests, and of its pair.
use Rattle.std.proofs.Common.{◌≡◌, ℕ, ◌+◌, ◌<◌, ◌&&◌, not, sym, ◌∙◌, ap, subst, arith, [], length, get_or, Some, None}
use Rattle.std.specs.List.{enumerate_from}
use Rattle.std.proofs.lemmas.List.Elements.{Contains-get_or}
use Rattle.std.proofs.lemmas.List.FromFn.{get_or-enumerate_from, length-enumerate_from}
use Rattle.std.proofs.lemmas.List.Quantifiers.{position-Some}
use Rattle.ftl_model.specs.layout.AttributeGrammar.{AttributeGrammar, Part, Parts, Read, RuleName, for_self, plain_part, self_read}
use Rattle.ftl_model.specs.layout.Solves.{rule_named}
use Rattle.ftl_order.specs.declared.dependencies.dep_read.DepRead.{DepRead}
use Rattle.ftl_order.specs.declared.faults.fault.VerifyFault.TheVariants.{Unordered}
use Rattle.ftl_order.specs.dependencies.DepLaws.{where_of}
use Rattle.ftl_order.specs.dependencies.DepReads.{dep_read, reads_of_parts, rule_reads}
use Rattle.ftl_order.specs.dependencies.Writers.{is_writer}
use Rattle.ftl_order.specs.faults.FirstFault.{fault_by}
use Rattle.ftl_order.specs.orders.Lawful.{IsLawful, IsRule, class_of_rule}
use Rattle.ftl_order.specs.orders.Ordered.{visit_place}
use Rattle.ftl_order.specs.orders.Pairs.{IsPair, Pair, Where}
use Rattle.ftl_order.proofs.dependencies.Writers.{sites_say}
use Rattle.ftl_deps.specs.parts.RuleParts.{read_meant}
use Rattle.ftl_deps.specs.reads.Products.{name_of_info}
use Rattle.ftl_schedule.specs.check.RuleAt.{read_at, rule_at}
use Rattle.ftl_example.specs.declared.pairs.refused_pair.RefusedPair.{RefusedPair}
use Rattle.ftl_example.specs.pairs.FirstPair.{placed, placed_at}
use Rattle.ftl_example.specs.pairs.FirstPlace.{read_count}
use Rattle.ftl_example.specs.pairs.PairMeant.{pair_meant, part_meant, where_meant}
use Rattle.ftl_example.proofs.pairs.FirstPairs.{get_map, length-placed, length-read, placed_in, placed_reads, snd_read}
use Rattle.ftl_example.proofs.pairs.FoundPair.{along_at, along_none}
use Rattle.ftl_nests.specs.Nests.{NestPlacing}
use Rattle.ftl_regions.specs.pairs.NestReads.{first_refused, is_nest_ordered, refused_reads, refused_writer}
use Rattle.ftl_example.specs.nests.pairs.FirstRefused.{HasNone, IsFirstRead}
use Rattle.ftl_example.specs.nests.pairs.NestPair.{IsNestOrderedPair, IsNestPairOf}
use Rattle.ftl_example.proofs.nests.pairs.NestPairs.{refused_pair}

module _ (g : AttributeGrammar) (at : NestPlacing) where
  abbrev any_read : DepRead
  any_read = read_at [] 0

  rule_none : (m : ℕ) → HasNone g at m (read_count g m) → refused_reads g at (m, rule_at g m) ≡ None
  rule_none m none =
      along_none (λ d. fault_by m (refused_writer g at (rule_at g m) d)) (rule_reads g (rule_at g m)) any_read
      (λ j less. ap (fault_by m) (none j less))

  entry_is : (n : ℕ) → n < length g.rules
      → get_or (enumerate_from 0 g.rules) n (0, for_self 0 0) ≡ (n, rule_at g n)
  entry_is n known =
      get_or-enumerate_from 0 g.rules n (0, for_self 0 0) known
      ∙ ap (λ m. (m, rule_at g n)) (let z : 0 + n ≡ n = omega arith in z)

  pub none_first : ((m : ℕ) → m < length g.rules → HasNone g at m (read_count g m)) → first_refused g at ≡ None
  none_first none =
      along_none (refused_reads g at) (enumerate_from 0 g.rules) (0, for_self 0 0)
      (λ m less.
      let known : m < length g.rules = (let l = length-enumerate_from 0 g.rules in omega (arith, l, less)) in
      ap (refused_reads g at) (entry_is m known) ∙ rule_none m (none m known))

  module _ (r place w : ℕ) (first : IsFirstRead g at r place w) where
    pub first_is : first_refused g at ≡ Some (Unordered r w)
    first_is =
        let known = first.known in
        along_at (refused_reads g at) (enumerate_from 0 g.rules) r (0, for_self 0 0) (Unordered r w)
        (let l = length-enumerate_from 0 g.rules in omega (arith, l, known))
        (λ m less. ap (refused_reads g at) (entry_is m (omega (arith, less, known))) ∙ rule_none m (first.earlier m less))
        (ap (refused_reads g at) (entry_is r known)
        ∙ along_at (λ d. fault_by r (refused_writer g at (rule_at g r) d)) (rule_reads g (rule_at g r)) place any_read
        (Unordered r w) first.in_rule.within (λ j less. ap (fault_by r) (first.in_rule.first j less))
        (ap (fault_by r) first.in_rule.here))

    abbrev parts : Parts
    parts = (rule_named g (rule_at g r)).parts

    pub place_in : place < length (placed (rule_named g (rule_at g r)).parts)
    place_in =
        let w0 = first.in_rule.within in
        let l1 = length-read g (reads_of_parts parts) in
        let l2 = length-placed parts in
        omega (arith, w0, l1, l2)

    -- the read at a place, as the table has it
    pub read_is : (j : ℕ) → j < length (placed (rule_named g (rule_at g r)).parts)
        → read_at (rule_reads g (rule_at g r)) j ≡ dep_read g (placed_at (rule_named g (rule_at g r)).parts j).1
    read_is j less =
        let l2 = length-placed parts in
        get_map (dep_read g) (reads_of_parts parts) j (self_read 0) any_read (omega (arith, less, l2))
        ∙ ap (λ ys. dep_read g (get_or ys j (self_read 0))) (sym (placed_reads parts))
        ∙ ap (dep_read g) (get_map snd_read (placed parts) j (plain_part, self_read 0) (self_read 0) less)

    module _ (law : IsLawful g) (p : RefusedPair) (reader : name_of_info p.reader ≡ rule_at g r)
        (writer : name_of_info p.writer ≡ rule_at g w)
        (is : placed_at (rule_named g (rule_at g r)).parts place ≡ (part_meant p.part, read_meant p.read))
        (node : (x : Where) → where_of (read_at (rule_reads g (rule_at g r)) place).site ≡ Some x → where_meant p.runs_at ≡ x)
      where
        rule : IsRule g (rule_at g r)
        rule = law.rules_are (rule_at g r) (Contains-get_or g.rules r (for_self 0 0) first.known)

        abbrev pair_by : RuleName → Part → Read → RuleName → Where → Pair
        pair_by a b c d e = record { reader = a; part = b; read = c; writer = d; runs_at = e }

        pub found_pair : IsNestPairOf g at r w (pair_meant p)
        found_pair =
            let y = placed_at parts place in
            let there = read_is place place_in in
            let up = refused_pair g at law (rule_at g r) rule y.0 y.1
            (placed_in parts y (Contains-get_or (placed parts) place (plain_part, self_read 0) place_in)) w
            (ap (refused_writer g at (rule_at g r)) (sym there) ∙ first.in_rule.here) in
            let pr = up.0 in
            let somewhere = sites_say g law (class_of_rule pr.reader) pr.read pr.runs_at pr.writer up.5.1 in
            let runs = node pr.runs_at (ap (λ (d : DepRead). where_of d.site) (there ∙ ap (dep_read g) (sym up.4)) ∙ somewhere) in
            let same : pr ≡ pair_meant p =
            ap (λ x. pair_by x pr.part pr.read pr.writer pr.runs_at) (up.1 ∙ sym reader)
            ∙ ap (λ x. pair_by (name_of_info p.reader) x pr.read pr.writer pr.runs_at) (up.3 ∙ ap (λ (z : Part × Read). z.0) is)
            ∙ ap (λ x. pair_by (name_of_info p.reader) (part_meant p.part) x pr.writer pr.runs_at) (up.4 ∙ ap (λ (z : Part × Read). z.1) is)
            ∙ ap (λ x. pair_by (name_of_info p.reader) (part_meant p.part) (read_meant p.read) x pr.runs_at) (up.2 ∙ sym writer)
            ∙ ap (λ x. pair_by (name_of_info p.reader) (part_meant p.part) (read_meant p.read) (name_of_info p.writer) x) (sym runs) in
            record {
              reader_is = reader;
              writer_is = writer;
              is = subst (IsPair g) same up.5;
              unordered = subst (λ x. IsNestOrderedPair g at x → ⊥) same up.6;
              place = place;
              there = ap (λ v. placed_at (rule_named g v).parts place) reader ∙ is;
              first = λ j less.
                  let low : j < length (placed parts) = (let q = place_in in omega (arith, less, q)) in
                  subst (λ v. refused_writer g at v (dep_read g (placed_at (rule_named g v).parts j).1) ≡ None) (sym reader)
                  (ap (refused_writer g at (rule_at g r)) (sym (read_is j low)) ∙ first.in_rule.first j less);
            }

pub writer_there : (g : AttributeGrammar) (at : NestPlacing) (r place w : ℕ) → IsFirstRead g at r place w → w < length g.rules
writer_there g at r place w first =
    (position-Some
    (λ v. is_writer g (class_of_rule (rule_at g r)) (read_at (rule_reads g (rule_at g r)) place) v
    && not (is_nest_ordered at (read_at (rule_reads g (rule_at g r)) place) (visit_place g v) (visit_place g (rule_at g r)))) g.rules w (for_self 0 0)
    first.in_rule.here).0
