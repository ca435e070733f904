-- The read that is found first is that of the first fault, and of its pair.
use Rattle.std.proofs.Common.{◌≡◌, ℕ, zero, suc, ◌+◌, ◌<◌, refl, sym, ◌∙◌, ap, subst, arith, List, [], ◌∷◌, length, get_or, map, Option, None, Some, not, ◌&&◌}
use Rattle.std.specs.List.{enumerate_from}
use Rattle.std.specs.Option.{option_or}
use Rattle.std.proofs.lemmas.List.{get_or-map, length-map}
use Rattle.std.proofs.lemmas.List.Quantifiers.{position-Some}
use Rattle.std.proofs.lemmas.List.Elements.{Contains-get_or}
use Rattle.std.proofs.lemmas.List.FromFn.{get_or-enumerate_from, length-enumerate_from}
use Rattle.ftl_model.specs.lists.FirstAlong.{first_along}
use Rattle.ftl_model.specs.layout.AttributeGrammar.{AttributeGrammar, Part, Parts, Read, RuleName, for_child, for_self, plain_part, self_read}
use Rattle.ftl_model.specs.layout.Solves.{rule_named}
use Rattle.ftl_order.specs.orders.Lawful.{IsLawful, IsRule, class_of_rule}
use Rattle.ftl_order.specs.orders.Ordered.{IsOrderedPair}
use Rattle.ftl_order.specs.orders.Pairs.{IsPair, Pair, Where}
use Rattle.ftl_order.specs.orders.Schedule.{Placing}
use Rattle.ftl_order.specs.dependencies.DepLaws.{where_of}
use Rattle.ftl_order.specs.dependencies.DepReads.{dep_read, reads_of_parts, rule_reads}
use Rattle.ftl_order.specs.declared.dependencies.dep_read.DepRead.{DepRead}
use Rattle.ftl_order.specs.declared.faults.fault.VerifyFault.{VerifyFault}
use Rattle.ftl_order.specs.declared.faults.fault.VerifyFault.TheVariants.{Unordered}
use Rattle.ftl_order.specs.faults.FirstFault.{fault_by, first_unordered, reads_fault, unordered_writer}
use Rattle.ftl_order.proofs.dependencies.Writers.{sites_say}
use Rattle.ftl_schedule.specs.check.RuleAt.{read_at, rule_at}
use Rattle.ftl_deps.specs.reads.Products.{name_of_info}
use Rattle.ftl_order.specs.dependencies.Writers.{is_writer}
use Rattle.ftl_order.specs.faults.OrderedReads.{is_ordered_read}
use Rattle.ftl_meaning.specs.declared.faults.info.RuleInfo.{RuleInfo}
use Rattle.ftl_deps.specs.declared.parts.rule_parts.RuleParts.{RuleParts}
use Rattle.ftl_deps.specs.parts.RuleParts.{all_parts, parts_meant, parts_named, read_meant}
use Rattle.ftl_example.proofs.pairs.InfoClass.{class_is}
use Rattle.ftl_example.specs.declared.pairs.refused_pair.RefusedPair.{RefusedPair}
use Rattle.ftl_example.specs.pairs.FirstPair.{IsPairOf, placed, placed_at}
use Rattle.ftl_example.specs.pairs.FirstPlace.{HasNone, IsFirstRead, read_count}
use Rattle.ftl_example.specs.pairs.PairMeant.{pair_meant, part_meant, where_meant}
use Rattle.ftl_example.proofs.pairs.FirstPairs.{get_map, length-placed, length-read, placed_in, placed_reads, snd_read, unordered_pair, unordered_parts}

-- ---- along a list

pub along_at : {X : Type 0} (f : X → Option VerifyFault) (xs : List X) (n : ℕ) (d : X) (x : VerifyFault) → n < length xs
    → ((m : ℕ) → m < n → f (get_or xs m d) ≡ None) → f (get_or xs n d) ≡ Some x → first_along f xs ≡ Some x
along_at f [] n d x less none is = absurd (omega (arith, less))
along_at f (y ∷ ys) zero d x less none is = ap (λ o. option_or o (first_along f ys)) is
along_at f (y ∷ ys) (suc n) d x less none is =
    ap (λ o. option_or o (first_along f ys)) (none 0 (omega arith))
    ∙ along_at f ys n d x (omega (arith, less)) (λ m l. none (suc m) (omega (arith, l))) is

pub along_none : {X : Type 0} (f : X → Option VerifyFault) (xs : List X) (d : X)
    → ((m : ℕ) → m < length xs → f (get_or xs m d) ≡ None) → first_along f xs ≡ None
along_none f [] d none = refl
along_none f (y ∷ ys) d none =
    ap (λ o. option_or o (first_along f ys)) (none 0 (omega arith))
    ∙ along_none f ys d (λ m l. none (suc m) (omega (arith, l)))

module _ (g : AttributeGrammar) (at : Placing) where
  abbrev any_read : DepRead
  any_read = read_at [] 0

  rule_none : (m : ℕ) → HasNone g at m (read_count g m) → reads_fault g at (m, rule_at g m) ≡ None
  rule_none m none =
      along_none (λ d. fault_by m (unordered_writer g at (rule_at g m) d)) (rule_reads g (rule_at g m)) any_read
      (λ j less. ap (fault_by m) (none j less))

  entry_is : (n : ℕ) → n < length g.rules
      → get_or (enumerate_from 0 g.rules) n (0, for_self 0 0) ≡ (n, rule_at g n)
  entry_is n known =
      get_or-enumerate_from 0 g.rules n (0, for_self 0 0) known
      ∙ ap (λ m. (m, rule_at g n)) (let z : 0 + n ≡ n = omega arith in z)

  pub none_first : ((m : ℕ) → m < length g.rules → HasNone g at m (read_count g m)) → first_unordered g at ≡ None
  none_first none =
      along_none (reads_fault g at) (enumerate_from 0 g.rules) (0, for_self 0 0)
      (λ m less.
      let known : m < length g.rules = (let l = length-enumerate_from 0 g.rules in omega (arith, l, less)) in
      ap (reads_fault g at) (entry_is m known) ∙ rule_none m (none m known))

  module _ (r place w : ℕ) (first : IsFirstRead g at r place w) where
    pub first_is : first_unordered g at ≡ Some (Unordered r w)
    first_is =
        let known = first.known in
        along_at (reads_fault g at) (enumerate_from 0 g.rules) r (0, for_self 0 0) (Unordered r w)
        (let l = length-enumerate_from 0 g.rules in omega (arith, l, known))
        (λ m less. ap (reads_fault g at) (entry_is m (omega (arith, less, known))) ∙ rule_none m (first.earlier m less))
        (ap (reads_fault g at) (entry_is r known)
        ∙ along_at (λ d. fault_by r (unordered_writer g at (rule_at g r) d)) (rule_reads g (rule_at g r)) place any_read
        (Unordered r w) first.in_rule.within (λ j less. ap (fault_by r) (first.in_rule.first j less))
        (ap (fault_by r) first.in_rule.here))

    abbrev parts : Parts
    parts = (rule_named g (rule_at g r)).parts

    pub place_in : place < length (placed (rule_named g (rule_at g r)).parts)
    place_in =
        let w0 = first.in_rule.within in
        let l1 = length-read g (reads_of_parts parts) in
        let l2 = length-placed parts in
        omega (arith, w0, l1, l2)

    -- the read at a place, as the table has it
    pub read_is : (j : ℕ) → j < length (placed (rule_named g (rule_at g r)).parts)
        → read_at (rule_reads g (rule_at g r)) j ≡ dep_read g (placed_at (rule_named g (rule_at g r)).parts j).1
    read_is j less =
        let l2 = length-placed parts in
        get_map (dep_read g) (reads_of_parts parts) j (self_read 0) any_read (omega (arith, less, l2))
        ∙ ap (λ ys. dep_read g (get_or ys j (self_read 0))) (sym (placed_reads parts))
        ∙ ap (dep_read g) (get_map snd_read (placed parts) j (plain_part, self_read 0) (self_read 0) less)

    module _ (law : IsLawful g) (p : RefusedPair) (reader : name_of_info p.reader ≡ rule_at g r)
        (writer : name_of_info p.writer ≡ rule_at g w)
        (is : placed_at (rule_named g (rule_at g r)).parts place ≡ (part_meant p.part, read_meant p.read))
        (node : (x : Where) → where_of (read_at (rule_reads g (rule_at g r)) place).site ≡ Some x → where_meant p.runs_at ≡ x)
      where
        rule : IsRule g (rule_at g r)
        rule = law.rules_are (rule_at g r) (Contains-get_or g.rules r (for_self 0 0) first.known)

        abbrev pair_by : RuleName → Part → Read → RuleName → Where → Pair
        pair_by a b c d e = record { reader = a; part = b; read = c; writer = d; runs_at = e }

        pub found_pair : IsPairOf g at r w (pair_meant p)
        found_pair =
            let y = placed_at parts place in
            let there = read_is place place_in in
            let up = unordered_pair g at law (rule_at g r) rule y.0 y.1
            (placed_in parts y (Contains-get_or (placed parts) place (plain_part, self_read 0) place_in)) w
            (ap (unordered_writer g at (rule_at g r)) (sym there) ∙ first.in_rule.here) in
            let pr = up.0 in
            let somewhere = sites_say g law (class_of_rule pr.reader) pr.read pr.runs_at pr.writer up.5.1 in
            let runs = node pr.runs_at (ap (λ (d : DepRead). where_of d.site) (there ∙ ap (dep_read g) (sym up.4)) ∙ somewhere) in
            let same : pr ≡ pair_meant p =
            ap (λ x. pair_by x pr.part pr.read pr.writer pr.runs_at) (up.1 ∙ sym reader)
            ∙ ap (λ x. pair_by (name_of_info p.reader) x pr.read pr.writer pr.runs_at) (up.3 ∙ ap (λ (z : Part × Read). z.0) is)
            ∙ ap (λ x. pair_by (name_of_info p.reader) (part_meant p.part) x pr.writer pr.runs_at) (up.4 ∙ ap (λ (z : Part × Read). z.1) is)
            ∙ ap (λ x. pair_by (name_of_info p.reader) (part_meant p.part) (read_meant p.read) x pr.runs_at) (up.2 ∙ sym writer)
            ∙ ap (λ x. pair_by (name_of_info p.reader) (part_meant p.part) (read_meant p.read) (name_of_info p.writer) x) (sym runs) in
            record {
              reader_is = reader;
              writer_is = writer;
              is = subst (IsPair g) same up.5;
              unordered = subst (λ x. IsOrderedPair g at x → ⊥) same up.6;
              place = place;
              there = ap (λ v. placed_at (rule_named g v).parts place) reader ∙ is;
              first = λ j less.
                  let low : j < length (placed parts) = (let q = place_in in omega (arith, less, q)) in
                  subst (λ v. unordered_writer g at v (dep_read g (placed_at (rule_named g v).parts j).1) ≡ None) (sym reader)
                  (ap (unordered_writer g at (rule_at g r)) (sym (read_is j low)) ∙ first.in_rule.first j less);
            }

-- ---- what code has of the rules

rule_class : (g : AttributeGrammar) (w : RuleName) → IsRule g w → class_of_rule w < g.class_count
rule_class g (for_self k a) h = h.0
rule_class g (for_child k c a) h = h.0

pub row_is : (g : AttributeGrammar) (rows : List RuleParts) → map parts_meant rows ≡ all_parts g → (r : ℕ)
    → r < length g.rules → (row : RuleParts) → row ≡ get_or rows r row
    → parts_meant row ≡ (rule_named g (rule_at g r)).parts
row_is g rows all r known row is =
    let long = sym (length-map rows parts_meant) ∙ ap length all ∙ length-map g.rules (parts_named g) in
    ap parts_meant is
    ∙ sym (get_or-map parts_meant rows r row (parts_meant row) (omega (arith, long, known)))
    ∙ ap (λ xs. get_or xs r (parts_meant row)) all
    ∙ get_or-map (parts_named g) g.rules r (for_self 0 0) (parts_meant row) known

pub writer_there : (g : AttributeGrammar) (at : Placing) (r place w : ℕ) → IsFirstRead g at r place w → w < length g.rules
writer_there g at r place w first =
    (position-Some
    (λ v. is_writer g (class_of_rule (rule_at g r)) (read_at (rule_reads g (rule_at g r)) place) v
    && not (is_ordered_read g at (read_at (rule_reads g (rule_at g r)) place) v (rule_at g r))) g.rules w (for_self 0 0)
    first.in_rule.here).0

pub class_there : (g : AttributeGrammar) → IsLawful g → (i : RuleInfo) (r : ℕ) → name_of_info i ≡ rule_at g r
    → r < length g.rules → i.class < g.class_count
class_there g law i r is known =
    subst (λ k. k < g.class_count) (sym (ap class_of_rule is) ∙ class_is i)
    (rule_class g (rule_at g r) (law.rules_are (rule_at g r) (Contains-get_or g.rules r (for_self 0 0) known)))

-- two that are the first fault are one
pub one_fault : (a b c d : ℕ) (o : Option VerifyFault) → o ≡ Some (Unordered a b) → o ≡ Some (Unordered c d) → (a ≡ c) × (b ≡ d)
one_fault a b c d o e f =
    let same : Some (Unordered a b) ≡ Some (Unordered c d) = sym e ∙ f in
    let inside : Unordered a b ≡ Unordered c d = cc same in
    unordered_parts a b c d inside

pub no_other : (o : Option VerifyFault) (a b : ℕ) → o ≡ None → o ≡ Some (Unordered a b) → ⊥
no_other o a b e f = let same : None ≡ Some (Unordered a b) = sym e ∙ f in let z : ⊥ = grind (arith, same) in z
