use Rattle.std.proofs.Common.{◌≡◌, ℕ, true, refl, sym, ◌∙◌, ap, subst, Contains, Option, Some, None, eq-eqb}
use Rattle.std.specs.List.{range_with_len}
use Rattle.ftl_deps.specs.parts.RuleParts.{parts_named, read_meant}
use Rattle.ftl_deps.specs.reads.Meant.{meant}
use Rattle.ftl_deps.specs.reads.Products.{name_of_info}
use Rattle.ftl_example.specs.declared.pairs.refused_pair.RefusedPair.{RefusedPair}
use Rattle.ftl_example.specs.declared.pairs.refused_pair.RulePart.TheVariants.{With}
use Rattle.ftl_example.specs.pairs.PairMeant.{is_child, pair_meant, part_meant}
use Rattle.ftl_example.specs.shows.Shows.{at_hand}
use Rattle.ftl_example.specs.sizes.Place.{goes_over}
use Rattle.ftl_example.specs.sizes.PlaceTable.{IsKnownPair}
use Rattle.ftl_step_value.proofs.limits.reads.RuleReads.{rule_may_stand}
use Rattle.ftl_model.specs.layout.AttributeGrammar.{AttributeGrammar, Parts, reads_in, with_part}
use Rattle.ftl_model.specs.layout.Path.{class_at, kids_at, node_at}
use Rattle.ftl_model.specs.layout.Solves.{rule_named}
use Rattle.ftl_order.specs.orders.Pairs.{IsPair}
use Rattle.ftl_order.specs.steps.Steps.{rule_at}
use Rattle.ftl_visit.specs.step_reads.StepReads.{AreOfChildren}
use Rattle.ftl_example.proofs.examples.HandKids.{over_child, over_some, with_hand}
use Rattle.ftl_example.proofs.examples.shown_steps.kids_of_fold.Goals as goal

module _ (g : AttributeGrammar) (pair : RefusedPair) (is : IsPair g (pair_meant pair)) (known : IsKnownPair g pair)
    (part : pair.part ≡ With) where
  abbrev parts : Parts
  parts = (rule_named g (name_of_info pair.reader)).parts

  in_step : Contains (reads_in parts with_part) (read_meant pair.read)
  in_step = subst (λ p. Contains (reads_in parts (part_meant p)) (read_meant pair.read)) part is.0.1

  over_at : (n : ℕ) → goes_over parts with_part n ≡ is_child pair.over n
  over_at n = subst (λ p. goes_over parts (part_meant p) n ≡ is_child pair.over n) part (known.over n)

  over_here : (child : ℕ) → pair.over ≡ Some child → goes_over parts with_part child ≡ true
  over_here child e = over_at child ∙ ap (λ (o : Option ℕ). is_child o child) e ∙ eq-eqb child child refl

  hand_is : (kids : ℕ → ℕ) (k child : ℕ) → pair.over ≡ Some child
      → at_hand parts (part_meant pair.part) kids k ≡ range_with_len 0 (kids child)
  hand_is kids k child e =
      ap (λ p. at_hand parts (part_meant p) kids k) part
      ∙ with_hand kids k (read_meant pair.read) parts child in_step (over_here child e)

  never_none : pair.over ≡ None → ⊥
  never_none e = over_some parts (read_meant pair.read) pair.over in_step over_at e

pub kid_count-requires : goal.kid_count-requires
kid_count-requires c =
    let g = meant c.args.tree.now.checked in
    let t = c.args.tree.now.tree in
    let pair = c.args.pair in
    let x = c.args.reader in
    let child = c.in-Some.child in
    let class = class_at t (node_at t x.node) in
    let named : AreOfChildren (g.child_count class) (parts_named g (rule_at g x.rule)) =
    (rule_may_stand g c.requires.sound class x.rule c.requires.reader.rule c.requires.reader.class).children in
    let may : AreOfChildren (g.child_count class) (rule_named g (name_of_info pair.reader)).parts =
    subst (λ w. AreOfChildren (g.child_count class) (parts_named g w)) c.requires.rule named in
    record {
      at =
          record {
            known = c.requires.reader.node;
            declared =
                over_child (rule_named g (name_of_info pair.reader)).parts (read_meant pair.read) child (g.child_count class)
                (in_step g pair c.requires.pair c.requires.known c.requires.part) may
                (over_here g pair c.requires.pair c.requires.known c.requires.part child c.in-Some.is);
          };
    }

pub returns-in-Some : goal.returns-in-Some
returns-in-Some c =
    let g = meant c.args.tree.now.checked in
    let t = c.args.tree.now.tree in
    let x = c.args.reader in
    record {
      hand =
          ap (range_with_len 0) c.kid_count.ensures.count
          ∙ sym (hand_is g c.args.pair c.requires.pair c.requires.known c.requires.part (kids_at t (node_at t x.node)) x.kid
          c.in-Some.child c.in-Some.is);
    }

pub returns-in-None : goal.returns-in-None
returns-in-None c =
    absurd (never_none (meant c.args.tree.now.checked) c.args.pair c.requires.pair c.requires.known c.requires.part
    c.in-None.is)
