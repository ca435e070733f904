use Rattle.std.proofs.Common.{◌≡◌, ◌+◌, ap, arith, cond, length, suc, ◌∙◌, [], ◌∷◌, length-append}
use Rattle.ftl_model.specs.layout.AttributeGrammar.{is_input}
use Rattle.ftl_meaning.specs.grammars.GrammarOf.{sort_of}
use Rattle.ftl_grammar.specs.declared.syntax.rules.AttrKind.{AttrKind}
use Rattle.ftl_meaning.specs.declared.faults.info.AttrInfo.{AttrInfo}
use Rattle.ftl_deps.specs.reads.Meant.{meant}
use Rattle.ftl_deps.proofs.reads.AttrKinds.{kind_within}
use Rattle.ftl_checked.proofs.lookup.AttrInfos.{attribute_count_is}
use Rattle.ftl_tree.specs.rows.ClassRows.{inputs_below}
use Rattle.ftl_tree.proofs.rows.RowWidths.{pushed}
use Rattle.ftl_tree.proofs.trees.Classes.{at_most_one, passed_next}
use Rattle.ftl_tree.proofs.trees.input_counts.counts_of_inputs.Goals as goal

pub loop-attr-preserved : goal.loop-attr-preserved
loop-attr-preserved c =
    let m = meant c.args.checked.now in
    let g = c.args.checked.now.grammar in
    let a = c.loop-attr.attr in
    let inv = c.loop-attr.invariant in
    let kind = ap (λ (i : AttrInfo). i.kind) c.attr.ensures.info ∙ kind_within g a (omega (arith, c.loop-attr-test.true, c.attr_count-attr-end.ensures.count)) in
    let one = c.one_if_input-count.ensures.one ∙ ap (λ (k : AttrKind). cond (is_input (sort_of k)) 1 0) kind in
    record {
      places = omega (arith, ap length c.in_ok-push.ensures.items, length-append c.loop-attr.counts.items (c.loop-attr.count ∷ []), inv.places);
      each = pushed (inputs_below m) c.loop-attr.counts.items _ c.loop-attr.count a c.in_ok-push.ensures.items inv.places inv.here inv.each;
      here = omega (arith, inv.here, one, passed_next (λ b. is_input (m.sort b)) a);
      few = omega (arith, inv.few, one, at_most_one (is_input (m.sort a)));
    }

pub returns : goal.returns
returns c =
    let m = meant c.args.checked.now in
    let g = c.args.checked.now.grammar in
    let a = c.loop-attr.attr in
    let inv = c.loop-attr.invariant in
    let all : a ≡ m.attribute_count = omega (arith, c.loop-attr-test.false, c.loop-attr.auto.attr-end, c.attr_count-attr-end.ensures.count, attribute_count_is g) in
    let next : suc m.attribute_count ≡ a + 1 = omega (arith, all) in
    record {
      counts = record {
        length_is = omega (arith, ap length c.in_ok-push-2.ensures.items, length-append c.loop-attr.counts.items (c.loop-attr.count ∷ []), inv.places, all);
        each = λ b h. pushed (inputs_below m) c.loop-attr.counts.items _ c.loop-attr.count a c.in_ok-push-2.ensures.items inv.places inv.here inv.each b (omega (arith, h, all));
      };
    }
