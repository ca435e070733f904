use Rattle.std.proofs.Common.{◌≡◌, ◌+◌, ◌++◌, ◌∷◌, [], ℕ, List, filter, length, map, ap, ap₂, ◌∙◌, sym, arith}
use Rattle.std.specs.List.{range_with_len}
use Rattle.std.proofs.lemmas.List.FromFn.{length-map-range_with_len, map-range_with_len_more}
use Rattle.ftl_model.specs.layout.AttributeGrammar.{attributes_of, class_inputs, is_input}
use Rattle.ftl_deps.specs.reads.Meant.{meant}
use Rattle.ftl_step_value.proofs.limits.reads.Entries.{entry}
use Rattle.ftl_plan.proofs.plans.words.inputs_of_classes.Goals as goal

pub loop-attrs-preserved : goal.loop-attrs-preserved
loop-attrs-preserved c =
    let g = meant c.args.checked.now in
    let class = c.loop-attrs.attrs-index in
    let rows : c.as_slice-attrs-items.result.now ≡ map (attributes_of g) (range_with_len 0 g.class_count) =
    c.as_slice-attrs-items.ensures ∙ c.requires.tables.attributes in
    let test = c.loop-attrs-test.true in
    let long = ap length rows ∙ length-map-range_with_len (attributes_of g) 0 g.class_count in
    let at = entry (attributes_of g) g.class_count c.as_slice-attrs-items.result.now class rows
    (omega (arith, test, long)) in
    let is : c.in_ok-inputs_among.field-0 ≡ class_inputs g class =
    c.in_ok-inputs_among.ensures.inputs
    ∙ ap (filter (λ a. is_input (g.sort a))) (c.as_slice.ensures ∙ c.attrs-item.is ∙ at.is c.attrs-item.result) in
    c.in_ok-push.ensures.ok
    ∙ ap₂ (λ (xs : List (List ℕ)) (x : List ℕ). xs ++ x ∷ []) c.loop-attrs.invariant is
    ∙ sym
    (map-range_with_len_more (class_inputs g) 0 class class (let z : 0 + class ≡ class = omega arith in z))

pub returns : goal.returns
returns c =
    let g = meant c.args.checked.now in
    let rows : c.as_slice-attrs-items.result.now ≡ map (attributes_of g) (range_with_len 0 g.class_count) =
    c.as_slice-attrs-items.ensures ∙ c.requires.tables.attributes in
    let past = c.loop-attrs-test.false in
    let most = c.loop-attrs.auto.attrs-index-end in
    let long = ap length rows ∙ length-map-range_with_len (attributes_of g) 0 g.class_count in
    let all : c.loop-attrs.attrs-index ≡ g.class_count = omega (arith, past, most, long) in
    record { inputs = c.loop-attrs.invariant ∙ ap (λ n. map (class_inputs g) (range_with_len 0 n)) all }
