-- A rule gives what its parts give.
use Rattle.std.proofs.Common.{◌≡◌, ◌<◌, ◌++◌, ap, arith, flat_map, map, subst, sym, ◌∙◌}
use Rattle.std.proofs.lemmas.Grind.{common_steps}
use Rattle.ftl_model.specs.layout.AttributeGrammar.{Parts, first_part, first_then, fold_over, from_part, plain, plain_part, read_occurrences, seen_by, then_part, with_part}
use Rattle.ftl_model.specs.layout.Folds.{fold_kids}
use Rattle.ftl_model.specs.layout.Values.{Value, overflow}
use Rattle.std.specs.List.{range_with_len}
use Rattle.ftl_meaning.specs.grammars.Meaning.{sight}
use Rattle.ftl_deps.specs.parts.RuleParts.{parts_meant, read_meant}
use Rattle.ftl_deps.specs.declared.parts.rule_parts.RuleParts.TheVariants.{FirstThen, FoldOver, Plain}
use Rattle.ftl_visit.specs.rule_values.PartValues.{part_value, value_by_parts}
use Rattle.ftl_step_value.specs.value.Sites.{HasEvenStep, site_kids}
use Rattle.ftl_step_value.proofs.cells.KidCells.{first_seen, later_seen}
use Rattle.ftl_step_value.proofs.value.StepRuleValues.{value_first, value_later}
use Rattle.ftl_step_value.proofs.value.step.parts_value.Goals as goal

pub fold_value-requires-clause-even : goal.fold_value-requires-clause-even
fold_value-requires-clause-even c =
    let x = c.args.site.now in
    let child = c.in-FoldOver.child in
    let start = c.as_slice.result.now in
    let each = c.as_slice-in-FoldOver.result.now in
    let same : c.args.parts.now ≡ FoldOver child start each = grind (arith, common_steps) in
    let is : parts_meant c.args.parts.now ≡ fold_over child (map read_meant start) (map read_meant each) =
    ap parts_meant same in
    subst (λ (p : Parts). HasEvenStep (site_kids x) p) is c.requires.even

pub returns-in-Plain-clause-value : goal.returns-in-Plain-clause-value
returns-in-Plain-clause-value c = λ s values.
    let x = c.args.site.now in
    let kids = site_kids x in
    let k = x.step.kid in
    let value = part_value x.tree.now.checked x.step.rule in
    let reads = c.as_slice-reads.result.now in
    let same : c.args.parts.now ≡ Plain reads = grind (arith, common_steps) in
    let is : parts_meant c.args.parts.now ≡ plain (map read_meant reads) = ap parts_meant same in
    c.value.ensures.value s (values ∙ ap (λ (p : Parts). map s (read_occurrences p kids k)) is)
    ∙ ap (λ (v : Value). value plain_part (sight kids k s v)) c.overflow.ensures.value
    ∙ ap (λ (p : Parts). value_by_parts p value kids k s) (sym is)

pub returns-in-FirstThen-clause-value : goal.returns-in-FirstThen-clause-value
returns-in-FirstThen-clause-value c = λ s values.
    let x = c.args.site.now in
    let kids = site_kids x in
    let k = x.step.kid in
    let value = part_value x.tree.now.checked x.step.rule in
    let first = c.as_slice-reads-in-FirstThen.result.now in
    let later = c.in-FirstThen.field-1 in
    let same : c.args.parts.now ≡ FirstThen first later = grind (arith, common_steps) in
    let is : parts_meant c.args.parts.now ≡ first_then (map read_meant first) (map read_meant later) =
    ap parts_meant same in
    c.value-in-FirstThen.ensures.value s
    (values
    ∙ ap (λ (p : Parts). map s (read_occurrences p kids k)) is
    ∙ ap (map s) (first_seen kids k (map read_meant first) (map read_meant later) c.if-kid-eq0.true))
    ∙ ap (λ (v : Value). value first_part (sight kids k s v)) c.overflow-in-FirstThen.ensures.value
    ∙ sym (value_first value kids k (map read_meant first) (map read_meant later) s c.if-kid-eq0.true)
    ∙ ap (λ (p : Parts). value_by_parts p value kids k s) (sym is)

pub returns-in-FirstThen-2-clause-value : goal.returns-in-FirstThen-2-clause-value
returns-in-FirstThen-2-clause-value c = λ s values.
    let x = c.args.site.now in
    let kids = site_kids x in
    let k = x.step.kid in
    let value = part_value x.tree.now.checked x.step.rule in
    let first = c.in-FirstThen-2.field-0 in
    let later = c.as_slice-reads-in-FirstThen-2.result.now in
    let same : c.args.parts.now ≡ FirstThen first later = grind (arith, common_steps) in
    let is : parts_meant c.args.parts.now ≡ first_then (map read_meant first) (map read_meant later) =
    ap parts_meant same in
    let not_first = c.if-kid-eq0.false in
    let some : 0 < k = grind (arith, not_first) in
    c.value-in-FirstThen-2.ensures.value s
    (values
    ∙ ap (λ (p : Parts). map s (read_occurrences p kids k)) is
    ∙ ap (map s) (later_seen kids k (map read_meant first) (map read_meant later) some))
    ∙ ap (λ (v : Value). value then_part (sight kids k s v)) c.overflow-in-FirstThen-2.ensures.value
    ∙ sym (value_later value kids k (map read_meant first) (map read_meant later) s some)
    ∙ ap (λ (p : Parts). value_by_parts p value kids k s) (sym is)

pub returns-in-FoldOver-clause-value : goal.returns-in-FoldOver-clause-value
returns-in-FoldOver-clause-value c = λ s values.
    let x = c.args.site.now in
    let kids = site_kids x in
    let k = x.step.kid in
    let value = part_value x.tree.now.checked x.step.rule in
    let child = c.in-FoldOver.child in
    let start = c.as_slice.result.now in
    let each = c.as_slice-in-FoldOver.result.now in
    let same : c.args.parts.now ≡ FoldOver child start each = grind (arith, common_steps) in
    let is : parts_meant c.args.parts.now ≡ fold_over child (map read_meant start) (map read_meant each) =
    ap parts_meant same in
    let count : c.kid_count-kids.result ≡ kids child = c.kid_count-kids.ensures.count in
    c.fold_value.ensures.value s
    (values
    ∙ ap (λ (p : Parts). map s (read_occurrences p kids k)) is
    ∙ ap (λ m. map s (seen_by kids k (map read_meant start) ++ flat_map (λ n. seen_by kids n (map read_meant each))
    (range_with_len 0 m))) (sym count))
    ∙ ap (λ m. fold_kids m (λ (so_far : Value) n. value with_part (sight kids n s so_far))
    (value from_part (sight kids k s overflow))) count
    ∙ ap (λ (p : Parts). value_by_parts p value kids k s) (sym is)
