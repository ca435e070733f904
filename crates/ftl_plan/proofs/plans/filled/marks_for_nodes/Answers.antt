use Rattle.std.proofs.Common.{◌≡◌, ℕ, ◌+◌, ◌<◌, Bool, true, false, List, ap, sym, ◌∙◌, get_or, length, map, subst, ⊎_elim, arith}
use Rattle.std.proofs.lemmas.Bool.{cases_eq}
use Rattle.std.specs.List.{range_with_len}
use Rattle.std.proofs.lemmas.List.FromFn.{length-map-range_with_len}
use Rattle.ftl_deps.specs.reads.Meant.{meant}
use Rattle.ftl_step_value.proofs.limits.reads.Entries.{class_in_range, entry}
use Rattle.ftl_model.specs.layout.AttributeGrammar.{attributes_of}
use Rattle.ftl_model.specs.layout.Path.{class_at, node_at}
use Rattle.ftl_nest_check.specs.stages.Nested.{nests_of}
use Rattle.ftl_nests.specs.Nests.{outer_schedule}
use Rattle.ftl_plan.specs.plans.FilledStages.{AreStagesSet, IsSet}
use Rattle.ftl_plan.proofs.plans.Marking.{stages_stay}
use Rattle.ftl_plan.proofs.plans.filled.marks_for_nodes.Goals as goal
use Rattle.ftl_plan.proofs.plans.filled.marks_for_nodes.Goals.{then-index, else-index}

pub marks_of_classes-requires-clause-count : goal.marks_of_classes-requires-clause-count
marks_of_classes-requires-clause-count c =
    let g = meant c.args.tree.now.checked in
    let rows : c.as_slice-rows.result.now ≡ map (attributes_of g) (range_with_len 0 g.class_count) =
    c.as_slice-rows.ensures ∙ c.requires.tables.attributes in
    ap length rows ∙ length-map-range_with_len (attributes_of g) 0 g.class_count

pub loop-class-preserved : goal.loop-class-preserved
loop-class-preserved c =
    let g = meant c.args.tree.now.checked in
    let rows : c.as_slice-rows.result.now ≡ map (attributes_of g) (range_with_len 0 g.class_count) =
    c.as_slice-rows.ensures ∙ c.requires.tables.attributes in
    let s = outer_schedule (nests_of c.args.accepted.now.schedule) in
    let classes = c.in_ok-classes.classes.items in
    let old = c.loop-class.marks.items in
    let class = c.loop-class.class in
    let test = c.loop-class-test.true in
    let count = ap length rows ∙ length-map-range_with_len (attributes_of g) 0 g.class_count in
    let (long, before) = c.loop-class.invariant in
    let all : List Bool → Type 0 =
    λ xs. (length xs ≡ c.args.count)
    × ((k : ℕ) → k < class + 1 → IsSet classes k → AreStagesSet s (attributes_of g k) xs) in
    elim c.if-index.branch [
      | then-index w ↦
          let new = w.set_stages.new.marks.items in
          let set = w.set_stages.ensures in
          let at = entry (attributes_of g) g.class_count c.as_slice-rows.result.now class rows
          (omega (arith, test, count)) in
          let row : w.as_slice.result.now ≡ attributes_of g class =
          w.as_slice.ensures ∙ w.index-rows-class.is ∙ at.is w.index-rows-class.result in
          let here : AreStagesSet s (attributes_of g class) new = subst (λ xs. AreStagesSet s xs new) row set.set in
          let kept : all new = (
            set.count ∙ long,
            (λ k below is.
                ⊎_elim (λ same. subst (λ m. AreStagesSet s (attributes_of g m) new) (sym same) here)
                (λ other.
                stages_stay s (attributes_of g k) old new set.count set.stay
                (before k (omega (arith, below, other)) is))
                (cases_eq k class)),
          ) in
          subst all (sym (ap (λ v. v.items) w.marks-is)) kept
      | else-index w ↦
          let none : get_or classes class false ≡ false =
          sym (subst (λ b. b ≡ get_or classes class b) w.if-index.false c.index.ensures) in
          let kept : all old = (
            long,
            (λ k below is.
                ⊎_elim
                (λ same.
                let both : true ≡ false = sym is ∙ ap (λ m. get_or classes m false) same ∙ none in
                absurd (let z : ⊥ = cc in z))
                (λ other. before k (omega (arith, below, other)) is)
                (cases_eq k class)),
          ) in
          subst all (sym (ap (λ v. v.items) w.marks-is)) kept
    ]

pub returns : goal.returns
returns c =
    let t = c.args.tree.now in
    let g = meant t.checked in
    let rows : c.as_slice-rows.result.now ≡ map (attributes_of g) (range_with_len 0 g.class_count) =
    c.as_slice-rows.ensures ∙ c.requires.tables.attributes in
    let count = ap length rows ∙ length-map-range_with_len (attributes_of g) 0 g.class_count in
    let past = c.loop-class-test.false in
    record {
      marks = record {
        count_is = c.loop-class.invariant.0;
        each = λ n known.
            let range = class_in_range g c.requires.sound.law t.tree c.node_count-nodes.ensures.is_tree n known in
            c.loop-class.invariant.1 (class_at t.tree (node_at t.tree n)) (omega (arith, range, count, past))
            (c.in_ok-classes.ensures.marks n known);
      };
    }
