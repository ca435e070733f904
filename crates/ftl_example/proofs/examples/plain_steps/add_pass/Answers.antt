use Rattle.std.proofs.Common.{◌≡◌, ℕ, List, ◌++◌, length, sym, ◌∙◌, ap, subst, arith}
use Rattle.std.proofs.lemmas.Grind.{common_steps}
use Rattle.std.proofs.lemmas.List.{length-map}
use Rattle.std.proofs.lemmas.List.FromFn.{length-range_with_len}
use Rattle.std.specs.List.{range_with_len}
use Rattle.std.specs.Prelude.{OnOk}
use Rattle.ftl_visit.specs.visits.Visits.{visit_of}
use Rattle.ftl_cursors.specs.visits.NodeRanges.{nodes_in}
use Rattle.ftl_cursors.specs.visits.VisitSteps.{AreVisits, steps_of_nodes}
use Rattle.ftl_cursors.specs.declared.visits.nodes.NodeOrder.TheVariants.{Preorder, Reverse}
use Rattle.ftl_deps.specs.reads.Meant.{meant}
use Rattle.ftl_example.specs.examples.PlainSteps.{steps_of_kind, steps_of_pass}
use Rattle.ftl_model.specs.layout.Tree.{size}
use Rattle.ftl_meaning.specs.faults.Checked.{CheckedGrammar}
use Rattle.ftl_order.specs.declared.steps.step.Step.{Step}
use Rattle.ftl_schedule.specs.declared.syntax.kind.PassKind.{PassKind}
use Rattle.ftl_schedule.specs.declared.syntax.kind.PassKind.TheVariants.{BottomUp, InOrder, TopDown}
use Rattle.ftl_visit.specs.passes.VisitRows.{visits_of}
use Rattle.ftl_visit.specs.declared.visits.visit_op.VisitOp.{VisitOp}
use Rattle.ftl_example.proofs.examples.plain_steps.add_pass.Goals as goal

-- the visits by what was asked for
visits_by : (visits : List (List VisitOp)) (of checked : CheckedGrammar) (kind k : PassKind) (list attributes : List ℕ)
    → visits ≡ visits_of (meant of) kind list → of ≡ checked → kind ≡ k → list ≡ attributes
    → visits ≡ visits_of (meant checked) k attributes
visits_by visits of checked kind k list attributes is same_grammar same_kind same_list =
    is ∙ ap (λ (c : CheckedGrammar). visits_of (meant c) kind list) same_grammar
    ∙ ap (λ (x : PassKind). visits_of (meant checked) x list) same_kind
    ∙ ap (λ (xs : List ℕ). visits_of (meant checked) k xs) same_list

pub add_visits-requires-clause-visits : goal.add_visits-requires-clause-visits
add_visits-requires-clause-visits c =
    let g = meant c.args.tree.now.checked in
    let pass = c.args.pass.now in
    let list : c.as_slice.result.now ≡ pass.attrs = grind (arith, common_steps) in
    let are =
    visits_by c.in_ok-visits.visits c.args.index.now c.args.tree.now.checked pass.kind TopDown c.as_slice.result.now
    pass.attrs c.in_ok-visits.ensures.visits c.requires.index c.in-TopDown.is list in
    subst (AreVisits g) (sym are)
    (c.visits_make_steps.ensures.visits g c.requires.sound.law TopDown (λ e. cc) pass.attrs)

pub returns-in-TopDown : goal.returns-in-TopDown
returns-in-TopDown c =
    let g = meant c.args.tree.now.checked in
    let t = c.args.tree.now.tree in
    let pass = c.args.pass.now in
    let list : c.as_slice.result.now ≡ pass.attrs = grind (arith, common_steps) in
    let are =
    visits_by c.in_ok-visits.visits c.args.index.now c.args.tree.now.checked pass.kind TopDown c.as_slice.result.now
    pass.attrs c.in_ok-visits.ensures.visits c.requires.index c.in-TopDown.is list in
    let same : steps_of_nodes g t c.in_ok-visits.visits (nodes_in Preorder 0 (size t)) ≡ steps_of_pass g t pass =
    ap (λ (vs : List (List VisitOp)). steps_of_nodes g t vs (nodes_in Preorder 0 (size t))) are
    ∙ ap (λ (k : PassKind). steps_of_kind g t k pass.attrs) (sym c.in-TopDown.is) in
    record {
      added =
          subst
          (λ (xs : List Step). OnOk c.add_visits.result (c.add_visits.new.steps.items ≡ c.args.steps.now.items ++ xs)) same
          c.add_visits.ensures.added;
    }

pub add_visits-requires-in-BottomUp-clause-visits : goal.add_visits-requires-in-BottomUp-clause-visits
add_visits-requires-in-BottomUp-clause-visits c =
    let g = meant c.args.tree.now.checked in
    let pass = c.args.pass.now in
    let list : c.as_slice.result.now ≡ pass.attrs = grind (arith, common_steps) in
    let are =
    visits_by c.in_ok-visits.visits c.args.index.now c.args.tree.now.checked pass.kind BottomUp c.as_slice.result.now
    pass.attrs c.in_ok-visits.ensures.visits c.requires.index c.in-BottomUp.is list in
    subst (AreVisits g) (sym are)
    (c.visits_make_steps.ensures.visits g c.requires.sound.law BottomUp (λ e. cc) pass.attrs)

pub returns-in-BottomUp : goal.returns-in-BottomUp
returns-in-BottomUp c =
    let g = meant c.args.tree.now.checked in
    let t = c.args.tree.now.tree in
    let pass = c.args.pass.now in
    let list : c.as_slice.result.now ≡ pass.attrs = grind (arith, common_steps) in
    let are =
    visits_by c.in_ok-visits.visits c.args.index.now c.args.tree.now.checked pass.kind BottomUp c.as_slice.result.now
    pass.attrs c.in_ok-visits.ensures.visits c.requires.index c.in-BottomUp.is list in
    let same : steps_of_nodes g t c.in_ok-visits.visits (nodes_in Reverse 0 (size t)) ≡ steps_of_pass g t pass =
    ap (λ (vs : List (List VisitOp)). steps_of_nodes g t vs (nodes_in Reverse 0 (size t))) are
    ∙ ap (λ (k : PassKind). steps_of_kind g t k pass.attrs) (sym c.in-BottomUp.is) in
    record {
      added =
          subst
          (λ (xs : List Step).
          OnOk c.add_visits-in-BottomUp.result
          (c.add_visits-in-BottomUp.new.steps.items ≡ c.args.steps.now.items ++ xs))
          same
          c.add_visits-in-BottomUp.ensures.added;
    }

pub new-requires-in-InOrder : goal.new-requires-in-InOrder
new-requires-in-InOrder c =
    let g = meant c.args.index.now in
    let pass = c.args.pass.now in
    let long : length (range_with_len 0 g.class_count) ≡ g.class_count = length-range_with_len 0 g.class_count in
    record {
      visits =
          ap length c.in_ok-visits.ensures.visits
          ∙ length-map (range_with_len 0 g.class_count) (visit_of g pass.kind c.as_slice.result.now) ∙ long
          ∙ ap (λ (k : CheckedGrammar). length k.grammar.classes) (sym c.checked.ensures.grammar);
    }

pub add_sequence-requires-clause-visits : goal.add_sequence-requires-clause-visits
add_sequence-requires-clause-visits c =
    let pass = c.args.pass.now in
    let list : c.as_slice.result.now ≡ c.as_slice-in-InOrder.result.now = grind (arith, common_steps) in
    visits_by c.in_ok-visits.visits c.args.index.now c.args.tree.now.checked pass.kind InOrder c.as_slice.result.now
    c.as_slice-in-InOrder.result.now c.in_ok-visits.ensures.visits c.requires.index c.in-InOrder.is list
