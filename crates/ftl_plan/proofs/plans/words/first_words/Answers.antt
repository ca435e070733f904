use Rattle.std.proofs.Common.{◌≡◌, ◌+◌, ℕ, List, length, ap, ◌∙◌, subst, sym, arith}
use Rattle.ftl_meaning.specs.faults.Checked.{CheckedGrammar}
use Rattle.ftl_step_value.specs.limits.reads.ReadTables.{AreTables}
use Rattle.ftl_model.specs.layout.Path.{node_at}
use Rattle.ftl_plan.specs.plans.InputWords.{AreInputsSet, inputs_by_class}
use Rattle.ftl_model.specs.layout.Tree.{size}
use Rattle.ftl_deps.specs.reads.Meant.{meant}
use Rattle.ftl_plan.proofs.plans.InputRows.{AreSetBefore, all_set, written, zeros_next}
use Rattle.ftl_plan.proofs.plans.words.first_words.Goals as goal

pub inputs_of_classes-requires : goal.inputs_of_classes-requires
inputs_of_classes-requires c =
    record {
      tables =
          subst (λ (x : CheckedGrammar). AreTables (meant x) c.args.tables.now) (sym c.checked.ensures.grammar)
          c.requires.tables;
    }

pub set_inputs-requires-clause-inputs : goal.set_inputs-requires-clause-inputs
set_inputs-requires-clause-inputs c =
    c.in_ok-inputs.ensures.inputs
    ∙ ap (λ (x : CheckedGrammar). inputs_by_class (meant x)) c.checked.ensures.grammar

pub loop-node-preserved : goal.loop-node-preserved
loop-node-preserved c =
    let t = c.args.tree.now in
    let g = meant t.checked in
    let old = c.loop-node.words.items in
    let new = c.set_inputs.new.words in
    let is = c.as_mut_slice.ensures.value in
    let set : AreInputsSet g t.tree (node_at t.tree c.loop-node.node) old new =
    subst (λ (ws : List ℕ). AreInputsSet g t.tree (node_at t.tree c.loop-node.node) ws new) is
    c.set_inputs.ensures.set in
    let same = set.count in
    let long = ap length is in
    let len = c.as_mut_slice.ensures.len in
    let all : c.loop-node.words.len ≡ length new = omega (arith, same, long, len) in
    subst (AreSetBefore g t.tree (c.loop-node.node + 1)) (sym (written c.loop-node.words.len new old all))
    (zeros_next g t.tree c.loop-node.node old new c.loop-node.invariant set)

pub returns : goal.returns
returns c =
    let t = c.args.tree.now in
    let g = meant t.checked in
    let past = c.loop-node-test.false in
    let most = c.loop-node.auto.node-end in
    let count = c.node_count-node-end.ensures.count in
    let done : c.loop-node.node ≡ size t.tree = omega (arith, past, most, count) in
    record {
      words =
          all_set g c.requires.sound.law t.tree c.node_count-node-end.ensures.is_tree c.loop-node.words.items
          (subst (λ n. AreSetBefore g t.tree n c.loop-node.words.items) done c.loop-node.invariant);
    }
