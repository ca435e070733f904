-- The nodes are gone through from the last to the first.
use Rattle.std.proofs.Common.{◌≡◌, ◌≢◌, ℕ, ◌-◌, ◌<◌, arith, get_or, subst, sym, ◌∙◌, ⊎_elim}
use Rattle.std.proofs.lemmas.Bool.{cases_eq}
use Rattle.ftl_deps.specs.reads.Meant.{meant}
use Rattle.ftl_step_value.proofs.limits.reads.Entries.{whole}
use Rattle.ftl_step_value.specs.limits.reads.ReadTables.{class_in, instance_in}
use Rattle.ftl_model.proofs.layout.Standing.{node_at-number_of, number_of-lt}
use Rattle.ftl_model.specs.layout.Path.{class_at, node_at, number_of}
use Rattle.ftl_model.specs.layout.Solves.{instance_of}
use Rattle.ftl_model.specs.layout.Table.{instance_number}
use Rattle.ftl_model.specs.layout.Tree.{size}
use Rattle.ftl_order.specs.orders.Lawful.{OfClass}
use Rattle.ftl_demand.proofs.demand.Nodes.{there_still}
use Rattle.ftl_demand.proofs.demand.solve.evaluate_all.Goals as goal

pub loop-behind-init : goal.loop-behind-init
loop-behind-init c =
    let after = c.in_ok-evaluate_downwards.ensures in
    record {
      words = after.words;
      there = λ n a known past of. absurd (let z : ⊥ = omega (arith, known, past) in z);
      empty = after.empty;
      room = after.room;
    }

pub evaluate_node-requires-clause-node : goal.evaluate_node-requires-clause-node
evaluate_node-requires-clause-node c =
    let below = c.loop-behind-test.true in let count = c.node_count-nodes.ensures.count in omega (arith, below, count)

pub loop-behind-preserved : goal.loop-behind-preserved
loop-behind-preserved c =
    let t = c.args.site.now.tree.now in
    let g = meant t.checked in
    let after = c.in_ok-evaluate_node.ensures in
    let below = c.loop-behind-test.true in
    let count = c.node_count-nodes.ensures.count in
    let here : ℕ = c.node_count-nodes.result - 1 - c.loop-behind.behind in
    record {
      words = after.words;
      there = λ n a known past of.
          ⊎_elim
          (λ same.
          subst
          (λ m.
          OfClass g (class_in t m) a
          → get_or c.evaluate_node.new.words (instance_number g t.tree (instance_in t m a)) 0 ≢ 0)
          (sym same) (after.there a) of)
          (λ other.
          there_still c.loop-behind.words c.evaluate_node.new.words after.stays
          (instance_number g t.tree (instance_in t n a))
          (c.loop-behind.invariant.there n a known (omega (arith, known, past, other, below, count)) of))
          (cases_eq n here);
      empty = after.empty;
      room = after.room ∙ c.loop-behind.invariant.room;
    }

pub returns-clause-there : goal.returns-clause-there
returns-clause-there c = λ i valid.
    let t = c.args.site.now.tree.now in
    let g = meant t.checked in
    let n = number_of t.tree i.node in
    let stands : node_at t.tree n ≡ i.node = node_at-number_of t.tree i.node valid.0 in
    let lt = number_of-lt t.tree i.node valid.0 in
    let all = whole g t.tree c.node_count-nodes.ensures.is_tree in
    let count = c.node_count-nodes.ensures.count in
    let past = c.loop-behind-test.false in
    let known : n < size t.tree = omega (arith, lt, all) in
    subst (λ p. get_or c.loop-behind.words (instance_number g t.tree (instance_of p i.attribute)) 0 ≢ 0) stands
    (c.loop-behind.invariant.there n i.attribute known (omega (arith, count, past))
    (subst (λ p. OfClass g (class_at t.tree p) i.attribute) (sym stands) valid.1))
