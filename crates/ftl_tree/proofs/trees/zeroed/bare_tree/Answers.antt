use Rattle.std.proofs.Common.{List, subst, sym, ◌∙◌}
use Rattle.ftl_deps.specs.reads.Meant.{meant}
use Rattle.ftl_tree.specs.rows.Rows.{AreTreeRows}
use Rattle.ftl_tree.specs.declared.rows.row.NodeRow.{NodeRow}
use Rattle.ftl_tree.specs.trees.Bare.{bare}
use Rattle.ftl_tree.proofs.trees.BareInputs.{bare_nodes}
use Rattle.ftl_tree.proofs.trees.zeroed.bare_tree.Goals as goal

pub zeros-requires : goal.zeros-requires
zeros-requires c =
    let g = meant c.args.checked.now in
    let t = c.requires.rows.0 in
    record {
      rows = (
        t,
        subst (λ (xs : List NodeRow). AreTreeRows g t xs) (sym (c.deref.ensures.value
            ∙ c.in_ok-rows.ensures.rows)) c.requires.rows.1,
      );
    }

pub from_nodes-requires : goal.from_nodes-requires
from_nodes-requires c =
    let g = meant c.args.checked.now in
    let t = c.requires.rows.0 in
    let are = subst (λ (xs : List NodeRow). AreTreeRows g t xs) (sym c.in_ok-rows.ensures.rows) c.requires.rows.1 in
    let seen = subst (λ (xs : List NodeRow). AreTreeRows g t xs) (sym c.deref.ensures.value) are in
    record {
      nodes = (
        bare t,
        bare_nodes g t are.is_tree c.in_ok-rows.rows.items c.in_ok-inputs.inputs.items are
            (c.in_ok-inputs.ensures.zeros t seen),
      );
    }

pub returns : goal.returns
returns c = record {
  tree = λ t rows.
      let g = meant c.args.checked.now in
      let are = subst (λ (xs : List NodeRow). AreTreeRows g t xs) (sym c.in_ok-rows.ensures.rows) rows in
      let seen = subst (λ (xs : List NodeRow). AreTreeRows g t xs) (sym c.deref.ensures.value) are in
      c.from_nodes.ensures.tree (bare t)
      (bare_nodes g t are.is_tree c.in_ok-rows.rows.items c.in_ok-inputs.inputs.items are
      (c.in_ok-inputs.ensures.zeros t seen));
}
