use Rattle.std.proofs.Common.{◌+◌, ◌≤◌, List, sym, ◌∙◌, subst, arith}
use Rattle.ftl_model.specs.layout.Tree.{size}
use Rattle.ftl_order.specs.declared.steps.step.Step.{Step}
use Rattle.ftl_tree.specs.trees.CheckedTree.{CheckedTree}
use Rattle.ftl_items.specs.stage_items.Items.{item_steps}
use Rattle.ftl_nests.specs.NestItems.{nest_form}
use Rattle.ftl_cursors.specs.item_cursor.ItemSteps.{AreStepsOf, forest_in, grammar_in}
use Rattle.ftl_cursors.specs.items.StageItems.{item_in}
use Rattle.ftl_cursors.proofs.items.Found.{node_known}
use Rattle.ftl_cursors.proofs.item_cursor.ItemVisits.{count_is, within}
use Rattle.ftl_host_cursors.proofs.StageItems.{given_are, hosted_are, not_inorder}
use Rattle.ftl_host_cursors.proofs.item.hosted_steps.Goals as goal

pub rows_of-rows-requires : goal.rows_of-rows-requires
rows_of-rows-requires c = record { known = c.requires.found.pass_known }

pub node_count-count-requires : goal.node_count-count-requires
node_count-count-requires c =
    record {
      node =
          node_known c.args.tables.own.items c.args.item c.args.found c.requires.found c.rows_of-rows.result.now
          c.rows_of-rows.ensures.rows;
    }

pub new-requires : goal.new-requires
new-requires c =
    let x = c.args.tables.own in
    let found = c.args.found in
    let is = c.requires.found in
    let count =
    c.node_count-count.ensures.count
    ∙ count_is x c.args.item found is c.rows_of-rows.result.now c.rows_of-rows.ensures.rows in
    let low = within x c.args.item found is in
    record {
      tables = c.host_tables.ensures.tables.are;
      nodes =
          subst (λ (u : CheckedTree). found.node + c.node_count-count.result ≤ size u.tree)
          (sym c.host_tables.ensures.tables.tree) (omega (arith, count, low));
    }

pub returns : goal.returns
returns c =
    let x = c.args.tables in
    let i = c.args.item in
    let found = c.args.found in
    let is = c.requires.found in
    let nest = c.args.nest.now in
    let g = grammar_in x.own in
    let t = forest_in x.own in
    let count =
    c.node_count-count.ensures.count
    ∙ count_is x.own i found is c.rows_of-rows.result.now c.rows_of-rows.ensures.rows in
    let kind = not_inorder x i found is c.requires.tables nest c.requires.nest in
    let given =
    c.new.ensures.steps
    ∙ given_are x i found is nest c.host_tables.result c.host_tables.ensures.tables c.node_count-count.result count in
    record {
      steps = λ s stage once of.
          subst
          (λ (steps : List Step). AreStepsOf g t
          (item_steps (nest_form g s t x.own.items.rows.now.grain stage) t (item_in x.own.items i)) steps) (sym given)
          (hosted_are x i found is s stage of nest c.requires.nest c.requires.law kind once);
    }
