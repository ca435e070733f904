use Rattle.std.proofs.Common.{◌≡◌, List, None, get_or, sym, ◌∙◌, subst}
use Rattle.std.proofs.lemmas.List.{get_or_default}
use Rattle.ftl_model.specs.layout.Solves.{Instance}
use Rattle.ftl_nests.specs.Nests.{outer_schedule}
use Rattle.ftl_cursors.specs.item_cursor.ItemSteps.{AreStepsOf, forest_in, grammar_in, steps_left}
use Rattle.ftl_host_cursors.proofs.StageItems.{nest_known, outer_is, plain_is}
use Rattle.ftl_host_cursors.proofs.item.item_steps.Goals as goal

pub bounds-tables-found : goal.bounds-tables-found
bounds-tables-found c =
    nest_known c.args.tables c.args.item c.find-found.result c.find-found.ensures.found c.requires.tables

pub found_steps-requires-clause-tables : goal.found_steps-requires-clause-tables
found_steps-requires-clause-tables c = c.requires.tables.own

-- the pass nests nothing, so the item has the steps of a flat one
pub returns-in-Some-sparse_steps : goal.returns-in-Some-sparse_steps
returns-in-Some-sparse_steps c =
    let x = c.args.tables in
    let i = c.args.item in
    let found = c.find-found.result in
    let is = c.find-found.ensures.found in
    let known = nest_known x i found is c.requires.tables in
    let nothing : get_or x.nests.now found.pass None ≡ None =
    sym (get_or_default x.nests.now found.pass c.index-tables-found.result None known)
    ∙ c.in-None.is in
    record {
      steps = λ s stage once of.
          subst
          (λ (instances : List Instance). AreStepsOf (grammar_in x.own) (forest_in x.own) instances
          c.in-Some-sparse_steps.steps)
          (plain_is x i found is s stage of nothing)
          (c.in-Some-sparse_steps.ensures.steps (outer_schedule s) stage once (outer_is x i found is s stage of nothing));
    }

pub returns-in-None-sparse_steps : goal.returns-in-None-sparse_steps
returns-in-None-sparse_steps c =
    let x = c.args.tables in
    let i = c.args.item in
    let found = c.find-found.result in
    let is = c.find-found.ensures.found in
    let known = nest_known x i found is c.requires.tables in
    let nothing : get_or x.nests.now found.pass None ≡ None =
    sym (get_or_default x.nests.now found.pass c.index-tables-found.result None known)
    ∙ c.in-None.is in
    record {
      steps = λ s stage once of.
          subst
          (λ (instances : List Instance). AreStepsOf (grammar_in x.own) (forest_in x.own) instances
          (steps_left c.found_steps.result))
          (plain_is x i found is s stage of nothing)
          (c.found_steps.ensures.steps (outer_schedule s) stage once (outer_is x i found is s stage of nothing));
    }

pub hosted_steps-requires-clause-nest : goal.hosted_steps-requires-clause-nest
hosted_steps-requires-clause-nest c =
    let x = c.args.tables in
    let found = c.find-found.result in
    let known = nest_known x c.args.item found c.find-found.ensures.found c.requires.tables in
    sym (get_or_default x.nests.now found.pass c.index-tables-found.result None known)
    ∙ c.in-Some.is
