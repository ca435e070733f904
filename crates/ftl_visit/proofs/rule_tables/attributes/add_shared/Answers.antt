use Rattle.std.proofs.Common.{◌≡◌, ◌++◌, ℕ, arith, subst, OnOk, List}
use Rattle.std.proofs.lemmas.Grind.{common_steps}
use Rattle.ftl_visit.proofs.rule_tables.ClassRuns.{SharedRun, shared_fits, shared_is}
use Rattle.ftl_visit.proofs.rule_tables.attributes.add_shared.Goals as goal

pub add_run-requires : goal.add_run-requires
add_run-requires c =
    let g = c.args.checked.now.grammar in
    let xs = c.as_slice-interfaces.result.now in
    let x = c.index-interfaces-interface.result in
    let run : SharedRun g xs c.args.interface c.shared_before-first.result c.len.result x = record {
      all = grind (arith, common_steps);
      known = grind (arith, common_steps);
      start = c.shared_before-first.ensures.count;
      long = c.len.ensures;
    } in
    record {
      small = shared_fits g xs c.args.interface c.shared_before-first.result c.len.result c.attr_count-count.result x
          run c.attr_count-count.ensures.count (grind (arith, common_steps));
    }

pub returns : goal.returns
returns c =
    let g = c.args.checked.now.grammar in
    let xs = c.as_slice-interfaces.result.now in
    let x = c.index-interfaces-interface.result in
    let run : SharedRun g xs c.args.interface c.shared_before-first.result c.len.result x = record {
      all = grind (arith, common_steps);
      known = grind (arith, common_steps);
      start = c.shared_before-first.ensures.count;
      long = c.len.ensures;
    } in
    record {
      added =
          subst (λ (ys : List ℕ). OnOk c.add_run.result (c.add_run.new.attrs ≡ c.args.attrs.now ++ ys))
          (shared_is g xs c.args.interface c.shared_before-first.result c.len.result x run) c.add_run.ensures.added;
    }
