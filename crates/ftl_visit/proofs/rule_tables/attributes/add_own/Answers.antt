use Rattle.std.proofs.Common.{◌≡◌, ◌++◌, ℕ, arith, subst, OnOk, List}
use Rattle.std.proofs.lemmas.Grind.{common_steps}
use Rattle.ftl_visit.proofs.rule_tables.ClassRuns.{OwnRun, own_fits, own_is, own_start_fits}
use Rattle.ftl_visit.proofs.rule_tables.attributes.add_own.Goals as goal

pub overflow_add-first : goal.overflow_add-first
overflow_add-first c =
    let fits = own_start_fits c.args.checked.now.grammar c.as_slice-interfaces.result.now c.as_slice-classes.result.now
    c.args.class c.shared_before-shared.result c.own_before.result c.attr_count-count.result
    (grind (arith, common_steps)) (grind (arith, common_steps)) (grind (arith, common_steps))
    (grind (arith, common_steps)) c.own_before.ensures.count c.attr_count-count.ensures.count
    (grind (arith, common_steps)) in
    grind (arith, fits)

pub add_run-requires : goal.add_run-requires
add_run-requires c =
    let g = c.args.checked.now.grammar in
    let xs = c.as_slice-interfaces.result.now in
    let ks = c.as_slice-classes.result.now in
    let x = c.index-classes-class.result in
    let run : OwnRun g xs ks c.args.class c.shared_before-shared.result c.own_before.result c.len.result x = record {
      interfaces = grind (arith, common_steps);
      all = grind (arith, common_steps);
      known = grind (arith, common_steps);
      before = grind (arith, common_steps);
      start = c.own_before.ensures.count;
      long = c.len.ensures;
    } in
    record {
      small = own_fits g xs ks c.args.class c.shared_before-shared.result c.own_before.result c.len.result
          c.attr_count-count.result x run c.attr_count-count.ensures.count (grind (arith, common_steps));
    }

pub returns : goal.returns
returns c =
    let g = c.args.checked.now.grammar in
    let xs = c.as_slice-interfaces.result.now in
    let ks = c.as_slice-classes.result.now in
    let x = c.index-classes-class.result in
    let run : OwnRun g xs ks c.args.class c.shared_before-shared.result c.own_before.result c.len.result x = record {
      interfaces = grind (arith, common_steps);
      all = grind (arith, common_steps);
      known = grind (arith, common_steps);
      before = grind (arith, common_steps);
      start = c.own_before.ensures.count;
      long = c.len.ensures;
    } in
    record {
      added =
          subst (λ (ys : List ℕ). OnOk c.add_run.result (c.add_run.new.attrs ≡ c.args.attrs.now ++ ys))
          (own_is g xs ks c.args.class c.shared_before-shared.result c.own_before.result c.len.result x run)
          c.add_run.ensures.added;
    }
