use Rattle.std.proofs.Common.{◌≡◌, ◌-◌, IfOk, suc, arith, subst, ◌∙◌}
use Rattle.ftl_deps.specs.reads.Meant.{meant}
use Rattle.ftl_example.specs.sizes.PlaceTable.{next_ways, ways_after}
use Rattle.ftl_example.proofs.sizes.way_rounds.+ways_after.Goals as goal

pub returns-in_ok-before : goal.returns-in_ok-before
returns-in_ok-before t c =
    let some = c.if-rounds-eq0.false in
    let e : suc (c.args.rounds - 1) ≡ c.args.rounds = omega (arith, some) in
    let g = meant c.args.checked.now in
    let sizes = c.args.sizes.now in
    let starts = c.args.starts.now in
    record {
      sizes =
          subst (λ k. IfOk c.next_ways.result (λ v. v.items ≡ ways_after g 513 sizes starts k)) e
          (subst (λ xs. IfOk c.next_ways.result (λ v. v.items ≡ next_ways g 513 sizes starts xs))
          (c.deref.ensures.value ∙ c.in_ok-before.ensures.sizes) c.next_ways.ensures.sizes);
    }
