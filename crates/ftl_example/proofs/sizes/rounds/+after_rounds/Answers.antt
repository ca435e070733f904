use Rattle.std.proofs.Common.{◌≡◌, ◌-◌, IfOk, suc, arith, subst, ◌∙◌}
use Rattle.ftl_deps.specs.reads.Meant.{meant}
use Rattle.ftl_example.specs.sizes.SizeTable.{next_table, table_after}
use Rattle.ftl_example.proofs.sizes.rounds.+after_rounds.Goals as goal

pub returns-in_ok-before : goal.returns-in_ok-before
returns-in_ok-before t c =
    let some = c.if-rounds-eq0.false in
    let e : suc (c.args.rounds - 1) ≡ c.args.rounds = omega (arith, some) in
    record {
      sizes =
          subst (λ k. IfOk c.next_sizes.result (λ v. v.items ≡ table_after (meant c.args.checked.now) 513 k)) e
          (subst (λ xs. IfOk c.next_sizes.result (λ v. v.items ≡ next_table (meant c.args.checked.now) 513 xs))
          (c.deref.ensures.value ∙ c.in_ok-before.ensures.sizes) c.next_sizes.ensures.sizes);
    }
