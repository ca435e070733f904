use Rattle.std.proofs.Common.{◌≡◌, ap, arith, length, pos, refl, subst, ◌∙◌, IfOk, ℤ, List}
use Rattle.std.specs.Prelude.{replicate}
use Rattle.ftl_deps.specs.reads.Meant.{meant}
use Rattle.ftl_tree.proofs.trees.BareInputs.{starts_long, zeros_are}
use Rattle.ftl_tree.proofs.trees.zeroed.zeros.Goals as goal

pub index-count-requires : goal.index-count-requires
index-count-requires c =
    let g = meant c.args.checked.now in
    let are = c.requires.rows.1 in
    let long = starts_long g c.requires.rows.0 are.is_tree c.args.rows.now c.in_ok-firsts.firsts.items are
    c.in_ok-firsts.ensures.starts in
    omega (arith, long)

pub returns : goal.returns
returns c = record {
  zeros = λ t are.
      let g = meant c.args.checked.now in
      let zeros = zeros_are g t are.is_tree c.args.rows.now c.in_ok-firsts.firsts.items (length c.args.rows.now)
      c.index-count.result.now are c.in_ok-firsts.ensures.starts refl in
      subst (λ (xs : List ℤ). IfOk c.zero_numbers.result (λ v. v.items ≡ xs))
      (ap (λ n. replicate n (pos 0)) c.index-count.ensures ∙ zeros) c.zero_numbers.ensures.zeros;
}
