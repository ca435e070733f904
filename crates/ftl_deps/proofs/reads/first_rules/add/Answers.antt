use Rattle.std.proofs.Common.{arith, ◌≡◌, true, false, cond, Some, ap, sym, ◌∙◌}
use Rattle.std.specs.HashMap.{get}
use Rattle.std.specs.Option.{is_some}
use Rattle.std.proofs.lemmas.Grind.{common_steps}
use Rattle.ftl_deps.specs.reads.Products.{at_product, same_product}
use Rattle.ftl_deps.specs.contracts.reads.product.ProductPartialEq.TheImpl as block
use Rattle.ftl_deps.proofs.reads.FirstRules.{gets_rule, keeps_rule}
use Rattle.ftl_deps.proofs.reads.ProductTests.{at_is, tests_same}
use Rattle.ftl_deps.proofs.reads.first_rules.add.Goals as goal

pub returns-in_ok-insert : goal.returns-in_ok-insert
returns-in_ok-insert c = record {
  added =
      let old = c.args.first.now in
      let new = c.insert.new.self in
      let key = c.args.product in
      let gone : is_some (get block.ghosts.eq old key) ≡ false = grind (arith, common_steps) in
      gets_rule (at_product old) (at_product new) key c.args.rule (ap is_some (sym (at_is old key)) ∙ gone)
      (λ p. sym (at_is new p) ∙ c.in_ok-insert.ensures.updates.0 p
      ∙ ap (λ b. cond b (Some c.args.rule) (get block.ghosts.eq old p)) (tests_same key p)
      ∙ ap (cond (same_product key p) (Some c.args.rule)) (at_is old p));
}

pub returns-else-is_none : goal.returns-else-is_none
returns-else-is_none c = record {
  added =
      let old = c.args.first.now in
      let key = c.args.product in
      let has : is_some (get block.ghosts.eq old key) ≡ true = grind (arith, common_steps) in
      keeps_rule (at_product old) key c.args.rule (ap is_some (sym (at_is old key)) ∙ has);
}
