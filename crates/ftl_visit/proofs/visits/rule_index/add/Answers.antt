use Rattle.std.proofs.Common.{arith, ◌≡◌, true, false, cond, Some, ap, sym, ◌∙◌}
use Rattle.std.specs.HashMap.{get}
use Rattle.std.specs.Option.{is_some}
use Rattle.std.proofs.lemmas.Grind.{common_steps}
use Rattle.ftl_visit.specs.visits.Targets.{at_target, same_target}
use Rattle.ftl_visit.specs.contracts.visits.target.TargetPartialEq.TheImpl as block
use Rattle.ftl_visit.proofs.visits.FirstRules.{gets_rule, keeps_rule}
use Rattle.ftl_visit.proofs.visits.TargetTests.{at_is, tests_same}
use Rattle.ftl_visit.proofs.visits.rule_index.add.Goals as goal

pub returns-in_ok-insert : goal.returns-in_ok-insert
returns-in_ok-insert c = record {
  added =
      let old = c.args.numbers.now in
      let new = c.insert.new.self in
      let key = c.args.target in
      let gone : is_some (get block.ghosts.eq old key) ≡ false = grind (arith, common_steps) in
      gets_rule (at_target old) (at_target new) key c.args.rule (ap is_some (sym (at_is old key)) ∙ gone)
      (λ p. sym (at_is new p) ∙ c.in_ok-insert.ensures.updates.0 p
      ∙ ap (λ b. cond b (Some c.args.rule) (get block.ghosts.eq old p)) (tests_same key p)
      ∙ ap (cond (same_target key p) (Some c.args.rule)) (at_is old p));
}

pub returns-else-is_none : goal.returns-else-is_none
returns-else-is_none c = record {
  added =
      let old = c.args.numbers.now in
      let key = c.args.target in
      let has : is_some (get block.ghosts.eq old key) ≡ true = grind (arith, common_steps) in
      keeps_rule (at_target old) key c.args.rule (ap is_some (sym (at_is old key)) ∙ has);
}
