use Rattle.std.proofs.Common.{◌≡◌, None, subst, arith, sym}
use Rattle.std.proofs.lemmas.Grind.{common_steps}
use Rattle.ftl_deps.specs.reads.Meant.{meant}
use Rattle.ftl_nests.specs.Nests.{nest_placing_of}
use Rattle.ftl_nest_check.specs.stages.Nested.{nests_of}
use Rattle.ftl_schedule.proofs.check.RuleCount.{rules_counted}
use Rattle.ftl_example.specs.pairs.FirstPlace.{read_count}
use Rattle.ftl_example.specs.nests.pairs.FirstRefused.{HasNone, IsFirstRead}
use Rattle.ftl_example.proofs.pairs.FirstPlaces.{one_more_none}
use Rattle.ftl_example.proofs.nests.pairs.first_read.first_read.Goals as goal

pub returns-in-Some-clause-found : goal.returns-in-Some-clause-found
returns-in-Some-clause-found c =
    let g = meant c.args.checked.now in
    let at = nest_placing_of (nests_of c.args.placed.now) in
    let f = c.in-Some.found in
    let less = c.loop-rule-test.true in
    let count = c.rule_count-rule-end.ensures.count in
    let rules = rules_counted c.args.checked.now c.grammar.ensures.lawful in
    subst (λ n. IsFirstRead g at n f.place f.writer) (sym c.in-Some.ensures.rule)
    (record {
      known = omega (arith, less, count, rules);
      in_rule = c.in-Some.ensures.found;
      earlier = c.loop-rule.invariant;
    })

pub loop-rule-preserved : goal.loop-rule-preserved
loop-rule-preserved c =
    let g = meant c.args.checked.now in
    let at = nest_placing_of (nests_of c.args.placed.now) in
    let none : c.first_in_rule.result ≡ None = grind (arith, common_steps) in
    one_more_none (λ m. HasNone g at m (read_count g m)) c.loop-rule.rule c.loop-rule.invariant
    (c.first_in_rule.ensures.none none)

pub returns-clause-none : goal.returns-clause-none
returns-clause-none c same m known =
    let past = c.loop-rule-test.false in
    let count = c.rule_count-rule-end.ensures.count in
    let rules = rules_counted c.args.checked.now c.grammar.ensures.lawful in
    c.loop-rule.invariant m (omega (arith, past, count, rules, known))
