-- The code of the part computes its value from what its reads give.
use Rattle.std.proofs.Common.{◌≡◌, List, None, Option, ap, arith, map, sym, ◌∙◌}
use Rattle.ftl_deps.specs.parts.RuleParts.{read_meant}
use Rattle.ftl_deps.specs.reads.Meant.{meant}
use Rattle.ftl_meaning.specs.grammars.Meaning.{sight, value_seen}
use Rattle.ftl_model.specs.layout.AttributeGrammar.{Read, occurrences}
use Rattle.ftl_model.specs.layout.Values.{Value}
use Rattle.ftl_step_value.proofs.value.PartRuns.{computes_same, of_some}
use Rattle.ftl_visit.specs.compiled.RuleCode.{PartCode}
use Rattle.ftl_visit.specs.rule_values.PartValues.{meant_rule, part_of, part_value, values_read}
use Rattle.ftl_visit.specs.step_reads.StepReads.{kids_in}
use Rattle.ftl_demand.specs.demand.Outcomes.{value_at}
use Rattle.ftl_demand.specs.demand.Words.{IsSolution}
use Rattle.ftl_demand.proofs.demand.PartCodes.{is_code, of_none}
use Rattle.ftl_demand.proofs.demand.part.part_outcome.Goals as goal

pub returns-clause-outcome : goal.returns-clause-outcome
returns-clause-outcome c = λ vs solved.
    let t = c.args.site.now.tree.now in
    let checked = t.checked in
    let x = c.args.part.now in
    let programs = c.args.site.now.programs.now in
    let node = x.step.node in
    let code = c.unwrap-code.result in
    let here = sight (kids_in t node) x.at_hand (value_at t vs node) c.args.so_far in
    let give = λ (r : Read). value_seen (value_at t vs node) (occurrences (kids_in t node) x.at_hand r) in
    let values : List (Option Value) = c.as_slice.result.now in
    let none : c.in_ok-wanted.field-0 ≡ None = grind (arith, c.in_default) in
    let gathered : values ≡ map give (map read_meant x.reads.now) =
    c.as_slice.ensures.value
    ∙ of_none
    ((ws : List Value) → IsSolution (meant checked) t.tree ws
    → c.gather.new.values.items
    ≡ map (λ r. value_seen (value_at t ws node) (occurrences (kids_in t node) x.at_hand r))
    (map read_meant x.reads.now))
    c.in_ok-wanted.field-0 none c.in_ok-wanted.ensures.values vs solved in
    let width : code.width ≡ checked.width =
    of_some (λ (p : PartCode). p.width ≡ programs.width) c.code.result code c.unwrap-code.ensures c.code.ensures.width
    ∙ c.requires.site.code.width in
    let value = part_value checked x.step.rule (part_of x.part) here in
    c.run_code-value.ensures.value value
    (computes_same code.width checked.width width values (values_read (meant_rule checked x.step.rule).parts
    (part_of x.part) here) (ap (map give) c.requires.part.reads ∙ sym gathered) c.args.so_far code.code value
    (c.parts_give_the_rule.ensures.computes checked x.step.rule x.part code.code
    (is_code checked programs c.requires.site.code x.step.rule c.requires.part.rule x.part c.code.result code
    c.unwrap-code.ensures c.code.ensures.code) here))
