-- The step gives what its part gives.
use Rattle.std.proofs.Common.{◌≡◌, None, refl, subst}
use Rattle.ftl_meaning.specs.faults.Checked.{CheckedGrammar}
use Rattle.ftl_meaning.specs.faults.FirstFault.{first_fault}
use Rattle.ftl_demand.specs.declared.demand.waiting.PartReads.{PartReads}
use Rattle.ftl_demand.specs.demand.Outcomes.{IsPartOutcome, IsStepOutcome}
use Rattle.ftl_demand.proofs.demand.Results.{ok_map}
use Rattle.ftl_demand.proofs.demand.StepValues.{outcome_is, part_is}
use Rattle.ftl_demand.proofs.demand.advance.one_part.Goals as goal

pub part_outcome-requires-clause-part : goal.part_outcome-requires-clause-part
part_outcome-requires-clause-part c =
    let t = c.args.site.now.tree.now in
    let none : first_fault t.checked.grammar ≡ None =
    subst (λ (k : CheckedGrammar). first_fault k.grammar ≡ None) c.checked.ensures.grammar
    c.grammar-lawful.ensures.lawful in
    part_is t c.requires.site.sound.law c.node_count-nodes.ensures.is_tree none
    (record { step = c.args.step; part = c.args.part; reads = c.args.reads; at_hand = c.args.step.kid })
    c.requires.step refl c.requires.part c.requires.children

pub returns-clause-outcome : goal.returns-clause-outcome
returns-clause-outcome c =
    let t = c.args.site.now.tree.now in
    let none : first_fault t.checked.grammar ≡ None =
    subst (λ (k : CheckedGrammar). first_fault k.grammar ≡ None) c.checked.ensures.grammar
    c.grammar-lawful.ensures.lawful in
    let y : PartReads =
    record { step = c.args.step; part = c.args.part; reads = c.args.reads; at_hand = c.args.step.kid } in
    ok_map (IsPartOutcome t c.args.words.now y c.overflow.result) (IsStepOutcome t c.args.words.now c.args.step)
    (outcome_is t c.requires.site.sound.law c.node_count-nodes.ensures.is_tree none y c.requires.step refl
    c.requires.part c.parts_give_the_rule.ensures.value c.args.words.now c.overflow.result c.overflow.ensures.value)
    c.part_outcome.result c.part_outcome.ensures.outcome
