use Rattle.std.proofs.Common.{arith, ◌≡◌, ◌<◌, length, [], sym, ◌∙◌, None}
use Rattle.std.proofs.lemmas.Grind.{common_steps}
use Rattle.ftl_order.specs.dependencies.DepReads.{rule_reads}
use Rattle.ftl_order.specs.faults.FirstFault.{fault_by}
use Rattle.ftl_deps.specs.reads.Meant.{meant}
use Rattle.ftl_schedule.specs.check.RuleAt.{read_at, rule_at}
use Rattle.ftl_schedule.proofs.check.FaultsAlong.{along_here, along_later}
use Rattle.ftl_nests.specs.Nests.{nest_placing_of}
use Rattle.ftl_regions.specs.pairs.NestReads.{refused_writer}
use Rattle.ftl_nest_check.specs.stages.Nested.{nests_of}
use Rattle.ftl_nest_check.proofs.check.unordered.refused_reads.Goals as goal

-- the read at this place is the first with a fault
pub returns-in-Some : goal.returns-in-Some
returns-in-Some c =
    let g = meant c.args.checked.now in
    let w = rule_at g c.args.rule in
    let within : c.loop-place.place < length (rule_reads g w) = grind (arith, common_steps) in
    record {
      fault = sym (along_here (λ d. fault_by c.args.rule (refused_writer g (nest_placing_of (nests_of c.args.placed.now)) w d))
          (rule_reads g w) c.loop-place.place (read_at [] 0) within c.in-Some.fault
          (sym c.read_fault.ensures.fault ∙ c.in-Some.is))
          ∙ c.loop-place.invariant;
    }

-- it has none
pub loop-place-preserved : goal.loop-place-preserved
loop-place-preserved c =
    let g = meant c.args.checked.now in
    let w = rule_at g c.args.rule in
    let within : c.loop-place.place < length (rule_reads g w) = grind (arith, common_steps) in
    let none : c.read_fault.result ≡ None = grind (arith, common_steps) in
    sym (along_later (λ d. fault_by c.args.rule (refused_writer g (nest_placing_of (nests_of c.args.placed.now)) w d))
    (rule_reads g w) c.loop-place.place (read_at [] 0) within
    (sym c.read_fault.ensures.fault ∙ none))
    ∙ c.loop-place.invariant
