use Rattle.std.proofs.Common.{arith, ◌≡◌, ◌+◌, ◌∷◌, Some, drop, map}
use Rattle.std.proofs.lemmas.Grind.{common_steps}
use Rattle.ftl_checked.specs.declarations.FlatRules.{rule_in}
use Rattle.ftl_meaning.specs.faults.Numbering.{class_at}
use Rattle.ftl_meaning.specs.faults.RuleForms.{slot_of}
use Rattle.ftl_checked.specs.grammars.ReadNumbers.{leaves_in}
use Rattle.ftl_checked.specs.grammars.Slots.{slot_in}
use Rattle.ftl_checked.proofs.grammars.RuleLists.{left_of_map, rule_passes, rule_stops, slot_more, info_more, reads_more}
use Rattle.ftl_checked.proofs.grammars.rules.class_rules.Goals as goal

pub loop-rule-preserved : goal.loop-rule-preserved
loop-rule-preserved c =
    let g = c.args.grammar.now in
    let k = c.args.number in
    let xs = (class_at g k).rules in
    let i = c.loop-rule.rule-index in
    let x = rule_in c.rule-item.result in
    let left : drop i xs ≡ x ∷ drop (i + 1) xs =
    left_of_map rule_in c.args.rules.now xs i c.rule-item.result c.requires.rules
    (grind (arith, common_steps)) (grind (arith, common_steps)) in
    let slot = slot_in c.in_ok-slot.slot in
    let is : slot_of g k x.target ≡ Some slot = c.in_ok-slot.ensures.slot in
    let faults = rule_passes g k xs i x left c.loop-rule.ruled slot is c.in_ok-slot.ensures.finds in
    let slots = slot_more g k xs i x left c.loop-rule.ruled slot is in
    let infos = info_more g k xs i x left c.loop-rule.so_far.infos slot is in
    let reads = reads_more g k xs i x left (map (map leaves_in) c.loop-rule.so_far.reads)
    (map leaves_in c.in_ok-slot.reads) c.in_ok-slot.ensures.reads in
    record {
      faults = grind (arith, common_steps);
      slots = grind (arith, common_steps);
      infos = grind (arith, common_steps);
      reads = grind (arith, common_steps);
    }

pub returns-in_err-slot-clause-finds : goal.returns-in_err-slot-clause-finds
returns-in_err-slot-clause-finds c =
    let g = c.args.grammar.now in
    let k = c.args.number in
    let xs = (class_at g k).rules in
    let i = c.loop-rule.rule-index in
    let x = rule_in c.rule-item.result in
    let left : drop i xs ≡ x ∷ drop (i + 1) xs =
    left_of_map rule_in c.args.rules.now xs i c.rule-item.result c.requires.rules
    (grind (arith, common_steps)) (grind (arith, common_steps)) in
    let stops = rule_stops g k xs i x left c.loop-rule.ruled in
    grind (arith, common_steps, stops)
