use Rattle.std.proofs.Common.{◌≡◌, ◌++◌, [], drop, map}
use Rattle.ftl_grammar.specs.declared.syntax.rules.Rule.{Rule}
use Rattle.ftl_meaning.specs.faults.Checked.{info_by}
use Rattle.ftl_meaning.specs.faults.FirstFault.{first_there, rule_faults}
use Rattle.ftl_meaning.specs.faults.Numbering.{class_at}
use Rattle.ftl_meaning.specs.faults.RuleForms.{slot_of}
use Rattle.ftl_checked.specs.grammars.ReadNumbers.{leaves_in, rule_leaves}
use Rattle.ftl_checked.specs.grammars.Slots.{slots_of}
use Rattle.ftl_checked.proofs.grammars.rules.class_rules.Given as goal

abbrev pub invariant-loop-rule : goal.invariant-loop-rule
invariant-loop-rule l =
    let g = l.grammar in
    let k = l.number in
    let rules = (class_at g k).rules in
    let i = l.rule-index in
    record {
      faults : first_there (rule_faults g k [] rules) ≡ first_there (rule_faults g k l.ruled (drop i rules));
      slots : l.ruled ++ slots_of g k (drop i rules) ≡ slots_of g k rules;
      infos : l.so_far.infos ++ map (λ (r : Rule). info_by k (slot_of g k r.target)) (drop i rules)
          ≡ l.initial.so_far.infos ++ map (λ (r : Rule). info_by k (slot_of g k r.target)) rules;
      reads : map (map leaves_in) l.so_far.reads ++ map (λ (r : Rule). rule_leaves g (k, r)) (drop i rules)
          ≡ map (map leaves_in) l.initial.so_far.reads ++ map (λ (r : Rule). rule_leaves g (k, r)) rules;
    }
