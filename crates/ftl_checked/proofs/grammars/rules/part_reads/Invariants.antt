use Rattle.std.proofs.Common.{◌≡◌, ◌++◌, drop, List, map, flat_map, Option}
use Rattle.std.specs.Option.{is_none, option_to_list}
use Rattle.ftl_meaning.specs.declared.formulas.read_name.ReadName.{ReadName}
use Rattle.ftl_meaning.specs.faults.Allowed.{Leaf, leaf_of}
use Rattle.ftl_checked.specs.grammars.Positions.{position_of}
use Rattle.ftl_checked.specs.grammars.ReadNumbers.{leaf_in}
use Rattle.ftl_meaning.specs.faults.FirstFault.{fault_if, first_of, rule_name}
use Rattle.ftl_meaning.specs.faults.Numbering.{class_at}
use Rattle.ftl_meaning.specs.declared.faults.fault.GrammarFault.{GrammarFault}
use Rattle.ftl_meaning.specs.declared.faults.fault.GrammarFault.TheVariants as fault
use Rattle.ftl_checked.proofs.grammars.rules.part_reads.Given as goal

abbrev pub invariant-loop-read : goal.invariant-loop-read
invariant-loop-read l =
    let F : ReadName → Option GrammarFault = λ r. fault_if (is_none (leaf_of l.grammar l.number (position_of l.part.at) r))
    (fault.BadRead (rule_name (class_at l.grammar l.number) l.target) r) in
    let leaves : ReadName → List Leaf = λ name. option_to_list (leaf_of l.grammar l.number (position_of l.part.at) name) in
    record {
      faults : first_of F l.read-items ≡ first_of F (drop l.read-index l.read-items);
      leaves : map leaf_in l.numbers ++ flat_map leaves (drop l.read-index l.read-items) ≡ flat_map leaves l.read-items;
    }
