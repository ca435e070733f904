-- The lines that refuse grammars.
use Rattle.std.specs.Prelude.{ℕ, List, [], ◌++◌, codes}
use Rattle.std.specs.Fmt.{decimal}
use Rattle.ftl_meaning.specs.declared.faults.fault.GrammarFault.{GrammarFault}
use Rattle.ftl_meaning.specs.declared.faults.fault.GrammarFault.TheVariants as fault
use Rattle.ftl_meaning.specs.declared.faults.fault.What.{What}
use Rattle.ftl_meaning.specs.declared.faults.fault.What.TheVariants as what
use Rattle.ftl_answer.specs.refusals.Names.{read_text, rule_text}

-- what there is too much of
abbrev pub what_text : What → List ℕ
what_text what.Interfaces = codes "interfaces"
what_text what.Classes = codes "classes"
what_text what.Attributes = codes "attributes"
what_text what.Children = codes "children"
what_text what.AllAttributes = codes "attributes in all"
what_text what.Reads = codes "reads"

-- the first fault of a grammar
abbrev pub grammar_line : GrammarFault → List ℕ
grammar_line (fault.TooMany what count) =
    codes "refused grammar: too many " ++ (what_text what ++ (codes ": " ++ decimal count))
grammar_line (fault.TwiceNamed name) = codes "refused grammar: name " ++ (name ++ codes " twice")
grammar_line (fault.RootMissing name) = codes "refused grammar: root " ++ (name ++ codes " is no interface")
grammar_line (fault.UnknownName name) = codes "refused grammar: unknown name " ++ name
grammar_line (fault.RootInherits name) = codes "refused grammar: root " ++ (name ++ codes " inherits")
grammar_line (fault.NotAssignable rule) = codes "refused grammar: " ++ (rule_text rule ++ codes " is not assignable")
grammar_line (fault.BadForm rule) = codes "refused grammar: " ++ (rule_text rule ++ codes " has a wrong form")
grammar_line (fault.TwiceRuled rule) = codes "refused grammar: " ++ (rule_text rule ++ codes " has two rules")
grammar_line (fault.BadRead rule read) =
    codes "refused grammar: " ++ (rule_text rule ++ (codes " must not read " ++ read_text read))
grammar_line (fault.MissingRule rule) = codes "refused grammar: " ++ (rule_text rule ++ codes " has no rule")
grammar_line fault.OutOfMemory = []
