-- How lines name the sections of a page, rules, reads and attributes.
use Rattle.std.specs.Prelude.{ℕ, List, [], ◌++◌, length, Option, Some, None, codes, if◌then◌else◌, nat_lt}
use Rattle.ftl_grammar.specs.syntax.Trees.{NameText}
use Rattle.ftl_grammar.specs.declared.syntax.rules.Grammar.{Grammar}
use Rattle.ftl_meaning.specs.declared.formulas.read_name.ReadName.{ReadName}
use Rattle.ftl_meaning.specs.declared.formulas.read_name.ReadName.TheVariants as read
use Rattle.ftl_page.specs.declared.sections.fault.Section.{Section}
use Rattle.ftl_page.specs.declared.sections.fault.Section.TheVariants as section
use Rattle.ftl_meaning.specs.faults.Checked.{all_attributes, all_rules, attribute_at, owner_name_of}
use Rattle.ftl_meaning.specs.faults.RuleNames.{rule_name_at}
use Rattle.ftl_meaning.specs.declared.faults.rule_name.RuleName.{RuleName}

-- a section of a page
abbrev pub section_name : Section → List ℕ
section_name section.Grammar = codes "grammar"
section_name section.Schedule = codes "schedule"
section_name section.Document = codes "document"
section_name section.Edits = codes "edits"

-- a name, a dot and another
abbrev pub dotted : (owner name : NameText) → List ℕ
dotted owner name = owner ++ (codes "." ++ name)

-- the node itself, or its kids in a child
abbrev pub place_name : Option NameText → List ℕ
place_name None = codes "self"
place_name (Some child) = child

-- a rule: its class, a space, where it holds, a dot and the attribute
abbrev pub rule_text : RuleName → List ℕ
rule_text r = r.class ++ (codes " " ++ dotted (place_name r.child) r.attr)

-- what a rule reads
abbrev pub read_text : ReadName → List ℕ
read_text (read.Own a) = dotted (codes "self") a
read_text (read.This a) = dotted (codes "this") a
read_text (read.Prev a) = dotted (codes "prev") a
read_text (read.Of c a) = dotted c a
read_text (read.Last c a) = codes "last " ++ dotted c a
read_text read.Acc = codes "acc"

-- an attribute of a grammar by number: its owner, a dot and its name; nothing where there is none of this number
abbrev pub attribute_text : Grammar → (attribute : ℕ) → List ℕ
attribute_text g a =
    if nat_lt a (length (all_attributes g))
    then dotted (owner_name_of g (attribute_at g a)) (attribute_at g a).decl.name else []

-- a rule of a grammar by number; nothing where there is none of this number
abbrev pub rule_text_at : Grammar → (rule : ℕ) → List ℕ
rule_text_at g r = if nat_lt r (length (all_rules g)) then rule_text (rule_name_at g r) else []
