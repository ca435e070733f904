-- What is kept beside a lawful grammar.
use Rattle.std.specs.Prelude.{◌≡◌, ℕ, List, map, None}
use Rattle.ftl_grammar.specs.declared.syntax.rules.Grammar.{Grammar}
use Rattle.ftl_grammar.specs.reading.Readable.{CanBeRead}
use Rattle.ftl_meaning.specs.declared.faults.info.AttrInfo.{AttrInfo}
use Rattle.ftl_meaning.specs.declared.faults.info.RuleInfo.{RuleInfo}
use Rattle.ftl_checked.specs.declared.grammars.numbered_read.PartReads.{PartReads}
use Rattle.ftl_checked.specs.grammars.ReadNumbers.{leaves_in, rule_leaves}
use Rattle.ftl_checked.specs.declared.lookup.tables.Tables.{Tables}
use Rattle.ftl_meaning.specs.faults.Checked.{all_attributes, all_rules, attribute_info, rule_info}
use Rattle.ftl_meaning.specs.faults.Counts.{HasSmallCounts}
use Rattle.ftl_meaning.specs.faults.FirstFault.{first_fault}
use Rattle.ftl_meaning.specs.faults.Kinds.{HasKinds}
use Rattle.ftl_meaning.specs.faults.Numbering.{interface_number}
use Rattle.ftl_checked.specs.lookup.Tables.{tables_of}

-- the grammar is lawful, and what is kept says what its numbers stand for
pub record IsKept (g : Grammar) (kept : Tables) (told : List AttrInfo) (ruled : List RuleInfo)
    (read : List (List PartReads)) (first : ℕ) : Type 0
  where
    pub lawful : first_fault g ≡ None
    pub readable : CanBeRead g
    pub small : HasSmallCounts g
    pub kinds : HasKinds g
    pub tables : kept ≡ tables_of g
    pub attrs : told ≡ map (attribute_info g) (all_attributes g)
    pub rules : ruled ≡ map (rule_info g) (all_rules g)
    pub reads : map (map leaves_in) read ≡ map (rule_leaves g) (all_rules g)
    pub root : first ≡ interface_number g g.root
