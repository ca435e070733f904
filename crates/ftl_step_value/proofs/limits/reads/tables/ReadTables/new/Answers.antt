use Rattle.std.proofs.Common.{ap, ◌∙◌}
use Rattle.ftl_deps.specs.reads.Meant.{meant}
use Rattle.ftl_meaning.specs.faults.Checked.{CheckedGrammar}
use Rattle.ftl_visit.specs.rule_tables.RuleTables.{kid_rules, own_rules}
use Rattle.ftl_step_value.proofs.limits.reads.tables.ReadTables.new.Goals as goal

pub returns : goal.returns
returns c = record {
  tables = record {
    own = c.in_ok-rules.ensures.own ∙ ap (λ (x : CheckedGrammar). own_rules (meant x)) c.in_ok-index.ensures.grammar;
    kids = c.in_ok-rules.ensures.kids ∙ ap (λ (x : CheckedGrammar). kid_rules (meant x)) c.in_ok-index.ensures.grammar;
    parts = c.in_ok-parts.ensures.parts;
    attributes = c.in_ok-attributes.ensures.attributes;
  };
}
