-- What each rule reads is that of its parts, which stand at its place.
use Rattle.std.proofs.Common.{◌≡◌, ◌<◌, ◌++◌, [], ◌∷◌, List, length, map, take, ap, ap₂, arith, sym, ◌∙◌}
use Rattle.std.proofs.lemmas.Grind.{common_steps}
use Rattle.std.proofs.lemmas.List.{map-append}
use Rattle.ftl_deps.specs.reads.Meant.{meant}
use Rattle.ftl_deps.specs.reads.Products.{name_of_info}
use Rattle.ftl_deps.proofs.reads.RuleNumbers.{rules_all, rules_more, info_is}
use Rattle.ftl_meaning.specs.faults.Checked.{all_rules, rule_info_at}
use Rattle.ftl_meaning.specs.declared.faults.info.RuleInfo.{RuleInfo}
use Rattle.ftl_step_value.proofs.cells.TableParts.{table_parts}
use Rattle.ftl_deps.specs.parts.RuleParts.{parts_meant, parts_named}
use Rattle.ftl_deps.specs.declared.parts.rule_parts.RuleParts.TheVariants.{Plain}
use Rattle.ftl_step_value.specs.neighbours.NeighbourParts.{neighbour_parts_named, neighbour_parts_of}
use Rattle.ftl_step_value.specs.declared.neighbours.parts.NeighbourParts.{NeighbourParts}
use Rattle.ftl_step_value.proofs.neighbours.NeighbourTable.{name_entry}
use Rattle.ftl_step_value.proofs.neighbours.parts.neighbour_parts.Goals as goal

pub bounds-rows-rule : goal.bounds-rows-rule
bounds-rows-rule c =
    let checked = c.args.checked.now in
    let told : c.loop-rule.rule < length (all_rules checked.grammar) = grind (arith, common_steps) in
    (table_parts checked c.grammar-lawful.ensures.lawful c.loop-rule.rule (Plain []) c.as_slice-rows.ensures
    c.requires.tables.parts told).0

pub loop-rule-preserved : goal.loop-rule-preserved
loop-rule-preserved c =
    let checked = c.args.checked.now in
    let g = meant checked in
    let ps = c.args.places.now in
    let n = c.loop-rule.rule in
    let told : n < length (all_rules checked.grammar) = grind (arith, common_steps) in
    let i = rule_info_at checked.grammar n in
    let made = c.in_ok-parts_of.field-0 in
    let items : c.push.new.self.items ≡ c.loop-rule.parts.items ++ made ∷ [] = grind (arith, common_steps) in
    let row = ap parts_meant c.index-rows-rule.is
    ∙ (table_parts checked c.grammar-lawful.ensures.lawful n c.index-rows-rule.result c.as_slice-rows.ensures
    c.requires.tables.parts told).1 in
    let is : made ≡ neighbour_parts_named ps g (name_of_info i) =
    c.in_ok-parts_of.ensures.parts
    ∙ ap₂ (neighbour_parts_of ps)
    (ap (λ (info : RuleInfo). info.child) c.rule-child.ensures.info ∙ sym (name_entry i.class i.attr i.child))
    (row ∙ ap (parts_named g) (info_is checked c.grammar-lawful.ensures.lawful n told)) in
    items
    ∙ ap₂ (λ (a : List NeighbourParts) (b : NeighbourParts). a ++ b ∷ []) c.loop-rule.invariant is
    ∙ sym (map-append (neighbour_parts_named ps g) (take n g.rules) (name_of_info i ∷ []))
    ∙ ap (map (neighbour_parts_named ps g)) (sym (rules_more checked c.grammar-lawful.ensures.lawful n told))

pub returns : goal.returns
returns c =
    let checked = c.args.checked.now in
    let rules = (meant checked).rules in
    let done : c.loop-rule.rule ≡ length (all_rules checked.grammar) = grind (arith, common_steps) in
    let named = neighbour_parts_named c.args.places.now (meant checked) in
    record {
      parts = record {
        places = c.args.places.now;
        places_are = c.requires.places;
        table =
            c.loop-rule.invariant
            ∙ ap (λ n. map named (take n rules)) done
            ∙ ap (map named) (rules_all checked c.grammar-lawful.ensures.lawful);
      };
    }
