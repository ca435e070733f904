use Rattle.std.proofs.Common.{◌≡◌, ◌<◌, ℕ, List, Option, None, Some, get_or, ap, ◌∙◌, subst, sym}
use Rattle.ftl_model.specs.layout.Tree.{size}
use Rattle.ftl_model.specs.layout.TreeOf.{IsTreeOf}
use Rattle.ftl_order.specs.orders.Lawful.{IsLawful}
use Rattle.ftl_deps.specs.reads.Meant.{meant}
use Rattle.ftl_visit.specs.visits.Visits.{rule_number}
use Rattle.ftl_visit.specs.rule_tables.RuleTables.{class_kid_rules, kid_rules, rules_by_attribute}
use Rattle.ftl_tree.specs.trees.CheckedTree.{CheckedTree}
use Rattle.ftl_step_value.specs.limits.reads.ReadTables.{class_in}
use Rattle.ftl_step_value.proofs.limits.reads.Entries.{Entry, class_entry, entry}
use Rattle.ftl_demand.proofs.demand.writer.kid_rule.Goals as goal

-- the rules of a node's class for the kids in a child
module _ (t : CheckedTree) (law : IsLawful (meant t.checked)) (fits : IsTreeOf (meant t.checked) t.tree) (node child : ℕ)
    {class : ℕ} {tables : List (List (List (Option ℕ)))} {rows : List (List (Option ℕ))} (table : List (List (Option ℕ)))
    (known : node < size t.tree) (declared : child < (meant t.checked).child_count (class_in t node))
    (is : class ≡ class_in t node) (are : tables ≡ kid_rules (meant t.checked)) (found : rows ≡ get_or tables class table)
  where
    child_entry : Entry (λ n. rules_by_attribute (meant t.checked) class (Some n)) ((meant t.checked).child_count class) rows
        child
    child_entry =
        let g = meant t.checked in
        entry (λ n. rules_by_attribute g class (Some n)) (g.child_count class) rows child
        (found ∙ (class_entry g law t.tree fits (class_kid_rules g) node known is are).is table)
        (subst (λ n. child < g.child_count n) (sym is) declared)

    -- and that for an attribute
    rule_entry : (attr : ℕ) {row : List (Option ℕ)} (row_there : List (Option ℕ)) → attr < (meant t.checked).attribute_count
        → row ≡ get_or rows child row_there
        → Entry (rule_number (meant t.checked) class (Some child)) (meant t.checked).attribute_count row attr
    rule_entry attr {row} row_there within there =
        let g = meant t.checked in
        entry (rule_number g class (Some child)) g.attribute_count row attr (there ∙ child_entry.is row_there) within

pub bounds-tables-class : goal.bounds-tables-class
bounds-tables-class c =
    let t = c.args.tree.now in
    let g = meant t.checked in
    (class_entry g c.requires.sound.law t.tree c.node_count-nodes.ensures.is_tree (class_kid_rules g) c.args.node
    c.requires.node c.class-class.ensures.class (c.as_slice-tables.ensures ∙ c.requires.tables.kids)).within

pub bounds-rows-child : goal.bounds-rows-child
bounds-rows-child c =
    (child_entry c.args.tree.now c.requires.sound.law c.node_count-nodes.ensures.is_tree c.args.node c.args.child
    c.index-tables-class.result c.requires.node c.requires.child c.class-class.ensures.class
    (c.as_slice-tables.ensures ∙ c.requires.tables.kids) (c.as_slice-rows.ensures ∙ c.index-tables-class.is)).within

pub bounds-row-attr : goal.bounds-row-attr
bounds-row-attr c =
    (rule_entry c.args.tree.now c.requires.sound.law c.node_count-nodes.ensures.is_tree c.args.node c.args.child
    c.index-tables-class.result c.requires.node c.requires.child c.class-class.ensures.class
    (c.as_slice-tables.ensures ∙ c.requires.tables.kids) (c.as_slice-rows.ensures ∙ c.index-tables-class.is)
    c.args.attr c.index-rows-child.result c.requires.attr (c.as_slice-row.ensures ∙ c.index-rows-child.is)).within

pub returns : goal.returns
returns c =
    let g = meant c.args.tree.now.checked in
    let at = rule_entry c.args.tree.now c.requires.sound.law c.node_count-nodes.ensures.is_tree c.args.node c.args.child
    c.index-tables-class.result c.requires.node c.requires.child c.class-class.ensures.class
    (c.as_slice-tables.ensures ∙ c.requires.tables.kids) (c.as_slice-rows.ensures ∙ c.index-tables-class.is)
    c.args.attr c.index-rows-child.result c.requires.attr (c.as_slice-row.ensures ∙ c.index-rows-child.is) in
    record { rule = at.is None ∙ ap (λ n. rule_number g n (Some c.args.child) c.args.attr) c.class-class.ensures.class }
