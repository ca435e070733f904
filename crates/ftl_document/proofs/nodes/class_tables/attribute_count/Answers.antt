use Rattle.std.proofs.Common.{◌≡◌, ℕ, ◌+◌, ◌∙◌, sym, ap, ap₂, arith, length}
use Rattle.ftl_grammar.specs.declared.syntax.rules.Grammar.{Grammar}
use Rattle.ftl_meaning.specs.faults.Numbering.{class_at, interface_at, interface_of}
use Rattle.ftl_document.proofs.nodes.ClassWidths.{few_attributes, width_is}
use Rattle.ftl_document.proofs.nodes.class_tables.attribute_count.Goals as goal

-- what was counted, where the grammar that is lent is the one that is meant
counted : (g lent : Grammar) (k i a b : ℕ) → lent ≡ g → i ≡ interface_of g k → a ≡ length (interface_at lent i).attrs
    → b ≡ length (class_at lent k).attrs
    → a + b ≡ length (interface_at g (interface_of g k)).attrs + length (class_at g k).attrs
counted g lent k i a b same interface one two =
    ap₂ (λ x y. x + y)
    (one ∙ ap₂ (λ (h : Grammar) j. length (interface_at h j).attrs) same interface)
    (two ∙ ap (λ (h : Grammar). length (class_at h k).attrs) same)

pub overflow_add-result : goal.overflow_add-result
overflow_add-result c =
    let few = few_attributes c.args.checked.now.grammar c.grammar-grammar.ensures.lawful c.args.class
    c.requires.within in
    let sum = counted c.args.checked.now.grammar c.grammar-grammar.result.now c.args.class c.interface_of.result
    c.shared_count-shared.result c.own_count-own.result c.grammar-grammar.ensures.grammar
    c.interface_of.ensures.interface c.shared_count-shared.ensures.count c.own_count-own.ensures.count in
    omega (arith, few, sum)

pub overflow_cast-result : goal.overflow_cast-result
overflow_cast-result c =
    let few = few_attributes c.args.checked.now.grammar c.grammar-grammar.ensures.lawful c.args.class
    c.requires.within in
    let sum = counted c.args.checked.now.grammar c.grammar-grammar.result.now c.args.class c.interface_of.result
    c.shared_count-shared.result c.own_count-own.result c.grammar-grammar.ensures.grammar
    c.interface_of.ensures.interface c.shared_count-shared.ensures.count c.own_count-own.ensures.count in
    omega (arith, few, sum)

pub returns-clause-count : goal.returns-clause-count
returns-clause-count c =
    counted c.args.checked.now.grammar c.grammar-grammar.result.now c.args.class c.interface_of.result
    c.shared_count-shared.result c.own_count-own.result c.grammar-grammar.ensures.grammar
    c.interface_of.ensures.interface c.shared_count-shared.ensures.count c.own_count-own.ensures.count
    ∙ sym (width_is c.args.checked.now.grammar c.args.class)

pub returns-clause-few : goal.returns-clause-few
returns-clause-few c =
    let few = few_attributes c.args.checked.now.grammar c.grammar-grammar.ensures.lawful c.args.class
    c.requires.within in
    let sum = counted c.args.checked.now.grammar c.grammar-grammar.result.now c.args.class c.interface_of.result
    c.shared_count-shared.result c.own_count-own.result c.grammar-grammar.ensures.grammar
    c.interface_of.ensures.interface c.shared_count-shared.ensures.count c.own_count-own.ensures.count in
    omega (arith, few, sum)
