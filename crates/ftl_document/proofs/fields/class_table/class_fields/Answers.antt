use Rattle.std.proofs.Common.{◌≡◌, ℕ, ◌++◌, List, length, map, ap, ap₂, sym, ◌∙◌, arith}
use Rattle.ftl_grammar.specs.syntax.Trees.{NameText}
use Rattle.ftl_grammar.specs.declared.syntax.rules.Child.{Child}
use Rattle.ftl_grammar.specs.declared.syntax.rules.Grammar.{Grammar}
use Rattle.ftl_meaning.specs.faults.Numbering.{class_at}
use Rattle.ftl_document.specs.faults.FirstFault.{input_names, needed_names}
use Rattle.ftl_document.proofs.fields.ClassNames.{few_input_names, few_names, needed_are}
use Rattle.ftl_document.proofs.fields.class_table.class_fields.Goals as goal

-- the names that were pushed, where the grammar that is lent is the one that is meant
full : (g lent : Grammar) (k : ℕ) (xs ys : List NameText) → lent ≡ g → xs ≡ input_names lent k
    → ys ≡ xs ++ map (λ (c : Child). c.name) (class_at lent k).children → ys ≡ needed_names g k
full g lent k xs ys same inputs all =
    all
    ∙ ap₂ (λ (ns : List NameText) (h : Grammar). ns ++ map (λ (c : Child). c.name) (class_at h k).children)
    (inputs ∙ ap (λ h. input_names h k) same) same
    ∙ sym (needed_are g k)

pub overflow_cast-inputs : goal.overflow_cast-inputs
overflow_cast-inputs c =
    let few = few_input_names c.args.checked.now.grammar c.grammar-grammar.ensures.lawful c.args.class c.requires.within in
    let names = c.in_ok-names.ensures.names ∙ ap (λ g. input_names g c.args.class) c.grammar-grammar.ensures.grammar in
    omega (arith, few, ap length names, c.len-inputs.ensures)

pub new-requires : goal.new-requires
new-requires c =
    let few = few_names c.args.checked.now.grammar c.grammar-grammar.ensures.lawful c.args.class c.requires.within in
    let all = full c.args.checked.now.grammar c.grammar-grammar.result.now c.args.class c.in_ok-names.names
    c.add_children_of.new.names c.grammar-grammar.ensures.grammar c.in_ok-names.ensures.names c.in_ok-add_children_of.ensures.names in
    record { few = omega (arith, few, ap length all) }

pub returns-clause-names : goal.returns-clause-names
returns-clause-names c =
    c.in_ok-names-2.ensures.names
    ∙ full c.args.checked.now.grammar c.grammar-grammar.result.now c.args.class c.in_ok-names.names
    c.add_children_of.new.names c.grammar-grammar.ensures.grammar c.in_ok-names.ensures.names c.in_ok-add_children_of.ensures.names
