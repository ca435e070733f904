use Rattle.std.proofs.Common.{◌≡◌, ◌++◌, ◌∙◌, List, ap, map, take}
use Rattle.ftl_grammar.specs.declared.syntax.rules.Class.{Class}
use Rattle.ftl_grammar.specs.declared.syntax.rules.Interface.{Interface}
use Rattle.ftl_checked.specs.declared.lookup.tables.InterfaceTable.{InterfaceTable}
use Rattle.ftl_meaning.specs.faults.Numbering.{class_names, interface_names, numbered, shared_count}
use Rattle.ftl_checked.specs.lookup.Tables.{interface_entry, interface_table, class_entry}
use Rattle.ftl_checked.proofs.lookup.tables.build_tables.Goals as goal

pub returns : goal.returns
returns c =
    let g = c.args.grammar.now in
    let Made : List Interface → List InterfaceTable =
    λ xs. map (λ x. interface_table (shared_count (take x.0 xs)) x.1) (numbered 0 xs) in
    let all : c.in_ok-names.names ≡ interface_names g ++ class_names g =
    c.in_ok-names.ensures.names ∙ c.in_ok-grammar_names.ensures.names in
    let named : c.in_ok-class_names.class_names ≡ class_names g =
    c.in_ok-class_names.ensures.names ∙ c.in_ok-names_of.ensures.names
    ∙ ap (map (λ (k : Class). k.name)) c.as_slice.ensures in
    let interfaces : c.in_ok-interfaces.interfaces ≡ map (interface_entry g) (numbered 0 g.interfaces) =
    c.in_ok-interfaces.ensures.tables ∙ ap Made c.as_slice-2.ensures in
    let classes : c.in_ok-classes.classes ≡ map (class_entry g) (numbered 0 g.classes) = c.in_ok-classes.ensures.tables in
    record { tables = λ i. record { names = all i; class_names = named i; interfaces = interfaces i; classes = classes i } }
