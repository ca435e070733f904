-- The parts of documents that have a reader and no line of the syntax, and chains of them.
use Rattle.std.proofs.Common.{◌≡◌, ℤ, [], ◌∷◌, ◌++◌, refl, sym, ap, ◌∙◌, subst, append_assoc}
use Rattle.ftl_tokens.specs.declared.scanner.kind.Kind.TheVariants as kind
use Rattle.ftl_tokens.specs.scanner.Tokenized.{name, fixed}
use Rattle.ftl_tokens.specs.reading.Reader.{Tokens}
use Rattle.ftl_tokens.proofs.reading.ChainPrefix.{Chain, none, more}
use Rattle.ftl_document.specs.syntax.Written.{NameText, WrittenFields, WrittenNode, WrittenNodes, no_fields, no_nodes}
use Rattle.ftl_document.specs.syntax.Written.{number_field, node_field, list_field, node_and}
use Rattle.ftl_document.specs.syntax.Spelling.{SpellsNumber, SpellsFields, SpellsNodes, SpellsNode, no_more, number_and}
use Rattle.ftl_document.specs.syntax.Spelling.{single_and, list_and, node_more, node_of}
use Rattle.ftl_document.specs.syntax.Spelling as spelling
use Rattle.ftl_document.proofs.syntax.Reading.{append_fields, append_nodes, add_node, one_number, one_single, one_list}

-- fields in braces
pub data SpellsBraced : Tokens → WrittenFields → Type 0 where
  braced_of : {a : Tokens} {fields : WrittenFields} → SpellsFields a fields
      → SpellsBraced (fixed kind.LeftBrace ∷ (a ++ (fixed kind.RightBrace ∷ []))) fields

-- one field
pub data SpellsOne : Tokens → WrittenFields → Type 0 where
  number_alone : {x : NameText} {a : Tokens} {n : ℤ} → SpellsNumber a n
      → SpellsOne (name x ∷ fixed kind.Equals ∷ a) (one_number x n)
  single_alone : {x : NameText} {a : Tokens} {node : WrittenNode} → SpellsNode a node
      → SpellsOne (name x ∷ fixed kind.Equals ∷ a) (one_single x node)
  list_alone : {x : NameText} {a : Tokens} {nodes : WrittenNodes} → SpellsNodes a nodes
      → SpellsOne (name x ∷ fixed kind.Equals ∷ fixed kind.LeftBracket ∷ (a ++ (fixed kind.RightBracket ∷ [])))
      (one_list x nodes)

-- ---- fields and nodes one after another

pub append_fields-none : (fields : WrittenFields) → append_fields fields no_fields ≡ fields
append_fields-none no_fields = refl
append_fields-none (number_field x n later) = ap (number_field x n) (append_fields-none later)
append_fields-none (node_field x class fields later) = ap (node_field x class fields) (append_fields-none later)
append_fields-none (list_field x nodes later) = ap (list_field x nodes) (append_fields-none later)

pub append_fields-assoc : (a b c : WrittenFields) → append_fields (append_fields a b) c ≡ append_fields a (append_fields b c)
append_fields-assoc no_fields b c = refl
append_fields-assoc (number_field x n later) b c = ap (number_field x n) (append_fields-assoc later b c)
append_fields-assoc (node_field x class fields later) b c = ap (node_field x class fields) (append_fields-assoc later b c)
append_fields-assoc (list_field x nodes later) b c = ap (list_field x nodes) (append_fields-assoc later b c)

pub append_nodes-none : (nodes : WrittenNodes) → append_nodes nodes no_nodes ≡ nodes
append_nodes-none no_nodes = refl
append_nodes-none (node_and class fields later) = ap (node_and class fields) (append_nodes-none later)

pub append_nodes-assoc : (a b c : WrittenNodes) → append_nodes (append_nodes a b) c ≡ append_nodes a (append_nodes b c)
append_nodes-assoc no_nodes b c = refl
append_nodes-assoc (node_and class fields later) b c = ap (node_and class fields) (append_nodes-assoc later b c)

-- ---- what a chain spells

-- one field, and those after it
one_more_field : (a b : Tokens) (x later : WrittenFields) → SpellsOne a x → SpellsFields b later
    → SpellsFields (a ++ b) (append_fields x later)
one_more_field a b x later (number_alone s) t = number_and s t
one_more_field a b x later (single_alone {x = y} (node_of {class = class} {a = c} {fields = fields} s)) t =
    subst
    (λ l. SpellsFields (name y ∷ fixed kind.Equals ∷ name class ∷ fixed kind.LeftBrace ∷ l) (node_field y class fields later))
    (sym (append_assoc c (fixed kind.RightBrace ∷ []) b)) (single_and s t)
one_more_field a b x later (list_alone {x = y} {a = c} {nodes = nodes} s) t =
    subst (λ l. SpellsFields (name y ∷ fixed kind.Equals ∷ fixed kind.LeftBracket ∷ l) (list_field y nodes later))
    (sym (append_assoc c (fixed kind.RightBracket ∷ []) b)) (list_and s t)

-- one node, and those after it
one_more_node : (a b : Tokens) (x : WrittenNode) (later : WrittenNodes) → SpellsNode a x → SpellsNodes b later
    → SpellsNodes (a ++ b) (node_and x.class x.fields later)
one_more_node a b x later (node_of {class = class} {a = c} {fields = fields} s) t =
    subst (λ l. SpellsNodes (name class ∷ fixed kind.LeftBrace ∷ l) (node_and class fields later))
    (sym (append_assoc c (fixed kind.RightBrace ∷ []) b)) (node_more s t)

-- the fields that a chain adds to those that were found
record AddedFields (found : WrittenFields) (tokens : Tokens) (end : WrittenFields) : Type 0 where
  later : WrittenFields
  all : end ≡ append_fields found later
  spells : SpellsFields tokens later

added_fields : {found end : WrittenFields} {b : Tokens} → Chain append_fields SpellsOne found b end
    → AddedFields found b end
added_fields {found} none = record { later = no_fields; all = sym (append_fields-none found); spells = no_more }
added_fields {found} (more {a = a} {b = b} {x = x} s chain) =
    let rest = added_fields chain in
    record {
      later = append_fields x rest.later;
      all = rest.all ∙ append_fields-assoc found x rest.later;
      spells = one_more_field a b x rest.later s rest.spells;
    }

-- from no field on, they are spelled
pub fields_spelled : {end : WrittenFields} {b : Tokens} → Chain append_fields SpellsOne no_fields b end
    → SpellsFields b end
fields_spelled {end} {b} chain = let added = added_fields chain in subst (SpellsFields b) (sym added.all) added.spells

-- the nodes that a chain adds to those that were found
record AddedNodes (found : WrittenNodes) (tokens : Tokens) (end : WrittenNodes) : Type 0 where
  later : WrittenNodes
  all : end ≡ append_nodes found later
  spells : SpellsNodes tokens later

added_nodes : {found end : WrittenNodes} {b : Tokens} → Chain add_node SpellsNode found b end → AddedNodes found b end
added_nodes {found} none = record { later = no_nodes; all = sym (append_nodes-none found); spells = spelling.none }
added_nodes {found} (more {a = a} {b = b} {x = x} s chain) =
    let rest = added_nodes chain in
    record {
      later = node_and x.class x.fields rest.later;
      all = rest.all ∙ append_nodes-assoc found (node_and x.class x.fields no_nodes) rest.later;
      spells = one_more_node a b x rest.later s rest.spells;
    }

-- from no node on, they are spelled
pub nodes_spelled : {end : WrittenNodes} {b : Tokens} → Chain add_node SpellsNode no_nodes b end → SpellsNodes b end
nodes_spelled {end} {b} chain = let added = added_nodes chain in subst (SpellsNodes b) (sym added.all) added.spells

-- ---- what is spelled is a chain

-- the same end, by another way to say what was added
other_fields : {found end other : WrittenFields} {b : Tokens} → end ≡ other → Chain append_fields SpellsOne found b end
    → Chain append_fields SpellsOne found b other
other_fields {found} {b = b} e chain = subst (Chain append_fields SpellsOne found b) e chain

pub fields_chain : (found : WrittenFields) {b : Tokens} {later : WrittenFields} → SpellsFields b later
    → Chain append_fields SpellsOne found b (append_fields found later)
fields_chain found no_more = other_fields (sym (append_fields-none found)) none
fields_chain found (number_and {x = x} {a = a} {b = b} {n = n} {later = later} s t) =
    other_fields (append_fields-assoc found (one_number x n) later)
    (more (number_alone s) (fields_chain (append_fields found (one_number x n)) t))
fields_chain found (single_and {x = x} {class = class} {a = a} {b = b} {fields = fields} {later = later} s t) =
    let one = node_field x class fields no_fields in
    other_fields (append_fields-assoc found one later)
    (subst
    (λ l. Chain append_fields SpellsOne found (name x ∷ fixed kind.Equals ∷ name class ∷ fixed kind.LeftBrace ∷ l)
    (append_fields (append_fields found one) later))
    (append_assoc a (fixed kind.RightBrace ∷ []) b)
    (more (single_alone (node_of s)) (fields_chain (append_fields found one) t)))
fields_chain found (list_and {x = x} {a = a} {b = b} {nodes = nodes} {later = later} s t) =
    let one = one_list x nodes in
    other_fields (append_fields-assoc found one later)
    (subst
    (λ l. Chain append_fields SpellsOne found (name x ∷ fixed kind.Equals ∷ fixed kind.LeftBracket ∷ l)
    (append_fields (append_fields found one) later))
    (append_assoc a (fixed kind.RightBracket ∷ []) b)
    (more (list_alone s) (fields_chain (append_fields found one) t)))

pub nodes_chain : (found : WrittenNodes) {b : Tokens} {later : WrittenNodes} → SpellsNodes b later
    → Chain add_node SpellsNode found b (append_nodes found later)
nodes_chain found spelling.none = subst (Chain add_node SpellsNode found []) (sym (append_nodes-none found)) none
nodes_chain found (node_more {class = class} {a = a} {b = b} {fields = fields} {later = later} s t) =
    let one = node_and class fields no_nodes in
    subst (Chain add_node SpellsNode found _) (append_nodes-assoc found one later)
    (subst
    (λ l. Chain add_node SpellsNode found (name class ∷ fixed kind.LeftBrace ∷ l)
    (append_nodes (append_nodes found one) later))
    (append_assoc a (fixed kind.RightBrace ∷ []) b)
    (more (node_of s) (nodes_chain (append_nodes found one) t)))
