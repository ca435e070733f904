-- The inputs that names stand for.
use Rattle.std.proofs.Common.{◌≡◌, ℕ, Bool, true, false, cond, refl, ◌∙◌, ap, subst, ⊎_elim, List, Contains, Option}
use Rattle.std.proofs.Common.{Some, None}
use Rattle.std.specs.Option.{option_and_then}
use Rattle.std.specs.Str.{bytes_eq}
use Rattle.std.proofs.lemmas.List.{map-append}
use Rattle.std.proofs.lemmas.List.Elements.{Contains-append_cases}
use Rattle.std.proofs.lemmas.Option.{cond_some, option_and_then_some}
use Rattle.ftl_model.proofs.lists.Elements.{filter_has}
use Rattle.ftl_model.proofs.lists.Rising.{map_has}
use Rattle.ftl_model.specs.layout.AttributeGrammar as model
use Rattle.ftl_model.specs.layout.AttributeGrammar.{class_inputs}
use Rattle.ftl_grammar.specs.declared.syntax.rules.AttrDecl.{AttrDecl}
use Rattle.ftl_grammar.specs.declared.syntax.rules.AttrKind.{AttrKind}
use Rattle.ftl_grammar.specs.declared.syntax.rules.AttrKind.TheVariants as kinds
use Rattle.ftl_grammar.specs.declared.syntax.rules.Child.{Child}
use Rattle.ftl_grammar.specs.declared.syntax.rules.Grammar.{Grammar}
use Rattle.ftl_meaning.specs.faults.Checked.{field_by, field_named, is_input, number_if}
use Rattle.ftl_meaning.specs.faults.Numbering.{class_attributes, find_attribute, find_child, interface_of}
use Rattle.ftl_meaning.specs.faults.Numbering.{own_attributes}
use Rattle.ftl_meaning.specs.faults.Numbering.{shared_attributes}
use Rattle.ftl_meaning.specs.grammars.GrammarOf.{declaration_at, grammar_of, sort_of}
use Rattle.ftl_meaning.specs.declared.faults.info.Field.TheVariants as field
use Rattle.ftl_meaning.proofs.lawful.Found.{find_is}
use Rattle.ftl_meaning.proofs.lawful.Numbers.{own_at, shared_at}
use Rattle.ftl_edits.specs.syntax.Written.{NameText}
use Rattle.ftl_edits.specs.meaning.Meaning.{input_in, input_named}

-- ---- inputs among fields

by_kind : (b : Bool) (a : ℕ) → input_in (cond b (Some (field.Input a)) None) ≡ cond b (Some a) None
by_kind true a = refl
by_kind false a = refl

input_by : (a : Option (ℕ × AttrDecl)) (c : Option (ℕ × Child))
    → input_in (field_by a c) ≡ option_and_then (number_if is_input) a
input_by (Some x) c = by_kind (is_input x.1.kind) x.0
input_by None (Some c) = refl
input_by None None = refl

-- the input among what a document's field may name
pub input_is : (g : Grammar) (k : ℕ) (name : NameText) → input_in (field_named g k name) ≡ input_named g k name
input_is g k name = input_by (find_attribute name (class_attributes g k)) (find_child g k name)

-- ---- inputs by number

-- an input's kind is an input's sort
input_sort : (kind : AttrKind) → model.is_input (sort_of kind) ≡ is_input kind
input_sort kinds.Inh = refl
input_sort kinds.Syn = refl
input_sort kinds.Input = refl
input_sort kinds.Local = refl

-- each attribute of a class is the one of its number
attributes_at : (g : Grammar) (k : ℕ) (x : ℕ × AttrDecl) → Contains (class_attributes g k) x
    → declaration_at g x.0 ≡ x.1
attributes_at g k x there =
    ⊎_elim (λ shared. (shared_at g (interface_of g k) x shared).1) (λ own. (own_at g k x own).1)
    (Contains-append_cases (shared_attributes g (interface_of g k)) (own_attributes g k) x there)

-- the attributes of a class that are inputs are its inputs by number
is_of_class : (greatest : ℕ) (g : Grammar) (k : ℕ) (x : ℕ × AttrDecl) → Contains (class_attributes g k) x
    → is_input x.1.kind ≡ true → Contains (class_inputs (grammar_of greatest g) k) x.0
is_of_class greatest g k x there input =
    filter_has (λ a. model.is_input (sort_of (declaration_at g a).kind))
    (model.attributes_of (grammar_of greatest g) k) x.0
    (subst (λ (ns : List ℕ). Contains ns x.0)
    (map-append (λ (a : ℕ × AttrDecl). a.0) (shared_attributes g (interface_of g k)) (own_attributes g k))
    (map_has (λ (a : ℕ × AttrDecl). a.0) (class_attributes g k) x there))
    (ap (λ (d : AttrDecl). model.is_input (sort_of d.kind)) (attributes_at g k x there) ∙ input_sort x.1.kind ∙ input)

-- what a name stands for is an input of the class
pub named_input : (greatest : ℕ) (g : Grammar) (k : ℕ) (name : NameText) (a : ℕ) → input_named g k name ≡ Some a
    → Contains (class_inputs (grammar_of greatest g) k) a
named_input greatest g k name a is =
    option_and_then_some (number_if is_input) (find_attribute name (class_attributes g k)) a is
    (λ x found picked.
    let there = (find_is (λ z. bytes_eq name z.1.name) (class_attributes g k) x found).0 in
    let chosen = cond_some (is_input x.1.kind) x.0 a picked in
    subst (Contains (class_inputs (grammar_of greatest g) k)) chosen.1 (is_of_class greatest g k x there chosen.0))
