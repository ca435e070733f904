-- What a field of the name of an input is.
use Rattle.std.proofs.Common.{◌≡◌, ℕ, Bool, true, false, if◌then◌else◌, List, map, Contains, refl, ◌∙◌, ap, subst}
use Rattle.std.specs.Prelude.{None, Option, Some}
use Rattle.std.specs.Option.{option_map}
use Rattle.std.proofs.lemmas.List.{map-append}
use Rattle.std.specs.Str.{bytes_eq}
use Rattle.ftl_model.proofs.lists.Elements.{filter_has}
use Rattle.ftl_model.proofs.lists.Rising.{map_has}
use Rattle.ftl_grammar.specs.syntax.Trees.{NameText}
use Rattle.ftl_grammar.specs.declared.syntax.rules.AttrDecl.{AttrDecl}
use Rattle.ftl_grammar.specs.declared.syntax.rules.AttrKind.{AttrKind}
use Rattle.ftl_grammar.specs.declared.syntax.rules.AttrKind.TheVariants as kinds
use Rattle.ftl_grammar.specs.declared.syntax.rules.Child.{Child}
use Rattle.ftl_grammar.specs.declared.syntax.rules.Grammar.{Grammar}
use Rattle.ftl_meaning.specs.faults.Checked.{field_by, field_named, is_input}
use Rattle.ftl_meaning.specs.faults.Numbering.{class_attributes, find_attribute, find_child, interface_of}
use Rattle.ftl_meaning.specs.faults.Numbering.{own_attributes, shared_attributes}
use Rattle.ftl_meaning.specs.declared.faults.info.Field.TheVariants as field
use Rattle.ftl_meaning.proofs.lawful.Found.{find_is}
use Rattle.ftl_meaning.proofs.lawful.SlotRules.{class_attribute}
use Rattle.ftl_meaning.specs.grammars.GrammarOf.{grammar_of, sort_of}
use Rattle.ftl_model.specs.layout.AttributeGrammar as model
use Rattle.ftl_model.specs.layout.AttributeGrammar.{attributes_of, class_inputs}

input_sort : (k : AttrKind) → model.is_input (sort_of k) ≡ is_input k
input_sort kinds.Inh = refl
input_sort kinds.Syn = refl
input_sort kinds.Input = refl
input_sort kinds.Local = refl

-- it is an input of the class
pub input_named : (w : ℕ) (g : Grammar) (k a : ℕ) (name : NameText) → field_named g k name ≡ Some (field.Input a)
    → Contains (class_inputs (grammar_of w g) k) a
input_named w g k a name named = by_attribute (find_attribute name (class_attributes g k)) refl named
  where
    by_child : (o : Option (ℕ × Child)) → option_map (λ (c : ℕ × Child). field.Child c.0) o ≡ Some (field.Input a)
        → Contains (class_inputs (grammar_of w g) k) a
    by_child None e = absurd (let z : ⊥ = cc in z)
    by_child (Some c) e = absurd (let z : ⊥ = cc in z)

    by_kind : (p : ℕ × AttrDecl) → Contains (class_attributes g k) p → (b : Bool) → is_input p.1.kind ≡ b
        → (if b then Some (field.Input p.0) else None) ≡ Some (field.Input a)
        → Contains (class_inputs (grammar_of w g) k) a
    by_kind p there false kind e = absurd (let z : ⊥ = cc in z)
    by_kind p there true kind e =
        let same : p.0 ≡ a = cc in
        let ns = map (λ (x : ℕ × AttrDecl). x.0) (class_attributes g k) in
        let all : ns ≡ attributes_of (grammar_of w g) k =
        map-append (λ (x : ℕ × AttrDecl). x.0) (shared_attributes g (interface_of g k)) (own_attributes g k) in
        subst (Contains (class_inputs (grammar_of w g) k)) same
        (filter_has (λ b. model.is_input ((grammar_of w g).sort b)) (attributes_of (grammar_of w g) k) p.0
        (subst (λ (xs : List ℕ). Contains xs p.0) all (map_has (λ (x : ℕ × AttrDecl). x.0)
        (class_attributes g k) p there))
        (ap (λ (x : AttrDecl). model.is_input (sort_of x.kind)) (class_attribute w g k p there)
        ∙ input_sort p.1.kind ∙ kind))

    by_attribute : (o : Option (ℕ × AttrDecl)) → find_attribute name (class_attributes g k) ≡ o
        → field_by o (find_child g k name) ≡ Some (field.Input a) → Contains (class_inputs (grammar_of w g) k) a
    by_attribute None e is = by_child (find_child g k name) is
    by_attribute (Some p) e is =
        by_kind p (find_is (λ (y : ℕ × AttrDecl). bytes_eq name y.1.name) (class_attributes g k) p e).0
        (is_input p.1.kind) refl is
