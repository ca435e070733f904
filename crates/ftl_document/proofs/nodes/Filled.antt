-- The slots of a node without a fault hold its inputs.
use Rattle.std.proofs.Common.{◌≡◌, ℕ, ◌∙◌, ap, ap₂, subst, arith, List, [], ◌∷◌, length, map, take, None}
use Rattle.std.proofs.Common.{Option, Some, ℤ, refl, length-append}
use Rattle.std.proofs.lemmas.List.{length-map, map-append, take_at}
use Rattle.ftl_grammar.specs.declared.syntax.rules.Grammar.{Grammar}
use Rattle.ftl_meaning.specs.faults.FirstFault as grammars
use Rattle.ftl_document.specs.syntax.Written.{NameText, WrittenFields}
use Rattle.ftl_document.specs.faults.DocumentTree.{inputs_in}
use Rattle.ftl_document.specs.faults.FirstFault.{first_there, input_names, needed_names, node_fault}
use Rattle.ftl_document.specs.faults.Nodes.{field_heads, standing}
use Rattle.ftl_document.proofs.faults.ChildNames.{child_names_of}
use Rattle.ftl_document.proofs.faults.NoDocFault.{IsRight, each_right}
use Rattle.ftl_document.specs.fields.OwnFields.{own_of, slot_of}
use Rattle.ftl_document.specs.fields.Placed.{IsClassOf}
use Rattle.ftl_document.specs.declared.fields.node_fields.Slots.{Slots}
use Rattle.ftl_document.specs.declared.fields.own_field.OwnField.{OwnField}
use Rattle.ftl_document.proofs.fields.SlotInputs.{inputs_held}
use Rattle.ftl_document.specs.nodes.Filled.{AreFilled, input_in}
use Rattle.ftl_document.proofs.nodes.Nodes.{number_is}

module _ (g : Grammar) (lawful : grammars.first_fault g ≡ None) (n wanted k : ℕ) (name : NameText)
    (fields : WrittenFields) (class : IsClassOf g wanted name k)
    (fine : node_fault g (n, standing wanted name fields) ≡ None) where
  right : IsRight g wanted k (field_heads fields)
  right =
      subst (λ m. IsRight g wanted m (field_heads fields)) (number_is g name k class.named)
      (each_right g n (standing wanted name fields ∷ []) (ap (λ o. first_there (o ∷ [])) fine)).0

  pub filled : (s : Slots) (own : List OwnField) → own ≡ own_of fields
      → s.values.items ≡ map (slot_of own) (needed_names g k) → AreFilled g k fields s
  filled s own same values =
      let slot : NameText → Option ℤ = slot_of own in
      let names = input_names g k in
      let others = child_names_of g k in
      let all = ap length values in
      let each = length-map (needed_names g k) slot in
      let both = length-append names others in
      let inputs = length-map names slot in
      record {
        room = omega (arith, all, each, both);
        inputs = ap (take (length names)) (values ∙ map-append slot names others)
            ∙ take_at (map slot names) (map slot others) (length names) inputs
            ∙ ap (λ (own : List OwnField). map (slot_of own) names) same
            ∙ inputs_held g lawful right.node k class.known fields right.fields right.missing;
      }

-- the numbers of slots that are full
pub numbers_of : (ns : List ℤ) → map input_in (map Some ns) ≡ ns
numbers_of [] = refl
numbers_of (n ∷ ns) = ap (λ ms. n ∷ ms) (numbers_of ns)

-- so many of the first slots as there are inputs
pub first_numbers : (g : Grammar) (k : ℕ) (fields : WrittenFields) (s : Slots) (values : List (Option ℤ)) (m : ℕ)
    → AreFilled g k fields s → values ≡ s.values.items → m ≡ length (input_names g k)
    → map input_in (take m values) ≡ inputs_in g k fields
first_numbers g k fields s values m h same many =
    ap (map input_in) (ap₂ (λ n (vs : List (Option ℤ)). take n vs) many same ∙ h.inputs)
    ∙ numbers_of (inputs_in g k fields)
