-- What a target stands for is a rule that the meaning of the grammar has.
use Rattle.std.proofs.Common.{◌≡◌, inl, inr, ℕ, ◌<◌, true, refl, sym, ◌∙◌, ap, subst, ⊎_elim, length, map, Contains, Some}
use Rattle.std.specs.Option.{option_and_then}
use Rattle.std.specs.Str.{bytes_eq}
use Rattle.std.proofs.lemmas.Bool.{false≢true}
use Rattle.std.proofs.lemmas.Option.{cond_some, option_and_then_some}
use Rattle.std.proofs.lemmas.List.Elements.{Contains-append_cases}
use Rattle.ftl_model.proofs.lists.Rising.{map_has}
use Rattle.ftl_model.specs.layout.AttributeGrammar.{AttributeGrammar, Sort}
use Rattle.ftl_model.specs.layout.AttributeGrammar as model
use Rattle.ftl_order.specs.orders.Lawful.{IsOwnSort, IsRule}
use Rattle.ftl_grammar.specs.syntax.Trees.{NameText}
use Rattle.ftl_grammar.specs.declared.syntax.rules.AttrDecl.{AttrDecl}
use Rattle.ftl_grammar.specs.declared.syntax.rules.AttrKind.{AttrKind}
use Rattle.ftl_grammar.specs.declared.syntax.rules.AttrKind.TheVariants as kinds
use Rattle.ftl_grammar.specs.declared.syntax.rules.Child.{Child}
use Rattle.ftl_grammar.specs.declared.syntax.rules.Grammar.{Grammar}
use Rattle.ftl_grammar.specs.declared.syntax.rules.Target.{Target}
use Rattle.ftl_grammar.specs.declared.syntax.rules.Target.TheVariants as targets
use Rattle.ftl_meaning.specs.faults.Numbering.{child_at, child_attributes, class_at, class_attributes, find_attribute, find_child, interface_number, interface_of, own_attributes, shared_attributes}
use Rattle.ftl_meaning.specs.faults.RuleForms.{Slot, is_inherited, is_synthesized_or_local, kid_slot, own_slot, slot_by, slot_of}
use Rattle.ftl_meaning.specs.grammars.GrammarOf.{declaration_at, grammar_of, name_of_rule, sort_of}
use Rattle.ftl_meaning.proofs.lawful.Found.{find_is}
use Rattle.ftl_meaning.proofs.lawful.Numbers.{own_at, shared_at}
use Rattle.ftl_meaning.proofs.lawful.ReadsAllowed.{child_found, of_class}

-- a kind that a rule of the own class defines has such a sort
own_sort : (kind : AttrKind) → is_synthesized_or_local kind ≡ true → IsOwnSort (sort_of kind)
own_sort kinds.Inh h = absurd (false≢true h)
own_sort kinds.Syn h = inl refl
own_sort kinds.Input h = absurd (false≢true h)
own_sort kinds.Local h = inr refl

-- an inherited kind has the inherited sort
inherited_sort : (kind : AttrKind) → is_inherited kind ≡ true → sort_of kind ≡ model.inherited
inherited_sort kinds.Inh h = refl
inherited_sort kinds.Syn h = absurd (false≢true h)
inherited_sort kinds.Input h = absurd (false≢true h)
inherited_sort kinds.Local h = absurd (false≢true h)

module _ (w : ℕ) (g : Grammar) (k : ℕ) where
  abbrev meant : AttributeGrammar
  meant = grammar_of w g

  -- an attribute of a class stands at its number
  pub class_attribute : (p : ℕ × AttrDecl) → Contains (class_attributes g k) p → declaration_at g p.0 ≡ p.1
  class_attribute p h =
      ⊎_elim (λ shared. (shared_at g (interface_of g k) p shared).1) (λ own. (own_at g k p own).1)
      (Contains-append_cases (shared_attributes g (interface_of g k)) (own_attributes g k) p h)

  own_rule : k < length g.classes → (a : NameText) (slot : Slot) (p : ℕ × AttrDecl)
      → find_attribute a (class_attributes g k) ≡ Some p → slot_by is_synthesized_or_local own_slot p ≡ Some slot
      → IsRule meant (name_of_rule k slot)
  own_rule known a slot p found h =
      let c = cond_some (is_synthesized_or_local p.1.kind) (own_slot p.0) slot h in
      let there = (find_is (λ a'. bytes_eq a a'.1.name) (class_attributes g k) p found).0 in
      subst (λ s. IsRule meant (name_of_rule k s)) c.1 (
        known,
        of_class w g k p.0 (map_has (λ a. a.0) (class_attributes g k) p there),
        subst IsOwnSort (sym (ap (λ (x : AttrDecl). sort_of x.kind) (class_attribute p there))) (own_sort p.1.kind c.0),
      )

  kid_rule : k < length g.classes → (a : NameText) (slot : Slot) (child : ℕ × Child) (p : ℕ × AttrDecl)
      → (child.0 < length (class_at g k).children) × (child_at g k child.0 ≡ child.1)
      → find_attribute a (child_attributes g child.1) ≡ Some p → slot_by is_inherited (kid_slot child.0) p ≡ Some slot
      → IsRule meant (name_of_rule k slot)
  kid_rule known a slot child p stands found h =
      let c = cond_some (is_inherited p.1.kind) (kid_slot child.0 p.0) slot h in
      let there = (find_is (λ a'. bytes_eq a a'.1.name) (child_attributes g child.1) p found).0 in
      subst (λ s. IsRule meant (name_of_rule k s)) c.1 (
        known,
        stands.0,
        subst (λ (x : Child). Contains (map (λ a. a.0) (child_attributes g x)) p.0) (sym stands.1)
            (map_has (λ a. a.0) (child_attributes g child.1) p there),
        ap (λ (x : AttrDecl). sort_of x.kind) (shared_at g (interface_number g child.1.interface) p there).1
            ∙ inherited_sort p.1.kind c.0,
      )

  -- what a target stands for is a rule
  pub slot_rule : k < length g.classes → (target : Target) (slot : Slot) → slot_of g k target ≡ Some slot
      → IsRule meant (name_of_rule k slot)
  slot_rule known (targets.Own a) slot h =
      option_and_then_some (slot_by is_synthesized_or_local own_slot) (find_attribute a (class_attributes g k)) slot h
      (λ p found is. own_rule known a slot p found is)
  slot_rule known (targets.Of c a) slot h =
      option_and_then_some
      (λ child. option_and_then (slot_by is_inherited (kid_slot child.0)) (find_attribute a (child_attributes g child.1)))
      (find_child g k c) slot h
      (λ child stands inner.
      option_and_then_some (slot_by is_inherited (kid_slot child.0)) (find_attribute a (child_attributes g child.1)) slot inner
      (λ p found is. kid_rule known a slot child p (child_found w g k c child stands) found is))
