-- The slots of the inputs of a node without a fault hold the inputs of its tree.
use Rattle.std.proofs.Common.{◌≡◌, ℕ, ◌<◌, Bool, true, false, not, ◌||◌, cond, if◌then◌else◌, refl, sym, ◌∙◌, ap, ap₂, subst, ⊎_elim, pos, List, [], ◌∷◌, ◌++◌, length, map, Contains, Option, Some, None}
use Rattle.std.specs.List.{find}
use Rattle.std.specs.Option.{option_map}
use Rattle.std.specs.Str.{bytes_eq}
use Rattle.std.proofs.lemmas.Bool.{false≢true}
use Rattle.std.proofs.lemmas.Option.{none-some, same_Some}
use Rattle.std.proofs.lemmas.List.Elements.{Contains-append_left}
use Rattle.ftl_model.proofs.lists.Elements.{here_in, in_cases, later_in, nothing_in}
use Rattle.ftl_grammar.specs.declared.syntax.rules.Grammar.{Grammar}
use Rattle.ftl_meaning.specs.faults.FirstFault as grammars
use Rattle.ftl_meaning.specs.faults.Checked.{field_named}
use Rattle.ftl_meaning.specs.faults.Numbering.{is_among}
use Rattle.ftl_meaning.specs.declared.faults.info.Field.TheVariants as field
use Rattle.ftl_document.specs.syntax.Written.{NameText, WrittenFields, list_field, no_fields, node_field, number_field}
use Rattle.ftl_document.specs.faults.DocumentTree.{inputs_in, number_named}
use Rattle.ftl_document.specs.faults.FirstFault.{field_faults, first_there, has_form, input_names, missing_fault, names_of, needed_names}
use Rattle.ftl_document.specs.faults.Nodes.{FieldHead, field_heads, head_of, list_form, node_form, number_form}
use Rattle.ftl_document.specs.declared.faults.fault.DocFault.TheVariants as fault
use Rattle.ftl_document.proofs.faults.ChildNames.{child_names_of, input_stands}
use Rattle.ftl_meaning.proofs.names.Names.{same_name}
use Rattle.ftl_document.proofs.faults.NoDocFault.{field_right, later_right}
use Rattle.ftl_document.specs.fields.OwnFields.{head_in, own_of, slot_of}

pub heads_kept : (fields : WrittenFields) → map head_in (own_of fields) ≡ field_heads fields
heads_kept no_fields = refl
heads_kept (number_field name n later) = ap (λ hs. head_of name number_form ∷ hs) (heads_kept later)
heads_kept (node_field name class _ later) = ap (λ hs. head_of name node_form ∷ hs) (heads_kept later)
heads_kept (list_field name nodes later) = ap (λ hs. head_of name list_form ∷ hs) (heads_kept later)

-- a name that is looked for and not missing is there
none_missed : (p : NameText → Bool) (names : List NameText) → find (λ name. not (p name)) names ≡ None
    → (x : NameText) → Contains names x → p x ≡ true
none_missed p [] h x there = absurd (nothing_in x there)
none_missed p (y ∷ names) h x there = by_test (p y) refl (λ e later. none_missed p names e x later) h
  where
    by_test : (b : Bool) → p y ≡ b
        → (find (λ name. not (p name)) names ≡ None → Contains names x → p x ≡ true)
        → cond (not b) (Some y) (find (λ name. not (p name)) names) ≡ None → p x ≡ true
    by_test false e rest h = absurd (none-some y (sym h))
    by_test true e rest h =
        ⊎_elim (λ same. subst (λ z. p z ≡ true) same e) (λ later. rest h later) (in_cases y x names there)

no_name : (o : Option NameText) (n : ℕ) → option_map (fault.FieldMissing n) o ≡ None → o ≡ None
no_name None n h = refl
no_name (Some x) n h = absurd (none-some (fault.FieldMissing n x) (sym h))

module _ (g : Grammar) (lawful : grammars.first_fault g ≡ None) (n k : ℕ) (known : k < length g.classes) where
  -- the field of an input has a number
  no_number : (earlier : List FieldHead) (f : FieldHead) (fs : List FieldHead) (a : ℕ) (x : NameText)
      → first_there (field_faults g n k earlier (f ∷ fs)) ≡ None → field_named g k x ≡ Some (field.Input a) → x ≡ f.name
      → has_form g k (field.Input a) f.form ≡ true
  no_number earlier f fs a x fine stands same =
      let r = field_right g n k earlier f fs fine in
      subst (λ y. has_form g k y f.form ≡ true)
      (same_Some r.stands (field.Input a) (sym r.named ∙ ap (field_named g k) (sym same) ∙ stands)) r.form

  slot_is : (x : NameText) (a : ℕ) → field_named g k x ≡ Some (field.Input a) → (earlier : List FieldHead)
      → (fields : WrittenFields) → first_there (field_faults g n k earlier (field_heads fields)) ≡ None
      → is_among (names_of (field_heads fields)) x ≡ true → slot_of (own_of fields) x ≡ Some (number_named fields x)
  slot_is x a stands earlier no_fields fine there = absurd (false≢true there)
  slot_is x a stands earlier (number_field name m later) fine there =
      by_test (bytes_eq x name) there
      (slot_is x a stands (earlier ++ head_of name number_form ∷ []) later (later_right g n k earlier (head_of name number_form) (field_heads later) fine))
    where
      by_test : (b : Bool) → (b || is_among (names_of (field_heads later)) x) ≡ true
          → (is_among (names_of (field_heads later)) x ≡ true → slot_of (own_of later) x ≡ Some (number_named later x))
          → (if b then Some m else slot_of (own_of later) x) ≡ Some (if b then m else number_named later x)
      by_test true there rest = refl
      by_test false there rest = rest there
  slot_is x a stands earlier (node_field name class _ later) fine there =
      by_test (bytes_eq x name) refl there
      (slot_is x a stands (earlier ++ head_of name node_form ∷ []) later (later_right g n k earlier (head_of name node_form) (field_heads later) fine))
    where
      by_test : (b : Bool) → bytes_eq x name ≡ b → (b || is_among (names_of (field_heads later)) x) ≡ true
          → (is_among (names_of (field_heads later)) x ≡ true → slot_of (own_of later) x ≡ Some (number_named later x))
          → (if b then Some (pos 0) else slot_of (own_of later) x) ≡ Some (number_named later x)
      by_test true e there rest =
          absurd (false≢true (no_number earlier (head_of name node_form) (field_heads later) a x fine stands (same_name x name e)))
      by_test false e there rest = rest there
  slot_is x a stands earlier (list_field name nodes later) fine there =
      by_test (bytes_eq x name) refl there
      (slot_is x a stands (earlier ++ head_of name list_form ∷ []) later (later_right g n k earlier (head_of name list_form) (field_heads later) fine))
    where
      by_test : (b : Bool) → bytes_eq x name ≡ b → (b || is_among (names_of (field_heads later)) x) ≡ true
          → (is_among (names_of (field_heads later)) x ≡ true → slot_of (own_of later) x ≡ Some (number_named later x))
          → (if b then Some (pos 0) else slot_of (own_of later) x) ≡ Some (number_named later x)
      by_test true e there rest =
          absurd (false≢true (no_number earlier (head_of name list_form) (field_heads later) a x fine stands (same_name x name e)))
      by_test false e there rest = rest there

  module _ (fields : WrittenFields) (fine : first_there (field_faults g n k [] (field_heads fields)) ≡ None)
      (all : missing_fault g n k (field_heads fields) ≡ None) where
    each_slot : (names : List NameText) → ((x : NameText) → Contains names x → Contains (input_names g k) x)
        → map (slot_of (own_of fields)) names ≡ map Some (map (number_named fields) names)
    each_slot [] inputs = refl
    each_slot (x ∷ names) inputs =
        let there = inputs x (here_in x names) in
        let stands = input_stands g lawful k known x there in
        let among = none_missed (is_among (names_of (field_heads fields))) (needed_names g k)
        (no_name (find (λ name. not (is_among (names_of (field_heads fields)) name)) (needed_names g k)) n all) x
        (Contains-append_left (input_names g k) (child_names_of g k) x there) in
        ap₂ (λ o os. o ∷ os) (slot_is x stands.0 stands.1 [] fields fine among)
        (each_slot names (λ y later. inputs y (later_in x y names later)))

    pub inputs_held : map (slot_of (own_of fields)) (input_names g k) ≡ map Some (inputs_in g k fields)
    inputs_held = each_slot (input_names g k) (λ x there. there)
