-- The written document of a tree has no fault, and its numbers are within the width.
use Rattle.std.proofs.Common.{◌≡◌, ℕ, suc, ◌<◌, ◌≤◌, ◌==◌, nat_lt, not, Bool, true, false, ◌||◌, cond, if◌then◌else◌, refl, sym, ◌∙◌, ap, ap₂, subst, ⊎_elim, arith, List, [], ◌∷◌, ◌++◌, length, map, filter, Contains, Option, Some, None, ℤ}
use Rattle.std.specs.List.{find, list_any}
use Rattle.std.specs.Option.{option_map, option_to_list}
use Rattle.std.specs.Str.{bytes_eq}
use Rattle.std.proofs.lemmas.Bool.{eq-eqb, le-ltb}
use Rattle.std.proofs.lemmas.List.{append-nil, append_assoc, map-append}
use Rattle.std.proofs.lemmas.List.Elements.{Contains-append_cases}
use Rattle.std.proofs.lemmas.List.Folds.{list_any-append}
use Rattle.ftl_model.specs.lists.Lists.{AreDistinct}
use Rattle.ftl_model.proofs.lists.Elements.{distinct_apart, distinct_right, here_in, in_cases, in_filter, later_in, nothing_in}
use Rattle.ftl_model.proofs.lists.Rising.{in_map, map_has}
use Rattle.ftl_grammar.specs.syntax.Trees as trees
use Rattle.ftl_grammar.specs.declared.syntax.rules.AttrDecl.{AttrDecl}
use Rattle.ftl_grammar.specs.declared.syntax.rules.Child.{Child}
use Rattle.ftl_grammar.specs.declared.syntax.rules.Grammar.{Grammar}
use Rattle.ftl_document.specs.syntax.Written.{NameText, WrittenFields, list_field}
use Rattle.ftl_meaning.specs.faults.Checked.{field_named, is_input}
use Rattle.ftl_meaning.specs.faults.FirstFault as grammars
use Rattle.ftl_meaning.specs.faults.Numbering.{child_at, children_of, class_at, class_attributes, interface_of, is_among, numbered}
use Rattle.ftl_meaning.specs.declared.faults.info.Field.{Field}
use Rattle.ftl_meaning.specs.declared.faults.info.Field.TheVariants as field
use Rattle.ftl_meaning.proofs.lawful.Numbers.{in_numbered}
use Rattle.ftl_document.specs.faults.FirstFault.{fault_if, field_fault, field_fault_by, field_faults, first_there, has_form, input_names, is_late, is_of_later, missing_fault, names_of, needed_names, node_fault, node_fault_by}
use Rattle.ftl_document.specs.faults.Nodes.{FieldHead, child_by, field_heads, head_of, list_form, node_form, number_form, standing}
use Rattle.ftl_document.specs.faults.WrittenOf.{WrittenKid, child_fields, fields_from, input_fields, kids_in, nodes_from, single_field}
use Rattle.ftl_document.specs.declared.faults.fault.DocFault.{DocFault}
use Rattle.ftl_document.specs.declared.faults.fault.DocFault.TheVariants as fault
use Rattle.ftl_document.proofs.faults.ChildNames.{attribute_names_of, child_found, child_names_of, class_names_differ, input_stands}
use Rattle.ftl_meaning.proofs.names.Names.{in_among, names_differ}
use Rattle.ftl_document.proofs.faults.WrittenTrees.{HasField, class_found, inputs_differ}

-- ---- none of several

-- two conditions, neither of which is a fault
pub there_none : (o : Option DocFault) (os : List (Option DocFault)) → o ≡ None → first_there os ≡ None
    → first_there (o ∷ os) ≡ None
there_none None os e h = h
there_none (Some x) os e h = absurd (let z : ⊥ = grind (arith, e) in z)

-- a name that is none of several is not among them
not_in_among : (xs : List NameText) (name : NameText) → (Contains xs name → ⊥) → is_among xs name ≡ false
not_in_among [] name apart = refl
not_in_among (x ∷ xs) name apart =
    ap (λ b. b || is_among xs name)
    (names_differ name x (λ same. apart (subst (Contains (x ∷ xs)) (sym same) (here_in x xs))))
    ∙ not_in_among xs name (λ there. apart (later_in x name xs there))

-- nothing is found where nothing passes
finds_none : {X : Type 0} (p : X → Bool) (xs : List X) → ((x : X) → Contains xs x → p x ≡ false) → find p xs ≡ None
finds_none p [] fails = refl
finds_none p (x ∷ xs) fails =
    ap (λ b. cond b (Some x) (find p xs)) (fails x (here_in x xs))
    ∙ finds_none p xs (λ y there. fails y (later_in x y xs there))

-- where no test passes, none of a list does
any_none : {X : Type 0} (p : X → Bool) (xs : List X) → ((x : X) → Contains xs x → p x ≡ false) → list_any p xs ≡ false
any_none p [] fails = refl
any_none p (x ∷ xs) fails =
    ap (λ b. b || list_any p xs) (fails x (here_in x xs))
    ∙ any_none p xs (λ y there. fails y (later_in x y xs there))

module _ (g : Grammar) (lawful : grammars.first_fault g ≡ None) (k : ℕ) (known : k < length g.classes) where
  -- ---- the fields of a node

  -- the heads of inputs, and of a child
  abbrev input_head : NameText → FieldHead
  input_head name = head_of name number_form

  abbrev child_head : ℕ × Child → FieldHead
  child_head c = head_of c.1.name (if c.1.many then list_form else node_form)

  -- a field that is right has no fault
  no_field_fault : (n : ℕ) (earlier : List FieldHead) (f : FieldHead) (x : Field) → field_named g k f.name ≡ Some x
      → is_among (names_of earlier) f.name ≡ false → has_form g k x f.form ≡ true → is_late g k earlier x ≡ false
      → field_fault g n k earlier f ≡ None
  no_field_fault n earlier f x named once form order =
      ap (field_fault_by g n k earlier f) named
      ∙ there_none (fault_if (is_among (names_of earlier) f.name) (fault.FieldTwice n f.name))
      (fault_if (not (has_form g k x f.form)) (fault.FieldForm n f.name)
      ∷ fault_if (is_late g k earlier x) (fault.FieldOrder n f.name) ∷ [])
      (ap (λ b. fault_if b (fault.FieldTwice n f.name)) once)
      (there_none (fault_if (not (has_form g k x f.form)) (fault.FieldForm n f.name))
      (fault_if (is_late g k earlier x) (fault.FieldOrder n f.name) ∷ [])
      (ap (λ b. fault_if (not b) (fault.FieldForm n f.name)) form)
      (there_none (fault_if (is_late g k earlier x) (fault.FieldOrder n f.name)) []
      (ap (λ b. fault_if b (fault.FieldOrder n f.name)) order) refl))

  -- the names of some fields and of one more
  names_more : (earlier : List FieldHead) (f : FieldHead) → names_of (earlier ++ f ∷ []) ≡ names_of earlier ++ (f.name ∷ [])
  names_more earlier f = map-append (λ (x : FieldHead). x.name) earlier (f ∷ [])

  -- a name that is neither
  still_new : (earlier : List FieldHead) (f : FieldHead) (name : NameText) → is_among (names_of earlier) name ≡ false
      → (name ≡ f.name → ⊥) → is_among (names_of (earlier ++ f ∷ [])) name ≡ false
  still_new earlier f name new apart =
      ap (list_any (bytes_eq name)) (names_more earlier f)
      ∙ list_any-append (bytes_eq name) (names_of earlier) (f.name ∷ [])
      ∙ ap₂ (λ a b. a || (b || false)) new (names_differ name f.name apart)

  -- fields of inputs, before others
  inputs_fine : (n : ℕ) (earlier : List FieldHead) (names : List NameText) (later : List FieldHead)
      → ((name : NameText) → Contains names name → Contains (input_names g k) name) → AreDistinct names
      → ((name : NameText) → Contains names name → is_among (names_of earlier) name ≡ false)
      → first_there (field_faults g n k (earlier ++ map input_head names) later) ≡ None
      → first_there (field_faults g n k earlier (map input_head names ++ later)) ≡ None
  inputs_fine n earlier [] later are differ new rest =
      subst (λ fs. first_there (field_faults g n k fs later) ≡ None) (append-nil earlier) rest
  inputs_fine n earlier (name ∷ names) later are differ new rest =
      let f = input_head name in
      let stands = input_stands g lawful k known name (are name (here_in name names)) in
      there_none (field_fault g n k earlier f) (field_faults g n k (earlier ++ f ∷ []) (map input_head names ++ later))
      (no_field_fault n earlier f (field.Input stands.0) stands.1 (new name (here_in name names)) refl refl)
      (inputs_fine n (earlier ++ f ∷ []) names later (λ other there. are other (later_in name other names there)) differ.1
      (λ other there.
      still_new earlier f other (new other (later_in name other names there))
      (λ same. differ.0 (subst (Contains names) same there)))
      (subst (λ fs. first_there (field_faults g n k fs later) ≡ None) (sym (append_assoc earlier (f ∷ []) (map input_head names))) rest))

  -- what is known of a child's field: its name stands for the child, which is declared so
  record IsOfChild (c : ℕ × Child) : Type 0 where
    named : field_named g k c.1.name ≡ Some (field.Child c.0)
    at : child_at g k c.0 ≡ c.1

  child_form : (c : ℕ × Child) → child_at g k c.0 ≡ c.1 → has_form g k (field.Child c.0) (if c.1.many then list_form else node_form) ≡ true
  child_form c at = by_test c.1.many (ap (λ (x : Child). x.many) at)
    where
      by_test : (b : Bool) → (child_at g k c.0).many ≡ b → has_form g k (field.Child c.0) (if b then list_form else node_form) ≡ true
      by_test true e = e
      by_test false e = ap not e

  -- fields of children in the order of their numbers
  children_fine : (n from : ℕ) (earlier : List FieldHead) (xs : List Child)
      → ((c : ℕ × Child) → Contains (numbered from xs) c → IsOfChild c)
      → AreDistinct (map (λ c. c.1.name) (numbered from xs))
      → ((c : ℕ × Child) → Contains (numbered from xs) c → is_among (names_of earlier) c.1.name ≡ false)
      → ((f : FieldHead) → Contains earlier f → (d : ℕ) → from ≤ d → is_of_later g k d f ≡ false)
      → first_there (field_faults g n k earlier (map child_head (numbered from xs))) ≡ None
  children_fine n from earlier [] are differ new before = refl
  children_fine n from earlier (x ∷ xs) are differ new before =
      let c : ℕ × Child = (from, x) in
      let f = child_head c in
      let own = are c (here_in c (numbered (suc from) xs)) in
      there_none (field_fault g n k earlier f) (field_faults g n k (earlier ++ f ∷ []) (map child_head (numbered (suc from) xs)))
      (no_field_fault n earlier f (field.Child from) own.named (new c (here_in c (numbered (suc from) xs))) (child_form c own.at)
      (any_none (is_of_later g k from) earlier (λ e there. before e there from (omega arith))))
      (children_fine n (suc from) (earlier ++ f ∷ []) xs (λ d there. are d (later_in c d (numbered (suc from) xs) there)) differ.1
      (λ d there.
      still_new earlier f d.1.name (new d (later_in c d (numbered (suc from) xs) there))
      (λ same. differ.0
      (subst (Contains (map (λ (y : ℕ × Child). y.1.name) (numbered (suc from) xs))) same (map_has (λ (y : ℕ × Child). y.1.name) (numbered (suc from) xs) d there))))
      (λ e there d up.
      ⊎_elim (λ old. before e old d (omega (arith, up)))
      (λ own_one.
      ⊎_elim
      (λ same.
      subst (λ (y : FieldHead). is_of_later g k d y ≡ false) same
      (ap (λ o. list_any (nat_lt d) (option_to_list (child_by o))) own.named
      ∙ ap (λ b. b || false) (le-ltb d from (let z : from ≤ d = omega (arith, up) in z))))
      (λ none_left. absurd (nothing_in e none_left)) (in_cases f e [] own_one))
      (Contains-append_cases earlier (f ∷ []) e there)))

  -- ---- what the fields of a node are

  -- the names of heads
  heads_named : {X : Type 0} (h : X → FieldHead) (xs : List X) → names_of (map h xs) ≡ map (λ x. (h x).name) xs
  heads_named h [] = refl
  heads_named h (x ∷ xs) = ap (λ ns. (h x).name ∷ ns) (heads_named h xs)

  inputs_named : (names : List NameText) → names_of (map input_head names) ≡ names
  inputs_named [] = refl
  inputs_named (name ∷ names) = ap (λ ns. name ∷ ns) (inputs_named names)

  pub input_heads : (names : List NameText) (numbers : List ℤ) (later : WrittenFields) → length names ≡ length numbers
      → field_heads (input_fields names numbers later) ≡ map input_head names ++ field_heads later
  input_heads [] numbers later same = refl
  input_heads (name ∷ names) [] later same = absurd (let z : ⊥ = omega (arith, same) in z)
  input_heads (name ∷ names) (n ∷ numbers) later same =
      ap (λ fs. input_head name ∷ fs) (input_heads names numbers later (omega (arith, same)))

  one_head : (name : NameText) (kids : List WrittenKid) (later : WrittenFields) → length kids ≡ 1
      → field_heads (single_field name kids later) ≡ head_of name node_form ∷ field_heads later
  one_head name [] later one = absurd (let z : ⊥ = omega (arith, one) in z)
  one_head name (x ∷ kids) later one = refl

  child_heads : (cs : List (ℕ × Child)) (kids : List WrittenKid)
      → ((c : ℕ × Child) → Contains cs c → HasField g lawful k kids c)
      → field_heads (child_fields cs kids) ≡ map child_head cs
  child_heads [] kids each = refl
  child_heads (c ∷ cs) kids each =
      by_test c.1.many refl
      ∙ ap (λ fs. child_head c ∷ fs) (child_heads cs kids (λ d there. each d (later_in c d cs there)))
    where
      later : WrittenFields
      later = child_fields cs kids

      by_test : (b : Bool) → c.1.many ≡ b
          → field_heads (if b then list_field c.1.name (nodes_from (kids_in c.0 kids)) later else single_field c.1.name (kids_in c.0 kids) later)
          ≡ head_of c.1.name (if b then list_form else node_form) ∷ field_heads later
      by_test true e = refl
      by_test false e = one_head c.1.name (kids_in c.0 kids) later ((each c (here_in c cs)).single e)

  -- the heads of all fields
  abbrev all_heads : List FieldHead
  all_heads = map input_head (input_names g k) ++ map child_head (children_of g k)

  -- they have all names
  all_named : names_of all_heads ≡ needed_names g k
  all_named =
      map-append (λ (x : FieldHead). x.name) (map input_head (input_names g k)) (map child_head (children_of g k))
      ∙ ap₂ (λ (ns ms : List NameText). ns ++ ms) (inputs_named (input_names g k)) (heads_named child_head (children_of g k))

  -- each child of the class
  child_is : (c : ℕ × Child) → Contains (children_of g k) c → IsOfChild c
  child_is c there =
      let s = in_numbered 0 (class_at g k).children c there in
      let below = s.known in
      let number = s.number in
      let at : child_at g k c.0 ≡ c.1 =
      ap (child_at g k) (let z : c.0 ≡ s.place = omega (arith, number) in z) ∙ s.is (trees.child [] [] false) in
      record {
        named =
            ap (λ (x : Child). field_named g k x.name) (sym at)
            ∙ child_found g lawful k c.0 known (let z : c.0 < length (class_at g k).children = omega (arith, below, number) in z);
        at = at;
      }

  -- an input's name is none of a child's
  apart : (name : NameText) → Contains (input_names g k) name → Contains (child_names_of g k) name → ⊥
  apart name in_inputs in_children =
      let m = in_map (λ (x : ℕ × AttrDecl). x.1.name) (filter (λ (x : ℕ × AttrDecl). is_input x.1.kind) (class_attributes g k)) name in_inputs in
      let f = in_filter (λ (x : ℕ × AttrDecl). is_input x.1.kind) (class_attributes g k) m.from m.there in
      distinct_apart (attribute_names_of g k) (child_names_of g k) (class_names_differ g lawful k known) name
      (subst (Contains (attribute_names_of g k)) m.is (map_has (λ (x : ℕ × AttrDecl). x.1.name) (class_attributes g k) m.from f.0))
      in_children

  -- no field has a fault
  all_fine : (n : ℕ) → first_there (field_faults g n k [] all_heads) ≡ None
  all_fine n =
      inputs_fine n [] (input_names g k) (map child_head (children_of g k)) (λ name there. there)
      (inputs_differ g lawful k known) (λ name there. refl)
      (children_fine n 0 (map input_head (input_names g k)) (class_at g k).children child_is
      (distinct_right (attribute_names_of g k) (child_names_of g k) (class_names_differ g lawful k known))
      (λ c there.
      ap (λ ns. is_among ns c.1.name) (inputs_named (input_names g k))
      ∙ not_in_among (input_names g k) c.1.name
      (λ in_inputs. apart c.1.name in_inputs (map_has (λ (x : ℕ × Child). x.1.name) (children_of g k) c there)))
      (λ f there d up.
      let m = in_map input_head (input_names g k) f there in
      let stands = input_stands g lawful k known m.from m.there in
      subst (λ (y : FieldHead). is_of_later g k d y ≡ false) m.is
      (ap (λ o. list_any (nat_lt d) (option_to_list (child_by o))) stands.1)))

  -- and none is missing
  none_missing : (n : ℕ) → missing_fault g n k all_heads ≡ None
  none_missing n =
      ap (option_map (fault.FieldMissing n))
      (finds_none (λ name. not (is_among (names_of all_heads) name)) (needed_names g k)
      (λ name there. ap not (ap (λ ns. is_among ns name) all_named ∙ in_among (needed_names g k) name there)))

  -- a node with all fields has no fault where its interface is wanted
  pub node_right : (n wanted : ℕ) (fields : WrittenFields) → field_heads fields ≡ all_heads → interface_of g k ≡ wanted
      → node_fault g (n, standing wanted (class_at g k).name fields) ≡ None
  node_right n wanted fields heads interface =
      let x = standing wanted (class_at g k).name fields in
      ap (node_fault_by g n x) (class_found g lawful k known)
      ∙ there_none (fault_if (not (interface_of g k == wanted)) (fault.WrongInterface n k wanted))
      (first_there (field_faults g n k [] x.fields) ∷ missing_fault g n k x.fields ∷ [])
      (ap (λ b. fault_if (not b) (fault.WrongInterface n k wanted)) (eq-eqb (interface_of g k) wanted interface))
      (there_none (first_there (field_faults g n k [] x.fields)) (missing_fault g n k x.fields ∷ [])
      (ap (λ fs. first_there (field_faults g n k [] fs)) heads ∙ all_fine n)
      (there_none (missing_fault g n k x.fields) [] (ap (missing_fault g n k) heads ∙ none_missing n) refl))

  -- the heads of the fields of a node of a tree
  pub heads_from : (inputs : List ℤ) (kids : List WrittenKid) → length (input_names g k) ≡ length inputs
      → ((c : ℕ × Child) → Contains (children_of g k) c → HasField g lawful k kids c)
      → field_heads (fields_from g k inputs kids) ≡ all_heads
  heads_from inputs kids same each =
      input_heads (input_names g k) inputs (child_fields (children_of g k) kids) same
      ∙ ap (λ fs. map input_head (input_names g k) ++ fs) (child_heads (children_of g k) kids each)
