-- What no fault says of names, of the rules of a class, and of the rules that it needs.
use Rattle.std.proofs.Common.{◌≡◌, inl, inr, ℕ, ◌+◌, ◌<◌, true, false, not, refl, sym, ◌∙◌, ap, subst, arith, List, [], ◌∷◌, ◌++◌, length, map, filter, flat_map, Contains, Some, None}
use Rattle.std.specs.List.{AllByRecursion}
use Rattle.std.specs.Option.{option_map}
use Rattle.std.specs.Str.{bytes_eq}
use Rattle.std.proofs.lemmas.Bool.{not-false}
use Rattle.std.proofs.lemmas.List.Elements.{Contains-append_left, Contains-append_right, Contains-get_or}
use Rattle.std.proofs.lemmas.List.{length-map, map-append}
use Rattle.ftl_model.proofs.lists.Elements.{each_in, filter_has, flat_map_has, here_in, later_in}
use Rattle.ftl_model.proofs.lists.Rising.{in_map, map_has}
use Rattle.ftl_model.specs.layout.AttributeGrammar as model
use Rattle.ftl_model.specs.layout.AttributeGrammar.{RuleName}
use Rattle.ftl_order.specs.orders.Lawful.{IsOwnSort, IsRule}
use Rattle.ftl_grammar.specs.syntax.Trees as trees
use Rattle.ftl_grammar.specs.syntax.Trees.{NameText}
use Rattle.ftl_grammar.specs.declared.syntax.rules.AttrDecl.{AttrDecl}
use Rattle.ftl_grammar.specs.declared.syntax.rules.AttrKind.{AttrKind}
use Rattle.ftl_grammar.specs.declared.syntax.rules.AttrKind.TheVariants as kinds
use Rattle.ftl_grammar.specs.declared.syntax.rules.Child.{Child}
use Rattle.ftl_grammar.specs.declared.syntax.rules.Grammar.{Grammar}
use Rattle.ftl_grammar.specs.declared.syntax.rules.Rule.{Rule}
use Rattle.ftl_grammar.specs.declared.syntax.rules.Target.{Target}
use Rattle.ftl_grammar.specs.declared.syntax.rules.Target.TheVariants as targets
use Rattle.ftl_meaning.specs.declared.faults.fault.GrammarFault.TheVariants as fault
use Rattle.ftl_meaning.specs.faults.FirstFault.{class_fault, fault_if, first_fault, first_of, interfaces_named, is_ruled, kid_required, limit_fault, missing_rule, name_fault, own_required, root_inherits, rule_faults, rule_name, unknown_among}
use Rattle.ftl_meaning.specs.faults.Numbering.{child_at, child_attributes, children_of, class_at, class_attributes, interface_names, interface_number, interface_of, is_among, numbered, own_attributes, shared_attributes}
use Rattle.ftl_meaning.specs.faults.RuleForms.{Slot, is_inherited, is_synthesized_or_local, kid_slot, own_slot, slot_of}
use Rattle.ftl_meaning.specs.grammars.GrammarOf.{grammar_of, name_of_rule, sort_of}
use Rattle.ftl_meaning.specs.lawful.Kept.{IsWritten, StandsAt}
use Rattle.ftl_meaning.proofs.lawful.Found.{any_at, position_within}
use Rattle.ftl_meaning.proofs.lawful.NoFault.{no_fault, none_in, none_of}
use Rattle.ftl_meaning.proofs.names.NameFaults.{HasNoNameFault, no_name_fault}
use Rattle.ftl_meaning.proofs.lawful.Numbers.{numbered_has, shared_at}
use Rattle.ftl_meaning.proofs.lawful.RightRules.{is_slot}
use Rattle.ftl_meaning.proofs.lawful.SlotRules.{class_attribute}

each_left : {X : Type 0} (P : X → Type 0) (xs ys : List X) → AllByRecursion P (xs ++ ys) → AllByRecursion P xs
each_left P [] ys h = tt
each_left P (x ∷ xs) ys h = (h.0, each_left P xs ys h.1)

-- an attribute that the rules of its own class define, by its kind
own_kind : (kind : AttrKind) → IsOwnSort (sort_of kind) → is_synthesized_or_local kind ≡ true
own_kind kinds.Inh (inl h) = absurd (let z : ⊥ = grind (arith, h) in z)
own_kind kinds.Inh (inr h) = absurd (let z : ⊥ = grind (arith, h) in z)
own_kind kinds.Syn h = refl
own_kind kinds.Input (inl h) = absurd (let z : ⊥ = grind (arith, h) in z)
own_kind kinds.Input (inr h) = absurd (let z : ⊥ = grind (arith, h) in z)
own_kind kinds.Local h = refl

-- one that the rules of the class above define, by its kind
inherited_kind : (kind : AttrKind) → sort_of kind ≡ model.inherited → is_inherited kind ≡ true
inherited_kind kinds.Inh h = refl
inherited_kind kinds.Syn h = absurd (let z : ⊥ = grind (arith, h) in z)
inherited_kind kinds.Input h = absurd (let z : ⊥ = grind (arith, h) in z)
inherited_kind kinds.Local h = absurd (let z : ⊥ = grind (arith, h) in z)

module _ (g : Grammar) (none : first_fault g ≡ None) where
  names : HasNoNameFault g
  names = no_name_fault g none

  -- a name that is among the interfaces has a number below their count
  known_name : (name : NameText) → is_among (interface_names g) name ≡ true
      → interface_number g name < length g.interfaces
  known_name name h =
      let within = position_within (bytes_eq name) (interface_names g) h in
      omega (arith, within, length-map g.interfaces (λ x. x.name))

  -- the root is an interface
  pub root_known : interface_number g g.root < length g.interfaces
  root_known =
      known_name g.root
      (not-false (is_among (interface_names g) g.root)
      (no_fault (not (is_among (interface_names g) g.root)) (fault.RootMissing g.root) names.root_known))

  -- the interfaces that a class names are known
  named_known : (k : ℕ) → k < length g.classes → (name : NameText) → Contains (interfaces_named (class_at g k)) name
      → interface_number g name < length g.interfaces
  named_known k known name named =
      known_name name
      (not-false (is_among (interface_names g) name)
      (no_fault (not (is_among (interface_names g) name)) (fault.UnknownName name)
      (none_of (λ name. fault_if (not (is_among (interface_names g) name)) (fault.UnknownName name)) (interfaces_named (class_at g k))
      (none_of (λ x. unknown_among (interface_names g) (interfaces_named x)) g.classes names.interfaces_known (class_at g k)
      (Contains-get_or g.classes k (trees.class [] [] [] [] []) known)) name named)))

  -- the interface of each class is one
  pub interface_known : (k : ℕ) → k < length g.classes → interface_of g k < length g.interfaces
  interface_known k known =
      named_known k known (class_at g k).interface
      (here_in (class_at g k).interface (map (λ c. c.interface) (class_at g k).children))

  -- and so is that of each child
  pub child_known : (k c : ℕ) → k < length g.classes → c < length (class_at g k).children
      → interface_number g (child_at g k c).interface < length g.interfaces
  child_known k c known declared =
      named_known k known (child_at g k c).interface
      (later_in (class_at g k).interface (child_at g k c).interface (map (λ c. c.interface) (class_at g k).children)
      (map_has (λ (c : Child). c.interface) (class_at g k).children (child_at g k c)
      (Contains-get_or (class_at g k).children c (trees.child [] [] false) declared)))

  -- the root inherits nothing
  pub root_has_none : root_inherits g ≡ false
  root_has_none = no_fault (root_inherits g) (fault.RootInherits g.root) names.root_has_none

  -- ---- a class

  -- no class has a fault
  class_right : (k : ℕ) → k < length g.classes → class_fault g k ≡ None
  class_right k known =
      subst (λ m. class_fault g m ≡ None) (let z : 0 + k ≡ k = omega arith in z)
      (none_of (λ p. class_fault g p.0) (numbered 0 g.classes)
      (none_in (limit_fault g ∷ name_fault g ∷ first_of (λ k. class_fault g k.0) (numbered 0 g.classes) ∷ []) none).1.1.0
      (0 + k, class_at g k) (numbered_has 0 g.classes k (trees.class [] [] [] [] []) known))

  -- nor has any of its rules
  pub rules_right : (k : ℕ) → k < length g.classes
      → AllByRecursion (λ x. x ≡ None) (rule_faults g k [] (class_at g k).rules)
  rules_right k known =
      each_left (λ x. x ≡ None) (rule_faults g k [] (class_at g k).rules) (missing_rule g k ∷ [])
      (none_in (rule_faults g k [] (class_at g k).rules ++ (missing_rule g k ∷ [])) (class_right k known))

  -- and no rule is missing
  none_missing : (k : ℕ) → k < length g.classes → missing_rule g k ≡ None
  none_missing k known =
      each_in (λ x. x ≡ None) (rule_faults g k [] (class_at g k).rules ++ (missing_rule g k ∷ []))
      (none_in (rule_faults g k [] (class_at g k).rules ++ (missing_rule g k ∷ [])) (class_right k known)) (missing_rule g k)
      (Contains-append_right (rule_faults g k [] (class_at g k).rules) (missing_rule g k ∷ []) (missing_rule g k)
      (here_in (missing_rule g k) []))

  -- a rule for a slot stands at a place
  stands_for : (k : ℕ) (slot : Slot) → is_ruled g k slot ≡ true
      → (n : ℕ) × (r : Rule) × StandsAt g k n r × (slot_of g k r.target ≡ Some slot)
  stands_for k slot h =
      let i = any_at _ (class_at g k).rules h in
      (i.0, i.1, i.2, is_slot slot (slot_of g k i.1.target) i.3)

  abbrev Ruled : ℕ → Slot → Type 0
  Ruled k slot =
      (n : ℕ) × (r : Rule) × StandsAt g k n r × (slot_of g k r.target ≡ Some slot)

  -- what a class needs a rule for has one
  needed : (k : ℕ) → k < length g.classes → (need : Slot × Target)
      → Contains (own_required g k ++ flat_map (kid_required g) (children_of g k)) need → Ruled k need.0
  needed k known need in_it =
      stands_for k need.0
      (not-false (is_ruled g k need.0)
      (no_fault (not (is_ruled g k need.0)) (fault.MissingRule (rule_name (class_at g k) need.1))
      (none_of
      (λ need. fault_if (not (is_ruled g k need.0)) (fault.MissingRule (rule_name (class_at g k) need.1)))
      (own_required g k ++ flat_map (kid_required g) (children_of g k)) (none_missing k known) need in_it)))

  -- an attribute of the node itself has a rule
  own_ruled : (k : ℕ) → k < length g.classes → (p : ℕ × AttrDecl) → Contains (class_attributes g k) p
      → is_synthesized_or_local p.1.kind ≡ true → Ruled k (own_slot p.0)
  own_ruled k known p there passes =
      needed k known (own_slot p.0, targets.Own p.1.name)
      (Contains-append_left (own_required g k) (flat_map (kid_required g) (children_of g k)) (own_slot p.0, targets.Own p.1.name)
      (map_has (λ a. (own_slot a.0, targets.Own a.1.name))
      (filter (λ a. is_synthesized_or_local a.1.kind) (class_attributes g k)) p
      (filter_has (λ a. is_synthesized_or_local a.1.kind) (class_attributes g k) p there passes)))

  -- and so has one of the kids in a child
  kid_ruled : (k : ℕ) → k < length g.classes → (child : ℕ × Child) → Contains (children_of g k) child
      → (p : ℕ × AttrDecl) → Contains (child_attributes g child.1) p
      → is_inherited p.1.kind ≡ true → Ruled k (kid_slot child.0 p.0)
  kid_ruled k known child there p of passes =
      needed k known (kid_slot child.0 p.0, targets.Of child.1.name p.1.name)
      (Contains-append_right (own_required g k) (flat_map (kid_required g) (children_of g k))
      (kid_slot child.0 p.0, targets.Of child.1.name p.1.name)
      (flat_map_has (kid_required g) (children_of g k) child (kid_slot child.0 p.0, targets.Of child.1.name p.1.name) there
      (map_has (λ a. (kid_slot child.0 a.0, targets.Of child.1.name a.1.name))
      (filter (λ a. is_inherited a.1.kind) (child_attributes g child.1)) p
      (filter_has (λ a. is_inherited a.1.kind) (child_attributes g child.1) p of passes))))

  written_for : (k : ℕ) (slot : Slot) → Ruled k slot
      → (n : ℕ) × (r : Rule) × StandsAt g k n r × (option_map (name_of_rule k) (slot_of g k r.target) ≡ Some (name_of_rule k slot))
  written_for k slot h = (h.0, h.1, h.2, ap (option_map (name_of_rule k)) h.3)

  -- each rule that the meaning has is written
  pub rule_written : (w : ℕ) (name : RuleName) → IsRule (grammar_of w g) name → IsWritten g name
  rule_written w (model.for_self k a) rule =
      let there =
      subst (λ (ns : List ℕ). Contains ns a)
      (sym (map-append (λ a. a.0) (shared_attributes g (interface_of g k)) (own_attributes g k))) rule.1 in
      let m = in_map (λ a. a.0) (class_attributes g k) a there in
      let kind =
      own_kind m.from.1.kind
      (subst IsOwnSort
      (ap (grammar_of w g).sort (sym m.is) ∙ ap (λ (x : AttrDecl). sort_of x.kind) (class_attribute w g k m.from m.there)) rule.2) in
      written_for k (own_slot a)
      (subst (λ b. Ruled k (own_slot b)) m.is (own_ruled k rule.0 m.from m.there kind))
  rule_written w (model.for_child k c a) rule =
      let m = in_map (λ a. a.0) (child_attributes g (child_at g k c)) a rule.2 in
      let kind =
      inherited_kind m.from.1.kind
      (sym (ap (grammar_of w g).sort (sym m.is) ∙ ap (λ (x : AttrDecl). sort_of x.kind)
      (shared_at g (interface_number g (child_at g k c).interface) m.from m.there).1) ∙ rule.3) in
      let child =
      subst (λ d. Contains (children_of g k) (d, child_at g k c)) (let z : 0 + c ≡ c = omega arith in z)
      (numbered_has 0 (class_at g k).children c (trees.child [] [] false) rule.1) in
      written_for k (kid_slot c a)
      (subst (λ b. Ruled k (kid_slot c b)) m.is (kid_ruled k rule.0 (c, child_at g k c) child m.from m.there kind))
