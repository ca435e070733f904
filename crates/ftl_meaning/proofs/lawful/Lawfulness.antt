-- A grammar without a fault is lawful, once its names are gone.
use Rattle.std.proofs.Common.{◌≡◌, ◌≢◌, ◌⊎◌, inl, inr, ℕ, ◌+◌, ◌<◌, Bool, true, false, refl, sym, ◌∙◌, ap, subst, ⊎_elim, arith, List, [], ◌∷◌, length, take, Contains, Option, Some, None}
use Rattle.std.specs.List.{All, list_any}
use Rattle.std.specs.Option.{option_map, option_to_list}
use Rattle.std.proofs.lemmas.Bool.{both_ways, or_parts}
use Rattle.std.proofs.lemmas.List.Elements.{All-contains, Contains-get_or}
use Rattle.ftl_model.specs.lists.Lists.{AreDistinct, NoneFalls}
use Rattle.ftl_model.proofs.lists.Elements.{flat_map_has, here_in, in_cases, in_flat_map, nothing_in}
use Rattle.ftl_model.proofs.lists.Rising.{in_map}
use Rattle.ftl_base.specs.Widths.{greatest_of_width}
use Rattle.ftl_base.specs.declared.width.Width.{Width}
use Rattle.ftl_base.specs.declared.width.Width.TheVariants as widths
use Rattle.ftl_model.specs.layout.AttributeGrammar.{AttributeGrammar, RuleName, Sort}
use Rattle.ftl_model.specs.layout.AttributeGrammar as model
use Rattle.ftl_model.specs.layout.Values.{narrow, wide}
use Rattle.ftl_order.specs.orders.Lawful.{IsLawful, IsRule, class_of_rule}
use Rattle.ftl_grammar.specs.syntax.Trees as trees
use Rattle.ftl_grammar.specs.declared.syntax.rules.AttrDecl.{AttrDecl}
use Rattle.ftl_grammar.specs.declared.syntax.rules.AttrKind.{AttrKind}
use Rattle.ftl_grammar.specs.declared.syntax.rules.AttrKind.TheVariants as kinds
use Rattle.ftl_grammar.specs.declared.syntax.rules.Class.{Class}
use Rattle.ftl_grammar.specs.declared.syntax.rules.Grammar.{Grammar}
use Rattle.ftl_grammar.specs.declared.syntax.rules.Interface.{Interface}
use Rattle.ftl_grammar.specs.declared.syntax.rules.Rule.{Rule}
use Rattle.ftl_meaning.specs.faults.FirstFault.{first_fault}
use Rattle.ftl_meaning.specs.faults.Numbering.{class_at, interface_at, interface_number, numbered, own_attributes, own_count, shared_attributes, shared_count}
use Rattle.ftl_meaning.specs.faults.RuleForms.{Slot, is_inherited, kid_slot, own_slot, slot_of}
use Rattle.ftl_meaning.specs.grammars.GrammarOf.{grammar_of, name_of_rule, rules_of_class, sort_of}
use Rattle.ftl_meaning.specs.lawful.Faultless.{IsFaultless}
use Rattle.ftl_meaning.specs.faults.Kinds.{HasKinds, IsOwnKind, IsSharedKind}
use Rattle.ftl_meaning.proofs.lawful.Declared.{declared_in_order}
use Rattle.ftl_meaning.proofs.lawful.Found.{in_by_place}
use Rattle.ftl_meaning.proofs.lawful.RequiredRules.{child_known, interface_known, root_has_none, root_known}
use Rattle.ftl_meaning.proofs.lawful.RequiredRules.{rule_written, rules_right}
use Rattle.ftl_meaning.proofs.lawful.Numbers.{in_numbered, numbered_has, own_at, shared_at}
use Rattle.ftl_meaning.proofs.lawful.RightRules.{names_differ}
use Rattle.ftl_meaning.proofs.lawful.RuleList.{by_class, once}
use Rattle.ftl_meaning.proofs.lawful.RuleParts.{child_parts, self_parts, slot_alone, slot_range}
use Rattle.ftl_meaning.proofs.lawful.SlotRules.{slot_rule}

-- ---- sorts

-- an attribute that an interface may declare is no local
not_local : (kind : AttrKind) → IsSharedKind kind → sort_of kind ≢ model.local
not_local kinds.Inh h e = grind (arith, e)
not_local kinds.Syn h e = grind (arith, e)
not_local kinds.Input h e = grind (arith, e)
not_local kinds.Local h e = h

-- one that a class may declare is an input or a local
own_sorts : (kind : AttrKind) → IsOwnKind kind → (sort_of kind ≡ model.input) ⊎ (sort_of kind ≡ model.local)
own_sorts kinds.Inh h = absurd h
own_sorts kinds.Syn h = absurd h
own_sorts kinds.Input h = inl refl
own_sorts kinds.Local h = inr refl

-- a kind that is not inherited has no inherited sort
not_inherited : (kind : AttrKind) → is_inherited kind ≡ false → sort_of kind ≢ model.inherited
not_inherited kinds.Inh h e = both_ways true h refl
not_inherited kinds.Syn h e = grind (arith, e)
not_inherited kinds.Input h e = grind (arith, e)
not_inherited kinds.Local h e = grind (arith, e)

-- where no entry passes, each one fails
none_passes : {X : Type 0} (p : X → Bool) (xs : List X) → list_any p xs ≡ false → (x : X) → Contains xs x → p x ≡ false
none_passes p [] h x in_it = absurd (nothing_in x in_it)
none_passes p (y ∷ ys) h x in_it =
    let parts = or_parts (p y) (list_any p ys) h in
    ⊎_elim (λ same. subst (λ z. p z ≡ false) same parts.0) (λ later. none_passes p ys parts.1 x later)
    (in_cases y x ys in_it)

-- an entry of a numbered list is an entry
listed : {X : Type 0} (n : ℕ) (xs : List X) (p : ℕ × X) → Contains (numbered n xs) p → Contains xs p.1
listed n xs p h =
    let s = in_numbered n xs p h in subst (Contains xs) (s.is p.1) (Contains-get_or xs s.place p.1 s.known)

module _ (w : ℕ) (g : Grammar) where
  abbrev meant : AttributeGrammar
  meant = grammar_of w g

  -- what holds of each attribute of an interface holds of its sort
  shared_sort : (P : Sort → Type 0) (i a : ℕ) → Contains (meant.shared i) a
      → ((d : AttrDecl) → i < length g.interfaces → Contains (interface_at g i).attrs d → P (sort_of d.kind)) → P (meant.sort a)
  shared_sort P i a h each =
      let m = in_map (λ a. a.0) (shared_attributes g i) a h in
      let at = shared_at g i m.from m.there in
      subst (λ b. P (meant.sort b)) m.is
      (subst (λ (d : AttrDecl). P (sort_of d.kind)) (sym at.1)
      (each m.from.1 at.0 (listed (shared_count (take i g.interfaces)) (interface_at g i).attrs m.from m.there)))

  -- what holds of each attribute that a class adds holds of its sort
  own_sort : (P : Sort → Type 0) (k a : ℕ) → Contains (meant.private k) a
      → ((d : AttrDecl) → k < length g.classes → Contains (class_at g k).attrs d → P (sort_of d.kind)) → P (meant.sort a)
  own_sort P k a h each =
      let m = in_map (λ a. a.0) (own_attributes g k) a h in
      let at = own_at g k m.from m.there in
      subst (λ b. P (meant.sort b)) m.is
      (subst (λ (d : AttrDecl). P (sort_of d.kind)) (sym at.1)
      (each m.from.1 at.0
      (listed (shared_count g.interfaces + own_count (take k g.classes)) (class_at g k).attrs m.from m.there)))

  -- ---- rules

  -- a name of a rule is that of a slot
  named_slot : (k : ℕ) (o : Option Slot) (name : RuleName) → Contains (option_to_list (option_map (name_of_rule k) o)) name
      → (slot : Slot) × (o ≡ Some slot) × (name_of_rule k slot ≡ name)
  named_slot k None name h = absurd (nothing_in name h)
  named_slot k (Some slot) name h = (
    slot,
    refl,
    ⊎_elim (λ same. same) (λ none. absurd (nothing_in name none)) (in_cases (name_of_rule k slot) name [] h),
  )

  class_of_name : (k : ℕ) (slot : Slot) → class_of_rule (name_of_rule k slot) ≡ k
  class_of_name k (own_slot a) = refl
  class_of_name k (kid_slot c a) = refl

  -- the rules of a class are of that class
  of_class : (k : ℕ) (name : RuleName) → Contains (rules_of_class g k) name → class_of_rule name ≡ k
  of_class k name h =
      let i = in_flat_map (λ (r : Rule). option_to_list (option_map (name_of_rule k) (slot_of g k r.target))) (class_at g k).rules name h in
      let s = named_slot k (slot_of g k i.0.target) name i.2 in
      ap class_of_rule (sym s.2) ∙ class_of_name k s.0

  -- each rule of the list is a rule
  pub rule_is : (name : RuleName) → Contains meant.rules name → IsRule meant name
  rule_is name h =
      let i = in_flat_map (λ (k : ℕ × Class). rules_of_class g k.0) (numbered 0 g.classes) name h in
      let stands = in_numbered 0 g.classes i.0 i.1 in
      let r = in_flat_map (λ (r : Rule). option_to_list (option_map (name_of_rule i.0.0) (slot_of g i.0.0 r.target))) (class_at g i.0.0).rules name i.2 in
      let s = named_slot i.0.0 (slot_of g i.0.0 r.0.target) name r.2 in
      let number = stands.number in
      let known = stands.known in
      subst (IsRule meant) s.2
      (slot_rule w g i.0.0 (let z : i.0.0 < length g.classes = omega (arith, number, known) in z) r.0.target s.0 s.1)

  module _ (none : first_fault g ≡ None) where
    rule_there : (name : RuleName) → IsRule meant name → Contains meant.rules name
    rule_there name rule =
        let i = rule_written g none w name rule in
        let k = class_of_rule name in
        flat_map_has (λ (k : ℕ × Class). rules_of_class g k.0) (numbered 0 g.classes) (k, class_at g k) name
        (subst (λ m. Contains (numbered 0 g.classes) (m, class_at g k)) (let z : 0 + k ≡ k = omega arith in z)
        (numbered_has 0 g.classes k (trees.class [] [] [] [] []) (class_below name rule)))
        (flat_map_has (λ (r : Rule). option_to_list (option_map (name_of_rule k) (slot_of g k r.target))) (class_at g k).rules i.1 name
        (in_by_place (class_at g k).rules i.0 i.1 i.2)
        (subst (λ (o : Option RuleName). Contains (option_to_list o) name) (sym i.3) (here_in name [])))
      where
        class_below : (name : RuleName) → IsRule meant name → class_of_rule name < length g.classes
        class_below (model.for_self k a) rule = rule.0
        class_below (model.for_child k c a) rule = rule.0

    rules_differ : AreDistinct meant.rules
    rules_differ =
        once (rules_of_class g) of_class 0 g.classes
        (λ k low high. (names_differ g k [] (class_at g k).rules (rules_right g none k (omega (arith, high)))).0)

    rules_in_order : NoneFalls class_of_rule meant.rules
    rules_in_order = by_class (rules_of_class g) of_class 0 g.classes

    pub lawful_by : (w ≡ narrow) ⊎ (w ≡ wide) → HasKinds g → IsLawful meant
    lawful_by width has =
        record {
          width = width;
          root_known = root_known g none;
          interfaces_known = interface_known g none;
          children_known = child_known g none;
          numbering = declared_in_order w g;
          shared_sorts =
              λ i a owns.
              shared_sort (λ s. s ≢ model.local) i a owns.1
              (λ d known there. not_local d.kind
              (All-contains (λ (a : AttrDecl). IsSharedKind a.kind) (interface_at g i).attrs d
              (All-contains (λ (x : Interface). All (λ (a : AttrDecl). IsSharedKind a.kind) x.attrs) g.interfaces
              (interface_at g i) has.shared (Contains-get_or g.interfaces i (trees.interface [] [] []) known)) there));
          root_sorts =
              λ a there.
              shared_sort (λ s. s ≢ model.inherited) (interface_number g g.root) a there
              (λ d known of. not_inherited d.kind
              (none_passes (λ (a : AttrDecl). is_inherited a.kind) (interface_at g (interface_number g g.root)).attrs (root_has_none g none)
              d of));
          private_sorts =
              λ k a owns.
              own_sort (λ s. (s ≡ model.input) ⊎ (s ≡ model.local)) k a owns.1
              (λ d known there. own_sorts d.kind
              (All-contains (λ (a : AttrDecl). IsOwnKind a.kind) (class_at g k).attrs d
              (All-contains (λ (x : Class). All (λ (a : AttrDecl). IsOwnKind a.kind) x.attrs) g.classes
              (class_at g k) has.own (Contains-get_or g.classes k (trees.class [] [] [] [] []) known)) there));
          rules_are = rule_is;
          rules_have = rule_there;
          rules_once = rules_differ;
          rules_by_class = rules_in_order;
          self_parts = λ k a rule. self_parts w g k a;
          self_alone = λ k a rule. slot_alone w g k (own_slot a) 0;
          self_range = λ k a rule. slot_range w g k (own_slot a) 0;
          child_parts = λ k c a rule. child_parts w g k c a rule.1;
          child_alone = λ k c a rule n. slot_alone w g k (kid_slot c a) n;
          child_range = λ k c a rule n. slot_range w g k (kid_slot c a) n;
        }

-- a width is one of the two
width_is : (width : Width) → (greatest_of_width width ≡ narrow) ⊎ (greatest_of_width width ≡ wide)
width_is widths.Narrow = inl refl
width_is widths.Wide = inr refl

-- a grammar without a fault is lawful, in each width
pub faultless_lawful : (g : Grammar) (width : Width) → IsFaultless g → IsLawful (grammar_of (greatest_of_width width) g)
faultless_lawful g width h = lawful_by (greatest_of_width width) g h.faults (width_is width) h.kinds
