-- What a name stands for may be read where it stands.
use Rattle.std.proofs.Common.{◌≡◌, ◌⊎◌, inl, inr, ℕ, ◌<◌, Bool, true, false, if◌then◌else◌, refl, sym, ◌∙◌, ap, subst, arith, List, [], length, map, Contains, Option, Some, None}
use Rattle.std.specs.Option.{option_and_then, option_map, option_to_list}
use Rattle.std.specs.Str.{bytes_eq}
use Rattle.std.proofs.lemmas.Option.{none-some, option_and_then_some, same_Some}
use Rattle.std.proofs.lemmas.List.{map-append}
use Rattle.ftl_model.proofs.lists.Elements.{in_cases, in_flat_map, nothing_in}
use Rattle.ftl_model.proofs.lists.Rising.{map_has}
use Rattle.ftl_model.specs.layout.AttributeGrammar.{AttributeGrammar, Read, each_read, last_read, prev_read, self_read, single_read, this_read}
use Rattle.ftl_order.specs.orders.Lawful.{EachMay, IsListChild, IsSingle, MayReadForChild, MayReadForSelf, MayReadInStep, MayReadLater, OfChild, OfClass}
use Rattle.ftl_grammar.specs.syntax.Trees as trees
use Rattle.ftl_grammar.specs.syntax.Trees.{NameText}
use Rattle.ftl_grammar.specs.declared.syntax.expression.Expr.{Expr}
use Rattle.ftl_grammar.specs.declared.syntax.rules.AttrDecl.{AttrDecl}
use Rattle.ftl_grammar.specs.declared.syntax.rules.Child.{Child}
use Rattle.ftl_grammar.specs.declared.syntax.rules.Grammar.{Grammar}
use Rattle.ftl_meaning.specs.formulas.Expressions.{formula_of}
use Rattle.ftl_meaning.specs.formulas.Formula.{reads_of}
use Rattle.ftl_meaning.specs.declared.formulas.read_name.ReadName.{ReadName}
use Rattle.ftl_meaning.specs.declared.formulas.read_name.ReadName.TheVariants as names
use Rattle.ftl_meaning.specs.faults.Allowed.{Leaf, Position, accumulator, for_kids, for_later, for_self, for_single, in_step, last_leaf, leaf_by, leaf_of, of_read, single_leaf}
use Rattle.ftl_meaning.specs.faults.Numbering.{child_at, child_attributes, children_of, class_at, class_attributes, find_attribute, find_child, own_attributes, shared_attributes, interface_of}
use Rattle.ftl_meaning.specs.grammars.GrammarOf.{grammar_of}
use Rattle.ftl_meaning.specs.grammars.Meaning.{expression_reads, read_of}
use Rattle.ftl_meaning.proofs.lawful.Found.{find_is}
use Rattle.ftl_meaning.proofs.lawful.Numbers.{in_numbered}

same_read : (q r : Read) → of_read q ≡ of_read r → q ≡ r
same_read q r h = cc

-- a read by a form is of an attribute that is there
pub by_form : (form : ℕ → Read) (name : NameText) (attributes : List (ℕ × AttrDecl)) (r : Read)
    → leaf_by form name attributes ≡ Some (of_read r)
    → (b : ℕ) × (form b ≡ r) × Contains (map (λ a. a.0) attributes) b
by_form form name attributes r h = go (find_attribute name attributes) refl h
  where
    go : (o : Option (ℕ × AttrDecl)) → find_attribute name attributes ≡ o
        → option_map (λ a. of_read (form a.0)) o ≡ Some (of_read r)
        → (b : ℕ) × (form b ≡ r) × Contains (map (λ a. a.0) attributes) b
    go None is h = absurd (none-some (of_read r) h)
    go (Some p) is h = (
      p.0,
      same_read (form p.0) r (same_Some (of_read (form p.0)) (of_read r) h),
      map_has (λ a. a.0) attributes p (find_is (λ a. bytes_eq name a.1.name) attributes p is).0,
    )

module _ (w : ℕ) (g : Grammar) (k : ℕ) where
  abbrev meant : AttributeGrammar
  meant = grammar_of w g

  -- an attribute of the class by number
  pub of_class : (b : ℕ) → Contains (map (λ a. a.0) (class_attributes g k)) b → OfClass meant k b
  of_class b h =
      subst (λ (ns : List ℕ). Contains ns b)
      (map-append (λ a. a.0) (shared_attributes g (interface_of g k)) (own_attributes g k)) h

  -- a child that is found stands at its number
  pub child_found : (name : NameText) (c : ℕ × Child) → find_child g k name ≡ Some c
      → (c.0 < length (class_at g k).children) × (child_at g k c.0 ≡ c.1)
  child_found name c h =
      let s = in_numbered 0 (class_at g k).children c (find_is (λ c. bytes_eq name c.1.name) (children_of g k) c h).0 in
      let e = s.number in
      let known = s.known in
      let same : c.0 ≡ s.place = omega (arith, e) in (
        (let z : c.0 < length (class_at g k).children = omega (arith, same, known) in z),
        ap (child_at g k) same ∙ s.is (trees.child [] [] false),
      )

  of_child : (c : ℕ × Child) → child_at g k c.0 ≡ c.1 → (b : ℕ)
      → Contains (map (λ a. a.0) (child_attributes g c.1)) b → OfChild meant k c.0 b
  of_child c is b h = subst (λ (x : Child). Contains (map (λ a. a.0) (child_attributes g x)) b) (sym is) h

  -- a read of the node itself
  own_found : (a : NameText) (r : Read) → leaf_by self_read a (class_attributes g k) ≡ Some (of_read r)
      → (b : ℕ) × (self_read b ≡ r) × OfClass meant k b
  own_found a r h = let f = by_form self_read a (class_attributes g k) r h in (f.0, f.1, of_class f.0 f.2)

  -- a read of a single child
  single_found : (c a : NameText) (r : Read)
      → option_and_then (single_leaf g a) (find_child g k c) ≡ Some (of_read r)
      → (m : ℕ) × (b : ℕ) × (single_read m b ≡ r) × IsSingle meant k m × OfChild meant k m b
  single_found c a r h =
      option_and_then_some (single_leaf g a) (find_child g k c) (of_read r) h
      (λ child is leaf. go child (child_found c child is) child.1.many refl leaf)
    where
      go : (child : ℕ × Child) → (child.0 < length (class_at g k).children) × (child_at g k child.0 ≡ child.1)
          → (many : Bool) → child.1.many ≡ many
          → (if many then None else leaf_by (single_read child.0) a (child_attributes g child.1)) ≡ Some (of_read r)
          → (m : ℕ) × (b : ℕ) × (single_read m b ≡ r) × IsSingle meant k m × OfChild meant k m b
      go child stands true e h = absurd (none-some (of_read r) h)
      go child stands false e h =
          let f = by_form (single_read child.0) a (child_attributes g child.1) r h in (
            child.0,
            f.0,
            f.1,
            (stands.0, ap (λ (x : Child). x.many) stands.1 ∙ e),
            of_child child stands.1 f.0 f.2,
          )

  -- a read of a list's last kid
  last_found : (c a : NameText) (r : Read)
      → option_and_then (last_leaf g a) (find_child g k c) ≡ Some (of_read r)
      → (m : ℕ) × (b : ℕ) × (last_read m b ≡ r) × IsListChild meant k m × OfChild meant k m b
  last_found c a r h =
      option_and_then_some (last_leaf g a) (find_child g k c) (of_read r) h
      (λ child is leaf. go child (child_found c child is) child.1.many refl leaf)
    where
      go : (child : ℕ × Child) → (child.0 < length (class_at g k).children) × (child_at g k child.0 ≡ child.1)
          → (many : Bool) → child.1.many ≡ many
          → (if many then leaf_by (last_read child.0) a (child_attributes g child.1) else None) ≡ Some (of_read r)
          → (m : ℕ) × (b : ℕ) × (last_read m b ≡ r) × IsListChild meant k m × OfChild meant k m b
      go child stands false e h = absurd (none-some (of_read r) h)
      go child stands true e h =
          let f = by_form (last_read child.0) a (child_attributes g child.1) r h in (
            child.0,
            f.0,
            f.1,
            (stands.0, ap (λ (x : Child). x.many) stands.1 ∙ e),
            of_child child stands.1 f.0 f.2,
          )

  -- in a rule for the node itself
  self_may : (name : ReadName) (r : Read) → leaf_of g k for_self name ≡ Some (of_read r) → MayReadForSelf meant k r
  self_may (names.Own a) r h = let f = own_found a r h in subst (MayReadForSelf meant k) f.1 f.2
  self_may (names.This a) r h = absurd (none-some (of_read r) h)
  self_may (names.Prev a) r h = absurd (none-some (of_read r) h)
  self_may (names.Of c a) r h = let f = single_found c a r h in subst (MayReadForSelf meant k) f.2 (f.3, f.4)
  self_may (names.Last c a) r h = let f = last_found c a r h in subst (MayReadForSelf meant k) f.2 (f.3, f.4)
  self_may names.Acc r h = absurd (none-some (of_read r) h)

  not_read : {X : Type 0} (r : Read) → Some accumulator ≡ Some (of_read r) → X
  not_read r h = absurd (let z : ⊥ = grind (arith, h) in z)

  -- in the step of a fold
  step_may : (c : ℕ) (name : ReadName) (r : Read) → leaf_of g k (in_step c) name ≡ Some (of_read r)
      → MayReadInStep meant k c r
  step_may c (names.Own a) r h = let f = own_found a r h in subst (MayReadInStep meant k c) f.1 f.2
  step_may c (names.This a) r h =
      let f = by_form (each_read c) a (child_attributes g (child_at g k c)) r h in
      subst (MayReadInStep meant k c) f.1 (refl, f.2)
  step_may c (names.Prev a) r h = absurd (none-some (of_read r) h)
  step_may c (names.Of d a) r h = let f = single_found d a r h in subst (MayReadInStep meant k c) f.2 (f.3, f.4)
  step_may c (names.Last d a) r h = let f = last_found d a r h in subst (MayReadInStep meant k c) f.2 (f.3, f.4)
  step_may c names.Acc r h = not_read r h

  -- in a rule for a single child
  single_may : (c : ℕ) → IsSingle meant k c → (name : ReadName) (r : Read)
      → leaf_of g k for_single name ≡ Some (of_read r) → MayReadForChild meant k c r
  single_may c one (names.Own a) r h = let f = own_found a r h in subst (MayReadForChild meant k c) f.1 f.2
  single_may c one (names.This a) r h = absurd (none-some (of_read r) h)
  single_may c one (names.Prev a) r h = absurd (none-some (of_read r) h)
  single_may c one (names.Of d a) r h = let f = single_found d a r h in subst (MayReadForChild meant k c) f.2 (f.3, f.4)
  single_may c one (names.Last d a) r h =
      let f = last_found d a r h in subst (MayReadForChild meant k c) f.2 (one, f.3, f.4)
  single_may c one names.Acc r h = absurd (none-some (of_read r) h)

  -- in a rule for the kids of a list
  kids_may : (c : ℕ) → IsListChild meant k c → (name : ReadName) (r : Read)
      → leaf_of g k (for_kids c) name ≡ Some (of_read r) → MayReadForChild meant k c r
  kids_may c many (names.Own a) r h = let f = own_found a r h in subst (MayReadForChild meant k c) f.1 f.2
  kids_may c many (names.This a) r h =
      let f = by_form (this_read c) a (child_attributes g (child_at g k c)) r h in
      subst (MayReadForChild meant k c) f.1 (refl, many, f.2)
  kids_may c many (names.Prev a) r h = absurd (none-some (of_read r) h)
  kids_may c many (names.Of d a) r h = let f = single_found d a r h in subst (MayReadForChild meant k c) f.2 (f.3, f.4)
  kids_may c many (names.Last d a) r h = absurd (none-some (of_read r) h)
  kids_may c many names.Acc r h = absurd (none-some (of_read r) h)

  -- in the part for the later ones
  later_may : (c : ℕ) → IsListChild meant k c → (name : ReadName) (r : Read)
      → leaf_of g k (for_later c) name ≡ Some (of_read r) → MayReadLater meant k c r
  later_may c many (names.Own a) r h = let f = own_found a r h in subst (MayReadLater meant k c) f.1 f.2
  later_may c many (names.This a) r h =
      let f = by_form (this_read c) a (child_attributes g (child_at g k c)) r h in
      subst (MayReadLater meant k c) f.1 (refl, many, f.2)
  later_may c many (names.Prev a) r h =
      let f = by_form (prev_read c) a (child_attributes g (child_at g k c)) r h in
      subst (MayReadLater meant k c) f.1 (refl, many, f.2)
  later_may c many (names.Of d a) r h = let f = single_found d a r h in subst (MayReadLater meant k c) f.2 (f.3, f.4)
  later_may c many (names.Last d a) r h = absurd (none-some (of_read r) h)
  later_may c many names.Acc r h = absurd (none-some (of_read r) h)

  read_is : (o : Option Leaf) (r : Read) → Contains (option_to_list (option_and_then read_of o)) r → o ≡ Some (of_read r)
  read_is None r h = absurd (nothing_in r h)
  read_is (Some accumulator) r h = absurd (nothing_in r h)
  read_is (Some (of_read q)) r h = go (in_cases q r [] h)
    where
      go : (q ≡ r) ⊎ Contains [] r → Some (of_read q) ≡ Some (of_read r)
      go (inl same) = ap (λ x. Some (of_read x)) same
      go (inr none) = absurd (nothing_in r none)

  -- each read of an expression
  pub each_may : (May : Read → Type 0) (at : Position) (e : Expr)
      → ((name : ReadName) (r : Read) → leaf_of g k at name ≡ Some (of_read r) → May r)
      → EachMay May (expression_reads g k at e)
  each_may May at e may r h =
      let i = in_flat_map (λ name. option_to_list (option_and_then read_of (leaf_of g k at name))) (reads_of (formula_of e)) r h in
      may i.0 r (read_is (leaf_of g k at i.0) r i.2)

  -- the reads of an expression of a rule for the node itself
  pub self_reads : (e : Expr) → EachMay (MayReadForSelf meant k) (expression_reads g k for_self e)
  self_reads e = each_may (MayReadForSelf meant k) for_self e self_may

  -- of the step of a fold
  pub step_reads : (c : ℕ) (e : Expr) → EachMay (MayReadInStep meant k c) (expression_reads g k (in_step c) e)
  step_reads c e = each_may (MayReadInStep meant k c) (in_step c) e (step_may c)

  -- of a rule for a single child
  pub single_reads : (c : ℕ) → IsSingle meant k c → (e : Expr)
      → EachMay (MayReadForChild meant k c) (expression_reads g k for_single e)
  single_reads c one e = each_may (MayReadForChild meant k c) for_single e (single_may c one)

  -- of a rule for the kids of a list, or for the first
  pub kids_reads : (c : ℕ) → IsListChild meant k c → (e : Expr)
      → EachMay (MayReadForChild meant k c) (expression_reads g k (for_kids c) e)
  kids_reads c many e = each_may (MayReadForChild meant k c) (for_kids c) e (kids_may c many)

  -- of the part for the later ones
  pub later_reads : (c : ℕ) → IsListChild meant k c → (e : Expr)
      → EachMay (MayReadLater meant k c) (expression_reads g k (for_later c) e)
  later_reads c many e = each_may (MayReadLater meant k c) (for_later c) e (later_may c many)
