-- The attributes of a checked grammar by their owners.
use Rattle.std.proofs.Common.{◌≡◌, ◌⊎◌, ◌↔◌, ℕ, suc, ◌+◌, ◌<◌, Bool, true, false, List, [], ◌∷◌, length, map}
use Rattle.std.proofs.Common.{flat_map, take, refl, sym, ap, ap₂, ◌∙◌, subst, inl, inr, ⊎_elim, arith, length-append}
use Rattle.std.proofs.Common.{Contains, None}
use Rattle.std.specs.List.{range_with_len}
use Rattle.std.proofs.lemmas.List.{length-map}
use Rattle.std.proofs.lemmas.List.Elements.{Contains-append_left, Contains-append_right}
use Rattle.ftl_checked.proofs.lookup.Standing.{own_is_in, shared_is_in}
use Rattle.ftl_deps.proofs.reads.AttrKinds.{kind_within}
use Rattle.ftl_deps.specs.reads.Meant.{meant}
use Rattle.ftl_grammar.specs.syntax.Trees as trees
use Rattle.ftl_grammar.specs.declared.syntax.rules.AttrDecl.{AttrDecl}
use Rattle.ftl_grammar.specs.declared.syntax.rules.AttrKind.{AttrKind}
use Rattle.ftl_grammar.specs.declared.syntax.rules.AttrKind.TheVariants as kinds
use Rattle.ftl_grammar.specs.declared.syntax.rules.Class.{Class}
use Rattle.ftl_grammar.specs.declared.syntax.rules.Interface.{Interface}
use Rattle.ftl_meaning.specs.faults.Checked.{CheckedGrammar, all_attributes, attribute_at, declared}
use Rattle.ftl_meaning.specs.faults.FirstFault.{first_fault}
use Rattle.ftl_meaning.specs.faults.Kinds.{HasKinds}
use Rattle.ftl_meaning.specs.faults.Numbering.{class_at, interface_at, numbered, own_count, shared_count}
use Rattle.ftl_meaning.specs.grammars.GrammarOf.{sort_of}
use Rattle.ftl_meaning.proofs.lawful.Numbers.{map-numbered}
use Rattle.ftl_model.specs.lists.Lists.{AreDistinct}
use Rattle.ftl_model.specs.layout.AttributeGrammar.{AttributeGrammar}
use Rattle.ftl_model.proofs.lists.Elements.{distinct-range, distinct_apart, distinct_left, distinct_right}
use Rattle.ftl_model.proofs.lists.Elements.{flat_map_has, in_range_from, one_piece, range_has}
use Rattle.ftl_order.specs.orders.Lawful as order
use Rattle.ftl_order.specs.orders.Lawful.{IsLawful}
use Rattle.ftl_noncircular.specs.search.Tables.{is_port, port_sort}
use Rattle.ftl_noncircular.proofs.search.ReadLaws.{lawful_meant}

-- ---- lawful grammars

module _ (g : AttributeGrammar) (law : IsLawful g) where
  all_distinct : AreDistinct (order.declared g)
  all_distinct = subst AreDistinct (sym law.numbering) (distinct-range 0 g.attribute_count)

  in_shared : (i a : ℕ) → i < g.interface_count → Contains (g.shared i) a
      → Contains (flat_map g.shared (range_with_len 0 g.interface_count)) a
  in_shared i a known there =
      flat_map_has g.shared (range_with_len 0 g.interface_count) i a
      (range_has 0 g.interface_count i (omega arith) (omega (arith, known))) there

  in_private : (k a : ℕ) → k < g.class_count → Contains (g.private k) a
      → Contains (flat_map g.private (range_with_len 0 g.class_count)) a
  in_private k a known there =
      flat_map_has g.private (range_with_len 0 g.class_count) k a
      (range_has 0 g.class_count k (omega arith) (omega (arith, known))) there

  within_count : (a : ℕ) → Contains (order.declared g) a → a < g.attribute_count
  within_count a there =
      let b = (in_range_from 0 g.attribute_count a (subst (λ (xs : List ℕ). Contains xs a) law.numbering there)).1 in
      omega (arith, b)

  pub shared_known : (i a : ℕ) → i < g.interface_count → Contains (g.shared i) a → a < g.attribute_count
  shared_known i a known there =
      within_count a
      (Contains-append_left (flat_map g.shared (range_with_len 0 g.interface_count))
      (flat_map g.private (range_with_len 0 g.class_count)) a (in_shared i a known there))

  pub private_known : (k a : ℕ) → k < g.class_count → Contains (g.private k) a → a < g.attribute_count
  private_known k a known there =
      within_count a
      (Contains-append_right (flat_map g.shared (range_with_len 0 g.interface_count))
      (flat_map g.private (range_with_len 0 g.class_count)) a (in_private k a known there))

  pub shared_once : (i j a : ℕ) → i < g.interface_count → j < g.interface_count → Contains (g.shared i) a
      → Contains (g.shared j) a → i ≡ j
  shared_once i j a known_i known_j first second =
      one_piece g.shared (range_with_len 0 g.interface_count)
      (distinct_left (flat_map g.shared (range_with_len 0 g.interface_count))
      (flat_map g.private (range_with_len 0 g.class_count)) all_distinct) i j a
      (range_has 0 g.interface_count i (omega arith) (omega (arith, known_i)))
      (range_has 0 g.interface_count j (omega arith) (omega (arith, known_j))) first second

  pub private_once : (i j a : ℕ) → i < g.class_count → j < g.class_count → Contains (g.private i) a
      → Contains (g.private j) a → i ≡ j
  private_once i j a known_i known_j first second =
      one_piece g.private (range_with_len 0 g.class_count)
      (distinct_right (flat_map g.shared (range_with_len 0 g.interface_count))
      (flat_map g.private (range_with_len 0 g.class_count)) all_distinct) i j a
      (range_has 0 g.class_count i (omega arith) (omega (arith, known_i)))
      (range_has 0 g.class_count j (omega arith) (omega (arith, known_j))) first second

  pub one_kind : (i k a : ℕ) → i < g.interface_count → k < g.class_count → Contains (g.shared i) a
      → Contains (g.private k) a → ⊥
  one_kind i k a known_i known_k first second =
      distinct_apart (flat_map g.shared (range_with_len 0 g.interface_count))
      (flat_map g.private (range_with_len 0 g.class_count)) all_distinct a (in_shared i a known_i first)
      (in_private k a known_k second)

-- ---- checked grammars

module _ {X : Type 0} (attrs : X → List AttrDecl) (b : Bool) where
  declared_count : (n : ℕ) (xs : List X)
      → length (flat_map attrs xs) ≡ length (flat_map (λ x. map (declared b x.0) (attrs x.1)) (numbered n xs))
  declared_count n [] = refl
  declared_count n (x ∷ xs) =
      length-append (attrs x) (flat_map attrs xs)
      ∙ ap₂ (λ a c. a + c) (sym (length-map (attrs x) (declared b n))) (declared_count (suc n) xs)
      ∙ sym (length-append (map (declared b n) (attrs x))
      (flat_map (λ x. map (declared b x.0) (attrs x.1)) (numbered (suc n) xs)))

-- how many attributes there are
pub attribute_count_is : (c : CheckedGrammar) → (meant c).attribute_count ≡ length (all_attributes c.grammar)
attribute_count_is c =
    ap₂ (λ a b. a + b) (declared_count (λ (x : Interface). x.attrs) false 0 c.grammar.interfaces)
    (declared_count (λ (k : Class). k.attrs) true 0 c.grammar.classes)
    ∙ sym (length-append (flat_map (λ x. map (declared false x.0) x.1.attrs) (numbered 0 c.grammar.interfaces))
    (flat_map (λ k. map (declared true k.0) k.1.attrs) (numbered 0 c.grammar.classes)))

-- the attributes of an interface and of a class are runs of numbers
pub shared_run : (c : CheckedGrammar) (i : ℕ)
    → (meant c).shared i ≡ range_with_len (shared_count (take i c.grammar.interfaces))
    (length (interface_at c.grammar i).attrs)
shared_run c i = map-numbered (shared_count (take i c.grammar.interfaces)) (interface_at c.grammar i).attrs

pub private_run : (c : CheckedGrammar) (k : ℕ)
    → (meant c).private k
    ≡ range_with_len (shared_count c.grammar.interfaces + own_count (take k c.grammar.classes))
    (length (class_at c.grammar k).attrs)
private_run c k =
    map-numbered (shared_count c.grammar.interfaces + own_count (take k c.grammar.classes)) (class_at c.grammar k).attrs

abbrev none_declared : AttrDecl
none_declared = trees.attr_decl kinds.Input []

module _ (c : CheckedGrammar) (none : first_fault c.grammar ≡ None) (all_kinds : HasKinds c.grammar) (a : ℕ)
    (within : a < length (all_attributes c.grammar)) where
  law : IsLawful (meant c)
  law = lawful_meant (meant c) c refl none all_kinds

  abbrev owner : ℕ
  owner = (attribute_at c.grammar a).owner

  owner_known : (attribute_at c.grammar a).of_class ≡ false → owner < length c.grammar.interfaces
  owner_known kind = (shared_is_in c.grammar none_declared a owner within refl kind).owner_within

  class_known : (attribute_at c.grammar a).of_class ≡ true → owner < length c.grammar.classes
  class_known kind = (own_is_in c.grammar none_declared a owner within refl kind).owner_within

  owner_shares : (attribute_at c.grammar a).of_class ≡ false → Contains ((meant c).shared owner) a
  owner_shares kind =
      let is = shared_is_in c.grammar none_declared a owner within refl kind in
      subst (λ (xs : List ℕ). Contains xs a) (sym (shared_run c owner))
      (range_has (shared_count (take owner c.grammar.interfaces)) (length (interface_at c.grammar owner).attrs) a
      is.after
      is.before)

  owner_adds : (attribute_at c.grammar a).of_class ≡ true → Contains ((meant c).private owner) a
  owner_adds kind =
      let is = own_is_in c.grammar none_declared a owner within refl kind in
      subst (λ (xs : List ℕ). Contains xs a) (sym (private_run c owner))
      (range_has (shared_count c.grammar.interfaces + own_count (take owner c.grammar.classes))
      (length (class_at c.grammar owner).attrs) a is.after is.before)

  kind_cases : (b : Bool) → (attribute_at c.grammar a).of_class ≡ b
      → ((attribute_at c.grammar a).of_class ≡ false) ⊎ ((attribute_at c.grammar a).of_class ≡ true)
  kind_cases true e = inr e
  kind_cases false e = inl e

  pub shared_owner : (i : ℕ) → i < (meant c).interface_count
      → Contains ((meant c).shared i) a ↔ (((attribute_at c.grammar a).of_class ≡ false) × (owner ≡ i))
  shared_owner i known = (
    (λ there. ⊎_elim
        (λ shared. (shared, shared_once (meant c) law owner i a (owner_known shared) known (owner_shares shared) there))
        (λ own. absurd (one_kind (meant c) law i owner a known (class_known own) there (owner_adds own)))
        (kind_cases (attribute_at c.grammar a).of_class refl)),
    (λ h. subst (λ j. Contains ((meant c).shared j) a) h.1 (owner_shares h.0)),
  )

  pub private_owner : (k : ℕ) → k < (meant c).class_count
      → Contains ((meant c).private k) a ↔ (((attribute_at c.grammar a).of_class ≡ true) × (owner ≡ k))
  private_owner k known = (
    (λ there. ⊎_elim
        (λ shared. absurd (one_kind (meant c) law owner k a (owner_known shared) known (owner_shares shared) there))
        (λ own. (own, private_once (meant c) law owner k a (class_known own) known (owner_adds own) there))
        (kind_cases (attribute_at c.grammar a).of_class refl)),
    (λ h. subst (λ j. Contains ((meant c).private j) a) h.1 (owner_adds h.0)),
  )

  pub sort_is : (meant c).sort a ≡ sort_of (attribute_at c.grammar a).decl.kind
  sort_is = ap sort_of (sym (kind_within c.grammar a within))

port_is : (from_above : Bool) (kind : AttrKind) → is_port from_above kind ≡ true → sort_of kind ≡ port_sort from_above
port_is true kinds.Inh e = refl
port_is true kinds.Syn e = cc
port_is true kinds.Input e = cc
port_is true kinds.Local e = cc
port_is false kinds.Inh e = cc
port_is false kinds.Syn e = refl
port_is false kinds.Input e = cc
port_is false kinds.Local e = cc

is_of_port : (from_above : Bool) (kind : AttrKind) → sort_of kind ≡ port_sort from_above → is_port from_above kind
    ≡ true
is_of_port true kinds.Inh e = refl
is_of_port true kinds.Syn e = cc
is_of_port true kinds.Input e = cc
is_of_port true kinds.Local e = cc
is_of_port false kinds.Inh e = cc
is_of_port false kinds.Syn e = refl
is_of_port false kinds.Input e = cc
is_of_port false kinds.Local e = cc

-- whether it is a port of an interface
module _ (c : CheckedGrammar) (none : first_fault c.grammar ≡ None) (all_kinds : HasKinds c.grammar) (a i : ℕ)
    (within : a < length (all_attributes c.grammar)) (known : i < (meant c).interface_count) (from_above : Bool) where
  pub no_port : ((attribute_at c.grammar a).of_class ≡ false → (attribute_at c.grammar a).owner ≡ i → ⊥)
      → (false ≡ true) ↔ (Contains ((meant c).shared i) a × ((meant c).sort a ≡ port_sort from_above))
  no_port other = (
    (λ e. absurd (let z : ⊥ = cc in z)),
    (λ h. let is = (shared_owner c none all_kinds a within i known).0 h.0 in absurd (other is.0 is.1)),
  )

  pub port_tells : (attribute_at c.grammar a).of_class ≡ false → (attribute_at c.grammar a).owner ≡ i → (result : Bool)
      → result ≡ is_port from_above (attribute_at c.grammar a).decl.kind
      → (result ≡ true) ↔ (Contains ((meant c).shared i) a × ((meant c).sort a ≡ port_sort from_above))
  port_tells shared owner result is = (
    (λ e. (
      (shared_owner c none all_kinds a within i known).1 (shared, owner),
      sort_is c none all_kinds a within
          ∙ port_is from_above (attribute_at c.grammar a).decl.kind (sym is ∙ e),
    )),
    (λ h.
        is
        ∙ is_of_port from_above (attribute_at c.grammar a).decl.kind
        (sym (sort_is c none all_kinds a within) ∙ h.1)),
  )
