-- The interface that has an attribute, or whose class adds it.
use Rattle.std.proofs.Common.{◌≡◌, ◌↔◌, ℕ, ◌+◌, ◌<◌, true, false, List, [], length, take, refl, sym, ◌∙◌, ap, subst}
use Rattle.std.proofs.Common.{inl, inr, Contains}
use Rattle.ftl_checked.proofs.lookup.Standing.{own_is_in, shared_is_in}
use Rattle.ftl_deps.specs.reads.Meant.{meant}
use Rattle.ftl_grammar.specs.syntax.Trees as trees
use Rattle.ftl_grammar.specs.declared.syntax.rules.AttrDecl.{AttrDecl}
use Rattle.ftl_grammar.specs.declared.syntax.rules.AttrKind.TheVariants as kinds
use Rattle.ftl_meaning.specs.declared.faults.info.AttrInfo.{AttrInfo}
use Rattle.ftl_meaning.specs.faults.Checked.{CheckedGrammar, all_attributes, attribute_at, attribute_info}
use Rattle.ftl_meaning.specs.faults.Numbering.{class_at, interface_at, own_count, shared_count}
use Rattle.ftl_meaning.proofs.lawful.Numbers.{map-numbered}
use Rattle.ftl_model.specs.layout.AttributeGrammar.{AttributeGrammar}
use Rattle.ftl_model.proofs.lists.Elements.{range_has}
use Rattle.ftl_order.specs.orders.Lawful.{IsLawful, class_owner, interface_owner}
use Rattle.ftl_order.proofs.orders.Owners.{one_owner}
use Rattle.ftl_nests.specs.Region.{InRegion, IsOwner, OfRegion}

-- no attribute is of two interfaces, or of classes of two
one_interface : (g : AttributeGrammar) → IsLawful g → (i j a : ℕ) → IsOwner g i a → IsOwner g j a → i ≡ j
one_interface g law i j a (inl x) (inl y) =
    let e = one_owner g law (interface_owner i) (interface_owner j) a x y in
    let z : i ≡ j = cc in
    z
one_interface g law i j a (inl x) (inr y) =
    let e = one_owner g law (interface_owner i) (class_owner y.0) a x y.2 in absurd (let z : ⊥ = cc in z)
one_interface g law i j a (inr x) (inl y) =
    let e = one_owner g law (class_owner x.0) (interface_owner j) a x.2 y in absurd (let z : ⊥ = cc in z)
one_interface g law i j a (inr x) (inr y) =
    let e = one_owner g law (class_owner x.0) (class_owner y.0) a x.2 y.2 in
    let same : x.0 ≡ y.0 = cc in
    sym x.1 ∙ ap g.interface same ∙ y.1

-- so the attribute is of the region exactly where this interface is
pub owner_tells : (g : AttributeGrammar) → IsLawful g → (host i a : ℕ) → IsOwner g i a
    → InRegion g host i ↔ OfRegion g host a
owner_tells g law host i a owner = (
  λ inside. (i, inside, owner),
  λ of. subst (InRegion g host) (one_interface g law of.0 i a of.2 owner) of.1,
)

abbrev none_declared : AttrDecl
none_declared = trees.attr_decl kinds.Input []

module _ (c : CheckedGrammar) (a : ℕ) (within : a < length (all_attributes c.grammar)) (info : AttrInfo)
    (is : info ≡ attribute_info c.grammar (attribute_at c.grammar a)) where
  owner_is : info.owner ≡ (attribute_at c.grammar a).owner
  owner_is = ap (λ (x : AttrInfo). x.owner) is

  kind_is : (attribute_at c.grammar a).of_class ≡ info.of_class
  kind_is = sym (ap (λ (x : AttrInfo). x.of_class) is)

  -- an attribute of an interface
  pub shared_known : info.of_class ≡ false → info.owner < (meant c).interface_count
  shared_known kind = (shared_is_in c.grammar none_declared a info.owner within owner_is (kind_is ∙ kind)).owner_within

  pub shared_owner : info.of_class ≡ false → IsOwner (meant c) info.owner a
  shared_owner kind =
      let at = shared_is_in c.grammar none_declared a info.owner within owner_is (kind_is ∙ kind) in
      let start = shared_count (take info.owner c.grammar.interfaces) in
      inl (
        at.owner_within,
        subst (λ (xs : List ℕ). Contains xs a)
            (sym (map-numbered start (interface_at c.grammar info.owner).attrs))
            (range_has start (length (interface_at c.grammar info.owner).attrs) a at.after at.before),
      )

  -- an attribute that a class adds
  pub added_known : info.of_class ≡ true → info.owner < (meant c).class_count
  added_known kind = (own_is_in c.grammar none_declared a info.owner within owner_is (kind_is ∙ kind)).owner_within

  pub added_owner : info.of_class ≡ true → IsOwner (meant c) ((meant c).interface info.owner) a
  added_owner kind =
      let at = own_is_in c.grammar none_declared a info.owner within owner_is (kind_is ∙ kind) in
      let start = shared_count c.grammar.interfaces + own_count (take info.owner c.grammar.classes) in
      inr (
        info.owner,
        refl,
        (
          at.owner_within,
          subst (λ (xs : List ℕ). Contains xs a) (sym (map-numbered start (class_at c.grammar info.owner).attrs))
              (range_has start (length (class_at c.grammar info.owner).attrs) a at.after at.before),
        ),
      )
