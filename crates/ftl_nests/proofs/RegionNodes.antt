-- A closed nest puts each node of the region below exactly one node of the host class, and each node below one is of
-- the region.
use Rattle.std.proofs.Common.{◌≡◌, ◌⊎◌, ℕ, ◌<◌, ◌==◌, true, false, if◌then◌else◌, refl, sym, ◌∙◌, ap, subst, inl, inr, ⊎_elim, arith, eqb-true, eq-eqb, [], ◌∷◌}
use Rattle.std.proofs.lemmas.List.Elements.{Contains-append_cases}
use Rattle.ftl_model.specs.layout.AttributeGrammar.{AttributeGrammar, Sort, inherited, input, local, synthesized}
use Rattle.ftl_model.specs.layout.Path.{Above, AtOrAbove, Has, Path, class_at, down, top}
use Rattle.ftl_model.specs.layout.Solves.{rule_node}
use Rattle.ftl_model.specs.layout.Tree.{Forest}
use Rattle.ftl_model.specs.layout.TreeOf.{IsTreeOf}
use Rattle.ftl_model.proofs.layout.Fits.{kid_stands}
use Rattle.ftl_model.proofs.layout.Standing.{has_parent}
use Rattle.ftl_order.specs.orders.Lawful.{IsLawful, OfClass, class_owner, interface_owner}
use Rattle.ftl_order.proofs.orders.Kids.{class_known, root_interface}
use Rattle.ftl_order.proofs.orders.Owners.{one_owner}
use Rattle.ftl_nests.specs.Hosted.{IsHost, nearest}
use Rattle.ftl_nests.specs.Region.{HasChildOf, InRegion, IsClosed, IsOwner, OfRegion}

-- two nodes that are both at or above one are one, or one is above the other
pub comparable : (h m p : Path) → AtOrAbove h p → AtOrAbove m p → (h ≡ m) ⊎ (Above h m ⊎ Above m h)
comparable h m p (inl e) (inl f) = inl (e ∙ sym f)
comparable h m p (inl e) (inr above) = inr (inr (subst (Above m) (sym e) above))
comparable h m p (inr above) (inl f) = inr (inl (subst (Above h) (sym f) above))
comparable h m top (inr a) (inr b) = absurd a
comparable h m (down c k q) (inr a) (inr b) = comparable h m q a b

-- with an interface the region has those of the children of its classes
pub region_kids : (g : AttributeGrammar) (host class i : ℕ) → class < g.class_count → HasChildOf g class i
    → InRegion g host (g.interface class) → InRegion g host i
region_kids g host class i known child h = (class ∷ h.0, (known, child, h.1))

pub owner_of : (g : AttributeGrammar) → IsLawful g → (class a : ℕ) → class < g.class_count → OfClass g class a
    → IsOwner g (g.interface class) a
owner_of g law class a known of =
    ⊎_elim (λ shared. inl (law.interfaces_known class known, shared)) (λ private. inr (class, refl, (known, private)))
    (Contains-append_cases (g.shared (g.interface class)) (g.private class) a of)

-- no attribute is of two interfaces, or of classes of two
one_interface : (g : AttributeGrammar) → IsLawful g → (i j a : ℕ) → IsOwner g i a → IsOwner g j a → i ≡ j
one_interface g law i j a (inl x) (inl y) =
    let e = one_owner g law (interface_owner i) (interface_owner j) a x y in
    let z : i ≡ j = cc in
    z
one_interface g law i j a (inl x) (inr y) =
    let e = one_owner g law (interface_owner i) (class_owner y.0) a x y.2 in absurd (let z : ⊥ = cc in z)
one_interface g law i j a (inr x) (inl y) =
    let e = one_owner g law (class_owner x.0) (interface_owner j) a x.2 y in absurd (let z : ⊥ = cc in z)
one_interface g law i j a (inr x) (inr y) =
    let e = one_owner g law (class_owner x.0) (class_owner y.0) a x.2 y.2 in
    let same : x.0 ≡ y.0 = cc in
    sym x.1 ∙ ap g.interface same ∙ y.1

module _ (g : AttributeGrammar) (t : Forest) (fits : IsTreeOf g t) (host : ℕ) where
  -- a node whose interface is of the region
  abbrev pub IsRegionNode : Path → Type 0
  IsRegionNode p = InRegion g host (g.interface (class_at t p))

  kid_child : (c k : ℕ) (p : Path) → Has t (down c k p)
      → HasChildOf g (class_at t p) (g.interface (class_at t (down c k p)))
  kid_child c k p h = let fit = kid_stands g t c k p fits h in (c, fit.declared, sym fit.interface)

  pub kid_of_region : (c k : ℕ) (p : Path) → Has t (down c k p) → IsRegionNode p → IsRegionNode (down c k p)
  kid_of_region c k p h r =
      region_kids g host (class_at t p) (g.interface (class_at t (down c k p)))
      (class_known g t fits p (has_parent t c k p h)) (kid_child c k p h) r

  -- what is below a node of the host class is of the region
  pub below_host : (h p : Path) → Has t p → class_at t h ≡ host → Above h p → IsRegionNode p
  below_host h top there is above = absurd above
  below_host h (down c k q) there is above =
      ⊎_elim
      (λ e. (
        [],
        subst (λ x. HasChildOf g x (g.interface (class_at t (down c k q))))
            (ap (class_at t) (sym e) ∙ is) (kid_child c k q there),
      ))
      (λ far. kid_of_region c k q there (below_host h q (has_parent t c k q there) is far)) above

  module _ (closed : IsClosed g host) where
    -- the parent of a region node is of the host class or a region node
    pub region_parent : (c k : ℕ) (q : Path) → Has t (down c k q) → IsRegionNode (down c k q)
        → (class_at t q ≡ host) ⊎ IsRegionNode q
    region_parent c k q h r =
        closed.no_other_parent (class_at t q) (g.interface (class_at t (down c k q)))
        (class_known g t fits q (has_parent t c k q h)) (kid_child c k q h) r

    -- a region node is below some node of the host class
    pub host_above : (p : Path) → Has t p → IsRegionNode p
        → (h : Path) × Has t h × (class_at t h ≡ host) × Above h p
    host_above top there r = absurd (closed.root_outside (subst (InRegion g host) (root_interface g t fits) r))
    host_above (down c k q) there r =
        ⊎_elim (λ e. (q, has_parent t c k q there, e, inl refl))
        (λ up. let i = host_above q (has_parent t c k q there) up in (i.0, i.1, i.2, inr i.3))
        (region_parent c k q there r)

    pub host_in_host : (h m : Path) → Has t m → class_at t h ≡ host → class_at t m ≡ host → Above h m → ⊥
    host_in_host h m there is_h is_m above =
        closed.host_outside (subst (λ class. InRegion g host (g.interface class)) is_m (below_host h m there is_h above))

    -- and at or below one alone
    pub one_host : (h m p : Path) → IsHost t host h p → IsHost t host m p → h ≡ m
    one_host h m p a b =
        ⊎_elim (λ e. e)
        (λ other.
        absurd
        (⊎_elim (λ up. host_in_host h m b.there a.of_class b.of_class up)
        (λ up. host_in_host m h a.there b.of_class a.of_class up) other))
        (comparable h m p a.holds b.holds)

    -- the visit in which an attribute of a region node is computed has a host
    visit_hosted : (sort : Sort) (p h : Path) → Above h p → AtOrAbove h (rule_node sort p)
    visit_hosted input p h above = inr above
    visit_hosted inherited top h above = absurd above
    visit_hosted inherited (down c k q) h above = above
    visit_hosted synthesized p h above = inr above
    visit_hosted local p h above = inr above

    pub hosted_visit_of : (sort : Sort) (p : Path) → Has t p → IsRegionNode p
        → (h : Path) × IsHost t host h (rule_node sort p)
    hosted_visit_of sort p there r =
        let up = host_above p there r in
        (up.0, record { there = up.1; of_class = up.2; holds = visit_hosted sort p up.0 up.3 })

  module _ (law : IsLawful g) where
    -- an attribute of the region is one of region nodes alone
    pub region_node : (p : Path) (a : ℕ) → Has t p → OfClass g (class_at t p) a → OfRegion g host a → IsRegionNode p
    region_node p a there of region =
        let known = class_known g t fits p there in
        subst (InRegion g host)
        (one_interface g law region.0 (g.interface (class_at t p)) a region.2
        (owner_of g law (class_at t p) a known of))
        region.1

    pub region_attribute : (p : Path) (a : ℕ) → Has t p → OfClass g (class_at t p) a → IsRegionNode p
        → OfRegion g host a
    region_attribute p a there of r =
        (g.interface (class_at t p), r, owner_of g law (class_at t p) a (class_known g t fits p there) of)

-- the nearest node of a class at or above a node is of the class, where some node there is
pub nearest_is : (t : Forest) (class : ℕ) (h p : Path) → class_at t h ≡ class → AtOrAbove h p
    → (class_at t (nearest t class p) ≡ class) × AtOrAbove (nearest t class p) p
nearest_is t class h top is (inl e) = (subst (λ q. class_at t q ≡ class) e is, inl refl)
nearest_is t class h top is (inr above) = absurd above
nearest_is t class h (down c k p) is holds =
    elim (class_at t (down c k p) == class) as
    (λ b. (class_at t (down c k p) == class ≡ b)
    → (class_at t (if b then down c k p else nearest t class p) ≡ class)
    × AtOrAbove (if b then down c k p else nearest t class p) (down c k p)) [
      | true ↦ λ e. (eqb-true (class_at t (down c k p)) class e, inl refl)
      | false ↦ λ e.
          ⊎_elim
          (λ same. absurd
          (let f = eq-eqb (class_at t (down c k p)) class (ap (class_at t) (sym same) ∙ is) in
          let z : ⊥ = grind arith in
          z))
          (λ above. let i = nearest_is t class h p is above in (i.0, inr i.1)) holds
    ]
    refl
