-- Which classes have children of a region, and that a nest is closed where the tests say so.
use Rattle.std.proofs.Common.{◌≡◌, ◌⊎◌, ◌↔◌, ℕ, ◌+◌, ◌<◌, ◌≤◌, Bool, true, false, not, refl, sym, ◌∙◌, ap, subst, inl, inr}
use Rattle.std.proofs.Common.{arith}
use Rattle.std.proofs.lemmas.Bool.{both_ways, cases_lt}
use Rattle.ftl_deps.specs.reads.Meant.{meant}
use Rattle.ftl_meaning.specs.declared.faults.info.ChildInfo.{ChildInfo}
use Rattle.ftl_meaning.specs.faults.Checked.{CheckedGrammar, child_info}
use Rattle.ftl_meaning.specs.faults.Numbering.{child_at}
use Rattle.ftl_model.specs.layout.AttributeGrammar.{AttributeGrammar}
use Rattle.ftl_order.specs.orders.Lawful.{IsLawful}
use Rattle.ftl_nests.specs.Region.{InRegion, IsClosed}
use Rattle.ftl_regions.specs.hosts.Parents.{HasChildIn, HasNoOtherParent, IsRightParent}

-- what a test tells, as what it decides
abbrev pub Tells : Bool → Type 0 → Type 0
Tells told Is = (told ≡ true) ↔ Is

no_truth : false ≡ true → ⊥
no_truth e = both_ways false refl e

pub tells_yes : (Is : Type 0) → Is → Tells true Is
tells_yes Is is = ((λ e. is), (λ h. refl))

pub tells_no : (Is : Type 0) → (Is → ⊥) → Tells false Is
tells_no Is none = ((λ e. absurd (no_truth e)), (λ h. absurd (none h)))

-- ---- the children of a class

module _ (c : CheckedGrammar) (law : IsLawful (meant c)) (host class child : ℕ) (info : ChildInfo)
    (known : class < (meant c).class_count) (within : child < (meant c).child_count class)
    (is : info ≡ child_info c.grammar (child_at c.grammar class child)) where
  interface_is : info.interface ≡ (meant c).child_interface class child
  interface_is = ap (λ (x : ChildInfo). x.interface) is

  pub child_low : info.interface < (meant c).interface_count
  child_low =
      subst (λ i. i < (meant c).interface_count) (sym interface_is) (law.children_known class child known within)

  pub child_found : InRegion (meant c) host info.interface → HasChildIn (meant c) host class
  child_found inside = (info.interface, (child, within, sym interface_is), inside)

  -- over one child more
  pub none_more : ((d : ℕ) → d < child → InRegion (meant c) host ((meant c).child_interface class d) → ⊥)
      → (InRegion (meant c) host info.interface → ⊥)
      → (d : ℕ) → d < child + 1 → InRegion (meant c) host ((meant c).child_interface class d) → ⊥
  none_more before here d below inside = elim (cases_lt d child) [
    | inl less ↦ before d less inside
    | inr above ↦
        let same : d ≡ child = omega (arith, below, above) in
        here
        (subst (InRegion (meant c) host) (ap ((meant c).child_interface class) same ∙ sym interface_is) inside)
  ]

module _ (g : AttributeGrammar) (host : ℕ) where
  pub none_found : (class n : ℕ) → g.child_count class ≤ n
      → ((d : ℕ) → d < n → InRegion g host (g.child_interface class d) → ⊥) → HasChildIn g host class → ⊥
  none_found class n all none h =
      none h.1.0 (let below = h.1.1 in omega (arith, below, all)) (subst (InRegion g host) (sym h.1.2) h.2)

  -- ---- parents

  pub right_by_host : (class : ℕ) → class ≡ host → IsRightParent g host class
  right_by_host class same = λ h. inl same

  pub right_by_region : (class i : ℕ) → i ≡ g.interface class → InRegion g host i → IsRightParent g host class
  right_by_region class i is inside = λ h. inr (subst (InRegion g host) is inside)

  -- a class that is neither is a right parent exactly where it has no child of the region
  pub right_without : (class i : ℕ) → (class ≡ host → ⊥) → i ≡ g.interface class → (InRegion g host i → ⊥)
      → (has : Bool) → Tells has (HasChildIn g host class) → Tells (not has) (IsRightParent g host class)
  right_without class i other is outside true tells =
      tells_no (IsRightParent g host class)
      (λ right. neither (right (tells.0 refl)))
    where
      neither : (class ≡ host) ⊎ InRegion g host (g.interface class) → ⊥
      neither (inl same) = other same
      neither (inr inside) = outside (subst (InRegion g host) (sym is) inside)
  right_without class i other is outside false tells =
      tells_yes (IsRightParent g host class) (λ h. absurd (no_truth (tells.1 h)))

  -- over one class more
  pub right_more : (n : ℕ) → ((class : ℕ) → class < n → IsRightParent g host class) → IsRightParent g host n
      → (class : ℕ) → class < n + 1 → IsRightParent g host class
  right_more n before here class below = elim (cases_lt class n) [
    | inl less ↦ before class less
    | inr above ↦
        let same : n ≡ class = omega (arith, below, above) in subst (IsRightParent g host) same here
  ]

  -- ---- closed nests

  pub open_by_host : (i : ℕ) → i ≡ g.interface host → InRegion g host i → Tells false (IsClosed g host)
  open_by_host i is inside =
      tells_no (IsClosed g host) (λ closed. closed.host_outside (subst (InRegion g host) is inside))

  pub open_by_root : (i : ℕ) → i ≡ g.root → InRegion g host i → Tells false (IsClosed g host)
  open_by_root i is inside =
      tells_no (IsClosed g host) (λ closed. closed.root_outside (subst (InRegion g host) is inside))

  pub closed_by_parents : host < g.class_count → (i root : ℕ) → i ≡ g.interface host → root ≡ g.root
      → (InRegion g host i → ⊥) → (InRegion g host root → ⊥)
      → (told : Bool) → Tells told (HasNoOtherParent g host) → Tells told (IsClosed g host)
  closed_by_parents known i root is root_is no_host no_root told tells = (
    (λ e. record {
      known = known;
      host_outside = λ inside. no_host (subst (InRegion g host) (sym is) inside);
      root_outside = λ inside. no_root (subst (InRegion g host) (sym root_is) inside);
      no_other_parent = λ class j lies child inside. tells.0 e class lies (j, child, inside);
    }),
    (λ closed. tells.1 (λ class lies h. closed.no_other_parent class h.0 lies h.1 h.2)),
  )
