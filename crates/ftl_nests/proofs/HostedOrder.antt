-- What stands directly before a step must precede it, where passes have nests; at two hosts nothing must.
use Rattle.std.proofs.Common.{◌≡◌, ◌≢◌, ◌↔◌, ℕ, true, Bool, refl, sym, ◌∙◌, subst, inl, inr, ⊎_elim, arith, [], ◌∷◌, List, Option, None, Some}
use Rattle.ftl_model.specs.layout.AttributeGrammar.{AttributeGrammar, input}
use Rattle.ftl_model.specs.layout.Path.{Above, AtOrAbove, Path, class_at, parent_of}
use Rattle.ftl_model.specs.layout.Solves.{Instance}
use Rattle.ftl_model.specs.layout.Tree.{Forest}
use Rattle.ftl_model.specs.layout.TreeOf.{IsTreeOf}
use Rattle.ftl_order.specs.orders.Lawful.{IsLawful}
use Rattle.ftl_order.specs.orders.LegalOrder.{IsStep, Turn, turn_of}
use Rattle.ftl_order.specs.orders.Reads.{Reads}
use Rattle.ftl_order.specs.orders.Schedule.{IsOnePass, bottomup, topdown}
use Rattle.ftl_order.proofs.orders.Rows.{direct_precedes}
use Rattle.ftl_items.proofs.stage_items.HandingLaws.{parent_found}
use Rattle.ftl_items.proofs.stage_items.Homes.{has_above}
use Rattle.ftl_nests.specs.Hosted.{HostedDirectlyFirst, HostedFirst, IsHost, MustPrecedeWithNests, PrecedesDirectlyWithNests, nearest}
use Rattle.ftl_nests.specs.NestLaws.{IsRegionSet}
use Rattle.ftl_nests.specs.Nests.{IsNestOrdered, NestPlacing, NestingSchedule, nest_placing_of}
use Rattle.ftl_nests.specs.Region.{InRegion, Leads}
use Rattle.ftl_nests.proofs.InnerSteps.{visit_of}
use Rattle.ftl_nests.proofs.RegionNodes.{below_host, nearest_is, one_host, region_attribute, region_kids}
use Rattle.ftl_nests.proofs.Sides.{sides_kept}
use Rattle.ftl_nests.proofs.Writers.{HasSides, IsAtOrKid, hosted, nest_near, visit_kid}

-- ---- regions

pub region_set : (g : AttributeGrammar) (host : ℕ) → IsRegionSet g host (InRegion g host)
region_set g host =
    record {
      of_host = λ i child. ([], child);
      of_classes = λ class i known of child. region_kids g host class i known child of;
    }

led_in : (g : AttributeGrammar) (host : ℕ) (test : ℕ → Bool) → IsRegionSet g host (λ i. test i ≡ true)
    → (way : List ℕ) (i : ℕ) → Leads g host way i → test i ≡ true
led_in g host test is [] i leads = is.of_host i leads
led_in g host test is (class ∷ way) i leads =
    is.of_classes class i leads.0 (led_in g host test is way (g.interface class) leads.2) leads.1

pub region_least : (g : AttributeGrammar) (host : ℕ) (test : ℕ → Bool) → IsRegionSet g host (λ i. test i ≡ true)
    → (i : ℕ) → InRegion g host i → test i ≡ true
region_least g host test is i region = led_in g host test is region.0 i region.1

-- ---- what must precede

parent_above : (p q : Path) → parent_of q ≡ Some p → AtOrAbove p q
parent_above p q e =
    let kid = parent_found p q e in subst (AtOrAbove p) (sym kid.is) (inr (inl refl))

module _ (g : AttributeGrammar) (t : Forest) (at : NestPlacing) (i j : Instance) where
  hosted_first : (hx hy : Option ℕ) → IsOnePass (at.outer i.attribute) (at.outer j.attribute)
      → HostedDirectlyFirst t hx hy (at.outer j.attribute).kind at (turn_of g i) (turn_of g j)
      → HostedFirst t hx hy (at.outer j.attribute).kind at (turn_of g i) (turn_of g j)
  hosted_first None None pass direct =
      ⊎_elim (λ less. absurd (let e = pass.0 in let z : ⊥ = omega (arith, less, e) in z)) (λ here. here.1)
      (direct_precedes g at.outer i j (inr (pass, direct)))
  hosted_first (Some a) (Some b) pass direct =
      (direct.0, direct.1, direct.2, direct_precedes g at.inner i j direct.3)
  hosted_first None (Some b) pass direct = (
    direct.0,
    (turn_of g j).visit,
    direct.1,
    ⊎_elim (λ same. inl same) (λ parent. parent_above (turn_of g i).visit (turn_of g j).visit parent) direct.2,
  )
  hosted_first (Some a) None pass direct = (direct.0, (turn_of g j).visit, direct.1, inl refl)

  pub directly_first : PrecedesDirectlyWithNests g t at i j → MustPrecedeWithNests g t at i j
  directly_first direct =
      ⊎_elim (λ stage. inl stage)
      (λ here. inr (here.0, hosted_first (at.host i.attribute) (at.host j.attribute) here.0 here.1)) direct

module _ (g : AttributeGrammar) (t : Forest) (law : IsLawful g) (fits : IsTreeOf g t) (at : NestPlacing)
    (sides : HasSides g t at) where
  -- a step that stands in a nest has its host at or above
  pub nearest_host : (i : Instance) (k : ℕ) → IsStep g t i → at.host i.attribute ≡ Some k
      → IsHost t k (nearest t k (turn_of g i).visit) (turn_of g i).visit
  nearest_host i k step e =
      let h = hosted g law at t fits sides i k step e in
      let near = nearest_is t k h.0 (turn_of g i).visit h.1.of_class h.1.holds in
      record {
        there = has_above t (nearest t k (turn_of g i).visit) (turn_of g i).visit (visit_of g t i step) near.1;
        of_class = near.0;
        holds = near.1;
      }

  -- one of a pass's own list runs below no node of the class that the pass's nest has as host
  pub own_below_none : (i j : Instance) → IsStep g t i → IsOnePass (at.outer i.attribute) (at.outer j.attribute)
      → at.host i.attribute ≡ None → (k : ℕ) → at.host j.attribute ≡ Some k → (h : Path) → class_at t h ≡ k
      → Above h (turn_of g i).visit → ⊥
  own_below_none i j step pass none k some h of above =
      sides.own i.attribute j.attribute k pass none some
      (region_attribute g t fits k law i.node i.attribute step.0.0 step.0.1
      (below_host g t fits k h i.node step.0.0 of (node_below (visit_kid (g.sort i.attribute) i.node))))
    where
      node_below : IsAtOrKid i.node (turn_of g i).visit → Above h i.node
      node_below (inl same) = subst (Above h) (sym same) above
      node_below (inr kid) = subst (Above h) (sym kid.2) (inr above)

module _ (g : AttributeGrammar) (s : NestingSchedule) (t : Forest) (law : IsLawful g) (ordered : IsNestOrdered g s)
    (fits : IsTreeOf g t) where
  abbrev at : NestPlacing
  at = nest_placing_of s

  pub one_host_of : (i : Instance) (k : ℕ) → IsStep g t i → at.host i.attribute ≡ Some k
      → (h : Path) × IsHost t k h (turn_of g i).visit × ((m : Path) → IsHost t k m (turn_of g i).visit → m ≡ h)
  one_host_of i k step e =
      let sides = sides_kept g s ordered.once ordered.sides t law fits in
      let h = hosted g law at t fits sides i k step e in (
        h.0,
        h.1,
        (λ m is. one_host g t fits k (sides.closed i.attribute k e) m h.0 (turn_of g i).visit is h.1),
      )

  pub writer_directly : (i j : Instance) → IsStep g t i → Reads g t i j → g.sort j.attribute ≢ input
      → PrecedesDirectlyWithNests g t at j i
  writer_directly i j step reads written =
      ⊎_elim (λ given. absurd (written given)) (λ found. found.1)
      (nest_near g law at t fits (sides_kept g s ordered.once ordered.sides t law fits) ordered.pairs i j step reads)

  pub hosts_free : (i j : Instance) → IsOnePass (at.outer i.attribute) (at.outer j.attribute)
      → (k : ℕ) → at.host i.attribute ≡ Some k → at.host j.attribute ≡ Some k
      → (h m : Path) → IsHost t k h (turn_of g i).visit → IsHost t k m (turn_of g j).visit → h ≢ m
      → MustPrecedeWithNests g t at i j → ⊥
  hosts_free i j pass k ei ej h m hi hj two first =
      ⊎_elim (λ stage. let e = pass.0 in let z : ⊥ = omega (arith, stage, e) in z)
      (λ here.
      let both : HostedFirst t (Some k) (Some k) (at.outer j.attribute).kind at (turn_of g i) (turn_of g j) =
      subst (λ x. HostedFirst t (Some k) x (at.outer j.attribute).kind at (turn_of g i) (turn_of g j)) ej
      (subst (λ x. HostedFirst t x (at.host j.attribute) (at.outer j.attribute).kind at (turn_of g i) (turn_of g j)) ei
      here.1) in
      let closed = (sides_kept g s ordered.once ordered.sides t law fits).closed i.attribute k ei in
      two
      (one_host g t fits k closed h both.0 (turn_of g i).visit hi both.1
      ∙ sym (one_host g t fits k closed m both.0 (turn_of g j).visit hj both.2)))
      first

  -- of a step in the own list and one in the nest
  pub own_bound : (i j : Instance) → IsOnePass (at.outer i.attribute) (at.outer j.attribute)
      → at.host i.attribute ≡ None → (k : ℕ) → at.host j.attribute ≡ Some k → (h : Path)
      → IsHost t k h (turn_of g j).visit
      → (MustPrecedeWithNests g t at i j
      ↔ (((at.outer j.attribute).kind ≡ topdown) × AtOrAbove (turn_of g i).visit h))
      × (MustPrecedeWithNests g t at j i
      ↔ (((at.outer i.attribute).kind ≡ bottomup) × AtOrAbove (turn_of g i).visit h))
  own_bound i j pass none k some h is = ((own_first, own_must), (own_last, inner_must))
    where
      x : Turn
      x = turn_of g i

      y : Turn
      y = turn_of g j

      the_host : (m : Path) → IsHost t k m y.visit → m ≡ h
      the_host m of = one_host g t fits k ((sides_kept g s ordered.once ordered.sides t law fits).closed j.attribute k some) m h y.visit of is

      own_first : MustPrecedeWithNests g t at i j → ((at.outer j.attribute).kind ≡ topdown) × AtOrAbove x.visit h
      own_first (inl stage) = let e = pass.0 in absurd (let z : ⊥ = omega (arith, stage, e) in z)
      own_first (inr here) =
          let first : HostedFirst t None (Some k) (at.outer j.attribute).kind at x y =
          subst (λ b. HostedFirst t None b (at.outer j.attribute).kind at x y) some
          (subst (λ b. HostedFirst t b (at.host j.attribute) (at.outer j.attribute).kind at x y) none here.1) in
          (first.0, subst (AtOrAbove x.visit) (the_host first.1 first.2) first.3)

      own_must : ((at.outer j.attribute).kind ≡ topdown) × AtOrAbove x.visit h → MustPrecedeWithNests g t at i j
      own_must (kind, above) =
          inr (
            pass,
            subst (λ b. HostedFirst t b (at.host j.attribute) (at.outer j.attribute).kind at x y) (sym none)
                (subst (λ b. HostedFirst t None b (at.outer j.attribute).kind at x y) (sym some) (kind, h, is, above)),
          )

      own_last : MustPrecedeWithNests g t at j i → ((at.outer i.attribute).kind ≡ bottomup) × AtOrAbove x.visit h
      own_last (inl stage) = let e = pass.0 in absurd (let z : ⊥ = omega (arith, stage, e) in z)
      own_last (inr here) =
          let last : HostedFirst t (Some k) None (at.outer i.attribute).kind at y x =
          subst (λ b. HostedFirst t b None (at.outer i.attribute).kind at y x) some
          (subst (λ b. HostedFirst t (at.host j.attribute) b (at.outer i.attribute).kind at y x) none here.1) in
          (last.0, subst (AtOrAbove x.visit) (the_host last.1 last.2) last.3)

      inner_must : ((at.outer i.attribute).kind ≡ bottomup) × AtOrAbove x.visit h → MustPrecedeWithNests g t at j i
      inner_must (kind, above) =
          inr (
            (sym pass.0, sym pass.1),
            subst (λ b. HostedFirst t (at.host j.attribute) b (at.outer i.attribute).kind at y x) (sym none)
                (subst (λ b. HostedFirst t b None (at.outer i.attribute).kind at y x) (sym some) (kind, h, is, above)),
          )
