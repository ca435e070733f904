-- Under an ordered schedule with nests, what a step reads is an input or stands near before it.
use Rattle.std.proofs.Common.{◌≡◌, ◌≢◌, ◌⊎◌, ℕ, refl, sym, ◌∙◌, ap, subst, subst₂, inl, inr, ⊎_elim, arith, Option, None, Some, List, map, Contains}
use Rattle.ftl_model.proofs.lists.Elements.{nothing_in}
use Rattle.ftl_model.proofs.lists.Rising.{in_map}
use Rattle.ftl_model.specs.layout.AttributeGrammar.{AttributeGrammar, Read, Occurrence, Sort, inherited, input, kid, local, own, read_occurrences, synthesized}
use Rattle.ftl_model.specs.layout.Path.{Above, AtOrAbove, Has, Path, class_at, down, kids_at, parent_of, top}
use Rattle.ftl_model.specs.layout.Solves.{Instance, rule_kid, rule_node, rule_of, seen_from}
use Rattle.ftl_model.specs.layout.Tree.{Forest}
use Rattle.ftl_model.specs.layout.TreeOf.{IsTreeOf}
use Rattle.ftl_model.proofs.layout.Standing.{has_parent}
use Rattle.ftl_order.specs.orders.Lawful.{IsLawful}
use Rattle.ftl_order.specs.orders.LegalOrder.{IsStep, Turn, turn_of}
use Rattle.ftl_order.specs.orders.Ordered.{visit_place}
use Rattle.ftl_order.specs.orders.Pairs.{Pair, Where, child_class, parent_class, same_class}
use Rattle.ftl_order.specs.orders.ReadPairs.{ReadsBy, Stand}
use Rattle.ftl_order.specs.orders.Reads.{Reads, equation_reads}
use Rattle.ftl_order.specs.orders.Schedule.{IsOnePass}
use Rattle.ftl_order.proofs.orders.DirectPrecedence.{ordered_direct, place_of_rule}
use Rattle.ftl_order.proofs.orders.ReadPairs.{read_pair}
use Rattle.ftl_order.proofs.orders.TreeEquations.{inside_by}
use Rattle.ftl_nests.specs.Hosted.{HostedDirectlyFirst, IsHost, PrecedesDirectlyWithNests}
use Rattle.ftl_nests.specs.Nests.{EachPairNestOrdered, IsNestOrderedRead, NestPlacing, NestRow}
use Rattle.ftl_nests.specs.Region.{IsClosed, OfRegion}
use Rattle.ftl_nests.proofs.RegionNodes.{IsRegionNode, below_host, hosted_visit_of, kid_of_region, region_attribute, region_node, region_parent}

-- what proofs ask of a placing: nests are closed and have what is of their regions, a pass's own list has none of it,
-- and a pass has one nest
pub record HasSides (g : AttributeGrammar) (t : Forest) (at : NestPlacing) : Type 0 where
  pub closed : (a k : ℕ) → at.host a ≡ Some k → IsClosed g k
  pub inner : (i : Instance) (k : ℕ) → IsStep g t i → at.host i.attribute ≡ Some k → OfRegion g k i.attribute
  pub own :
      (a b k : ℕ) → IsOnePass (at.outer a) (at.outer b) → at.host a ≡ None → at.host b ≡ Some k
      → OfRegion g k a → ⊥
  pub one_nest :
      (a b h k : ℕ) → IsOnePass (at.outer a) (at.outer b) → at.host a ≡ Some h → at.host b ≡ Some k → h ≡ k

-- the first visit is the second, or its parent's
abbrev pub IsNearVisit : Path → Path → Type 0
IsNearVisit x y = (x ≡ y) ⊎ (parent_of y ≡ Some x)

-- the first visit is the second, or a kid's
abbrev pub KidVisit : Path → Path → Type 0
KidVisit x y = (x ≡ y) ⊎ (parent_of x ≡ Some y)

visit_near : (sort : Sort) (p : Path) → IsNearVisit (rule_node sort p) p
visit_near input p = inl refl
visit_near inherited top = inl refl
visit_near inherited (down c k p) = inr refl
visit_near synthesized p = inl refl
visit_near local p = inl refl

-- the node is that of the visit, or a kid of it
abbrev pub IsAtOrKid : Path → Path → Type 0
IsAtOrKid p v = (p ≡ v) ⊎ ((c : ℕ) × (k : ℕ) × (p ≡ down c k v))

pub visit_kid : (sort : Sort) (p : Path) → IsAtOrKid p (rule_node sort p)
visit_kid input p = inl refl
visit_kid inherited top = inl refl
visit_kid inherited (down c k p) = inr (c, k, refl)
visit_kid synthesized p = inl refl
visit_kid local p = inl refl

module _ (g : AttributeGrammar) (law : IsLawful g) (at : NestPlacing) (t : Forest)
    (fits : IsTreeOf g t) (sides : HasSides g t at) where
  is_region : (i : Instance) (k : ℕ) → IsStep g t i → at.host i.attribute ≡ Some k → IsRegionNode g t fits k i.node
  is_region i k step e =
      region_node g t fits k law i.node i.attribute step.0.0 step.0.1 (sides.inner i k step e)

  -- a step that stands in a nest has a host
  pub hosted : (i : Instance) (k : ℕ) → IsStep g t i → at.host i.attribute ≡ Some k
      → (h : Path) × IsHost t k h (turn_of g i).visit
  hosted i k step e =
      hosted_visit_of g t fits k (sides.closed i.attribute k e) (g.sort i.attribute) i.node step.0.0
      (is_region i k step e)

  -- the host of the upper visit is that of both
  one_host_by : (runs_at : Where) (r : Read) (x y : Turn) (k : ℕ) → Stand runs_at r x y
      → (h : Path) × IsHost t k h x.visit → (h : Path) × IsHost t k h y.visit
      → (h : Path) × IsHost t k h x.visit × IsHost t k h y.visit
  one_host_by same_class r x y k stands hx hy =
      (hy.0, subst (λ v. IsHost t k hy.0 v) (sym stands.0) hy.1, hy.1)
  one_host_by parent_class r x y k stands hx hy = (
    hx.0,
    hx.1,
    subst (λ v. IsHost t k hx.0 v) (sym stands.1)
        (record { there = hx.1.there; of_class = hx.1.of_class; holds = inr hx.1.holds }),
  )
  one_host_by child_class r x y k stands hx hy = (
    hy.0,
    subst (λ v. IsHost t k hy.0 v) (sym stands.1)
        (record { there = hy.1.there; of_class = hy.1.of_class; holds = inr hy.1.holds }),
    hy.1,
  )

  -- only the reader is hosted: it runs at the host, and the writer there or at its parent
  writer_outside : (i j : Instance) (k : ℕ) → IsStep g t i → IsStep g t j
      → IsAtOrKid j.node (turn_of g i).visit → at.host i.attribute ≡ Some k → (OfRegion g k j.attribute → ⊥)
      → IsHost t k (turn_of g i).visit (turn_of g i).visit × IsNearVisit (turn_of g j).visit (turn_of g i).visit
  writer_outside i j k si sj near e outside =
      let up = hosted i k si e in
      go up.0 up.1 near
    where
      inside : (h : Path) → IsHost t k h (turn_of g i).visit → Above h j.node → ⊥
      inside h is above =
          outside (region_attribute g t fits k law j.node j.attribute sj.0.0 sj.0.1
          (below_host g t fits k h j.node sj.0.0 is.of_class above))

      go : (h : Path) → IsHost t k h (turn_of g i).visit → IsAtOrKid j.node (turn_of g i).visit
          → IsHost t k (turn_of g i).visit (turn_of g i).visit × IsNearVisit (turn_of g j).visit (turn_of g i).visit
      go h is (inl same) =
          ⊎_elim
          (λ here. (
            subst (λ v. IsHost t k v (turn_of g i).visit) here is,
            subst (IsNearVisit (turn_of g j).visit) same (visit_near (g.sort j.attribute) j.node),
          ))
          (λ above. absurd (inside h is (subst (Above h) (sym same) above))) is.holds
      go h is (inr below) = absurd (inside h is (subst (Above h) (sym below.2) is.holds))

  -- only the writer is hosted: the reader runs at its host, and the writer there or at a kid
  reader_outside : (i j : Instance) (k : ℕ) → IsStep g t i → IsStep g t j
      → IsAtOrKid j.node (turn_of g i).visit → at.host j.attribute ≡ Some k → (OfRegion g k i.attribute → ⊥)
      → IsHost t k (turn_of g i).visit (turn_of g j).visit × KidVisit (turn_of g j).visit (turn_of g i).visit
  reader_outside i j k si sj near e outside = go near
    where
      region : IsRegionNode g t fits k j.node
      region = is_region j k sj e

      -- the reader's visit is of no region node
      not_region : IsRegionNode g t fits k (turn_of g i).visit → ⊥
      not_region r =
          outside (region_attribute g t fits k law i.node i.attribute si.0.0 si.0.1
          (⊎_elim (λ same. subst (IsRegionNode g t fits k) (sym same) r)
          (λ below.
          subst (IsRegionNode g t fits k) (sym below.2)
          (kid_of_region g t fits k below.0 below.1 (turn_of g i).visit (subst (Has t) below.2 si.0.0) r))
          (visit_kid (g.sort i.attribute) i.node)))

      go : IsAtOrKid j.node (turn_of g i).visit
          → IsHost t k (turn_of g i).visit (turn_of g j).visit × KidVisit (turn_of g j).visit (turn_of g i).visit
      go (inl same) = absurd (not_region (subst (IsRegionNode g t fits k) same region))
      go (inr below) =
          let v = (turn_of g i).visit in
          let there : Has t (down below.0 below.1 v) = subst (Has t) below.2 sj.0.0 in
          let host : class_at t v ≡ k =
          ⊎_elim (λ is. is) (λ r. absurd (not_region r))
          (region_parent g t fits k (sides.closed j.attribute k e) below.0 below.1 v there
          (subst (IsRegionNode g t fits k) below.2 region)) in (
            record {
              there = has_parent t below.0 below.1 v there;
              of_class = host;
              holds = below_kid (g.sort j.attribute) j.node v below.0 below.1 below.2;
            },
            kid_visit (g.sort j.attribute) j.node v below.0 below.1 below.2,
          )
        where
          below_kid : (sort : Sort) (p v : Path) (c n : ℕ) → p ≡ down c n v → AtOrAbove v (rule_node sort p)
          below_kid input p v c n e = inr (subst (Above v) (sym e) (inl refl))
          below_kid inherited p v c n e = subst (λ q. AtOrAbove v (rule_node inherited q)) (sym e) (inl refl)
          below_kid synthesized p v c n e = inr (subst (Above v) (sym e) (inl refl))
          below_kid local p v c n e = inr (subst (Above v) (sym e) (inl refl))

          kid_visit : (sort : Sort) (p v : Path) (c n : ℕ) → p ≡ down c n v → KidVisit (rule_node sort p) v
          kid_visit input p v c n e = inr (ap parent_of e)
          kid_visit inherited p v c n e = inl (ap (rule_node inherited) e)
          kid_visit synthesized p v c n e = inr (ap parent_of e)
          kid_visit local p v c n e = inr (ap parent_of e)

  occurrence_kid : (v : Path) (o : Occurrence) (j : Instance) → seen_from v o ≡ j → IsAtOrKid j.node v
  occurrence_kid v (own a) j e = inl (ap (λ (x : Instance). x.node) (sym e))
  occurrence_kid v (kid c k a) j e = inr (c, k, ap (λ (x : Instance). x.node) (sym e))

  listed_kid : (v : Path) (os : List Occurrence) (j : Instance) → Contains (map (seen_from v) os) j → IsAtOrKid j.node v
  listed_kid v os j h = let m = in_map (seen_from v) os j h in occurrence_kid v m.from j m.is

  read_kid : (sort : Sort) (p : Path) (b : ℕ) (j : Instance) → Contains (equation_reads g t sort p b) j
      → IsAtOrKid j.node (rule_node sort p)
  read_kid input p b j reads = absurd (nothing_in j reads)
  read_kid inherited p b j reads =
      listed_kid (rule_node inherited p)
      (read_occurrences (rule_of g t inherited p b).parts (kids_at t (rule_node inherited p)) (rule_kid inherited p)) j
      reads
  read_kid synthesized p b j reads =
      listed_kid p (read_occurrences (rule_of g t synthesized p b).parts (kids_at t p) 0) j reads
  read_kid local p b j reads = listed_kid p (read_occurrences (rule_of g t local p b).parts (kids_at t p) 0) j reads

  module _ (pairs : EachPairNestOrdered g at) where
    module _ (i j : Instance) (si : IsStep g t i) (sj : IsStep g t j) (reads : Reads g t i j) where
      near_kid : IsAtOrKid j.node (turn_of g i).visit
      near_kid = read_kid (g.sort i.attribute) i.node i.attribute j reads

      by_nests : (runs_at : Where) (r : Read) → Stand runs_at r (turn_of g j) (turn_of g i) → (hx hy : Option ℕ)
          → at.host j.attribute ≡ hx → at.host i.attribute ≡ hy
          → IsOnePass (at.outer j.attribute) (at.outer i.attribute)
          → NestRow hx hy (at.outer i.attribute).kind at runs_at r (turn_of g j).rule (turn_of g i).rule
          → HostedDirectlyFirst t hx hy (at.outer i.attribute).kind at (turn_of g j) (turn_of g i)
      by_nests runs_at r stand None None ex ey pass row =
          ⊎_elim (λ less. absurd (let e = pass.0 in let z : ⊥ = omega (arith, less, e) in z)) (λ here. here.1)
          (ordered_direct at.outer runs_at r (turn_of g j) (turn_of g i) stand (inr (pass, row)))
      by_nests runs_at r stand (Some h) (Some k) ex ey pass row =
          let same : h ≡ k = sides.one_nest j.attribute i.attribute h k pass ex ey in
          let both =
          one_host_by runs_at r (turn_of g j) (turn_of g i) h stand (hosted j h sj ex)
          (hosted i h si (ey ∙ ap Some (sym same))) in (
            both.0,
            both.1,
            subst (λ x. IsHost t x both.0 (turn_of g i).visit) same both.2,
            ordered_direct at.inner runs_at r (turn_of g j) (turn_of g i) stand row,
          )
      by_nests runs_at r stand None (Some k) ex ey pass row =
          let up = writer_outside i j k si sj near_kid ey (sides.own j.attribute i.attribute k pass ex ey) in
          (row, up.0, up.1)
      by_nests runs_at r stand (Some k) None ex ey pass row =
          let up =
          reader_outside i j k si sj near_kid ex
          (sides.own i.attribute j.attribute k (sym pass.0, sym pass.1) ey ex) in
          (row, up.0, up.1)

      near_by : (pair : Pair) → ReadsBy g t i j pair → PrecedesDirectlyWithNests g t at j i
      near_by pair by =
          ⊎_elim (λ stage. inl stage)
          (λ here.
          inr (
            here.0,
            by_nests pair.runs_at pair.read by.stand (at.host j.attribute) (at.host i.attribute) refl refl here.0 here.1,
          ))
          (subst₂ (λ x y. IsNestOrderedRead at pair.runs_at pair.read x y)
          (ap (visit_place g) by.writer ∙ place_of_rule g t (g.sort j.attribute) j.node j.attribute refl)
          (ap (visit_place g) by.reader ∙ place_of_rule g t (g.sort i.attribute) i.node i.attribute refl)
          (pairs pair by.is))

    computed_or : (sort : Sort) → (sort ≡ input) ⊎ (sort ≢ input)
    computed_or input = inl refl
    computed_or inherited = inr (grind arith)
    computed_or synthesized = inr (grind arith)
    computed_or local = inr (grind arith)

    -- what a step reads is an input, or a step that stands near before it
    pub nest_near : (i j : Instance) → IsStep g t i → Reads g t i j
        → (g.sort j.attribute ≡ input) ⊎ (IsStep g t j × PrecedesDirectlyWithNests g t at j i)
    nest_near i j si reads =
        ⊎_elim (λ e. inl e)
        (λ computed.
        let sj : IsStep g t j = (
          inside_by g law t fits (g.sort i.attribute) i.node i.attribute refl si.0.0 si.0.1 j reads,
          computed,
        ) in
        ⊎_elim (λ e. inl e) (λ found. inr (sj, near_by i j si sj reads found.0 found.1))
        (read_pair g law t fits i j si.0 reads))
        (computed_or (g.sort j.attribute))
