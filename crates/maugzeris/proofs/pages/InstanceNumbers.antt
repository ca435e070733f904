-- What stands at the number of an instance: the instance with its node, its attribute and what it reads.
use Rattle.std.proofs.Common.{◌≡◌, ℕ, ◌+◌, ◌-◌, ◌<◌, ◌≤◌, List, length, get_or, map, refl, sym, ◌∙◌, ap, subst, arith, Contains}
use Rattle.std.proofs.lemmas.List.Elements.{Contains-get_or}
use Rattle.std.specs.List.{All}
use Rattle.ftl_deps.specs.reads.Meant.{meant}
use Rattle.ftl_step_value.proofs.limits.reads.Entries.{class_in_range, there, whole}
use Rattle.ftl_model.proofs.layout.Numbering.{number_of-node_at}
use Rattle.ftl_model.proofs.layout.Standing.{node_at-number_of}
use Rattle.ftl_model.proofs.lists.Rising.{in_map}
use Rattle.ftl_model.proofs.lists.Places.{place_is, place_of_entry, place_within}
use Rattle.ftl_model.specs.layout.AttributeGrammar.{AttributeGrammar, attributes_of}
use Rattle.ftl_model.specs.layout.Path.{Path, class_at, node_at, number_of}
use Rattle.ftl_model.specs.layout.Solves.{Instance, IsInstance, instance_of}
use Rattle.ftl_model.specs.layout.Table.{first_instance, instance_count, instance_number, instances}
use Rattle.ftl_model.specs.layout.Tree.{Forest, size}
use Rattle.ftl_model.specs.lists.Lists.{place_in}
use Rattle.ftl_model.specs.layout.TreeOf.{IsTreeOf}
use Rattle.ftl_order.proofs.orders.Instances.{instance_at_number, instance_here, number_within}
use Rattle.ftl_order.proofs.orders.Owners.{class_distinct}
use Rattle.ftl_order.proofs.orders.TreeEquations.{inside_by}
use Rattle.ftl_order.specs.orders.Lawful.{IsLawful}
use Rattle.ftl_order.specs.orders.Reads.{reads_of}
use Rattle.ftl_plan.specs.cells.NodeCells.{IsCellOf}

module _ (g : AttributeGrammar) (law : IsLawful g) (t : Forest) (fits : IsTreeOf g t) where
  -- the instance of a cell of a node
  pub standing : (n cell : ℕ) (d : Instance) → IsCellOf g t n cell
      → get_or (instances g t) cell d
      ≡ instance_of (node_at t n)
      (get_or (attributes_of g (class_at t (node_at t n))) (cell - first_instance g t (node_at t n)) 0)
  standing n cell d is =
      let p = node_at t n in
      let these = attributes_of g (class_at t p) in
      let first = first_instance g t p in
      let from = is.from in
      let to = is.to in
      let within : cell - first < length these = omega (arith, from, to) in
      let place = place_of_entry these (class_distinct g law (class_at t p) (class_in_range g law t fits n is.known))
      (cell - first) 0 within in
      let number = ap (λ m. first + m) place in
      let here : first + (cell - first) ≡ cell = omega (arith, from) in
      ap (λ m. get_or (instances g t) m d) (sym (number ∙ here))
      ∙ instance_at_number g t p (get_or these (cell - first) 0) d (there g law t fits n is.known)
      (Contains-get_or these (cell - first) 0 within)

  -- its node
  pub node_standing : (n cell : ℕ) (d : Instance) → IsCellOf g t n cell
      → n ≡ number_of t (get_or (instances g t) cell d).node
  node_standing n cell d is =
      let all = whole g t fits in
      let known = is.known in
      sym (number_of-node_at t n (omega (arith, all, known)))
      ∙ ap (λ (i : Instance). number_of t i.node) (sym (standing n cell d is))

  -- what an instance reads has numbers of instances
  pub reads_within : (n : ℕ) (d : Instance) → n < instance_count g t
      → All (λ m. m < instance_count g t)
      (map (instance_number g t) (reads_of g t (get_or (instances g t) n d)))
  reads_within n d below k e within =
      let i = get_or (instances g t) n d in
      let here = instance_here g t law fits n d below in
      let numbers = map (instance_number g t) (reads_of g t i) in
      let m = in_map (instance_number g t) (reads_of g t i) (get_or numbers k e) (Contains-get_or numbers k e within) in
      let j = m.from in
      let valid =
      inside_by g law t fits (g.sort i.attribute) i.node i.attribute refl here.0.0 here.0.1 j m.there in
      subst (λ (x : ℕ). x < instance_count g t) m.is (number_within g t j.node j.attribute valid.0 valid.1)

  -- where the attribute of an instance stands among those of its node
  pub record Place (q : Path) (i : ℕ) (j : Instance) : Type 0 where
    pub from : first_instance g t q ≤ i
    pub within : i - first_instance g t q < length (attributes_of g (class_at t q))
    pub is : (d : ℕ) → get_or (attributes_of g (class_at t q)) (i - first_instance g t q) d ≡ j.attribute
    pub has : Contains (attributes_of g (class_at t q)) j.attribute

  placed : (i : ℕ) (j : Instance) → IsInstance g t j → instance_number g t j ≡ i → Place j.node i j
  placed i j valid number =
      let these = attributes_of g (class_at t j.node) in
      let inside = place_within these j.attribute valid.1 in
      let sum : first_instance g t j.node + place_in these j.attribute ≡ i = number in
      let place : i - first_instance g t j.node ≡ place_in these j.attribute = omega (arith, sum) in
      record {
        from = omega (arith, sum);
        within = omega (arith, place, inside);
        is = λ d. ap (λ k. get_or these k d) place ∙ place_is these j.attribute d valid.1;
        has = valid.1;
      }

  pub place_of : (n i : ℕ) (d : Instance) → i < instance_count g t → n ≡ number_of t (get_or (instances g t) i d).node
      → Place (node_at t n) i (get_or (instances g t) i d)
  place_of n i d below is =
      let j = get_or (instances g t) i d in
      let here = instance_here g t law fits i d below in
      let node : node_at t n ≡ j.node = ap (node_at t) is ∙ node_at-number_of t j.node here.0.0 in
      subst (λ q. Place q i j) (sym node) (placed i j here.0 here.1)
