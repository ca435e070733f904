-- The instances of a tree are lawful cells.
use Rattle.std.proofs.Common.{◌≡◌, ◌≢◌, ℕ, ◌+◌, ◌*◌, ◌<◌, ◌≤◌, true, not, refl, sym, ◌∙◌, ap, subst, inl, inr, ⊎_elim, arith, Contains, map}
use Rattle.std.proofs.lemmas.List.Elements.{Contains-append_cases}
use Rattle.ftl_model.specs.lists.Lists.{Before}
use Rattle.ftl_model.proofs.lists.Rising.{in_map, map_has}
use Rattle.ftl_model.specs.layout.AttributeGrammar.{AttributeGrammar, Sort, inherited, input, is_input, local, synthesized}
use Rattle.ftl_model.specs.layout.Path.{Above, Has, Path, class_at, down, node_at, number_of, size_at, top}
use Rattle.ftl_model.specs.layout.Solves.{Instance, IsInstance, instance_of, rule_node}
use Rattle.ftl_model.specs.layout.Table.{instance_count, instance_number}
use Rattle.ftl_model.specs.layout.Tree.{Forest, below_of, none, size, tree}
use Rattle.ftl_model.specs.layout.TreeOf.{IsTreeOf}
use Rattle.ftl_model.proofs.layout.Standing.{node_at-number_of}
use Rattle.ftl_order.specs.orders.Lawful.{IsLawful, OfClass, class_owner, interface_owner}
use Rattle.ftl_order.specs.orders.LegalOrder.{IsStep as IsStepOfTree}
use Rattle.ftl_order.specs.orders.Ordered.{EachPairOrdered}
use Rattle.ftl_order.specs.orders.Reads.{Reads, reads_of}
use Rattle.ftl_order.specs.orders.Schedule.{PassKind, Placing, bottomup, inorder, topdown}
use Rattle.ftl_order.proofs.orders.Instances.{instance_at_number, instance_here, number_within}
use Rattle.ftl_order.proofs.orders.Kids.{class_known, root_there}
use Rattle.ftl_order.proofs.orders.Owners.{attribute_known}
use Rattle.ftl_order.proofs.orders.Ranges.{above_range}
use Rattle.ftl_order.proofs.orders.TreeEquations.{alone_by, inside_by}
use Rattle.ftl_order.proofs.orders.Precedence.{HasOneKind}
use Rattle.ftl_relayout.specs.queue.Nets.{IsLawfulNet, IsStep, Net}
use Rattle.ftl_relayout.specs.keys.Keys.{key_digits, key_of, tie_of, time_of}
use Rattle.ftl_relayout.specs.laws.TreeNets.{HasSmallKeys, instance_at, net_of}
use Rattle.ftl_relayout.proofs.laws.Packing.{pack_last, pack_less, pack_small}
use Rattle.ftl_relayout.proofs.laws.Rising.{number_below, rises, tree_size, visit_there}

top_above : (c k : ℕ) (p : Path) → Above top (down c k p)
top_above c k top = inl refl
top_above c k (down d n p) = inr (top_above d n p)

module _ (g : AttributeGrammar) (law : IsLawful g) (at : Placing) (t : Forest) (fits : IsTreeOf g t)
    (small : HasSmallKeys g at t) where
  root_within : number_of t top + size_at t top ≤ size t
  root_within =
      ⊎_elim (λ s. omega (arith, s))
      (λ e. absurd (let r = root_there g t fits in subst (λ f. Rattle.ftl_model.specs.layout.Tree.IsTree f) e r)) (tree_size t)

  end_within : (p : Path) → Has t p → number_of t p + size_at t p ≤ size t
  end_within top h = root_within
  end_within (down c k p) h =
      let r = (above_range t top (down c k p) h (top_above c k p)).1 in
      let w = root_within in
      omega (arith, r, w)

  time_small : (kind : PassKind) (sort : Sort) (p : Path) → Has t p → Has t (rule_node sort p)
      → time_of kind t sort p < 2097152
  time_small topdown sort p h v =
      let n = number_below g law at t fits (rule_node sort p) v in let s = small.nodes in omega (arith, n, s)
  time_small bottomup sort p h v = let s = small.nodes in omega (arith, s)
  time_small inorder input p h v =
      let n = number_below g law at t fits p h in let s = small.nodes in omega (arith, n, s)
  time_small inorder inherited p h v =
      let n = number_below g law at t fits p h in let s = small.nodes in omega (arith, n, s)
  time_small inorder synthesized p h v = let n = end_within p h in let s = small.nodes in omega (arith, n, s)
  time_small inorder local p h v =
      let n = number_below g law at t fits p h in let s = small.nodes in omega (arith, n, s)

  tie_small : (kind : PassKind) (sort : Sort) (p : Path) → tie_of kind t sort p < 2097152
  tie_small topdown sort p = omega arith
  tie_small bottomup sort p = omega arith
  tie_small inorder input p = omega arith
  tie_small inorder inherited p = let s = small.nodes in omega (arith, s)
  tie_small inorder synthesized p = let s = small.nodes in omega (arith, s)
  tie_small inorder local p = let s = small.nodes in omega (arith, s)

  attribute_of_class : (k a : ℕ) → k < g.class_count → OfClass g k a → a < g.attribute_count
  attribute_of_class k a known of =
      ⊎_elim
      (λ shared. attribute_known g law (interface_owner (g.interface k)) a (law.interfaces_known k known, shared))
      (λ private. attribute_known g law (class_owner k) a (known, private))
      (Contains-append_cases (g.shared (g.interface k)) (g.private k) a of)

  pub record Digits (i : Instance) : Type 0 where
    pub time : time_of (at i.attribute).kind t (g.sort i.attribute) i.node < 2097152
    pub tie : tie_of (at i.attribute).kind t (g.sort i.attribute) i.node < 2097152
    pub node : number_of t i.node < 2097152
    pub attribute : i.attribute < 2097152

  pub digits : (i : Instance) → IsInstance g t i → Digits i
  digits i valid = record {
    time =
        time_small (at i.attribute).kind (g.sort i.attribute) i.node valid.0
        (visit_there g law at t fits (g.sort i.attribute) i.node valid.0);
    tie = tie_small (at i.attribute).kind (g.sort i.attribute) i.node;
    node = let n = number_below g law at t fits i.node valid.0 in let s = small.nodes in omega (arith, n, s);
    attribute =
        let a = attribute_of_class (class_at t i.node) i.attribute (class_known g t fits i.node valid.0) valid.1 in
        let s = small.attributes in omega (arith, a, s);
  }

  less : (i j : Instance) → IsInstance g t j → Before (key_digits g at t j) (key_digits g at t i)
      → key_of g at t j < key_of g at t i
  less i j valid before =
      let d = digits j valid in
      pack_less (at j.attribute).stage (time_of (at j.attribute).kind t (g.sort j.attribute) j.node)
      (tie_of (at j.attribute).kind t (g.sort j.attribute) j.node) (at j.attribute).index (number_of t j.node) j.attribute
      (at i.attribute).stage (time_of (at i.attribute).kind t (g.sort i.attribute) i.node)
      (tie_of (at i.attribute).kind t (g.sort i.attribute) i.node) (at i.attribute).index (number_of t i.node) i.attribute
      d.time d.tie (small.places j.attribute) d.node d.attribute before

  one_key : (i j : Instance) → IsInstance g t i → IsInstance g t j → key_of g at t i ≡ key_of g at t j → i ≡ j
  one_key i j vi vj e =
      let di = digits i vi in
      let dj = digits j vj in
      let both =
      pack_last
      ((((at i.attribute).stage * 2097152 + time_of (at i.attribute).kind t (g.sort i.attribute) i.node) * 2097152
      + tie_of (at i.attribute).kind t (g.sort i.attribute) i.node) * 2097152 + (at i.attribute).index)
      (number_of t i.node) i.attribute
      ((((at j.attribute).stage * 2097152 + time_of (at j.attribute).kind t (g.sort j.attribute) j.node) * 2097152
      + tie_of (at j.attribute).kind t (g.sort j.attribute) j.node) * 2097152 + (at j.attribute).index)
      (number_of t j.node) j.attribute di.node di.attribute dj.node dj.attribute e in
      let node : i.node ≡ j.node =
      sym (node_at-number_of t i.node vi.0) ∙ ap (node_at t) both.0 ∙ node_at-number_of t j.node vj.0 in
      ap (λ p. instance_of p i.attribute) node ∙ ap (instance_of j.node) both.1

  small_key : (i : Instance) → IsInstance g t i → key_of g at t i < 170141183460469231731687303715884105728
  small_key i valid =
      let d = digits i valid in
      pack_small (at i.attribute).stage (time_of (at i.attribute).kind t (g.sort i.attribute) i.node)
      (tie_of (at i.attribute).kind t (g.sort i.attribute) i.node) (at i.attribute).index (number_of t i.node) i.attribute
      (small.stages i.attribute) d.time d.tie (small.places i.attribute) d.node d.attribute

  -- ---- cells

  abbrev pub at_cell : ℕ → Instance
  at_cell k = instance_at g t k

  pub cell_valid : (k : ℕ) → k < instance_count g t → IsInstance g t (at_cell k)
  cell_valid k below = (instance_here g t law fits k (instance_of top 0) below).0

  pub cell_number : (k : ℕ) → k < instance_count g t → instance_number g t (at_cell k) ≡ k
  cell_number k below = (instance_here g t law fits k (instance_of top 0) below).1

  pub number_cell : (i : Instance) → IsInstance g t i → at_cell (instance_number g t i) ≡ i
  number_cell i valid = instance_at_number g t i.node i.attribute (instance_of top 0) valid.0 valid.1

  abbrev pub net : Net
  net = net_of g at t

  not_input : (sort : Sort) → not (is_input sort) ≡ true → sort ≢ input
  not_input input e s = let z : ⊥ = grind (arith, e) in z
  not_input inherited e s = let z : ⊥ = cc in z
  not_input synthesized e s = let z : ⊥ = cc in z
  not_input local e s = let z : ⊥ = cc in z

  computed : (sort : Sort) → sort ≢ input → not (is_input sort) ≡ true
  computed input h = absurd (h refl)
  computed inherited h = refl
  computed synthesized h = refl
  computed local h = refl

  pub step_of : (k : ℕ) → IsStep net k → IsStepOfTree g t (at_cell k)
  step_of k s = (cell_valid k s.within, not_input (g.sort (at_cell k).attribute) s.computed)

  pub cell_step : (i : Instance) → IsStepOfTree g t i → IsStep net (instance_number g t i)
  cell_step i s = record {
    within = number_within g t i.node i.attribute s.0.0 s.0.1;
    computed =
        subst (λ x. not (is_input (g.sort x.attribute)) ≡ true) (sym (number_cell i s.0))
        (computed (g.sort i.attribute) s.1);
  }

  -- what a cell reads, as an instance
  pub record ReadCell (k j : ℕ) : Type 0 where
    pub instance : Instance
    pub reads : Reads g t (at_cell k) instance
    pub valid : IsInstance g t instance
    pub number : instance_number g t instance ≡ j
    pub is : at_cell j ≡ instance

  pub read_cell : (k j : ℕ) → k < instance_count g t → Contains (net.reads k) j → ReadCell k j
  read_cell k j below h =
      let m = in_map (instance_number g t) (reads_of g t (at_cell k)) j h in
      let here = cell_valid k below in
      let valid =
      inside_by g law t fits (g.sort (at_cell k).attribute) (at_cell k).node (at_cell k).attribute refl here.0 here.1 m.from
      m.there in
      record {
        instance = m.from;
        reads = m.there;
        valid = valid;
        number = m.is;
        is = ap at_cell (sym m.is) ∙ number_cell m.from valid;
      }

  pub reads_cell : (i j : Instance) → IsInstance g t i → Reads g t i j
      → Contains (net.reads (instance_number g t i)) (instance_number g t j)
  reads_cell i j valid reads =
      subst (λ x. Contains (map (instance_number g t) (reads_of g t x)) (instance_number g t j)) (sym (number_cell i valid))
      (map_has (instance_number g t) (reads_of g t i) j reads)

  pub net_lawful : HasOneKind at → EachPairOrdered g at → IsLawfulNet net
  net_lawful one_kind pairs = record {
    alone = λ r s k below same.
        let here = cell_valid k below in
        alone_by g law t fits (λ i. r (instance_number g t i)) (λ i. s (instance_number g t i))
        (g.sort (at_cell k).attribute) (at_cell k).node (at_cell k).attribute refl here.0 here.1
        (λ j reads. same (instance_number g t j) (map_has (instance_number g t) (reads_of g t (at_cell k)) j reads));
    inside = λ k j below h.
        let r = read_cell k j below h in
        subst (λ m. m < instance_count g t) r.number (number_within g t r.instance.node r.instance.attribute r.valid.0 r.valid.1);
    rises = λ k j sk h sj.
        let r = read_cell k j sk.within h in
        less (at_cell k) (at_cell j) (cell_valid j sj.within)
        (rises g law at t fits one_kind pairs (at_cell k) (at_cell j) (step_of k sk)
        (subst (Reads g t (at_cell k)) (sym r.is) r.reads) (step_of j sj));
    small = λ k s. small_key (at_cell k) (cell_valid k s.within);
    one = λ k j sk sj e.
        sym (cell_number k sk.within)
        ∙ ap (instance_number g t) (one_key (at_cell k) (at_cell j) (cell_valid k sk.within) (cell_valid j sj.within) e)
        ∙ cell_number j sj.within;
  }
