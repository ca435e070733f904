-- Where the instances of each node stand.
use Rattle.std.proofs.Common.{◌≡◌, ℕ, ◌+◌, ◌<◌, ◌≤◌, List, length, get_or, take, replicate, sum_by, subst, sym, ◌∙◌, ap, ap₂, arith}
use Rattle.std.proofs.lemmas.List.{take_all, length-replicate, get_or-replicate}
use Rattle.std.proofs.lemmas.List.Elements.{Contains-get_or}
use Rattle.ftl_model.proofs.lists.Places.{place_of_entry}
use Rattle.ftl_model.specs.layout.AttributeGrammar.{AttributeGrammar, attributes_of}
use Rattle.ftl_model.specs.layout.Path.{class_at, node_at, preorder, top}
use Rattle.ftl_model.specs.layout.Solves.{Instance, instance_of}
use Rattle.ftl_model.specs.layout.Table.{instance_count, instance_number, instances, width_at}
use Rattle.ftl_model.specs.layout.Tree.{Forest, size}
use Rattle.ftl_model.specs.layout.TreeOf.{IsTreeOf}
use Rattle.ftl_model.proofs.layout.Numbering.{length-preorder, number_of-node_at}
use Rattle.ftl_order.specs.orders.Lawful.{IsLawful, OfClass}
use Rattle.ftl_order.specs.orders.Schedule.{Schedule}
use Rattle.ftl_order.proofs.orders.Instances.{instance_at_number, length-instances, number_within}
use Rattle.ftl_order.proofs.orders.Owners.{class_distinct}
use Rattle.ftl_visit.specs.rule_tables.RuleTables.{by_number}
use Rattle.ftl_step_value.proofs.limits.reads.Entries.{class_entry, class_in_range, there, whole}
use Rattle.ftl_step_value.specs.limits.faults.StageReads.{AreCounts, HaveRoom, cells_before, no_reads}
use Rattle.ftl_step_value.specs.declared.limits.faults.reads.StageReads.{StageReads}
use Rattle.ftl_step_value.proofs.limits.faults.Steps.{sum_more, take_one}

module _ (g : AttributeGrammar) (law : IsLawful g) (t : Forest) (fits : IsTreeOf g t) where
  abbrev attrs : ℕ → List ℕ
  attrs node = attributes_of g (class_at t (node_at t node))

  -- an attribute of a node, by its place in the list of all instances
  pub record Cell (node j : ℕ) : Type 0 where
    pub of : OfClass g (class_at t (node_at t node)) (get_or (attrs node) j 0)
    pub below : cells_before g t node + j < length (instances g t)
    pub within : cells_before g t node + j < instance_count g t
    pub here : (d : Instance)
        → get_or (instances g t) (cells_before g t node + j) d ≡ instance_of (node_at t node) (get_or (attrs node) j 0)

  pub cell : (node j : ℕ) → node < size t → j < length (attrs node) → Cell node j
  cell node j known inside =
      let p = node_at t node in
      let a = get_or (attrs node) j 0 in
      let all = whole g t fits in
      let has = there g law t fits node known in
      let of : OfClass g (class_at t p) a = Contains-get_or (attrs node) j 0 inside in
      let number : instance_number g t (instance_of p a) ≡ cells_before g t node + j =
      ap₂ (λ x y. x + y)
      (ap (λ n. sum_by (width_at g t) (take n (preorder t))) (number_of-node_at t node (omega (arith, all, known))))
      (place_of_entry (attrs node) (class_distinct g law (class_at t p) (class_in_range g law t fits node known)) j 0
      inside) in
      let less = number_within g t p a has of in
      let long = length-instances g t in
      record {
        of = of;
        below = omega (arith, less, number, long);
        within = omega (arith, less, number);
        here = λ d. ap (λ n. get_or (instances g t) n d) (sym number) ∙ instance_at_number g t p a d has of;
      }

  -- the same, where the attributes of the node stand in the row of its class in a table
  module _ (node : ℕ) {class : ℕ} {rows : List (List ℕ)} {row : List ℕ} (entry : List ℕ) (known : node < size t)
      (is : class ≡ class_at t (node_at t node)) (are : rows ≡ by_number (attributes_of g) g.class_count)
      (found : row ≡ get_or rows class entry) where
    pub row_is : row ≡ attrs node
    row_is =
        found
        ∙ (class_entry g law t fits (attributes_of g) node known is are).is entry
        ∙ ap (attributes_of g) is

    pub record RowCell (j : ℕ) : Type 0 where
      pub of : OfClass g (class_at t (node_at t node)) (get_or row j 0)
      pub below : cells_before g t node + j < length (instances g t)
      pub within : cells_before g t node + j < instance_count g t
      pub here : (d : Instance)
          → get_or (instances g t) (cells_before g t node + j) d ≡ instance_of (node_at t node) (get_or row j 0)

    pub row_cell : (j : ℕ) → j < length row → RowCell j
    row_cell j inside =
        let c = cell node j known (subst (λ (xs : List ℕ). j < length xs) row_is inside) in
        let same : get_or (attrs node) j 0 ≡ get_or row j 0 = ap (λ (xs : List ℕ). get_or xs j 0) (sym row_is) in
        record {
          of = subst (OfClass g (class_at t (node_at t node))) same c.of;
          below = c.below;
          within = c.within;
          here = λ d. c.here d ∙ ap (instance_of (node_at t node)) same;
        }

  nodes : length (preorder t) ≡ size t
  nodes = let e = length-preorder t in let all = whole g t fits in omega (arith, e, all)

  -- the instances before the next node's
  pub cells_next : (node : ℕ) → node < size t
      → cells_before g t (node + 1) ≡ cells_before g t node + length (attrs node)
  cells_next node known =
      let inside : node < length (preorder t) = (let e = nodes in omega (arith, known, e)) in
      ap (λ xs. sum_by (width_at g t) xs) (take_one (preorder t) node top inside)
      ∙ sum_more (width_at g t) (take node (preorder t)) (node_at t node)

  -- where the whole row of a node is passed
  pub row_end : (node place : ℕ) (row : List ℕ) → node < size t → row ≡ attrs node → length row ≤ place
      → place ≤ length row → cells_before g t node + place ≡ cells_before g t (node + 1)
  row_end node place row known is past most =
      let long = ap length is in
      let next = cells_next node known in
      omega (arith, long, next, past, most)

  -- and before the end
  pub cells_end : cells_before g t (size t) ≡ instance_count g t
  cells_end =
      ap (λ xs. sum_by (width_at g t) xs)
      (ap (λ n. take n (preorder t)) (sym nodes) ∙ take_all (length (preorder t)) (preorder t) (omega arith))

-- more room
pub room_for : (cells more : ℕ) (counts : List StageReads) → cells ≤ more → HaveRoom cells counts → HaveRoom more counts
room_for cells more counts low room k within = let r = room k within in omega (arith, low, r)

-- nothing is counted yet
pub counts_first : (g : AttributeGrammar) (s : Schedule) (t : Forest) (n : ℕ) → n ≡ length s
    → AreCounts g s t 0 (replicate n no_reads)
counts_first g s t n is =
    record {
      stages = length-replicate n no_reads ∙ is;
      each = λ k below. get_or-replicate n k no_reads no_reads (omega (arith, below, is));
    }

pub room_first : (n : ℕ) → HaveRoom 0 (replicate n no_reads)
room_first n k within =
    let inside : k < n = (let e = length-replicate n no_reads in omega (arith, within, e)) in
    let e = ap (λ (c : StageReads). c.total) (get_or-replicate n k no_reads no_reads inside) in
    omega (arith, e)
