-- The run of a child has the first instances of its kids.
use Rattle.std.proofs.Common.{◌≡◌, ℕ, ◌+◌, ◌-◌, ◌<◌, List, length, get_or, map, take, drop, sym, ap, ◌∙◌, arith}
use Rattle.std.specs.List.{range_with_len}
use Rattle.std.proofs.lemmas.List.{drop-map, ext_get_or, get_or-map, length-map, take-map}
use Rattle.std.proofs.lemmas.List.FromFn.{get_or-map-range_with_len, length-map-range_with_len}
use Rattle.ftl_model.specs.layout.Path.{Has, Path, at, down, kids_at, node_at, number_of}
use Rattle.ftl_model.specs.layout.Table.{first_instance}
use Rattle.ftl_model.specs.layout.Tree.{below_of, size}
use Rattle.ftl_model.proofs.layout.Standing.{node_at-number_of, number_of-lt}
use Rattle.ftl_order.proofs.orders.Kids.{kid_exists}
use Rattle.ftl_deps.specs.reads.Meant.{meant}
use Rattle.ftl_tree.specs.rows.KidRuns.{IsChildOf, kid_first_instances, kid_numbers, run_end, run_start}
use Rattle.ftl_tree.proofs.rows.Access.{size-one}
use Rattle.ftl_tree.proofs.rows.Runs.{run_numbers}
use Rattle.ftl_tree.specs.trees.CheckedTree.{CheckedTree}
use Rattle.ftl_tree.specs.declared.trees.tree.Tree.TheInside.{Inside}
use Rattle.ftl_tree.proofs.trees.Known.{Known, first_is}

module _ (i : Inside) (t : CheckedTree) (h : Known i t) (node child : ℕ) where
  abbrev p : Path
  p = node_at t.tree node

  abbrev kid : ℕ → Path
  kid k = down child k p

  -- a kid is a node
  pub kid_has : (k : ℕ) → k < kids_at t.tree p child → Has t.tree (kid k)
  kid_has k counted = kid_exists child k (below_of (at t.tree p)) counted

  pub kid_known : (k : ℕ) → k < kids_at t.tree p child → number_of t.tree (kid k) < size t.tree
  kid_known k counted =
      omega (
        arith,
        number_of-lt t.tree (kid k) (kid_has k counted),
        size-one (meant t.checked) t.tree h.rows.is_tree,
      )

  pub kid_stands : (k : ℕ) → k < kids_at t.tree p child → node_at t.tree (number_of t.tree (kid k)) ≡ kid k
  kid_stands k counted = node_at-number_of t.tree (kid k) (kid_has k counted)

  abbrev first : ℕ → ℕ
  first n = get_or i.first_instances.items n 0

  abbrev number : ℕ → ℕ
  number k = number_of t.tree (kid k)

  abbrev kid_first : ℕ → ℕ
  kid_first k = first_instance (meant t.checked) t.tree (kid k)

  abbrev count : ℕ
  count = kids_at t.tree p child

  first_of_kid : (k : ℕ) → k < kids_at t.tree p child → first (number k) ≡ kid_first k
  first_of_kid k counted =
      first_is i t h (number k) 0 (kid_known k counted)
      ∙ ap (first_instance (meant t.checked) t.tree) (kid_stands k counted)

  firsts_of_all : map first (kid_numbers t.tree p child) ≡ kid_first_instances (meant t.checked) t.tree p child
  firsts_of_all =
      ext_get_or 0 (map first (kid_numbers t.tree p child)) (kid_first_instances (meant t.checked) t.tree p child)
      (lengths ∙ sym (length-map-range_with_len kid_first 0 count)) each
    where
      known : length (kid_numbers t.tree p child) ≡ kids_at t.tree p child
      known = length-map-range_with_len number 0 count

      lengths : length (map first (kid_numbers t.tree p child)) ≡ kids_at t.tree p child
      lengths = length-map (kid_numbers t.tree p child) first ∙ known

      each : (k : ℕ) → k < length (map first (kid_numbers t.tree p child))
          → get_or (map first (kid_numbers t.tree p child)) k 0
          ≡ get_or (kid_first_instances (meant t.checked) t.tree p child) k 0
      each k below =
          let counted : k < count = omega (arith, below, lengths) in
          get_or-map first (kid_numbers t.tree p child) k 0 0
          (omega (arith, counted, known))
          ∙ ap first (get_or-map-range_with_len number 0 count k k 0 counted (omega arith))
          ∙ first_of_kid k counted
          ∙ sym (get_or-map-range_with_len kid_first 0 count k k 0 counted (omega arith))

  pub run_firsts : (start end : ℕ) → IsChildOf (meant t.checked) t.tree node child
      → start ≡ run_start i.slots.items i.run_starts.items node child
      → end ≡ run_end i.slots.items i.run_starts.items node child
      → take (end - start) (drop start i.kid_first_instances.items)
      ≡ kid_first_instances (meant t.checked) t.tree p child
  run_firsts start end mine is_start is_end =
      ap (λ xs. take (end - start) (drop start xs)) h.kid_first_instances
      ∙ ap (take (end - start)) (drop-map first start i.kids.items)
      ∙ take-map first (end - start) (drop start i.kids.items)
      ∙ ap (map first)
      (run_numbers t.tree i.slots.items i.run_starts.items i.kids.items node child start end (h.runs node child mine)
      is_start is_end)
      ∙ firsts_of_all
