-- The rows of the tree that is built for a pair are those of a tree within the limits, with every input 0.
use Rattle.std.proofs.Common.{◌≡◌, ℕ, zero, suc, ◌+◌, ◌*◌, ◌<◌, ◌≤◌, refl, sym, ◌∙◌, ap, ap₂, arith, List, [], ◌∷◌, ◌++◌, ℤ, pos, length, map, sum_by, Option, None, Some, Contains, length-append}
use Rattle.std.proofs.lemmas.List.{map-append}
use Rattle.std.proofs.lemmas.List.Sums.{sum_by-cons}
use Rattle.ftl_base.specs.Widths.{greatest_of_width}
use Rattle.ftl_model.proofs.lists.Elements.{here_in, later_in}
use Rattle.ftl_model.specs.layout.AttributeGrammar.{AttributeGrammar, attributes_of}
use Rattle.ftl_model.specs.layout.Path.{Path, class_at, down, nodes_below, number_of, one_more, preorder, top}
use Rattle.ftl_model.specs.layout.Table.{instance_count, width_at}
use Rattle.ftl_model.specs.layout.Tree.{Forest, IsTree, below_of, class_of, none, size, tree}
use Rattle.ftl_model.specs.layout.TreeOf.{IsTreeOf}
use Rattle.ftl_model.specs.layout.WithInput.{with_inputs}
use Rattle.ftl_model.proofs.layout.Numbering.{Left, at-left, left_all, left_below, left_next, length-preorder, number-left}
use Rattle.ftl_order.specs.orders.Lawful.{IsLawful}
use Rattle.ftl_order.specs.orders.Pairs.{IsPair, Pair}
use Rattle.ftl_order.proofs.orders.Kids.{class_known, root_there}
use Rattle.ftl_items.proofs.stage_items.Subtrees.{in_preorder}
use Rattle.ftl_meaning.specs.faults.Checked.{CheckedGrammar}
use Rattle.ftl_meaning.specs.faults.FirstFault.{first_fault}
use Rattle.ftl_meaning.proofs.lawful.WithinLimits.{within_limits}
use Rattle.ftl_deps.specs.reads.Meant.{meant}
use Rattle.ftl_tree.specs.declared.rows.row.NodeRow.{NodeRow}
use Rattle.ftl_tree.specs.declared.rows.row.Place.{Place}
use Rattle.ftl_tree.specs.rows.Rows.{row_of, rows_of}
use Rattle.ftl_tree.specs.trees.Bare.{AreBareRows, all_zero, bare}
use Rattle.ftl_example.specs.shows.Bare.{IsBare, zeros}
use Rattle.ftl_example.specs.sizes.Place.{example_size}
use Rattle.ftl_example.specs.sizes.SizeTable.{by_table}
use Rattle.ftl_example.specs.declared.trees.tables.Tables.{Tables}
use Rattle.ftl_example.specs.trees.BuiltRows.{forest_rows, node_rows, row_at}
use Rattle.ftl_example.specs.trees.CountedChoices.{choices_up_to}
use Rattle.ftl_example.specs.trees.CountedLaws.{AreLastTables, example_tree, last_sizes, last_starts, last_ways}
use Rattle.ftl_example.specs.trees.ExampleTree.{example_choices, way_tree}
use Rattle.ftl_example.specs.trees.Grown.{grown}
use Rattle.ftl_example.specs.trees.WantsMeant.{built}
use Rattle.ftl_example.proofs.sizes.PlaceTables.{start_cut, table_cut, way_table_cut}
use Rattle.ftl_example.proofs.trees.BuiltRows.{length-node_rows}
use Rattle.ftl_example.proofs.trees.Counted.{counted_grown}
use Rattle.ftl_example.proofs.trees.ExampleTree.{example_grown}

-- ---- rows by recursion over the tree

module _ (t : Forest) where
  rows-left : (p : Path) (seen : ℕ → ℕ) (f : Forest) (passed n m : ℕ) → Left t p seen f passed → number_of t p ≡ n
      → m ≡ suc (n + passed) → map (row_of t) (nodes_below p seen f) ≡ forest_rows n m seen f
  rows-left p seen none passed n m h here next = refl
  rows-left p seen (tree k d i b s) passed n m h here next =
      let q = down d (seen d) p in
      let at = at-left t p seen passed k d i b s h in
      let number : number_of t q ≡ m = number-left t p seen passed k d i b s h ∙ (omega (arith, here, next)) in
      let first : row_of t q ≡ row_at k n (record { child = d; kid = seen d }) =
      ap₂ (λ c m. row_at c m (record { child = d; kid = seen d })) (ap class_of at) here in
      map-append (row_of t) (q ∷ nodes_below q (λ c. 0) b) (nodes_below p (one_more d seen) s)
      ∙ ap₂ (λ xs ys. xs ++ ys)
      (ap₂ (λ x xs. x ∷ xs) first
      (rows-left q (λ c. 0) b 0 m (suc m) (left_below t p seen passed k d i b s h) number (omega arith)))
      (rows-left p (one_more d seen) s (passed + suc (size b)) n (suc m + size b)
      (left_next t p seen passed k d i b s h) here (omega (arith, next)))

  rows_by_tree : rows_of t
      ≡ row_at (class_of t) 0 (record { child = 0; kid = 0 }) ∷ forest_rows 0 1 (λ c. 0) (below_of t)
  rows_by_tree =
      ap (λ xs. row_at (class_of t) 0 (record { child = 0; kid = 0 }) ∷ xs)
      (rows-left top (λ c. 0) (below_of t) 0 0 1 (left_all t top) refl refl)

-- ---- a bare tree is itself with every input 0

zeros_stay : (n : ℕ) → map (λ (z : ℤ). pos 0) (zeros n) ≡ zeros n
zeros_stay zero = refl
zeros_stay (suc n) = ap (λ xs. pos 0 ∷ xs) (zeros_stay n)

bare_stays : (g : AttributeGrammar) (n : ℕ) (t : Forest) → IsBare g t → with_inputs all_zero n t ≡ t
bare_stays g n none h = refl
bare_stays g n (tree k c i b s) h =
    ap₂ (λ (f : List ℤ → Forest) x. f x)
    (ap₂ (λ b s. λ (x : List ℤ). tree k c x b s) (bare_stays g (suc n) b h.1) (bare_stays g (suc n + size b) s h.2))
    (ap (map (λ (z : ℤ). pos 0)) h.0 ∙ zeros_stay _ ∙ sym h.0)

-- ---- few instances

sum_within : {X : Type 0} (f : X → ℕ) (most : ℕ) (xs : List X) → ((x : X) → Contains xs x → f x ≤ most)
    → sum_by f xs ≤ length xs * most
sum_within f most [] few = omega arith
sum_within f most (x ∷ xs) few =
    let a = sum_by-cons f x xs in
    let b = few x (here_in x xs) in
    let r = sum_within f most xs (λ y h. few y (later_in x y xs h)) in
    omega (arith, a, b, r)

module _ (c : CheckedGrammar) (none_faulty : first_fault c.grammar ≡ None) (law : IsLawful (meant c)) where
  abbrev g : AttributeGrammar
  g = meant c

  few_attributes : (k : ℕ) → k < (meant c).class_count → length (attributes_of (meant c) k) ≤ 128
  few_attributes k known =
      let limits = within_limits c.grammar none_faulty (greatest_of_width c.width) in
      let a = limits.shared ((meant c).interface k) (law.interfaces_known k known) in
      let b = limits.private k known in
      let l = length-append ((meant c).shared ((meant c).interface k)) ((meant c).private k) in
      omega (arith, a, b, l)

  few_instances : (t : Forest) → IsTreeOf (meant c) t → size t ≤ 512 → instance_count (meant c) t ≤ 33554432
  few_instances t fits small =
      let sum = sum_within (width_at (meant c) t) 128 (preorder t)
      (λ p h. few_attributes (class_at t p) (class_known (meant c) t fits p (in_preorder t p (root_there (meant c) t fits) h))) in
      let long = length-preorder t in
      let nodes = one_node t (root_there (meant c) t fits) fits in
      omega (arith, sum, long, nodes, small)
    where
      one_node : (t : Forest) → IsTree t → IsTreeOf (meant c) t → suc (size (below_of t)) ≤ size t
      one_node none is fits = absurd is
      one_node (tree k d i b s) is fits = omega arith

  module _ (pair : Pair) (is : IsPair (meant c) pair) (tables : Tables) (last : AreLastTables (meant c) pair tables)
      (n : ℕ) (e : example_size (meant c) pair ≡ Some n) (small : n ≤ 512) where
    built_is : built (meant c) pair tables n way_tree (meant c).root
        ≡ grown (meant c) (example_choices (meant c) pair) n way_tree (meant c).root
    built_is =
        let ws = λ (x y z : List (Option ℕ)).
        grown g (choices_up_to 513 g pair (by_table x) (by_table y) (by_table z)) n way_tree g.root in
        ap₂ (λ x y. ws x y tables.ways.items) last.sizes last.starts
        ∙ ap (ws (last_sizes g 513) (last_starts g 513 pair)) last.ways
        ∙ counted_grown g law pair is 513 (by_table (last_sizes g 513)) (by_table (last_starts g 513 pair))
        (by_table (last_ways g 513 pair)) (table_cut g law 513 g.interface_count) (start_cut g law 513 pair is)
        (way_table_cut g law 513 pair is g.interface_count) n e (omega (arith, small))

    abbrev root_place : Place
    root_place = record { child = 0; kid = 0 }

    abbrev rows : List NodeRow
    rows = node_rows 0 root_place 0 (built (meant c) pair tables n way_tree (meant c).root)

    abbrev t : Forest
    t = example_tree (meant c) pair n

    pub rows_long : length rows ≡ n
    rows_long =
        let l = length-node_rows 0 root_place 0 (built g pair tables n way_tree g.root) in
        let s = (example_grown g law pair is n e).3 in
        let b = ap (λ (x : ℕ × Forest). size x.1) built_is in
        omega (arith, l, s, b)

    pub are_rows : AreBareRows (meant c) t rows
    are_rows =
        let grows = example_grown g law pair is n e in
        let s = grows.3 in
        record {
          is_tree = grows.0;
          rows_are = ap (λ (x : ℕ × Forest). node_rows 0 root_place 0 x) built_is ∙ sym (rows_by_tree t);
          few_nodes = omega (arith, s, small);
          few_instances = few_instances t grows.0 (omega (arith, s, small));
        }

    pub is_bare : bare t ≡ t
    is_bare = bare_stays g 0 t (example_grown g law pair is n e).1
