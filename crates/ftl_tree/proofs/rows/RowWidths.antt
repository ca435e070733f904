-- The widths of rows, by a table with one for each class.
use Rattle.std.proofs.Common.{◌≡◌, ℕ, ◌+◌, ◌*◌, ◌<◌, ◌≤◌, List, [], ◌∷◌, ◌++◌, length, get_or, map, sum, sum_by, refl, sym, ap, ap₂, ◌∙◌, subst, arith}
use Rattle.std.specs.List.{All, AllByRecursion}
use Rattle.std.proofs.Math.Nat.{suc-mul}
use Rattle.std.proofs.lemmas.List.Elements.{All-from_recursion}
use Rattle.std.proofs.lemmas.List.Sums.{sum-map, sum_by-cons, sum_by-le-sum_by}
use Rattle.std.proofs.lemmas.List.{get_or_append_left}
use Rattle.ftl_model.specs.layout.AttributeGrammar.{AttributeGrammar, attributes_of, is_input}
use Rattle.ftl_model.specs.layout.Path.{Has, Path, class_at, preorder}
use Rattle.ftl_model.specs.layout.Tree.{Forest}
use Rattle.ftl_model.proofs.layout.Numbering.{has-preorder, length-preorder}
use Rattle.ftl_order.proofs.orders.Kids.{class_known}
use Rattle.ftl_tree.specs.declared.rows.row.NodeRow.{NodeRow}
use Rattle.ftl_tree.specs.rows.ClassRows.{AreWidths}
use Rattle.ftl_tree.specs.rows.Rows.{AreTreeRows, attribute_width, input_width, row_of}
use Rattle.ftl_tree.proofs.rows.Access.{size-one}
use Rattle.ftl_tree.proofs.rows.AttributePlaces.{fewer}
use Rattle.ftl_tree.proofs.rows.Raised.{SameOr, differ, same, same_or}
use Rattle.ftl_tree.proofs.rows.Shapes.{there}

-- one more entry that is as wanted
pub pushed : (f : ℕ → ℕ) (xs ys : List ℕ) (x n : ℕ) → ys ≡ xs ++ x ∷ [] → length xs ≡ n → x ≡ f n
    → ((a : ℕ) → a < n → get_or xs a 0 ≡ f a) → (a : ℕ) → a < n + 1 → get_or ys a 0 ≡ f a
pushed f xs ys x n is l e each a h = ap (λ ys. get_or ys a 0) is ∙ go (same_or a n)
  where
    last : (xs : List ℕ) → get_or (xs ++ x ∷ []) (length xs) 0 ≡ x
    last [] = refl
    last (y ∷ xs) = last xs

    go : SameOr a n → get_or (xs ++ x ∷ []) a 0 ≡ f a
    go (same k) = ap (λ m. get_or (xs ++ x ∷ []) m 0) (k ∙ sym l) ∙ last xs ∙ e ∙ ap f (sym k)
    go (differ d) =
        let less : a < n = omega (arith, h, λ (k : a ≡ n). d k) in
        get_or_append_left xs (x ∷ []) 0 a (omega (arith, less, l)) ∙ each a less

abbrev pub width_of : (ℕ → ℕ) → NodeRow → ℕ
width_of f row = f row.class

module _ (g : AttributeGrammar) (t : Forest) (rows : List NodeRow) (h : AreTreeRows g t rows) where
  -- rows of known classes
  known_paths : (table : List ℕ) → length table ≡ g.class_count → (ps : List Path) → AllByRecursion (Has t) ps → AllByRecursion (λ (row : NodeRow). row.class < length table) (map (row_of t) ps)
  known_paths table l [] has = tt
  known_paths table l (p ∷ ps) has = ((let k = class_known g t h.is_tree p has.0 in omega (arith, k, l)), known_paths table l ps has.1)

  pub classes_known : (table : List ℕ) → length table ≡ g.class_count → All (λ (row : NodeRow). row.class < length table) rows
  classes_known table l =
      subst (All (λ (row : NodeRow). row.class < length table)) (sym h.rows_are)
      (All-from_recursion (λ (row : NodeRow). row.class < length table) (map (row_of t) (preorder t)) (known_paths table l (preorder t) (has-preorder t (there g t h.is_tree))))

  same_paths : (f : ℕ → ℕ) (table : List ℕ) → AreWidths f g.class_count table → (ps : List Path) → AllByRecursion (Has t) ps
      → map (width_of (λ k. get_or table k 0)) (map (row_of t) ps) ≡ map (width_of f) (map (row_of t) ps)
  same_paths f table are [] has = refl
  same_paths f table are (p ∷ ps) has = ap₂ (λ x xs. x ∷ xs) (are.each (class_at t p) (class_known g t h.is_tree p has.0)) (same_paths f table are ps has.1)

  -- the widths by the table are those of the classes
  pub same_widths : (f : ℕ → ℕ) (table : List ℕ) → AreWidths f g.class_count table → map (width_of (λ k. get_or table k 0)) rows ≡ map (width_of f) rows
  same_widths f table are =
      ap (map (width_of (λ k. get_or table k 0))) h.rows_are
      ∙ same_paths f table are (preorder t) (has-preorder t (there g t h.is_tree))
      ∙ ap (map (width_of f)) (sym h.rows_are)

  -- the sum of the widths of all nodes
  sum_paths : (f : ℕ → ℕ) (ps : List Path) → sum_by (width_of f) (map (row_of t) ps) ≡ sum_by (λ p. f (class_at t p)) ps
  sum_paths f [] = refl
  sum_paths f (p ∷ ps) =
      sum_by-cons (width_of f) (row_of t p) (map (row_of t) ps) ∙ ap (λ n. f (class_at t p) + n) (sum_paths f ps)
      ∙ sym (sum_by-cons (λ p. f (class_at t p)) p ps)

  sum_widths : (f : ℕ → ℕ) (table : List ℕ) → AreWidths f g.class_count table
      → sum (map (width_of (λ k. get_or table k 0)) rows) ≡ sum_by (λ p. f (class_at t p)) (preorder t)
  sum_widths f table are =
      ap sum (same_widths f table are) ∙ sum-map (width_of f) rows ∙ ap (sum_by (width_of f)) h.rows_are ∙ sum_paths f (preorder t)

  pub few_attributes : (table : List ℕ) → AreWidths (attribute_width g) g.class_count table → sum (map (width_of (λ k. get_or table k 0)) rows) ≤ 33554432
  few_attributes table are = omega (arith, sum_widths (attribute_width g) table are, h.few_instances)

  pub few_inputs : (table : List ℕ) → AreWidths (input_width g) g.class_count table → sum (map (width_of (λ k. get_or table k 0)) rows) ≤ 33554432
  few_inputs table are =
      let less = sum_by-le-sum_by (λ p. input_width g (class_at t p)) (λ p. attribute_width g (class_at t p)) (preorder t)
      (λ p. fewer (λ a. is_input (g.sort a)) (attributes_of g (class_at t p))) in
      omega (arith, sum_widths (input_width g) table are, less, h.few_instances)

  -- where no class has more than so many children
  child_paths : (m : ℕ) → ((k : ℕ) → k < g.class_count → g.child_count k ≤ m) → (ps : List Path) → AllByRecursion (Has t) ps
      → sum_by (λ p. g.child_count (class_at t p)) ps ≤ length ps * m
  child_paths m few [] has = omega arith
  child_paths m few (p ∷ ps) has =
      let k = few (class_at t p) (class_known g t h.is_tree p has.0) in
      let rest = child_paths m few ps has.1 in
      let times = suc-mul (length ps) m in
      omega (arith, sum_by-cons (λ p. g.child_count (class_at t p)) p ps, k, rest, times)

  pub few_children : (table : List ℕ) → AreWidths g.child_count g.class_count table → ((k : ℕ) → k < g.class_count → g.child_count k ≤ 16)
      → sum (map (width_of (λ k. get_or table k 0)) rows) ≤ 16777216
  few_children table are few =
      let all = child_paths 16 few (preorder t) (has-preorder t (there g t h.is_tree)) in
      omega (arith, sum_widths g.child_count table are, all, length-preorder t, size-one g t h.is_tree, h.few_nodes)
