-- What is listed for trees side by side, child by child and kid by kid.
use Rattle.std.proofs.Common.{◌≡◌, ℕ, suc, ◌+◌, ◌-◌, ◌<◌, ◌≤◌, ◌==◌, Bool, true, if◌then◌else◌, List, [], ◌++◌, flat_map, ℤ, refl, sym, ◌∙◌, ap, ap₂, append_assoc, arith, eq-eqb}
use Rattle.std.specs.List.{range_with_len}
use Rattle.ftl_model.proofs.lists.Elements.{in_range_from}
use Rattle.ftl_model.specs.layout.AttributeGrammar.{AttributeGrammar}
use Rattle.ftl_model.specs.layout.Path.{Has, Path, at as tree_at, class_at, one_more}
use Rattle.ftl_model.specs.layout.Tree.{Forest, below_of, count_in, none, tree}
use Rattle.ftl_model.specs.layout.TreeOf.{FitBelow, IsTreeOf, StartsFrom}
use Rattle.ftl_model.proofs.layout.Fits.{fits_at}
use Rattle.ftl_model.proofs.layout.Numbering.{Left, left_all, left_next}
use Rattle.ftl_cursors.proofs.inorder.Pieces.{from_zero, no_pieces, none_before, not_same, pass_over, same_pieces}

-- a list for the trees that are left below a node, and one for each kid, where a tree comes before those beside it
module _ {X : Type 0} (g : AttributeGrammar) (t : Forest) (p : Path) (list : (ℕ → ℕ) → Forest → List X)
    (kid : (child number : ℕ) → List X) (at_none : (seen : ℕ → ℕ) → list seen none ≡ [])
    (at_tree : (seen : ℕ → ℕ) (passed k d : ℕ) (i : List ℤ) (b s : Forest) → Left t p seen (tree k d i b s) passed
    → list seen (tree k d i b s) ≡ kid d (seen d) ++ list (one_more d seen) s) where
  -- those of the kids in a child, so many having come
  abbrev from_kids : (ℕ → ℕ) → Forest → ℕ → List X
  from_kids seen f c = flat_map (kid c) (range_with_len (seen c) (count_in c f))

  later_kids : (seen : ℕ → ℕ) (k d : ℕ) (i : List ℤ) (b s : Forest) (c : ℕ) → d < c
      → from_kids (one_more d seen) s c ≡ from_kids seen (tree k d i b s) c
  later_kids seen k d i b s c less =
      let other = not_same d c (λ is. (let z : ⊥ = omega arith in z)) in
      ap₂ (λ n m. flat_map (kid c) (range_with_len n m))
      (ap (λ (w : Bool). if w then suc (seen c) else seen c) other)
      (sym (ap (λ (w : Bool). if w then suc (count_in c s) else count_in c s) other))

  first_kids : (seen : ℕ → ℕ) (k d : ℕ) (i : List ℤ) (b s : Forest)
      → kid d (seen d) ++ from_kids (one_more d seen) s d ≡ from_kids seen (tree k d i b s) d
  first_kids seen k d i b s =
      let same : (d == d) ≡ true = eq-eqb d d refl in
      ap (λ n. kid d (seen d) ++ flat_map (kid d) (range_with_len n (count_in d s)))
      (ap (λ (w : Bool). if w then suc (seen d) else seen d) same
      ∙ (let z : suc (seen d) ≡ seen d + 1 = omega arith in z))
      ∙ sym
      (ap (λ m. flat_map (kid d) (range_with_len (seen d) m))
      (ap (λ (w : Bool). if w then suc (count_in d s) else count_in d s) same))

  by_kids : (above : ℕ) (f : Forest) (seen : ℕ → ℕ) (passed from count : ℕ) → Left t p seen f passed
      → FitBelow g above f → StartsFrom from f → from + count ≡ g.child_count above
      → list seen f ≡ flat_map (from_kids seen f) (range_with_len from count)
  by_kids above none seen passed from count left fits starts all =
      at_none seen ∙ sym (no_pieces (from_kids seen none) (range_with_len from count) (λ c. refl))
  by_kids above (tree k d i b s) seen passed from count left fits starts all =
      let f = tree k d i b s in
      let declared = fits.0.declared in
      let low : from ≤ d = starts in
      let before = d - from in
      let rest = count - (d - from + 1) in
      let parts : count ≡ before + suc rest = omega arith in
      let here : from + before ≡ d = omega arith in
      let later =
      by_kids above s (one_more d seen) _ d (suc rest) (left_next t p seen passed k d i b s left) fits.4 fits.3
      (omega arith) in
      at_tree seen passed k d i b s left
      ∙ ap (λ xs. kid d (seen d) ++ xs) later
      ∙ sym
      (append_assoc (kid d (seen d)) (from_kids (one_more d seen) s d)
      (flat_map (from_kids (one_more d seen) s) (range_with_len (d + 1) rest)))
      ∙ ap₂ (λ xs ys. xs ++ ys) (first_kids seen k d i b s)
      (same_pieces (from_kids (one_more d seen) s) (from_kids seen f) (range_with_len (d + 1) rest)
      (λ c there. let after = (in_range_from (d + 1) rest c there).0 in later_kids seen k d i b s c (omega arith)))
      ∙ sym
      (ap (λ n. flat_map (from_kids seen f) (range_with_len from n)) parts
      ∙ pass_over (from_kids seen f) from before (suc rest)
      (λ c lowest high.
      ap (λ n. flat_map (kid c) (range_with_len (seen c) n)) (none_before g above d c f fits (omega arith) (omega arith)))
      ∙ ap (λ n. flat_map (from_kids seen f) (range_with_len n (suc rest))) here)

  -- below a node, each kid of each child
  pub kid_by_kid : IsTreeOf g t → Has t p
      → list (λ c. 0) (below_of (tree_at t p))
      ≡ flat_map (λ c. flat_map (kid c) (range_with_len 0 (count_in c (below_of (tree_at t p)))))
      (range_with_len 0 (g.child_count (class_at t p)))
  kid_by_kid fits there =
      by_kids (class_at t p) (below_of (tree_at t p)) (λ c. 0) 0 0 (g.child_count (class_at t p)) (left_all t p)
      (fits_at g t p fits there).below (from_zero (below_of (tree_at t p))) (omega arith)
