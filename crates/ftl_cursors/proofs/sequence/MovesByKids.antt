-- The moves in trees side by side, child by child and kid by kid.
use Rattle.std.proofs.Common.{◌≡◌, ℕ, List, ◌++◌, flat_map, refl, sym, ◌∙◌, ap, append_assoc}
use Rattle.ftl_model.specs.layout.AttributeGrammar.{AttributeGrammar}
use Rattle.ftl_model.specs.layout.Path.{Has, Path, at as tree_at, class_at}
use Rattle.ftl_model.specs.layout.Tree.{Forest, below_of, class_of}
use Rattle.ftl_model.specs.layout.TreeOf.{IsTreeOf}
use Rattle.ftl_model.proofs.layout.Numbering.{at-left}
use Rattle.ftl_visit.specs.visits.Visits.{children}
use Rattle.ftl_cursors.proofs.inorder.KidByKid.{kid_by_kid}
use Rattle.ftl_cursors.specs.sequence.Moves.{child_moves, kid_moves, moves, own_moves}

module _ (g : AttributeGrammar) where
  -- in the tree at a kid, by what stands there
  abbrev kid_part : Forest → List ℕ
  kid_part f = own_moves g (class_of f) ++ moves g (below_of f)

  pub moves_by_kids : (t : Forest) → IsTreeOf g t → (p : Path) → Has t p
      → moves g (below_of (tree_at t p)) ≡ flat_map (child_moves g t p) (children g (class_at t p))
  moves_by_kids t fits p there =
      kid_by_kid g t p (λ seen. moves g) (kid_moves g t p) (λ seen. refl)
      (λ seen passed k d i b s left.
      sym (append_assoc (own_moves g k) (moves g b) (moves g s))
      ∙ ap (λ f. kid_part f ++ moves g s) (sym (at-left t p seen passed k d i b s left)))
      fits there
