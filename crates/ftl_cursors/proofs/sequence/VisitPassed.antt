-- The place behind a kid in whose tree no class has rules, and that at its first operation.
use Rattle.std.proofs.Common.{◌≡◌, ℕ, suc, ◌+◌, ◌<◌, ◌≤◌, List, ◌++◌, length, refl, sym, ◌∙◌, ap, subst, arith}
use Rattle.ftl_model.specs.layout.Path.{Has, Path, at as tree_at, class_at, down, kids_at, number_of, size_at}
use Rattle.ftl_model.specs.layout.Tree.{below_of}
use Rattle.ftl_model.specs.layout.TreeOf.{IsTreeOf}
use Rattle.ftl_model.proofs.layout.Standing.{node_at-number_of}
use Rattle.ftl_order.proofs.orders.Kids.{kid_exists}
use Rattle.ftl_order.specs.declared.steps.step.Step.{Step}
use Rattle.ftl_visit.specs.visits.Visits.{children}
use Rattle.ftl_cursors.specs.sequence.Moves.{kid_moves, moves, moves_up}
use Rattle.ftl_cursors.specs.sequence.Places.{IsAtKid, IsFirst, first_of, grammar_of, node_of, tree_of}
use Rattle.ftl_cursors.specs.sequence.SequenceRest.{from_kid, rest_up}
use Rattle.ftl_cursors.specs.sequence.SparsePlaces.{AreSparseTables, HasNoRulesBelow, HaveNoRulesIn, HaveNoSteps, IsVisited}
use Rattle.ftl_cursors.specs.declared.sequence.place.Place.{Place}
use Rattle.ftl_cursors.specs.declared.sequence.ruleless.SparseTables.{SparseTables}
use Rattle.ftl_cursors.proofs.sequence.KidsPassed.{fewer_moves, kids_passed}
use Rattle.ftl_cursors.proofs.sequence.RulelessNodes.{tree_has_none}

module _ (x : SparseTables) (are : AreSparseTables x) (fits : IsTreeOf (grammar_of x.all) (tree_of x.all))
    (node child kid : ℕ) (at : Place) where
  abbrev p : Path
  p = node_of x.all node

  abbrev q : Path
  q = down child kid p

  pub kid_passed : (next : ℕ) → kid < kids_at (tree_of x.all) p child → HasNoRulesBelow x (number_of (tree_of x.all) q)
      → kid + 1 ≤ next → HaveNoSteps x node child (kid + 1) next → IsAtKid x.all node child next at
      → IsVisited x.all node child kid at
  kid_passed next counted none order passed is =
      let g = grammar_of x.all in
      let t = tree_of x.all in
      let a = x.all.attrs.now in
      let first = first_of x.all in
      let there : Has t q = kid_exists child kid (below_of (tree_at t p)) counted in
      let inner =
      tree_has_none x are fits q there
      (subst (λ r. HaveNoRulesIn x (number_of t q) (number_of t q + size_at t r)) (node_at-number_of t q there) none) in
      let up = rest_up g t a first p in
      let moved = is.moves in
      let fewer = fewer_moves g t a p child (kid + 1) next (moves_up g t first p) order in
      let some : length (kid_moves g t p child kid)
      ≡ suc (suc (length (children g (class_at t q) ++ moves g (below_of (tree_at t q))))) = refl in
      record {
        place = is.place;
        left =
            is.left
            ∙ kids_passed g t a p child (kid + 1) next up order passed
            ∙ sym (ap (λ (xs : List Step). xs ++ from_kid g t a p child (kid + 1) up) inner);
        less = omega (arith, moved, fewer, some);
      }

  pub kid_entered : IsFirst x.all node child kid at → IsVisited x.all node child kid at
  kid_entered is = record { place = is.place; left = is.left; less = (let m = is.moves in omega (arith, m)) }
