-- What is left of a visit when its next part is begun.
use Rattle.std.proofs.Common.{◌≡◌, ◌≢◌, ℕ, ◌<◌, ◌==◌, Bool, true, false, if◌then◌else◌, List, [], ◌∷◌, ◌++◌, flat_map, get_or, length, refl, sym, ◌∙◌, ap, append_assoc, arith, eqb-true}
use Rattle.std.proofs.lemmas.Bool.{false≢true}
use Rattle.ftl_model.specs.layout.AttributeGrammar.{AttributeGrammar}
use Rattle.ftl_model.specs.layout.Path.{node_at, size_at}
use Rattle.ftl_model.specs.layout.Tree.{Forest}
use Rattle.ftl_order.specs.declared.steps.step.Step.{Step}
use Rattle.ftl_schedule.specs.declared.stages.types.Pass.{Pass}
use Rattle.ftl_schedule.specs.declared.syntax.kind.PassKind.{PassKind}
use Rattle.ftl_schedule.specs.declared.syntax.kind.PassKind.TheVariants.{BottomUp, InOrder, TopDown}
use Rattle.ftl_visit.specs.passes.VisitRows.{visits_of}
use Rattle.ftl_cursors.specs.declared.item_cursor.cursor.ItemCursor.{ItemCursor}
use Rattle.ftl_cursors.specs.item_cursor.ItemSteps.{order_of}
use Rattle.ftl_cursors.specs.visits.NodeRanges.{nodes_in}
use Rattle.ftl_cursors.specs.visits.VisitSteps.{steps_of_nodes}
use Rattle.ftl_host_cursors.proofs.FirstEntries.{after_first, rest_is}
use Rattle.ftl_host_cursors.specs.HostPlaces.{IsHostPlace, left}
use Rattle.ftl_host_cursors.specs.HostSteps.{hosted_steps, is_own_next, tree_steps}
use Rattle.ftl_host_cursors.specs.declared.place.HostPlace.{HostPlace}
use Rattle.ftl_host_cursors.specs.declared.tables.HostTables.{HostTables}

-- a place at which as much is left
pub record IsAsFar (x : HostTables) (old new : HostPlace) (old_steps new_steps : ItemCursor) : Type 0 where
  pub place : IsHostPlace x new
  pub left : left x new new_steps ≡ left x old old_steps

not_empty : (pass : Pass) (inner : List Pass) → (length (pass ∷ inner) == 0) ≡ true → ⊥
not_empty pass inner e = let f = eqb-true (length (pass ∷ inner)) 0 e in let z : ⊥ = omega (arith, f) in z

module _ (f : Pass → List Step) (own_steps rest : List Step) where
  abbrev all : PassKind → (own : Bool) → (inner : List Pass) → List Step
  all kind own inner = hosted_steps kind (if own then own_steps else []) (flat_map f inner) ++ rest

  -- the own list comes first, with its turn
  pub own_turn : (kind : PassKind) (own : Bool) (inner : List Pass) → is_own_next kind own inner ≡ true
      → own_steps ++ all kind false inner ≡ all kind own inner
  own_turn kind false inner turn = absurd (false≢true turn)
  own_turn TopDown true inner turn = sym (append_assoc own_steps (flat_map f inner) rest)
  own_turn BottomUp true [] turn = refl
  own_turn BottomUp true (pass ∷ inner) turn = absurd (not_empty pass inner turn)
  own_turn InOrder true [] turn = refl
  own_turn InOrder true (pass ∷ inner) turn = absurd (not_empty pass inner turn)

  three : (a b c : List Step) → a ++ ((b ++ c) ++ rest) ≡ ((a ++ b) ++ c) ++ rest
  three a b c = sym (append_assoc a (b ++ c) rest) ∙ ap (λ s. s ++ rest) (sym (append_assoc a b c))

  -- else the first inner pass does
  inner_first : (kind : PassKind) (own : Bool) (pass : Pass) (inner : List Pass)
      → is_own_next kind own (pass ∷ inner) ≡ false
      → f pass ++ all kind own inner ≡ all kind own (pass ∷ inner)
  inner_first TopDown true pass inner turn = absurd (false≢true (sym turn))
  inner_first TopDown false pass inner turn = sym (append_assoc (f pass) (flat_map f inner) rest)
  inner_first BottomUp own pass inner turn = three (f pass) (flat_map f inner) (if own then own_steps else [])
  inner_first InOrder own pass inner turn = three (f pass) (flat_map f inner) (if own then own_steps else [])

  pub inner_turn : (kind : PassKind) (own : Bool) (inner : List Pass) (d : Pass) → 0 < length inner
      → is_own_next kind own inner ≡ false
      → f (get_or inner 0 d) ++ all kind own (after_first inner) ≡ all kind own inner
  inner_turn kind own [] d some turn = absurd (let z : ⊥ = omega arith in z)
  inner_turn kind own (pass ∷ inner) d some turn =
      ap (λ passes. f pass ++ all kind own passes) (rest_is pass inner) ∙ inner_first kind own pass inner turn

-- the steps over the tree at a node in a pass that is not inorder, by its nodes
pub by_nodes : (g : AttributeGrammar) (t : Forest) (n : ℕ) (kind : PassKind) (attributes : List ℕ) → kind ≢ InOrder
    → steps_of_nodes g t (visits_of g kind attributes) (nodes_in (order_of kind) n (size_at t (node_at t n)))
    ≡ tree_steps g t n kind attributes
by_nodes g t n TopDown attributes other = refl
by_nodes g t n BottomUp attributes other = refl
by_nodes g t n InOrder attributes other = absurd (other refl)
