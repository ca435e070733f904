-- The reads of parts are of what is there.
use Rattle.std.proofs.Common.{ℕ, ◌+◌, ◌<◌, ◌≤◌, List, ◌++◌, flat_map}
use Rattle.std.specs.List.{range_with_len}
use Rattle.std.proofs.lemmas.List.Elements.{Contains-append_left, Contains-append_right}
use Rattle.ftl_model.proofs.lists.Elements.{flat_map_has, range_has}
use Rattle.ftl_model.specs.layout.AttributeGrammar.{Occurrence, Read, occurrences, seen_by}
use Rattle.ftl_order.specs.orders.Lawful.{EachMay}
use Rattle.ftl_visit.specs.step_reads.StepReads.{IsOfChildren, children_in, kids_in}
use Rattle.ftl_tree.specs.trees.CheckedTree.{CheckedTree}
use Rattle.ftl_step_value.specs.cells.Seen.{EachIsSeen, IsThere}

-- what a fold reads over so many kids from this one on
abbrev pub steps_seen : (kids : ℕ → ℕ) → List Read → (from count : ℕ) → List Occurrence
steps_seen kids step from m = flat_map (λ n. seen_by kids n step) (range_with_len from m)

module _ (t : CheckedTree) (node : ℕ) where
  abbrev kids : ℕ → ℕ
  kids = kids_in t node

  -- the reads of a part, while this kid is at hand
  pub part_there : (k : ℕ) (reads : List Read) → EachMay (IsOfChildren (children_in t node)) reads
      → EachIsSeen t node (seen_by kids k reads) → EachMay (IsThere t node k) reads
  part_there k reads may all = λ r h.
      record { child = may r h; seen = λ o i. all o (flat_map_has (occurrences kids k) reads r o h i) }

  -- those of the start of a fold
  pub start_there : (k : ℕ) (start step : List Read) (m : ℕ)
      → EachMay (IsOfChildren (children_in t node)) start
      → EachIsSeen t node (seen_by kids k start ++ steps_seen kids step 0 m) → EachMay (IsThere t node k) start
  start_there k start step m may all =
      part_there k start may
      (λ o i. all o (Contains-append_left (seen_by kids k start) (steps_seen kids step 0 m) o i))

  -- those of its step, at each kid
  pub step_there : (k : ℕ) (start step : List Read) (m : ℕ)
      → EachMay (IsOfChildren (children_in t node)) step
      → EachIsSeen t node (seen_by kids k start ++ steps_seen kids step 0 m)
      → (n : ℕ) → 0 ≤ n → n < 0 + m → EachMay (IsThere t node n) step
  step_there k start step m may all n from below =
      part_there n step may
      (λ o i.
      all o
      (Contains-append_right (seen_by kids k start) (steps_seen kids step 0 m) o
      (flat_map_has (λ n. seen_by kids n step) (range_with_len 0 m) n o (range_has 0 m n from below) i)))
