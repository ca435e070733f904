-- Which step a read of a step is of, by its cell.
use Rattle.std.proofs.Common.{◌≡◌, ℕ, ◌<◌, sym, ◌∙◌, ap, subst, ⊎_elim, List, [], ◌∷◌, length, map, Contains}
use Rattle.std.proofs.lemmas.List.Elements.{Contains-get_or}
use Rattle.ftl_model.proofs.lists.Elements.{here_in, in_cases, nothing_in}
use Rattle.ftl_model.proofs.lists.Rising.{in_map, map_has}
use Rattle.ftl_model.specs.layout.AttributeGrammar.{AttributeGrammar, Occurrence, occurrences, reads_in}
use Rattle.ftl_model.specs.layout.Path.{class_at, kids_at, node_at}
use Rattle.ftl_model.specs.layout.Solves.{rule_named, seen_from}
use Rattle.ftl_model.specs.layout.Table.{instance_number}
use Rattle.ftl_model.specs.layout.TreeOf.{IsTreeOf}
use Rattle.ftl_order.specs.declared.steps.step.Step.{Step}
use Rattle.ftl_order.specs.orders.Pairs.{Pair}
use Rattle.ftl_order.specs.steps.Steps.{IsStepOf, rule_at, target_of}
use Rattle.ftl_deps.specs.parts.RuleParts.{parts_named}
use Rattle.ftl_deps.specs.reads.Meant.{meant}
use Rattle.ftl_step_value.specs.limits.reads.ReadTables.{IsSound}
use Rattle.ftl_step_value.proofs.limits.reads.RuleReads.{rule_may_stand}
use Rattle.ftl_step_value.proofs.cells.StepRules.{reads_there, seen_at, target_there}
use Rattle.ftl_step_value.specs.cells.ReadCells.{filled_cell}
use Rattle.ftl_step_value.specs.cells.Seen.{IsThere, cell_seen}
use Rattle.ftl_tree.specs.trees.CheckedTree.{CheckedTree}
use Rattle.ftl_visit.specs.step_reads.StepReads.{AreOfChildren, children_in}
use Rattle.ftl_cursors.specs.item_cursor.ItemSteps.{no_step}
use Rattle.ftl_example.specs.examples.ShownSteps.{AreOfTree, IsFilledAt, IsFoundFor, IsSeenAs, NoneIsFilled}
use Rattle.ftl_example.specs.examples.ShownSteps.{NoneIsFoundFor, kids_at_hand, step_in}
use Rattle.ftl_example.proofs.shows.PlaceShows.{read_among}
use Rattle.ftl_example.proofs.examples.HandKids.{read_child}
use Rattle.ftl_example.proofs.examples.StepTurns.{same_instance}

module _ (t : CheckedTree) (sound : IsSound (meant t.checked)) (fits : IsTreeOf (meant t.checked) t.tree) (pair : Pair)
    (in_part : Contains (reads_in (rule_named (meant t.checked) pair.reader).parts pair.part) pair.read) (x : Step)
    (is : IsStepOf (meant t.checked) t.tree x) (rule : rule_at (meant t.checked) x.rule ≡ pair.reader) where
  abbrev g : AttributeGrammar
  g = meant t.checked

  -- what is read while a kid is at hand is there
  pub read_there : (k : ℕ) → Contains (kids_at_hand g t.tree pair x) k → IsThere t x.node k pair.read
  read_there k hand =
      let parts = (rule_named g pair.reader).parts in
      let kids = kids_at t.tree (node_at t.tree x.node) in
      let may : AreOfChildren (children_in t x.node) (parts_named g (rule_at g x.rule)) =
      (rule_may_stand g sound (class_at t.tree (node_at t.tree x.node)) x.rule is.rule is.class).children in
      record {
        child =
            read_child (children_in t x.node) parts pair.part pair.read
            (subst (λ w. AreOfChildren (children_in t x.node) (parts_named g w)) rule may) in_part;
        seen = λ o seen.
            reads_there g sound.law t.tree fits x is o
            (subst (λ w. Contains (seen_at g t.tree w (node_at t.tree x.node) x.kid) o)
            (sym rule) (read_among parts pair.part kids x.kid k pair.read o in_part hand seen));
      }

  module _ (steps : List Step) (of_tree : AreOfTree g t.tree steps) (k : ℕ)
      (hand : Contains (kids_at_hand g t.tree pair x) k) where
    abbrev seen_here : List Occurrence
    seen_here = occurrences (kids_at t.tree (node_at t.tree x.node)) k pair.read

    step_there : (w : ℕ) → w < length steps → IsStepOf g t.tree (step_in steps w)
    step_there w within = of_tree (step_in steps w) (Contains-get_or steps w no_step within)

    -- by its cell
    pub found_by_cell : (cell : ℕ) → cell ∷ [] ≡ map (cell_seen t x.node) seen_here → (w : ℕ)
        → IsFilledAt g t.tree pair.writer cell steps w → IsFoundFor g t.tree pair x (k ∷ []) steps w
    found_by_cell cell cells w filled =
        let y = step_in steps w in
        let m = in_map (cell_seen t x.node) seen_here cell
        (subst (λ ns. Contains ns cell) cells (here_in cell [])) in
        let there = read_there k hand in (
          filled.0,
          (
            filled.1.0,
            (
              k,
              here_in k [],
              (
                m.from,
                m.there,
                same_instance g t.tree (target_of g t.tree y) (seen_from (node_at t.tree x.node) m.from)
                    (target_there g sound.law t.tree fits y (step_there w filled.0)) (there.seen m.from m.there)
                    (filled.1.1 ∙ sym m.is),
              ),
            ),
          ),
        )

    -- and back
    pub cell_of_found : (w : ℕ) → IsFoundFor g t.tree pair x (k ∷ []) steps w
        → (rule_at g (step_in steps w).rule ≡ pair.writer)
        × Contains (map (cell_seen t x.node) seen_here) (filled_cell g t.tree (step_in steps w))
    cell_of_found w found =
        let y = step_in steps w in
        let n = found.1.1.0 in
        let is_k : n ≡ k = ⊎_elim (λ e. sym e) (λ none. absurd (nothing_in n none)) (in_cases k n [] found.1.1.1) in
        let seen = subst (λ m. IsSeenAs g t.tree pair x m y) is_k found.1.1.2 in (
          found.1.0,
          subst (λ c. Contains (map (cell_seen t x.node) seen_here) c)
              (ap (instance_number g t.tree) (sym seen.2))
              (map_has (cell_seen t x.node) seen_here seen.0 seen.1),
        )

    pub none_by_cell : (cell : ℕ) → cell ∷ [] ≡ map (cell_seen t x.node) seen_here
        → NoneIsFilled g t.tree pair.writer cell steps (length steps) → NoneIsFoundFor g t.tree pair x (k ∷ []) steps
    none_by_cell cell cells none w found =
        let c = cell_of_found w found in
        let y = step_in steps w in
        let fills : filled_cell g t.tree y ≡ cell =
        ⊎_elim (λ e. sym e) (λ no. absurd (nothing_in (filled_cell g t.tree y) no))
        (in_cases cell (filled_cell g t.tree y) []
        (subst (λ ns. Contains ns (filled_cell g t.tree y)) (sym cells) c.1)) in
        none w found.0 (c.0, fills)

    pub none_seen : [] ≡ map (cell_seen t x.node) seen_here → NoneIsFoundFor g t.tree pair x (k ∷ []) steps
    none_seen cells w found =
        let c = cell_of_found w found in
        nothing_in (filled_cell g t.tree (step_in steps w))
        (subst (λ ns. Contains ns (filled_cell g t.tree (step_in steps w))) (sym cells) c.1)
