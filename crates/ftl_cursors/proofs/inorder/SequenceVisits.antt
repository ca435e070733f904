-- The sequence at a node is what the operations of its visit do.
use Rattle.std.proofs.Common.{◌≡◌, ℕ, ◌<◌, ◌&&◌, Bool, List, [], ◌∷◌, ◌++◌, filter, flat_map, map, refl, sym, ◌∙◌, ap, ap₂, ⊎_elim, arith}
use Rattle.std.specs.List.{range_with_len}
use Rattle.std.proofs.lemmas.List.Elements.{Contains-append_cases, Contains-append_left}
use Rattle.ftl_model.specs.lists.Lists.{is_listed}
use Rattle.ftl_model.proofs.lists.Elements.{in_range_from}
use Rattle.ftl_model.proofs.lists.Listed.{is_there, listed}
use Rattle.ftl_model.specs.layout.AttributeGrammar.{AttributeGrammar, Sort, attributes_of, for_child, for_self, inherited, input, local, synthesized}
use Rattle.ftl_model.specs.layout.Path.{Has, Path, at as tree_at, class_at, down, kids_at}
use Rattle.ftl_model.specs.layout.Solves.{instance_of}
use Rattle.ftl_model.specs.layout.Tree.{Forest, below_of}
use Rattle.ftl_model.specs.layout.TreeOf.{IsTreeOf}
use Rattle.ftl_model.proofs.layout.Fits.{kid_stands}
use Rattle.ftl_order.specs.orders.Lawful.{IsLawful}
use Rattle.ftl_order.specs.orders.Schedule.{Placing, Schedule, SchedulePlace, pass_at, placing_of}
use Rattle.ftl_order.specs.orders.Sequence.{is_same_sort, sequence_at, steps_at}
use Rattle.ftl_order.proofs.orders.Kids.{class_known, kid_exists}
use Rattle.ftl_items.specs.stage_items.Items.{pass_place}
use Rattle.ftl_order.specs.steps.Steps.{target_of_rule}
use Rattle.ftl_visit.specs.visits.Visits.{children, inherited_rules, locals, synthesized_rules}
use Rattle.ftl_cursors.specs.inorder.InorderVisits.{block_at, done_at, targets}
use Rattle.ftl_cursors.specs.inorder.KidSequences.{child_sequence, children_sequence, kid_sequence}
use Rattle.ftl_cursors.proofs.inorder.ListedRules.{is_kept}
use Rattle.ftl_cursors.proofs.inorder.KeyedLists.{OwnsPass, keyed_is, one_test}
use Rattle.ftl_cursors.proofs.inorder.RunRules.{runs_inherited, runs_locals, runs_synthesized}
use Rattle.ftl_cursors.proofs.inorder.Pieces.{same_pieces}
use Rattle.ftl_cursors.proofs.inorder.SequenceKids.{goes_kid_by_kid}

map-map : {X Y Z : Type 0} (f : Y → Z) (h : X → Y) (xs : List X) → map f (map h xs) ≡ map (λ x. f (h x)) xs
map-map f h [] = refl
map-map f h (x ∷ xs) = ap (λ rest. f (h x) ∷ rest) (map-map f h xs)

module _ (g : AttributeGrammar) (law : IsLawful g) where
  -- an inherited attribute of a class is its interface's
  interface_has : (class : ℕ) → class < g.class_count → (a : ℕ) → g.sort a ≡ inherited
      → is_listed (attributes_of g class) a ≡ is_listed (g.shared (g.interface class)) a
  interface_has class known a sort =
      let front = g.shared (g.interface class) in
      let back = g.private class in
      one_test (is_listed (attributes_of g class) a) (is_listed front a)
      (λ e.
      ⊎_elim (λ here. listed front a here)
      (λ own.
      absurd
      (⊎_elim (λ f. (let z : inherited ≡ input = sym sort ∙ f in absurd (cc)))
      (λ f. (let z : inherited ≡ local = sym sort ∙ f in absurd (cc))) (law.private_sorts class a (known, own))))
      (Contains-append_cases front back a (is_there (attributes_of g class) a e)))
      (λ e. listed (attributes_of g class) a (Contains-append_left front back a (is_there front a e)))

  kept_alike : (class i : ℕ) → class < g.class_count → g.interface class ≡ i → (a : ℕ)
      → is_kept g inherited (attributes_of g class) a ≡ is_kept g inherited (g.shared i) a
  kept_alike class i known is a = by (g.sort a) refl
    where
      by : (so : Sort) → g.sort a ≡ so
          → (is_same_sort so inherited && is_listed (attributes_of g class) a)
          ≡ (is_same_sort so inherited && is_listed (g.shared i) a)
      by input e = refl
      by synthesized e = refl
      by local e = refl
      by inherited e = interface_has class known a e ∙ ap (λ j. is_listed (g.shared j) a) is

  module _ (s : Schedule) (stage pass : ℕ) (owns : OwnsPass g s stage pass) (t : Forest) (fits : IsTreeOf g t) where
    abbrev attributes : List ℕ
    attributes = (pass_at s stage pass).attributes

    abbrev place : Placing
    place = placing_of s

    abbrev here : SchedulePlace
    here = pass_place stage pass

    module _ (p : Path) (there : Has t p) where
      abbrev class : ℕ
      class = class_at t p

      known : class < g.class_count
      known = class_known g t fits p there

      pub local_targets : targets g p 0 (locals g class attributes) ≡ steps_at g place here local class p
      local_targets =
          ap (map (λ w. target_of_rule p w 0)) (runs_locals g law class known attributes)
          ∙ map-map (λ w. target_of_rule p w 0) (for_self class)
          (filter (is_kept g local (attributes_of g class)) attributes)
          ∙ ap (map (instance_of p)) (sym (keyed_is g law s stage pass owns local (λ e. cc) class known))

      pub synthesized_targets : targets g p 0 (synthesized_rules g class attributes)
          ≡ steps_at g place here synthesized class p
      synthesized_targets =
          ap (map (λ w. target_of_rule p w 0)) (runs_synthesized g law class known attributes)
          ∙ map-map (λ w. target_of_rule p w 0) (for_self class)
          (filter (is_kept g synthesized (attributes_of g class)) attributes)
          ∙ ap (map (instance_of p)) (sym (keyed_is g law s stage pass owns synthesized (λ e. cc) class known))

      pub inherited_targets : (c k : ℕ) → c < g.child_count class → k < kids_at t p c
          → targets g p k (inherited_rules g class c attributes)
          ≡ steps_at g place here inherited (class_at t (down c k p)) (down c k p)
      inherited_targets c k declared counted =
          let q = down c k p in
          let kid : Has t q = kid_exists c k (below_of (tree_at t p)) counted in
          let stands = kid_stands g t c k p fits kid in
          let below = class_known g t fits q kid in
          let alike = kept_alike (class_at t q) (g.child_interface class c) below stands.interface in
          ap (map (λ w. target_of_rule p w k)) (runs_inherited g law class known c declared attributes)
          ∙ map-map (λ w. target_of_rule p w k) (for_child class c)
          (filter (is_kept g inherited (g.shared (g.child_interface class c))) attributes)
          ∙ ap (λ (test : ℕ → Bool). map (instance_of q) (filter test attributes)) (λ i a. sym (alike a) i)
          ∙ ap (map (instance_of q))
          (sym (keyed_is g law s stage pass owns inherited (λ e. cc) (class_at t q) below))

      blocks : children_sequence g place here t p
          ≡ flat_map
          (λ c. flat_map (block_at g class attributes p (sequence_at g place here t) c)
          (range_with_len 0 (kids_at t p c)))
          (children g class)
      blocks =
          same_pieces (child_sequence g place here t p)
          (λ c. flat_map (block_at g class attributes p (sequence_at g place here t) c)
          (range_with_len 0 (kids_at t p c)))
          (children g class)
          (λ c among.
          let declared = (in_range_from 0 (g.child_count class) c among).1 in
          same_pieces (kid_sequence g place here t p c) (block_at g class attributes p (sequence_at g place here t) c)
          (range_with_len 0 (kids_at t p c))
          (λ k kid.
          let counted = (in_range_from 0 (kids_at t p c) k kid).1 in
          ap (λ xs. xs ++ sequence_at g place here t (down c k p))
          (sym
          (inherited_targets c k (let z : c < g.child_count class = omega arith in z)
          (let z : k < kids_at t p c = omega arith in z)))))

      pub sequence_is_done : sequence_at g place here t p ≡ done_at g t attributes (sequence_at g place here t) p
      sequence_is_done =
          goes_kid_by_kid g place here t fits p there
          ∙ ap₂ (λ a b. a ++ b) (sym local_targets)
          (ap₂ (λ a b. a ++ b) blocks (sym synthesized_targets))
