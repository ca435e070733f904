-- The sequence of trees side by side, child by child and kid by kid.
use Rattle.std.proofs.Common.{◌≡◌, List, ◌++◌, refl, sym, ◌∙◌, ap, append_assoc}
use Rattle.ftl_model.specs.layout.AttributeGrammar.{AttributeGrammar, inherited, local, synthesized}
use Rattle.ftl_model.specs.layout.Path.{Has, Path, class_at, down, one_more}
use Rattle.ftl_model.specs.layout.Solves.{Instance}
use Rattle.ftl_model.specs.layout.Tree.{Forest, below_of, class_of}
use Rattle.ftl_model.specs.layout.TreeOf.{IsTreeOf}
use Rattle.ftl_model.proofs.layout.Numbering.{at-left}
use Rattle.ftl_order.specs.orders.Schedule.{Placing, SchedulePlace}
use Rattle.ftl_order.specs.orders.Sequence.{sequence_at, sequence_below, steps_at}
use Rattle.ftl_cursors.specs.inorder.KidSequences.{children_sequence, kid_sequence}
use Rattle.ftl_cursors.proofs.inorder.KidByKid.{kid_by_kid}

module _ (g : AttributeGrammar) (place : Placing) (x : SchedulePlace) (t : Forest) where
  -- what is done at a node, by what stands there
  abbrev kid_part : Path → Forest → List Instance
  kid_part q f =
      steps_at g place x inherited (class_of f) q
      ++ (steps_at g place x local (class_of f) q
      ++ (sequence_below g place x q (λ c. 0) (below_of f) ++ steps_at g place x synthesized (class_of f) q))

  regroup : (a b c d e : List Instance) → a ++ (b ++ (c ++ (d ++ e))) ≡ (a ++ (b ++ (c ++ d))) ++ e
  regroup a b c d e = simp append_assoc

  pub goes_kid_by_kid : IsTreeOf g t → (p : Path) → Has t p
      → sequence_at g place x t p
      ≡ steps_at g place x local (class_at t p) p
      ++ (children_sequence g place x t p ++ steps_at g place x synthesized (class_at t p) p)
  goes_kid_by_kid fits p there =
      ap
      (λ xs. steps_at g place x local (class_at t p) p ++ (xs ++ steps_at g place x synthesized (class_at t p) p))
      (kid_by_kid g t p (sequence_below g place x p) (kid_sequence g place x t p) (λ seen. refl)
      (λ seen passed k d i b s left.
      let q = down d (seen d) p in
      regroup (steps_at g place x inherited k q) (steps_at g place x local k q)
      (sequence_below g place x q (λ c. 0) b) (steps_at g place x synthesized k q)
      (sequence_below g place x p (one_more d seen) s)
      ∙ ap (λ f. kid_part q f ++ sequence_below g place x p (one_more d seen) s)
      (sym (at-left t p seen passed k d i b s left)))
      fits there)
