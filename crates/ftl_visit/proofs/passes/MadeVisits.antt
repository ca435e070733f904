-- The visits that were made so far.
use Rattle.std.proofs.Common.{◌≡◌, ℕ, ◌+◌, List, [], ◌∷◌, ◌++◌, map, sym, ◌∙◌, ap₂, arith}
use Rattle.std.proofs.lemmas.List.FromFn.{map-range_with_len_more}
use Rattle.std.specs.List.{range_with_len}
use Rattle.ftl_model.specs.layout.AttributeGrammar.{AttributeGrammar}
use Rattle.ftl_schedule.specs.declared.syntax.kind.PassKind.{PassKind}
use Rattle.ftl_visit.specs.visits.Visits.{visit_of}
use Rattle.ftl_visit.specs.declared.visits.visit_op.VisitOp.{VisitOp}
use Rattle.ftl_visit.specs.passes.Runs.{IsCut, runs}

-- those of the classes below this one
pub record AreMade (g : AttributeGrammar) (kind : PassKind) (attributes : List ℕ) (class : ℕ) (starts : List ℕ)
    (ops : List VisitOp) : Type 0 where
  pub cut : IsCut starts ops
  pub visits : runs starts ops ≡ map (visit_of g kind attributes) (range_with_len 0 class)

module _ (g : AttributeGrammar) (kind : PassKind) (attributes : List ℕ) where
  -- and one more
  pub made_more : (class : ℕ) (starts more_starts : List ℕ) (ops more_ops visit : List VisitOp)
      → AreMade g kind attributes class starts ops → IsCut more_starts more_ops
      → runs more_starts more_ops ≡ runs starts ops ++ visit ∷ [] → visit ≡ visit_of g kind attributes class
      → AreMade g kind attributes (class + 1) more_starts more_ops
  made_more class starts more_starts ops more_ops visit made cut added is =
      record {
        cut = cut;
        visits =
            added
            ∙ ap₂ (λ (a : List (List VisitOp)) (b : List VisitOp). a ++ b ∷ []) made.visits is
            ∙ sym
            (map-range_with_len_more (visit_of g kind attributes) 0 class class
            (let z : 0 + class ≡ class = omega arith in z));
      }
