-- The places of the blocks of the visits that were passed so far.
use Rattle.std.proofs.Common.{◌≡◌, ℕ, zero, suc, ◌+◌, ◌<◌, List, [], ◌∷◌, ◌++◌, get_or, length, take, refl, sym, ◌∙◌, ap, ap₂, arith}
use Rattle.ftl_visit.specs.declared.visits.visit_op.VisitOp.{VisitOp}
use Rattle.ftl_visit.specs.passes.Runs.{IsCut, runs}
use Rattle.ftl_cursors.specs.sequence.BlockPlaces.{places_in, places_of}
use Rattle.ftl_cursors.specs.declared.sequence.block_places.BlockPlaces.{BlockPlaces}

-- those of the visits of so many classes
pub record AreAdded (visits : List (List VisitOp)) (class : ℕ) (starts : List ℕ) (places : List BlockPlaces)
    : Type 0 where
  pub cut : IsCut starts places
  pub are : runs starts places ≡ places_of (take class visits)

take_more : (n : ℕ) (visits : List (List VisitOp)) → n < length visits
    → places_of (take (suc n) visits) ≡ places_of (take n visits) ++ places_in (get_or visits n []) ∷ []
take_more n [] known = absurd (let z : ⊥ = omega arith in z)
take_more zero (visit ∷ visits) known = refl
take_more (suc n) (visit ∷ visits) known =
    ap (λ rest. places_in visit ∷ rest) (take_more n visits (let z : n < length visits = omega arith in z))

-- and one more
pub added_more : (visits : List (List VisitOp)) (class : ℕ) (starts more_starts : List ℕ)
    (places more : List BlockPlaces) (visit : List VisitOp)
    → class < length visits → AreAdded visits class starts places → IsCut more_starts more
    → runs more_starts more ≡ runs starts places ++ places_in visit ∷ [] → visit ≡ get_or visits class []
    → AreAdded visits (class + 1) more_starts more
added_more visits class starts more_starts places more visit known old cut added is =
    record {
      cut = cut;
      are =
          added
          ∙ ap₂ (λ (a : List (List BlockPlaces)) (b : List VisitOp). a ++ places_in b ∷ []) old.are is
          ∙ sym (take_more class visits known)
          ∙ ap (λ n. places_of (take n visits)) (let z : suc class ≡ class + 1 = omega arith in z);
    }
