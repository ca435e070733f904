-- Where a cursor stands when it goes on.
use Rattle.std.proofs.Common.{◌≡◌, ℕ, suc, ◌-◌, ◌<◌, List, [], ◌∷◌, drop, get_or, length, take, Contains, refl, sym, ◌∙◌, ap, subst, arith}
use Rattle.std.proofs.Math.Seq.{take-length}
use Rattle.ftl_model.proofs.lists.Elements.{later_in, nothing_in}
use Rattle.ftl_model.specs.layout.AttributeGrammar.{AttributeGrammar}
use Rattle.ftl_model.specs.layout.Tree.{Forest}
use Rattle.ftl_visit.specs.declared.visits.visit_op.VisitOp.{VisitOp}
use Rattle.ftl_visit.specs.declared.visits.visit_op.VisitOp.TheVariants.{Begin, Rule, Visit}
use Rattle.ftl_cursors.specs.visits.Places.{IsPlace, left}
use Rattle.ftl_cursors.specs.visits.VisitSteps.{steps_of_op}
use Rattle.ftl_cursors.specs.declared.visits.place.Place.{Place}
use Rattle.ftl_cursors.specs.declared.visits.place.Tables.{Tables}

-- what comes after the first entry
abbrev pub after_first : List VisitOp → List VisitOp
after_first ops = take (length ops - 1) (drop 1 ops)

-- with the first it is the list
pub first_and_rest : (ops : List VisitOp) (d : VisitOp) → 0 < length ops → ops ≡ get_or ops 0 d ∷ after_first ops
first_and_rest [] d some = absurd (let z : ⊥ = omega arith in z)
first_and_rest (op ∷ ops) d some =
    ap (λ (rest : List VisitOp). op ∷ rest)
    (sym (ap (λ n. take n ops) (let z : suc (length ops) - 1 ≡ length ops = omega arith in z) ∙ take-length ops))

-- the list has its entries
pub in_rest : (ops : List VisitOp) (op : VisitOp) → Contains (after_first ops) op → Contains ops op
in_rest [] op there = absurd (nothing_in op there)
in_rest (first ∷ ops) op there =
    later_in first op ops
    (subst (λ rest. Contains rest op)
    (ap (λ n. take n ops) (let z : suc (length ops) - 1 ≡ length ops = omega arith in z) ∙ take-length ops) there)

-- an operation that is no rule has no steps
pub no_steps : (g : AttributeGrammar) (t : Forest) (node : ℕ) (op : VisitOp) → ((r : ℕ) → op ≡ Rule r → ⊥)
    → steps_of_op g t node op ≡ []
no_steps g t node (Rule r) other = absurd (other r refl)
no_steps g t node (Begin c) other = refl
no_steps g t node (Visit c) other = refl

-- a place at which as much is left
pub record IsAsFar (x : Tables) (old new : Place) : Type 0 where
  pub place : IsPlace x new
  pub left : left x new ≡ left x old
