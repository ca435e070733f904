-- What the tests of early steps tell.
use Rattle.std.proofs.Common.{◌≡◌, ◌⊎◌, ◌<◌, true, Bool, refl, arith}
use Rattle.std.specs.Bool.{Decides}
use Rattle.std.proofs.lemmas.Bool.Decides.{Decides-and, Decides-eqb, Decides-ltb, Decides-or}
use Rattle.ftl_model.specs.layout.AttributeGrammar.{AttributeGrammar}
use Rattle.ftl_model.specs.layout.Solves.{Instance}
use Rattle.ftl_model.specs.layout.Tree.{Forest}
use Rattle.ftl_order.specs.orders.LegalOrder.{turn_of}
use Rattle.ftl_order.specs.orders.Schedule.{IsOnePass, PassKind, Placing, bottomup, inorder, topdown}
use Rattle.ftl_example.specs.orders.EarlyVisits.{is_early, is_near}
use Rattle.ftl_nests.specs.Nests.{NestPlacing}
use Rattle.ftl_regions.specs.pairs.NestReads.{is_bottomup, is_topdown}
use Rattle.ftl_example.specs.nests.orders.EarlyWithNests.{is_early_in, is_early_with_nests}

itself : (b : Bool) → Decides b (b ≡ true)
itself b = ((λ e. e), (λ e. e))

pub topdown_is : (kind : PassKind) → is_topdown kind ≡ true → kind ≡ topdown
topdown_is topdown e = refl
topdown_is bottomup e = absurd (let z : ⊥ = grind arith in z)
topdown_is inorder e = absurd (let z : ⊥ = grind arith in z)

pub bottomup_is : (kind : PassKind) → is_bottomup kind ≡ true → kind ≡ bottomup
bottomup_is topdown e = absurd (let z : ⊥ = grind arith in z)
bottomup_is bottomup e = refl
bottomup_is inorder e = absurd (let z : ⊥ = grind arith in z)

pub not_both : (kind : PassKind) → kind ≡ topdown → kind ≡ bottomup → ⊥
not_both topdown e f = let z : ⊥ = grind (arith, f) in z
not_both bottomup e f = let z : ⊥ = grind (arith, e) in z
not_both inorder e f = let z : ⊥ = grind (arith, e) in z

module _ (g : AttributeGrammar) (t : Forest) (r i : Instance) where
  -- of an earlier stage, or near before in one pass
  pub early_tells : (at : Placing)
      → Decides (is_early g at t r i)
      (((at i.attribute).stage < (at r.attribute).stage)
      ⊎ (IsOnePass (at i.attribute) (at r.attribute)
      × (is_near (at r.attribute).kind t (turn_of g i).visit (turn_of g r).visit ≡ true)))
  early_tells at =
      Decides-or _ _ (Decides-ltb (at i.attribute).stage (at r.attribute).stage)
      (Decides-and _ _
      (Decides-and _ _ (Decides-eqb (at i.attribute).stage (at r.attribute).stage)
      (Decides-eqb (at i.attribute).pass (at r.attribute).pass))
      (itself (is_near (at r.attribute).kind t (turn_of g i).visit (turn_of g r).visit)))

  -- of an earlier outer stage, or early in one outer pass
  pub nest_early_tells : (at : NestPlacing)
      → Decides (is_early_with_nests g at t r i)
      (((at.outer i.attribute).stage < (at.outer r.attribute).stage)
      ⊎ (IsOnePass (at.outer i.attribute) (at.outer r.attribute)
      × (is_early_in g at t (at.outer r.attribute).kind (at.host i.attribute) (at.host r.attribute) r i ≡ true)))
  nest_early_tells at =
      Decides-or _ _ (Decides-ltb (at.outer i.attribute).stage (at.outer r.attribute).stage)
      (Decides-and _ _
      (Decides-and _ _ (Decides-eqb (at.outer i.attribute).stage (at.outer r.attribute).stage)
      (Decides-eqb (at.outer i.attribute).pass (at.outer r.attribute).pass))
      (itself (is_early_in g at t (at.outer r.attribute).kind (at.host i.attribute) (at.host r.attribute) r i)))
