-- The steps of the passes of a schedule with each computed attribute once.
use Rattle.std.proofs.Common.{◌≡◌, ℕ, zero, suc, ◌≤◌, refl, subst, arith, Contains}
use Rattle.ftl_model.proofs.lists.Listed.{counted_in}
use Rattle.ftl_model.specs.layout.AttributeGrammar.{AttributeGrammar, Sort, inherited, input, local, synthesized}
use Rattle.ftl_model.specs.layout.Path.{Has, Path, down, top}
use Rattle.ftl_model.specs.layout.Solves.{Instance, rule_node}
use Rattle.ftl_model.specs.layout.Tree.{Forest}
use Rattle.ftl_model.specs.layout.TreeOf.{IsTreeOf}
use Rattle.ftl_model.proofs.layout.Standing.{has_parent}
use Rattle.ftl_order.specs.orders.Lawful.{IsLawful}
use Rattle.ftl_order.specs.orders.LegalOrder.{IsStep, turn_of}
use Rattle.ftl_order.specs.orders.Schedule.{EachStandsOnce, IsOnePass, Schedule, entries, pass_at, placing_of}
use Rattle.ftl_items.specs.stage_items.Items.{pass_place}
use Rattle.ftl_items.specs.stage_items.VisitLaws.{StandsOnceAtMost}
use Rattle.ftl_items.proofs.stage_items.Passes.{listed_at, many, stage_here}
use Rattle.ftl_items.proofs.stage_items.VisitLaws.{attribute_of_step}

-- the node at which a rule runs is there
runs_at : (t : Forest) (sort : Sort) (p : Path) → Has t p → Has t (rule_node sort p)
runs_at t inherited (down c k p) h = has_parent t c k p h
runs_at t inherited top h = h
runs_at t input p h = h
runs_at t synthesized p h = h
runs_at t local p h = h

module _ (g : AttributeGrammar) (s : Schedule) (t : Forest) (law : IsLawful g) (once : EachStandsOnce g s)
    (fits : IsTreeOf g t) (stage : ℕ) where
  pub many_of : (i : Instance) → IsStep g t i → many i.attribute (entries s) ≡ 1
  many_of i step = once i.attribute (attribute_of_step g law t fits i step) step.1

  pub pass_of_step : (m : ℕ) (i : Instance) → IsStep g t i → Contains (pass_at s stage m).attributes i.attribute
      → IsOnePass (placing_of s i.attribute) (pass_place stage m)
  pass_of_step m i step there =
      let e = many_of i step in
      let here = stage_here s stage m i.attribute (omega (arith, e)) there in
      (here.stage, here.pass)

  -- the list of its pass in this stage has a step's attribute
  pub listed_here : (m : ℕ) (i : Instance) → IsStep g t i → IsOnePass (placing_of s i.attribute) (pass_place stage m)
      → Contains (pass_at s stage m).attributes i.attribute
  listed_here m i step pass =
      subst (λ n. Contains (pass_at s stage n).attributes i.attribute) pass.1
      (subst (λ n. Contains (pass_at s n (placing_of s i.attribute).pass).attributes i.attribute) pass.0
      (listed_at s i.attribute (many_of i step)).there)

  pub visit_there : (i : Instance) → IsStep g t i → Has t (turn_of g i).visit
  visit_there i step = runs_at t (g.sort i.attribute) i.node step.0.0

  pub once_at_most : (m : ℕ) → StandsOnceAtMost g (pass_at s stage m).attributes
  once_at_most m a known computed = few (many a (pass_at s stage m).attributes) refl
    where
      few : (n : ℕ) → many a (pass_at s stage m).attributes ≡ n → many a (pass_at s stage m).attributes ≤ 1
      few zero e = omega (arith, e)
      few (suc n) e =
          let c = once a known computed in
          (stage_here s stage m a (omega (arith, c))
          (counted_in (pass_at s stage m).attributes a (omega (arith, e)))).few
