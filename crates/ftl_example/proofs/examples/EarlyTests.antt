-- Whether a step is early in the pass of another, by the places of what they compute.
use Rattle.std.proofs.Common.{◌≡◌, ◌≤◌, ◌==◌, ◌&&◌, ◌||◌, nat_lt, Bool, sym, ◌∙◌, ap, eq-eqb}
use Rattle.std.proofs.lemmas.Bool.{and_from, le-ltb}
use Rattle.ftl_model.specs.layout.AttributeGrammar.{AttributeGrammar}
use Rattle.ftl_model.specs.layout.Path.{Path, node_at}
use Rattle.ftl_model.specs.layout.Tree.{Forest}
use Rattle.ftl_model.specs.layout.TreeOf.{IsTreeOf}
use Rattle.ftl_order.specs.declared.steps.step.Step.{Step}
use Rattle.ftl_order.specs.orders.Lawful.{IsLawful}
use Rattle.ftl_order.specs.orders.LegalOrder.{turn_of}
use Rattle.ftl_order.specs.orders.Schedule.{Placing, SchedulePlace}
use Rattle.ftl_order.specs.steps.Steps.{IsStepOf, target_of}
use Rattle.ftl_example.specs.examples.EarlySteps.{is_early_step}
use Rattle.ftl_example.specs.orders.EarlyVisits.{is_near}
use Rattle.ftl_example.proofs.examples.StepTurns.{target_visit}

abbrev early_by : Forest → (x r : SchedulePlace) → (p q : Path) → Bool
early_by t x r p q =
    nat_lt x.stage r.stage || ((x.stage == r.stage && x.pass == r.pass) && is_near r.kind t p q)

module _ (g : AttributeGrammar) (law : IsLawful g) (t : Forest) (fits : IsTreeOf g t) (at : Placing) (r x : Step)
    (is_r : IsStepOf g t r) (is_x : IsStepOf g t x) (place late : SchedulePlace)
    (is_place : place ≡ at (target_of g t x).attribute) (is_late : late ≡ at (target_of g t r).attribute) where
  tests : is_early_step g at t r x ≡ early_by t place late (node_at t x.node) (node_at t r.node)
  tests =
      ap
      (λ (y : SchedulePlace).
      early_by t y (at (target_of g t r).attribute) (turn_of g (target_of g t x)).visit
      (turn_of g (target_of g t r)).visit)
      (sym is_place)
      ∙ ap
      (λ (y : SchedulePlace).
      early_by t place y (turn_of g (target_of g t x)).visit (turn_of g (target_of g t r)).visit)
      (sym is_late)
      ∙ ap (λ (p : Path). early_by t place late p (turn_of g (target_of g t r)).visit) (target_visit g law t fits x is_x)
      ∙ ap (λ (q : Path). early_by t place late (node_at t x.node) q) (target_visit g law t fits r is_r)

  pub early_in_pass : (near : Bool) → near ≡ is_near late.kind t (node_at t x.node) (node_at t r.node)
      → late.stage ≤ place.stage → place.stage ≡ late.stage → place.pass ≡ late.pass
      → near ≡ is_early_step g at t r x
  early_in_pass near is low stage pass =
      is
      ∙ sym
      (tests
      ∙ ap
      (λ b.
      b || ((place.stage == late.stage && place.pass == late.pass)
      && is_near late.kind t (node_at t x.node) (node_at t r.node)))
      (le-ltb place.stage late.stage low)
      ∙ ap (λ b. b && is_near late.kind t (node_at t x.node) (node_at t r.node))
      (and_from (place.stage == late.stage) (place.pass == late.pass) (eq-eqb place.stage late.stage stage)
      (eq-eqb place.pass late.pass pass)))
