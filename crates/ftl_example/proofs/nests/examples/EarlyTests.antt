-- Whether a step is early for another, by the places of what they compute.
use Rattle.std.proofs.Common.{◌≡◌, ◌≤◌, ◌==◌, ◌&&◌, ◌||◌, nat_lt, ℕ, Bool, true, false, sym, ◌∙◌, ap, ap₂, eq-eqb}
use Rattle.std.proofs.Common.{Option, None, Some}
use Rattle.std.proofs.lemmas.Bool.{and_from, le-ltb}
use Rattle.ftl_model.specs.layout.AttributeGrammar.{AttributeGrammar}
use Rattle.ftl_model.specs.layout.Path.{node_at}
use Rattle.ftl_model.specs.layout.Solves.{Instance}
use Rattle.ftl_model.specs.layout.Tree.{Forest}
use Rattle.ftl_model.specs.layout.TreeOf.{IsTreeOf}
use Rattle.ftl_order.specs.declared.steps.step.Step.{Step}
use Rattle.ftl_order.specs.faults.OrderedReads.{is_one_pass}
use Rattle.ftl_order.specs.orders.Lawful.{IsLawful}
use Rattle.ftl_order.specs.orders.LegalOrder.{turn_of}
use Rattle.ftl_order.specs.orders.Schedule.{PassKind, SchedulePlace}
use Rattle.ftl_order.specs.steps.Steps.{IsStepOf, target_of}
use Rattle.ftl_example.specs.orders.EarlyVisits.{is_early, is_near, is_over}
use Rattle.ftl_example.proofs.examples.StepTurns.{target_visit}
use Rattle.ftl_nests.specs.Hosted.{nearest}
use Rattle.ftl_nests.specs.Nests.{NestPlacing}
use Rattle.ftl_regions.specs.pairs.NestReads.{is_bottomup, is_topdown}
use Rattle.ftl_example.specs.nests.examples.EarlySteps.{is_early_step}
use Rattle.ftl_example.specs.nests.orders.EarlyWithNests.{is_early_in}

-- an answer that is the second test where the first holds, and that of the first where it fails
pub and_told : (a b told : Bool) → a ≡ true → told ≡ b → told ≡ (a && b)
and_told true b told holds is = is
and_told false b told holds is = absurd (let z : ⊥ = cc (holds) in z)

pub and_false : (a b told : Bool) → told ≡ a → told ≡ false → told ≡ (a && b)
and_false true b told is fails = absurd (let z : ⊥ = cc (is, fails) in z)
and_false false b told is fails = fails

module _ (g : AttributeGrammar) (t : Forest) (at : NestPlacing) (r x : Step) where
  abbrev reader : Instance
  reader = target_of g t r

  abbrev early : Instance
  early = target_of g t x

  -- whether it is, in one outer pass of this kind
  abbrev pub InPass : PassKind → Bool
  InPass kind = is_early_in g at t kind (at.host early.attribute) (at.host reader.attribute) reader early

  pub early_in_pass : (place late : SchedulePlace) → place ≡ at.outer early.attribute → late ≡ at.outer reader.attribute
      → (told : Bool) → told ≡ InPass late.kind
      → late.stage ≤ place.stage → place.stage ≡ late.stage → place.pass ≡ late.pass
      → told ≡ is_early_step g at t r x
  early_in_pass place late is_place is_late told is low stage pass =
      is
      ∙ sym
      (ap (λ (y : SchedulePlace). nat_lt y.stage (at.outer reader.attribute).stage
      || (is_one_pass y (at.outer reader.attribute) && InPass (at.outer reader.attribute).kind)) (sym is_place)
      ∙ ap (λ (y : SchedulePlace). nat_lt place.stage y.stage || (is_one_pass place y && InPass y.kind)) (sym is_late)
      ∙ ap (λ b. b || (is_one_pass place late && InPass late.kind)) (le-ltb place.stage late.stage low)
      ∙ ap (λ b. b && InPass late.kind)
      (and_from (place.stage == late.stage) (place.pass == late.pass) (eq-eqb place.stage late.stage stage)
      (eq-eqb place.pass late.pass pass)))

  -- by the nests that the steps stand in
  pub by_hosts : (kind : PassKind) (hx hr : Option ℕ) → hx ≡ at.host early.attribute → hr ≡ at.host reader.attribute
      → is_early_in g at t kind hx hr reader early ≡ InPass kind
  by_hosts kind hx hr is_x is_r = ap₂ (λ a b. is_early_in g at t kind a b reader early) is_x is_r

  module _ (law : IsLawful g) (fits : IsTreeOf g t) (is_r : IsStepOf g t r) (is_x : IsStepOf g t x) where
    at_r : (turn_of g reader).visit ≡ node_at t r.node
    at_r = target_visit g law t fits r is_r

    at_x : (turn_of g early).visit ≡ node_at t x.node
    at_x = target_visit g law t fits x is_x

    pub neither : (kind : PassKind) → is_near kind t (node_at t x.node) (node_at t r.node)
        ≡ is_early_in g at t kind None None reader early
    neither kind = ap₂ (λ p q. is_near kind t p q) (sym at_x) (sym at_r)

    pub reader_alone : (kind : PassKind) (k : ℕ)
        → (is_topdown kind && is_over t (node_at t x.node) (node_at t r.node))
        ≡ is_early_in g at t kind None (Some k) reader early
    reader_alone kind k = ap₂ (λ p q. is_topdown kind && is_over t p q) (sym at_x) (sym at_r)

    pub early_alone : (kind : PassKind) (h : ℕ)
        → (is_bottomup kind && is_over t (node_at t r.node) (node_at t x.node))
        ≡ is_early_in g at t kind (Some h) None reader early
    early_alone kind h = ap₂ (λ p q. is_bottomup kind && is_over t p q) (sym at_r) (sym at_x)

    pub both : (kind : PassKind) (h k host : ℕ) → node_at t host ≡ nearest t k (node_at t r.node)
        → (is_over t (node_at t host) (node_at t x.node) && is_early g at.inner t reader early)
        ≡ is_early_in g at t kind (Some h) (Some k) reader early
    both kind h k host is =
        ap₂ (λ p q. is_over t p q && is_early g at.inner t reader early)
        (is ∙ ap (nearest t k) (sym at_r)) (sym at_x)
