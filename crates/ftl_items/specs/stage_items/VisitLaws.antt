-- What a visit has: the steps of its list's attributes that run at its node, each once.
use Rattle.std.specs.Prelude.{◌≡◌, ◌≢◌, ◌↔◌, ℕ, ◌<◌, ◌≤◌, ◌==◌, List, Contains, count_by}
use Rattle.ftl_model.specs.lists.Lists.{AreDistinct}
use Rattle.ftl_model.specs.layout.AttributeGrammar.{AttributeGrammar, input}
use Rattle.ftl_model.specs.layout.Path.{Has, Path}
use Rattle.ftl_model.specs.layout.Solves.{Instance}
use Rattle.ftl_model.specs.layout.Tree.{Forest}
use Rattle.ftl_model.specs.layout.TreeOf.{IsTreeOf}
use Rattle.ftl_order.specs.orders.Lawful.{IsLawful}
use Rattle.ftl_order.specs.orders.LegalOrder.{IsStep, turn_of}
use Rattle.ftl_items.specs.stage_items.Visits.{visit}

-- of each tree of a lawful grammar
abbrev pub OnTrees : (AttributeGrammar → Forest → Type 0) → Type 0
OnTrees P = (g : AttributeGrammar) (t : Forest) → IsLawful g → IsTreeOf g t → P g t

-- a visit has the steps of its list's attributes that run at its node, and no other
abbrev pub VisitsHaveTheirSteps : AttributeGrammar → Forest → Type 0
VisitsHaveTheirSteps g t =
    (attributes : List ℕ) (p : Path) → Has t p → (i : Instance)
    → Contains (visit g t attributes p) i
    ↔ (IsStep g t i × Contains attributes i.attribute × ((turn_of g i).visit ≡ p))

-- a list has each computed attribute of the grammar once at most
abbrev pub StandsOnceAtMost : AttributeGrammar → List ℕ → Type 0
StandsOnceAtMost g attributes =
    (a : ℕ) → a < g.attribute_count → g.sort a ≢ input → count_by (λ b. b == a) attributes ≤ 1

-- then it has each step once
abbrev pub VisitsHaveStepsOnce : AttributeGrammar → Forest → Type 0
VisitsHaveStepsOnce g t =
    (attributes : List ℕ) (p : Path) → StandsOnceAtMost g attributes → Has t p → AreDistinct (visit g t attributes p)
