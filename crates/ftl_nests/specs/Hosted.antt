-- Which step must precede which, where passes have nests, and which directly.
use Rattle.std.specs.Prelude.{◌≡◌, ◌⊎◌, ℕ, ◌<◌, ◌==◌, if◌then◌else◌, Option, None, Some}
use Rattle.ftl_model.specs.layout.AttributeGrammar.{AttributeGrammar}
use Rattle.ftl_model.specs.layout.Path.{AtOrAbove, Has, Path, class_at, down, parent_of, top}
use Rattle.ftl_model.specs.layout.Solves.{Instance}
use Rattle.ftl_model.specs.layout.Tree.{Forest}
use Rattle.ftl_order.specs.orders.LegalOrder.{DirectlyFirstInPass, FirstInPass, Turn, TurnPrecedes}
use Rattle.ftl_order.specs.orders.LegalOrder.{TurnPrecedesDirectly, turn_of}
use Rattle.ftl_order.specs.orders.Schedule.{IsOnePass, PassKind, bottomup, topdown}
use Rattle.ftl_nests.specs.Nests.{NestPlacing}

-- a node of this class whose subtree holds the node
pub record IsHost (t : Forest) (class : ℕ) (host node : Path) : Type 0 where
  pub there : Has t host
  pub of_class : class_at t host ≡ class
  pub holds : AtOrAbove host node

-- the nearest node of a class at or above a node; the root where there is none
abbrev pub nearest : Forest → (class : ℕ) → Path → Path
nearest t class top = top
nearest t class (down c k p) = if class_at t (down c k p) == class then down c k p else nearest t class p

-- Of one outer pass, by the nests that the steps are hosted in. Neither: as without nests. Both: at one host, and in
-- the inner stages as without nests. Only the second: in a topdown pass, and the first runs at its host or above. Only
-- the first: in a bottomup pass, and the second runs at its host or above.
abbrev pub HostedFirst : Forest → Option ℕ → Option ℕ → PassKind → NestPlacing → Turn → Turn → Type 0
HostedFirst t None None kind at x y = FirstInPass kind at.outer x y
HostedFirst t (Some a) (Some b) kind at x y =
    (host : Path) × IsHost t a host x.visit × IsHost t b host y.visit × TurnPrecedes at.inner x y
HostedFirst t None (Some b) kind at x y =
    (kind ≡ topdown) × (host : Path) × IsHost t b host y.visit × AtOrAbove x.visit host
HostedFirst t (Some a) None kind at x y =
    (kind ≡ bottomup) × (host : Path) × IsHost t a host x.visit × AtOrAbove y.visit host

-- in an earlier outer stage, or in one outer pass and before it there
abbrev pub TurnPrecedesWithNests : Forest → NestPlacing → Turn → Turn → Type 0
TurnPrecedesWithNests t at x y =
    ((at.outer x.rule.attribute).stage < (at.outer y.rule.attribute).stage)
    ⊎ (IsOnePass (at.outer x.rule.attribute) (at.outer y.rule.attribute)
    × HostedFirst t (at.host x.rule.attribute) (at.host y.rule.attribute) (at.outer y.rule.attribute).kind at x y)

-- step i must come before step j
abbrev pub MustPrecedeWithNests : AttributeGrammar → Forest → NestPlacing → Instance → Instance → Type 0
MustPrecedeWithNests g t at i j = TurnPrecedesWithNests t at (turn_of g i) (turn_of g j)

-- ---- directly

-- The same with the nearest visits alone. Where only the second is hosted it runs at the host itself, and the first
-- there or at its parent; where only the first is, the second runs at the host, and the first there or at a kid.
abbrev pub HostedDirectlyFirst : Forest → Option ℕ → Option ℕ → PassKind → NestPlacing → Turn → Turn → Type 0
HostedDirectlyFirst t None None kind at x y = DirectlyFirstInPass kind at.outer x y
HostedDirectlyFirst t (Some a) (Some b) kind at x y =
    (host : Path) × IsHost t a host x.visit × IsHost t b host y.visit × TurnPrecedesDirectly at.inner x y
HostedDirectlyFirst t None (Some b) kind at x y =
    (kind ≡ topdown) × IsHost t b y.visit y.visit
    × ((x.visit ≡ y.visit) ⊎ (parent_of y.visit ≡ Some x.visit))
HostedDirectlyFirst t (Some a) None kind at x y =
    (kind ≡ bottomup) × IsHost t a y.visit x.visit
    × ((x.visit ≡ y.visit) ⊎ (parent_of x.visit ≡ Some y.visit))

-- in an earlier outer stage, or in one outer pass and directly before it there
abbrev pub TurnPrecedesDirectlyWithNests : Forest → NestPlacing → Turn → Turn → Type 0
TurnPrecedesDirectlyWithNests t at x y =
    ((at.outer x.rule.attribute).stage < (at.outer y.rule.attribute).stage)
    ⊎ (IsOnePass (at.outer x.rule.attribute) (at.outer y.rule.attribute)
    × HostedDirectlyFirst t (at.host x.rule.attribute) (at.host y.rule.attribute) (at.outer y.rule.attribute).kind at x y)

-- of two steps
abbrev pub PrecedesDirectlyWithNests : AttributeGrammar → Forest → NestPlacing → Instance → Instance → Type 0
PrecedesDirectlyWithNests g t at i j = TurnPrecedesDirectlyWithNests t at (turn_of g i) (turn_of g j)
