-- Passes of the worked grammar of rows and cells, typed by hand.
use Rattle.std.specs.Prelude.{ℕ, List}
use Rattle.ftl_schedule.specs.declared.stages.types.Pass.{Pass}
use Rattle.ftl_schedule.specs.declared.syntax.kind.PassKind.{PassKind}

-- a pass of this kind with this list
abbrev pub pass : PassKind → (attributes : List ℕ) → Pass
pass kind attributes = record { kind = kind; attrs = attributes }
