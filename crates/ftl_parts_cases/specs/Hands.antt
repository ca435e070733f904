-- Hands in a list, where those that were given up leave a hole.
use Rattle.std.specs.Prelude.{List, Option, IfSome}
use Rattle.std.specs.List.{All}
use Rattle.ftl_cells.specs.shared.Calls.{HandModel}

-- each hand that is there is one of these
abbrev pub AreAll : (HandModel → Type 0) → List (Option HandModel) → Type 0
AreAll made hands = All (λ h. IfSome h made) hands
