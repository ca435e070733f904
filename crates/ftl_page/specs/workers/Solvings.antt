-- How a page is solved, by the texts of the options that say it.
use Rattle.std.specs.Prelude.{ℕ, List, Option, Some, None}
use Rattle.std.specs.Option.{option_and_then, option_map}
use Rattle.ftl_model.specs.layout.Limits.{most_grain, most_workers}
use Rattle.ftl_page.specs.workers.Numerals.{number_of}
use Rattle.ftl_page.specs.declared.workers.solving.Solving.{Solving}

-- the number of an option: from 1 to the greatest, or the default where the option does not stand
abbrev pub number_by : (greatest default : ℕ) → Option (List ℕ) → Option ℕ
number_by greatest default None = Some default
number_by greatest default (Some text) = number_of greatest text

-- how a page is solved
abbrev pub solving : (workers grain : ℕ) → Solving
solving workers grain = record { workers = workers; grain = grain }

-- how a page is solved: by at least one worker, with at least one node a subtree
abbrev pub solving_by : (workers grain : Option (List ℕ)) → Option Solving
solving_by workers grain =
    option_and_then (λ n. option_map (solving n) (number_by most_grain 64 grain)) (number_by most_workers 1 workers)
