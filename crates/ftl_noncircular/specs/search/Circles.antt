-- What the check for circular vertices answers.
use Rattle.std.specs.Prelude.{◌≡◌, ℕ, Option, Some, None, Result, Ok, Err}
use Rattle.ftl_deps.specs.reads.Meant.{meant}
use Rattle.ftl_meaning.specs.faults.Checked.{CheckedGrammar}
use Rattle.ftl_noncircular.specs.grammars.FirstCircular.{IsFirstCircular}
use Rattle.ftl_noncircular.specs.grammars.Noncircular.{IsNoncircular, Vertex, of_child, of_self}
use Rattle.ftl_noncircular.specs.declared.search.fault.CircularFault.{CircularFault}
use Rattle.ftl_noncircular.specs.declared.search.fault.CircularFault.TheVariants as fault

-- the vertex of an attribute of the node, or of the kids in a child
abbrev pub vertex_at : (child : Option ℕ) → (attribute : ℕ) → Vertex
vertex_at None a = of_self a
vertex_at (Some c) a = of_child c a

-- the grammar is the one that was asked about, and noncircular; or this is its first circular vertex; where the answer
-- is want of memory, nothing is said
abbrev pub TellsCircles : CheckedGrammar → Result CheckedGrammar CircularFault → Type 0
TellsCircles c (Ok found) = (found ≡ c) × IsNoncircular (meant c)
TellsCircles c (Err (fault.Circular class child attr)) = IsFirstCircular (meant c) class (vertex_at child attr)
TellsCircles c (Err fault.OutOfMemory) = Unit {0}
