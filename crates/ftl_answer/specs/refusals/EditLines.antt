-- The lines that refuse edits.
use Rattle.std.specs.Prelude.{ℕ, List, [], ◌++◌, codes}
use Rattle.std.specs.Fmt.{decimal}
use Rattle.ftl_page.specs.declared.sections.fault.Section.TheVariants.{Edits}
use Rattle.ftl_edits.specs.declared.meaning.fault.EditFault.{EditFault}
use Rattle.ftl_edits.specs.declared.meaning.fault.EditFault.TheVariants as fault
use Rattle.ftl_answer.specs.refusals.TextLines.{syntax_at}

-- an edit, and what its node lacks
abbrev pub edit_lacks : (edit : ℕ) → (what : List ℕ) → List ℕ
edit_lacks n what = codes "refused edits: edit " ++ (decimal n ++ what)

-- the first fault of edits
abbrev pub edit_line : EditFault → List ℕ
edit_line (fault.Syntax at) = syntax_at Edits at
edit_line (fault.TooMany count) = codes "refused edits: too many: " ++ decimal count
edit_line (fault.UnknownNode n) = edit_lacks n (codes " has no node")
edit_line (fault.UnknownInput n) = edit_lacks n (codes " has no input")
edit_line fault.OutOfMemory = []
