-- Pages in canonical form.
use Rattle.std.specs.Prelude.{◌≡◌, ℕ, Bool, true, false, List, Option, Some, None, option_map, string_bytes}
use Rattle.ftl_document.specs.faults.WrittenOf.{written_of}
use Rattle.ftl_document_printing.specs.text.DocumentText.{document_text}
use Rattle.ftl_grammar.specs.printing.GrammarTokens.{grammar_text}
use Rattle.ftl_nest_check.specs.check.NestAccepted.{AcceptedNestingSchedule}
use Rattle.ftl_nest_text.specs.printing.NestWritten.{nest_written_of}
use Rattle.ftl_nest_text.specs.text.NestText.{nesting_schedule_text}
use Rattle.ftl_page_printing.specs.declared.pages.parts.Parts.{Parts}
use Rattle.ftl_page_printing.specs.pages.Pages.{IsPageOf}
use Rattle.maugzeris.specs.pages.PageState.{PageState}

-- the text of the grammar as it is where it has a name, else the canonical one
abbrev pub grammar_part : (is_named : Bool) → (given : List ℕ) → AcceptedNestingSchedule → List ℕ
grammar_part false given r = grammar_text r.checked.grammar
grammar_part true given r = given

-- the canonical text of the schedule; none where that is the automatic one
abbrev pub schedule_part : (has_schedule : Bool) → AcceptedNestingSchedule → Option (List ℕ)
schedule_part false r = None
schedule_part true r = Some (nesting_schedule_text (nest_written_of r.checked.grammar r.schedule))

-- the parts have the canonical texts of what was read
pub record AreCanonical (is_named : Bool) (given : List ℕ) (has_schedule : Bool) (r : AcceptedNestingSchedule)
    (p : PageState) (parts : Parts) : Type 0 where
  pub grammar : string_bytes parts.grammar ≡ grammar_part is_named given r
  pub schedule : option_map string_bytes parts.schedule ≡ schedule_part has_schedule r
  pub document : string_bytes parts.document ≡ document_text (written_of p.checked.grammar p.tree)

-- the text is that of a page whose sections say what the canonical texts do
pub record IsFormatOf (is_named : Bool) (given : List ℕ) (has_schedule : Bool) (r : AcceptedNestingSchedule)
    (p : PageState) (text : List ℕ) : Type 0 where
  pub parts : Parts
  pub canonical : AreCanonical is_named given has_schedule r p parts
  pub page : IsPageOf parts text
