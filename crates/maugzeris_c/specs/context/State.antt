-- What a C program made, as the calls see it.
use Rattle.std.specs.Prelude.{◌≡◌, ℕ, List, [], Option, None, Some, slice_get, slice_set, unwrap_or}
use Rattle.ftl_meaning.specs.faults.Checked.{CheckedGrammar}
use Rattle.ftl_nest_check.specs.check.NestAccepted.{AcceptedNestingSchedule}
use Rattle.maugzeris_c.specs.declared.context.open_page.OpenPage.{OpenPage}

-- The grammars, the rules and the pages, each by its number from 0 on; a page that was freed leaves its number empty.
-- And the line of the last refusal, which is empty where there was none.
pub record ContextState : Type 0 where
  pub grammars : List CheckedGrammar
  pub rules : List AcceptedNestingSchedule
  pub pages : List (Option OpenPage)
  pub refusal : List ℕ

-- nothing was made yet
abbrev pub nothing : ContextState
nothing = record { grammars = []; rules = []; pages = []; refusal = [] }

-- the page of a number, where it was made and not freed
abbrev pub page_of : ContextState → (page : ℕ) → Option OpenPage
page_of c page = unwrap_or (slice_get c.pages page) None

-- ---- what calls change

-- nothing
abbrev pub DoesNothing : (old new : ContextState) → Type 0
DoesNothing old new = new ≡ old

-- the line of the last refusal is this one, and all else stays
abbrev pub KeepsLine : (old new : ContextState) → (line : List ℕ) → Type 0
KeepsLine old new line = new ≡ record old { refusal = line }

-- the page of this number is another one, and all else stays
abbrev pub ChangesPage : (old new : ContextState) → (page : ℕ) → OpenPage → Type 0
ChangesPage old new page is = new ≡ record old { pages = slice_set old.pages page (Some is) }

-- the number has no page any more, and all else stays
abbrev pub FreesPage : (old new : ContextState) → (page : ℕ) → Type 0
FreesPage old new page = new ≡ record old { pages = slice_set old.pages page None }
