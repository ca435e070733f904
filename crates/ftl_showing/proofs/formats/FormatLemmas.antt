-- Pages in canonical form, from their parts.
use Rattle.std.proofs.Common.{ℕ, Bool, List, Option, Some, None}
use Rattle.std.specs.Prelude.{Result, Ok, Err, IfOk, IfSome}
use Rattle.ftl_nest_check.specs.check.NestAccepted.{AcceptedNestingSchedule}
use Rattle.ftl_page_printing.specs.declared.pages.parts.Parts.{Parts}
use Rattle.ftl_page_printing.specs.pages.Pages.{IsPageOf}
use Rattle.maugzeris.specs.pages.PageState.{PageState}
use Rattle.ftl_showing.specs.formats.Formats.{AreCanonical, IsFormatOf}

-- a page of parts with the canonical texts is in canonical form
pub format_of : {X E : Type 0} (bytes : X → List ℕ) (is_named : Bool) (given : List ℕ) (has_schedule : Bool)
    (a : AcceptedNestingSchedule) (p : PageState) (parts : Parts) (r : Result (Option X) E)
    → AreCanonical is_named given has_schedule a p parts
    → IfOk r (λ (o : Option X). IfSome o (λ t. IsPageOf parts (bytes t)))
    → IfOk r (λ (o : Option X). IfSome o (λ t. IsFormatOf is_named given has_schedule a p (bytes t)))
format_of bytes is_named given has_schedule a p parts (Ok None) canonical is = is
format_of bytes is_named given has_schedule a p parts (Ok (Some t)) canonical is =
    record { parts = parts; canonical = canonical; page = is }
format_of bytes is_named given has_schedule a p parts (Err e) canonical is = is
