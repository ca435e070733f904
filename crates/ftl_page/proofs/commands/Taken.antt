-- What a command of `clap` takes.
use Rattle.std.proofs.Common.{◌≡◌, ◌==◌, ◌&&◌, Bool, true, false, if◌then◌else◌, List, [], length, Option, Some, None, Result, Ok, Err, refl, sym, ◌∙◌, ap}
use Rattle.clap.specs.Words.{App, Row, Text, fault_of, is_simple, is_simple_and_free, matches_of}
use Rattle.ftl_page.specs.commands.Commands.{answer_by}
use Rattle.ftl_page.specs.commands.Options.{taken}
use Rattle.std.specs.Option.{option_and_then}
use Rattle.ftl_page.specs.declared.commands.command.Command.{Command}
use Rattle.ftl_page.specs.declared.commands.command.CommandFault.{CommandFault}

pub taken_ok : (app : App) (words : List Text) (rows : List Row) → fault_of app words ≡ [] → rows ≡ matches_of app words
    → answer_by (taken app words) ≡ Ok rows
taken_ok app words rows none same =
    ap (λ f. answer_by (if length f == 0 then Some (matches_of app words) else None)) none ∙ ap Ok (sym same)

left_of : (a b : Bool) → a && b ≡ true → a ≡ true
left_of true b h = refl
left_of false b h = h

pub simple_of : (app : App) → is_simple_and_free app ≡ true → is_simple app ≡ true
simple_of app h = left_of (is_simple app) _ h

-- what was answered, or the default
abbrev answered : List Row → Result (List Row) CommandFault → List Row
answered d (Ok rows) = rows
answered d (Err e) = d

-- where the command takes the words
pub with_taken : (f : List Row → Option Command) (o : Option (List Row)) (rows : List Row) → answer_by o ≡ Ok rows
    → answer_by (option_and_then f o) ≡ answer_by (f rows)
with_taken f None rows is = absurd (cc is)
with_taken f (Some found) rows is = ap (λ x. answer_by (f x)) (ap (answered rows) is)
