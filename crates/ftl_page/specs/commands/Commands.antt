-- Which words are which command.
use Rattle.std.specs.Prelude.{List, [], ◌∷◌, Option, Some, None, codes, if◌then◌else◌, Result, Ok, Err, is_some}
use Rattle.std.specs.Option.{option_and_then, option_map}
use Rattle.std.specs.Str.{bytes_eq}
use Rattle.clap.specs.Words.{Row, Text, first_of}
use Rattle.ftl_boxes.specs.Shipped.{shipped_grammar}
use Rattle.ftl_page.specs.commands.Options.{plain_app, sample_app, solving_app, taken}
use Rattle.ftl_page.specs.declared.commands.command.Command.{Command}
use Rattle.ftl_page.specs.declared.commands.command.Command.TheVariants as command
use Rattle.ftl_page.specs.declared.commands.command.CommandFault.{CommandFault}
use Rattle.ftl_page.specs.declared.commands.command.CommandFault.TheVariants.{BadWords}
use Rattle.ftl_page.specs.workers.Numerals.{number_of}
use Rattle.ftl_page.specs.workers.Solvings.{solving_by}
use Rattle.ftl_page.specs.declared.workers.solving.Solving.{Solving}

-- ---- options

-- how a page is solved: by 1 to 64 workers, with 1 to 1048576 nodes a subtree
abbrev pub solving_of : List Row → Option Solving
solving_of rows = solving_by (first_of (codes "workers") rows) (first_of (codes "grain") rows)

-- the name, where a grammar of this name comes with the program
abbrev pub shipped_name : (name : Text) → Option Text
shipped_name name = if is_some (shipped_grammar name) then Some name else None

-- the name of the grammar of a sample
abbrev pub grammar_by : Option Text → Option Text
grammar_by None = Some (codes "flow")
grammar_by (Some name) = shipped_name name

-- a sample of so many pieces
abbrev pub sample_by : (pieces : Text) → List Row → Option Command
sample_by pieces rows =
    option_and_then (λ n. option_and_then (λ grammar. option_map (command.Sample n grammar) (solving_of rows))
    (grammar_by (first_of (codes "grammar") rows)))
    (number_of 200000 pieces)

-- ---- commands

-- the words from the number of pieces on
abbrev pub sample_of : List Text → Option Command
sample_of [] = None
sample_of (pieces ∷ rest) =
    option_and_then (sample_by pieces) (taken (sample_app (codes "sample")) (pieces ∷ rest))

-- to run by options
abbrev pub run_by : List Row → Option Command
run_by rows = option_map command.Run (solving_of rows)

-- to edit by options
abbrev pub edit_by : List Row → Option Command
edit_by rows = option_map command.Edit (solving_of rows)

-- the words, by the name of the command, which is the first of them
abbrev pub command_named : (name : Text) → (rest : List Text) → Option Command
command_named name rest =
    if bytes_eq name (codes "run")
    then option_and_then run_by (taken (solving_app (codes "run")) (name ∷ rest))
    else if bytes_eq name (codes "check")
    then option_map (λ rows. command.Check) (taken (plain_app (codes "check")) (name ∷ rest))
    else if bytes_eq name (codes "schedule")
    then option_map (λ rows. command.Schedule) (taken (plain_app (codes "schedule")) (name ∷ rest))
    else if bytes_eq name (codes "explain")
    then option_map (λ rows. command.Explain) (taken (plain_app (codes "explain")) (name ∷ rest))
    else if bytes_eq name (codes "demand")
    then option_map (λ rows. command.Demand) (taken (plain_app (codes "demand")) (name ∷ rest))
    else if bytes_eq name (codes "edit")
    then option_and_then edit_by (taken (solving_app (codes "edit")) (name ∷ rest))
    else if bytes_eq name (codes "sample") then sample_of rest
    else None

-- the command that the words are, if they are one
abbrev pub command_of : List Text → Option Command
command_of [] = None
command_of (name ∷ rest) = command_named name rest

-- what reading a command answers: the command, or that there is none
abbrev pub answer_by : {X : Type 0} → Option X → Result X CommandFault
answer_by None = Err BadWords
answer_by (Some x) = Ok x
