-- The options of each command, as a simple command of `clap`.
use Rattle.std.specs.Prelude.{◌==◌, List, length, Option, Some, None, codes, if◌then◌else◌}
use Rattle.clap.specs.Words.{App, Row, Rule, Text, fault_of, matches_of, new_app, new_rule, with_rule}
use Rattle.clap.specs.declared.builder.action.ArgAction.TheVariants.{Set}

-- an option of this long name, which takes one text and need not stand
abbrev pub text_option : (name : Text) → Rule
text_option name = record (new_rule name) { long = Some name; action = Some Set }

-- the command of this name without options
abbrev pub plain_app : (name : Text) → App
plain_app name = new_app name

-- the command of this name whose options are how to solve a page
abbrev pub solving_app : (name : Text) → App
solving_app name = with_rule (with_rule (new_app name) (text_option (codes "workers"))) (text_option (codes "grain"))

-- the same with the name of a grammar
abbrev pub sample_app : (name : Text) → App
sample_app name = with_rule (solving_app name) (text_option (codes "grammar"))

-- the texts that the options have, by name, where the command takes the words that follow the first
abbrev pub taken : App → (words : List Text) → Option (List Row)
taken app words = if length (fault_of app words) == 0 then Some (matches_of app words) else None
