-- A sample that words ask for can be made.
use Rattle.std.proofs.Common.{◌≡◌, refl, ap, subst, ℕ, ◌<◌, ◌≤◌, Bool, true, false, List, [], ◌∷◌, Option, Some, None, Ok}
use Rattle.std.proofs.lemmas.Bool.{and_parts, leb-true, ltb-true}
use Rattle.std.specs.Prelude.{◌&&◌, codes, if◌then◌else◌, nat_lt, nat_le, is_some}
use Rattle.std.specs.Option.{option_and_then, option_map}
use Rattle.std.specs.Str.{bytes_eq}
use Rattle.std.specs.Str.Parse.{digits_value}
use Rattle.clap.specs.Words.{Row, Text, first_of}
use Rattle.ftl_boxes.proofs.Made.{sample_is_there}
use Rattle.ftl_boxes.specs.SamplePage.{sample_page_of}
use Rattle.ftl_boxes.specs.Shipped.{shipped_grammar}
use Rattle.ftl_page.specs.commands.Commands.{command_of, edit_by, grammar_by, run_by, sample_by, sample_of, solving_of}
use Rattle.ftl_page.specs.commands.Options.{plain_app, sample_app, solving_app, taken}
use Rattle.ftl_page.specs.declared.commands.command.Command.{Command}
use Rattle.ftl_page.specs.declared.commands.command.Command.TheVariants as command
use Rattle.ftl_page.specs.declared.workers.solving.Solving.{Solving}
use Rattle.ftl_page.specs.workers.Numerals.{is_from_one, is_numeral, number_of}

-- what is there, or else this
abbrev option_else : {X : Type 0} → X → Option X → X
option_else other None = other
option_else other (Some x) = x

-- there is a sample of so many pieces of the grammar of this name
abbrev CanBeMade : (name : List ℕ) → (pieces : ℕ) → Type 0
CanBeMade name pieces = (text : List ℕ) × (sample_page_of name pieces ≡ Ok text)

-- a sample that is asked for can be made
abbrev Fine : Option Command → Type 0
Fine None = Unit {0}
Fine (Some (command.Run how)) = Unit {0}
Fine (Some command.Check) = Unit {0}
Fine (Some command.Schedule) = Unit {0}
Fine (Some command.Explain) = Unit {0}
Fine (Some command.Demand) = Unit {0}
Fine (Some (command.Edit how)) = Unit {0}
Fine (Some (command.Sample pieces name how)) = CanBeMade name pieces

either : (b : Bool) (one other : Option Command) → Fine one → Fine other → Fine (if b then one else other)
either true one other fine rest = fine
either false one other fine rest = rest

then_fine : {X : Type 0} (f : X → Option Command) (o : Option X) → ((x : X) → o ≡ Some x → Fine (f x))
    → Fine (option_and_then f o)
then_fine f None each = tt
then_fine f (Some x) each = each x refl

mapped : {X : Type 0} (f : X → Command) (o : Option X) → ((x : X) → Fine (Some (f x))) → Fine (option_map f o)
mapped f None each = tt
mapped f (Some x) each = each x

-- ---- samples

number_by_parts : (numeral within : Bool) (v n : ℕ) → (if numeral && within then Some v else None) ≡ Some n
    → (within ≡ true) × (v ≡ n)
number_by_parts true true v n is = (refl, ap (λ (o : Option ℕ). option_else 0 o) is)
number_by_parts true false v n is = absurd cc
number_by_parts false within v n is = absurd cc

-- a number that a word writes is from one to the greatest
pub number_within : (greatest : ℕ) (word : List ℕ) (n : ℕ) → number_of greatest word ≡ Some n → (0 < n) × (n ≤ greatest)
number_within greatest word n is =
    let parts = number_by_parts (is_numeral word) (is_from_one greatest (digits_value 10 word)) (digits_value 10 word) n is in
    let within = subst (λ m. is_from_one greatest m ≡ true) parts.1 parts.0 in
    let both = and_parts (nat_lt 0 n) (nat_le n greatest) within in
    (ltb-true 0 n both.0, leb-true n greatest both.1)

name_by_test : (b : Bool) (name other : List ℕ) → (if b then Some name else None) ≡ Some other → (b ≡ true) × (name ≡ other)
name_by_test true name other is = (refl, ap (λ (o : Option (List ℕ)). option_else [] o) is)
name_by_test false name other is = absurd cc

-- the name of a sample's grammar is that of a shipped one
shipped_by : (o : Option Text) (name : List ℕ) → grammar_by o ≡ Some name → is_some (shipped_grammar name) ≡ true
shipped_by None name is =
    subst (λ (n : List ℕ). is_some (shipped_grammar n) ≡ true) (ap (λ (o : Option (List ℕ)). option_else [] o) is) refl
shipped_by (Some text) name is =
    let parts = name_by_test (is_some (shipped_grammar text)) text name is in
    subst (λ (n : List ℕ). is_some (shipped_grammar n) ≡ true) parts.1 parts.0

sample_fine : (pieces : Text) (rows : List Row) → Fine (sample_by pieces rows)
sample_fine pieces rows =
    then_fine
    (λ n. option_and_then (λ grammar. option_map (command.Sample n grammar) (solving_of rows))
    (grammar_by (first_of (codes "grammar") rows)))
    (number_of 200000 pieces)
    (λ n is.
    let within = number_within 200000 pieces n is in
    then_fine (λ grammar. option_map (command.Sample n grammar) (solving_of rows))
    (grammar_by (first_of (codes "grammar") rows))
    (λ grammar named.
    mapped (command.Sample n grammar) (solving_of rows)
    (λ how.
    sample_is_there grammar n within.0 within.1
    (shipped_by (first_of (codes "grammar") rows) grammar named))))

sample_of_fine : (rest : List Text) → Fine (sample_of rest)
sample_of_fine [] = tt
sample_of_fine (pieces ∷ rest) =
    then_fine (sample_by pieces) (taken (sample_app (codes "sample")) (pieces ∷ rest)) (λ rows is. sample_fine pieces rows)

-- ---- commands

fine : (words : List Text) → Fine (command_of words)
fine [] = tt
fine (name ∷ rest) =
    either (bytes_eq name (codes "run")) _ _
    (then_fine run_by (taken (solving_app (codes "run")) (name ∷ rest))
    (λ rows is. mapped command.Run (solving_of rows) (λ how. tt)))
    (either (bytes_eq name (codes "check")) _ _
    (mapped (λ rows. command.Check) (taken (plain_app (codes "check")) (name ∷ rest)) (λ rows. tt))
    (either (bytes_eq name (codes "schedule")) _ _
    (mapped (λ rows. command.Schedule) (taken (plain_app (codes "schedule")) (name ∷ rest)) (λ rows. tt))
    (either (bytes_eq name (codes "explain")) _ _
    (mapped (λ rows. command.Explain) (taken (plain_app (codes "explain")) (name ∷ rest)) (λ rows. tt))
    (either (bytes_eq name (codes "demand")) _ _
    (mapped (λ rows. command.Demand) (taken (plain_app (codes "demand")) (name ∷ rest)) (λ rows. tt))
    (either (bytes_eq name (codes "edit")) _ _
    (then_fine edit_by (taken (solving_app (codes "edit")) (name ∷ rest))
    (λ rows is. mapped command.Edit (solving_of rows) (λ how. tt)))
    (either (bytes_eq name (codes "sample")) _ _ (sample_of_fine rest) tt))))))

-- a sample that words ask for can be made
pub sample_is_made : (words : List Text) (pieces : ℕ) (name : List ℕ) (how : Solving)
    → command_of words ≡ Some (command.Sample pieces name how) → (text : List ℕ) × (sample_page_of name pieces ≡ Ok text)
sample_is_made words pieces name how is = subst Fine is (fine words)
