-- Words by their first.
use Rattle.std.proofs.Common.{◌≡◌, ◌<◌, List, [], ◌∷◌, length, map, get_or, drop, codes, refl, sym, ◌∙◌, ap, Bool, true, false, Option, None, if◌then◌else◌, arith, String, Global}
use Rattle.std.specs.String.{string_bytes}
use Rattle.std.specs.Option.{option_and_then}
use Rattle.std.specs.Str.{bytes_eq}
use Rattle.std.proofs.lemmas.Slice.Eq.{bytes_eq-Decides}
use Rattle.clap.specs.Words.{Text}
use Rattle.ftl_page.specs.commands.Commands.{command_named, command_of, sample_by, sample_of}
use Rattle.ftl_page.specs.commands.Options.{sample_app, taken}
use Rattle.ftl_page.specs.declared.commands.command.Command.{Command}

-- the first of some words
pub by_first : (words : List (String Global)) (x : String Global) → 0 < length words → x ≡ get_or words 0 x
    → map string_bytes words ≡ string_bytes x ∷ map string_bytes (drop 1 words)
by_first [] x some is = absurd (omega (arith, some))
by_first (w ∷ ws) x some is = ap (λ y. string_bytes y ∷ map string_bytes ws) (sym is)

pub sample_at : (words rest : List Text) (p : Text) → words ≡ p ∷ rest
    → sample_of words ≡ option_and_then (sample_by p) (taken (sample_app (codes "sample")) words)
sample_at words rest p is =
    ap sample_of is ∙ ap (λ ws. option_and_then (sample_by p) (taken (sample_app (codes "sample")) ws)) (sym is)

pub command_at : (words rest : List Text) (name : Text) → words ≡ name ∷ rest → command_of words ≡ command_named name rest
command_at words rest name is = ap command_of is

-- a test of two texts that differ
differs : (a b : Text) → (a ≡ b → ⊥) → bytes_eq a b ≡ false
differs a b apart = by_test (bytes_eq a b) refl
  where
    by_test : (t : Bool) → bytes_eq a b ≡ t → t ≡ false
    by_test true e = absurd (apart ((bytes_eq-Decides a b).0 e))
    by_test false e = refl

-- a test that fails
not_taken : (t : Bool) (x y : Option Command) → t ≡ false → (if t then x else y) ≡ y
not_taken t x y e = ap (λ b. if b then x else y) e

-- another name is no command
pub no_command : (name : Text) (rest : List Text) → (name ≡ codes "run" → ⊥) → (name ≡ codes "check" → ⊥)
    → (name ≡ codes "schedule" → ⊥) → (name ≡ codes "explain" → ⊥) → (name ≡ codes "demand" → ⊥)
    → (name ≡ codes "edit" → ⊥) → (name ≡ codes "sample" → ⊥) → command_named name rest ≡ None
no_command name rest run check schedule explain demand edit sample =
    not_taken (bytes_eq name (codes "run")) _ _ (differs name (codes "run") run)
    ∙ not_taken (bytes_eq name (codes "check")) _ _ (differs name (codes "check") check)
    ∙ not_taken (bytes_eq name (codes "schedule")) _ _ (differs name (codes "schedule") schedule)
    ∙ not_taken (bytes_eq name (codes "explain")) _ _ (differs name (codes "explain") explain)
    ∙ not_taken (bytes_eq name (codes "demand")) _ _ (differs name (codes "demand") demand)
    ∙ not_taken (bytes_eq name (codes "edit")) _ _ (differs name (codes "edit") edit)
    ∙ not_taken (bytes_eq name (codes "sample")) _ _ (differs name (codes "sample") sample)
