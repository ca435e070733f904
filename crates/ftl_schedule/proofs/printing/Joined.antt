-- Lists that are written entry by entry, with something between two entries.
use Rattle.std.proofs.Common.{◌≡◌, ℕ, ◌+◌, ◌<◌, refl, sym, ◌∙◌, ap, arith, List, [], ◌∷◌, ◌++◌, length, get_or, map, drop, codes}
use Rattle.std.proofs.lemmas.List.{append_assoc, append-nil, drop_more}
use Rattle.std.proofs.Math.ListN.{drop_of_length-le}
use Rattle.std.proofs.lemmas.Grind.{flat_map-append}
use Rattle.ftl_meaning.proofs.faults.Counting.{left_by}
use Rattle.ftl_tokens.specs.declared.scanner.kind.Kind.TheVariants as kind
use Rattle.ftl_tokens.specs.scanner.Tokenized.{fixed}
use Rattle.ftl_tokens.specs.writing.Written.{text_of, written, written_bytes}
use Rattle.ftl_grammar.specs.declared.syntax.rules.Grammar.{Grammar}
use Rattle.ftl_schedule.specs.declared.stages.types.Pass.{Pass}
use Rattle.ftl_schedule.specs.declared.stages.types.Stage.{Stage}
use Rattle.ftl_schedule.specs.text.ScheduleText.{pass_written, passes_written, schedule_written, stage_written, stages_written}
use Rattle.ftl_schedule.specs.printing.WrittenOf.{pass_by_name, stage_by_name}

-- how the text of a list begins: an entry with another behind it, and the last entry
pub record IsJoined {X : Type 0} (text : List X → List ℕ) (early late : X → List ℕ) (between : List ℕ) : Type 0 where
  pub two : (x y : X) (more : List X) → text (x ∷ y ∷ more) ≡ early x ++ (between ++ text (y ∷ more))
  pub one : (x : X) → text (x ∷ []) ≡ late x
  pub none : text [] ≡ []

-- an entry with another behind it is written, and what stands between them
pub early_written : {X : Type 0} {text : List X → List ℕ} {early late : X → List ℕ} {between : List ℕ}
    → IsJoined text early late between → (xs : List X) (n : ℕ) (x : X) → n + 1 < length xs → x ≡ get_or xs n x
    → (out entry all whole : List ℕ) → out ++ text (drop n xs) ≡ whole
    → entry ≡ out ++ early x → all ≡ entry ++ between → all ++ text (drop (n + 1) xs) ≡ whole
early_written {X} {text} {early} {late} {between} j xs n x within is out entry all whole before e a =
    let left : drop n xs ≡ x ∷ drop (n + 1) xs = left_by xs n x (omega (arith, within)) is in
    let next : drop (n + 1) xs ≡ get_or xs (n + 1) x ∷ drop (n + 1 + 1) xs = drop_more xs (n + 1) x within in
    let rest = text (drop (n + 1) xs) in
    let step : text (drop n xs) ≡ early x ++ (between ++ rest) =
    ap text left ∙ ap (λ r. text (x ∷ r)) next ∙ j.two x (get_or xs (n + 1) x) (drop (n + 1 + 1) xs)
    ∙ ap (λ r. early x ++ (between ++ text r)) (sym next)
    in
    ap (λ o. o ++ rest) (a ∙ ap (λ o. o ++ between) e) ∙ append_assoc (out ++ early x) between rest
    ∙ append_assoc out (early x) (between ++ rest) ∙ ap (λ r. out ++ r) (sym step) ∙ before

-- the last entry is written
pub late_written : {X : Type 0} {text : List X → List ℕ} {early late : X → List ℕ} {between : List ℕ}
    → IsJoined text early late between → (xs : List X) (n : ℕ) (x : X) → n + 1 ≡ length xs → x ≡ get_or xs n x
    → (out all whole : List ℕ) → out ++ text (drop n xs) ≡ whole
    → all ≡ out ++ late x → all ++ text (drop (n + 1) xs) ≡ whole
late_written {X} {text} {early} {late} {between} j xs n x end is out all whole before a =
    let left : drop n xs ≡ x ∷ drop (n + 1) xs = left_by xs n x (omega (arith, end)) is in
    let over : drop (n + 1) xs ≡ [] = drop_of_length-le xs (omega (arith, end)) in
    let step : text (drop n xs) ≡ late x = ap text left ∙ ap (λ r. text (x ∷ r)) over ∙ j.one x in
    ap (λ r. all ++ text r) over ∙ ap (λ r. all ++ r) j.none ∙ append-nil all ∙ a ∙ ap (λ r. out ++ r) (sym step) ∙ before

-- the passes of a stage
pub passes_joined : (g : Grammar) (gap : List ℕ)
    → IsJoined (λ (ps : List Pass). text_of (stage_written gap (map (pass_by_name g) ps)))
    (λ (p : Pass). text_of (pass_written (codes " ") (pass_by_name g p)))
    (λ (p : Pass). text_of (pass_written gap (pass_by_name g p)))
    (written_bytes (written (fixed kind.OrOr) (codes " ")))
passes_joined g gap = record {
  two = λ p q more. flat_map-append written_bytes (pass_written (codes " ") (pass_by_name g p))
      (written (fixed kind.OrOr) (codes " ") ∷ passes_written gap (pass_by_name g q) (map (pass_by_name g) more));
  one = λ p. refl;
  none = refl;
}

-- the stages of a schedule
pub stages_joined : (g : Grammar)
    → IsJoined (λ (ss : List Stage). text_of (schedule_written (map (stage_by_name g) ss)))
    (λ (s : Stage). text_of (stage_written (codes " ") (map (pass_by_name g) s.passes)))
    (λ (s : Stage). text_of (stage_written (codes "\n") (map (pass_by_name g) s.passes)))
    (written_bytes (written (fixed kind.Semicolon) (codes "\n")))
stages_joined g = record {
  two = λ s t more. flat_map-append written_bytes (stage_written (codes " ") (map (pass_by_name g) s.passes))
      (written (fixed kind.Semicolon) (codes "\n") ∷ stages_written (stage_by_name g t) (map (stage_by_name g) more));
  one = λ s. refl;
  none = refl;
}
