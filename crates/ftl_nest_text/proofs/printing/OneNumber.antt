-- The name of one attribute and its number, by the schedule of one pass with this attribute alone; and classes by name.
use Rattle.std.proofs.Common.{◌≡◌, ◌≢◌, ℕ, ◌<◌, Bool, true, false, cond, nat_lt, [], ◌∷◌, length, get_or}
use Rattle.std.proofs.Common.{Some, None, Result, Ok, Err, refl, sym, ◌∙◌, ap, subst, arith, ⊎_elim}
use Rattle.std.specs.List.{position_or_len}
use Rattle.std.specs.Str.{bytes_eq}
use Rattle.std.proofs.lemmas.Bool.{lt-ltb, ltb-true}
use Rattle.std.proofs.lemmas.List.{get_or-map, length-map}
use Rattle.std.proofs.lemmas.List.Elements.{All-cons, All-nil}
use Rattle.std.proofs.lemmas.Option.{none-some, same_Some}
use Rattle.ftl_model.specs.layout.AttributeGrammar as model
use Rattle.ftl_model.specs.lists.Lists.{AreDistinct}
use Rattle.ftl_model.proofs.lists.Elements.{distinct_right, in_cases, nothing_in}
use Rattle.ftl_grammar.specs.syntax.Trees.{NameText}
use Rattle.ftl_grammar.specs.declared.syntax.rules.Class.{Class}
use Rattle.ftl_grammar.specs.declared.syntax.rules.Grammar.{Grammar}
use Rattle.ftl_meaning.specs.faults.Checked.{class_named}
use Rattle.ftl_meaning.specs.faults.FirstFault.{first_fault}
use Rattle.ftl_meaning.specs.faults.Kinds.{HasKinds}
use Rattle.ftl_meaning.specs.faults.Numbering.{class_at, class_names, interface_names}
use Rattle.ftl_meaning.specs.grammars.GrammarOf.{grammar_of}
use Rattle.ftl_meaning.proofs.names.NameFaults.{no_name_fault, once}
use Rattle.ftl_schedule.specs.declared.syntax.kind.PassKind.TheVariants.{TopDown}
use Rattle.ftl_schedule.specs.declared.syntax.types.AttributeName.{AttributeName}
use Rattle.ftl_schedule.specs.declared.syntax.types.WrittenPass.{WrittenPass}
use Rattle.ftl_schedule.specs.declared.syntax.types.WrittenSchedule.{WrittenSchedule}
use Rattle.ftl_schedule.specs.declared.syntax.types.WrittenStage.{WrittenStage}
use Rattle.ftl_schedule.specs.declared.stages.types.Pass.{Pass}
use Rattle.ftl_schedule.specs.declared.stages.types.Schedule.{Schedule}
use Rattle.ftl_schedule.specs.declared.stages.types.Stage.{Stage}
use Rattle.ftl_schedule.specs.declared.names.fault.ScheduleFault.{ScheduleFault}
use Rattle.ftl_schedule.specs.names.Named.{attribute_number, before, made_of}
use Rattle.ftl_schedule.specs.printing.WrittenOf.{name_of, written_of}
use Rattle.ftl_schedule.specs.syntax.Trees.{written_pass, written_schedule, written_stage}
use Rattle.ftl_schedule.specs.text.ScheduleText.{HasNames}
use Rattle.ftl_schedule.proofs.names.NamedParts.{same_Ok}
use Rattle.ftl_schedule.proofs.printing.NamedAgain.{place_of_name, read_back}
use Rattle.ftl_schedule.proofs.printing.NamedBack.{name_at_place, no_class, schedule_back}
use Rattle.ftl_schedule.proofs.printing.SpelledNames.{PassNames, StageNames}
use Rattle.ftl_schedule.proofs.text.SpelledSchedule.{canonical}

-- ---- one attribute

abbrev pub one_pass : ℕ → Pass
one_pass a = record { kind = TopDown; attrs = a ∷ [] }

abbrev pub one_stage : ℕ → Stage
one_stage a = record { passes = one_pass a ∷ [] }

abbrev pub one_numbered : ℕ → Schedule
one_numbered a = record { stages = one_stage a ∷ [] }

abbrev pub one_written : AttributeName → WrittenSchedule
one_written x = written_schedule (written_stage (written_pass TopDown (x ∷ []) ∷ []) ∷ [])

-- the schedule of the number that is found
abbrev pub one_pass_of : Result ℕ ScheduleFault → Result Pass ScheduleFault
one_pass_of r = made_of (λ attrs. record { kind = TopDown; attrs = attrs }) (before r (Ok []))

abbrev pub one_stage_of : Result ℕ ScheduleFault → Result Stage ScheduleFault
one_stage_of r = made_of (λ passes. record { passes = passes }) (before (one_pass_of r) (Ok []))

abbrev pub one_of : Result ℕ ScheduleFault → Result Schedule ScheduleFault
one_of r = made_of (λ stages. record { stages = stages }) (before (one_stage_of r) (Ok []))

-- the first attribute
abbrev first_number : Schedule → ℕ
first_number s = get_or (get_or (get_or s.stages 0 (one_stage 0)).passes 0 (one_pass 0)).attrs 0 0

abbrev first_name : AttributeName → WrittenSchedule → AttributeName
first_name x w =
    get_or (get_or (get_or w.stages 0 (written_stage [])).passes 0 (written_pass TopDown [])).attrs 0 x

one_back : (r : Result ℕ ScheduleFault) (a : ℕ) → one_of r ≡ Ok (one_numbered a) → r ≡ Ok a
one_back (Ok b) a e = ap Ok (ap first_number (same_Ok (one_numbered b) (one_numbered a) e))
one_back (Err fault) a e = absurd (cc e)

same_one : (x y : AttributeName) → one_written x ≡ one_written y → x ≡ y
same_one x y e = ap (first_name x) e

module _ (g : Grammar) where
  -- the name that a number was read from is its name
  pub number_back : (x : AttributeName) (a : ℕ) → attribute_number g x ≡ Ok a → name_of g a ≡ x
  number_back x a e =
      same_one (name_of g a) x (schedule_back g 0 (one_written x) (one_numbered a) (ap one_of e))

  -- so is the name of a class
  pub class_back : (owner : NameText) (k : ℕ) → class_named g owner ≡ Some k → (class_at g k).name ≡ owner
  class_back owner k h = by_test (nat_lt place (length (class_names g))) refl h
    where
      place : ℕ
      place = position_or_len (bytes_eq owner) (class_names g)

      by_test : (b : Bool) → nat_lt place (length (class_names g)) ≡ b → cond b (Some place) None ≡ Some k
          → (class_at g k).name ≡ owner
      by_test false is h = absurd (none-some k h)
      by_test true is h =
          let same : place ≡ k = same_Some place k h in
          let below = ltb-true place (length (class_names g)) is in
          let many = length-map g.classes (λ (x : Class). x.name) in
          sym (get_or-map (λ (x : Class). x.name) g.classes k no_class [] (omega (arith, below, many, same)))
          ∙ name_at_place owner (class_names g) k [] same (omega (arith, below, same))

  module _ (none : first_fault g ≡ None) where
    names_differ : AreDistinct (class_names g)
    names_differ =
        let all = interface_names g in
        distinct_right all (class_names g) (once _ (no_name_fault g none).declared_once)

    -- the name of a class stands for it
    pub class_again : (k : ℕ) → k < length g.classes → class_named g (class_at g k).name ≡ Some k
    class_again k below =
        let names = class_names g in
        let counted : k < length names = omega (arith, below, length-map g.classes (λ (x : Class). x.name)) in
        let place : position_or_len (bytes_eq (class_at g k).name) names ≡ k =
        ap (λ n. position_or_len (bytes_eq n) names)
        (sym (get_or-map (λ (x : Class). x.name) g.classes k no_class [] below))
        ∙ place_of_name names k [] names_differ counted in
        ap (λ l. cond (nat_lt l (length names)) (Some l) None) place
        ∙ ap (λ b. cond b (Some k) None) (lt-ltb k (length names) counted)

    -- the name of a computed attribute stands for it, where it can be said
    pub number_again : HasKinds g → (w a : ℕ) → a < (grammar_of w g).attribute_count
        → (grammar_of w g).sort a ≢ model.input → HasNames (name_of g a) → attribute_number g (name_of g a) ≡ Ok a
    number_again kinds w a within computed said =
        one_back (attribute_number g (name_of g a)) a
        (read_back g none kinds w (one_numbered a)
        (λ b there.
        ⊎_elim
        (λ same. subst
        (λ n. (n < (grammar_of w g).attribute_count) × ((grammar_of w g).sort n ≢ model.input)) same (within, computed))
        (λ later. absurd (nothing_in b later)) (in_cases a b [] there))
        (canonical (written_of g (one_numbered a)) (record {
          passes = All-cons (λ (s : WrittenStage). s.passes ≢ []) (written_stage (pass ∷ [])) [] (λ none. cc)
              (All-nil (λ (s : WrittenStage). s.passes ≢ []));
          names = All-cons StageNames (written_stage (pass ∷ [])) []
              (All-cons PassNames pass []
              (All-cons HasNames (name_of g a) [] said (All-nil HasNames)) (All-nil PassNames))
              (All-nil StageNames);
        })) refl).is
      where
        pass : WrittenPass
        pass = written_pass TopDown (name_of g a ∷ [])
