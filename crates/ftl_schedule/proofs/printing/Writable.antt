-- A schedule of a grammar's attributes that is within the limits on passes can be written, within the same limits.
use Rattle.std.proofs.Common.{◌≡◌, ◌≢◌, ℕ, ◌+◌, ◌<◌, ◌≤◌, Bool, true, false, cond, nat_lt, List, [], ◌∷◌, length, map, Some, None}
use Rattle.std.proofs.Common.{refl, sym, ◌∙◌, ap, arith}
use Rattle.std.specs.List.{All, sum_by}
use Rattle.std.proofs.lemmas.Bool.{ltb-true}
use Rattle.std.proofs.lemmas.List.{length-map}
use Rattle.std.proofs.lemmas.List.Elements.{All-cons, All-head, All-map, All-nil, All-tail}
use Rattle.std.proofs.lemmas.List.Sums.{sum_by-cons}
use Rattle.ftl_order.specs.orders.Schedule as order
use Rattle.ftl_grammar.specs.declared.syntax.rules.Grammar.{Grammar}
use Rattle.ftl_meaning.specs.faults.Checked.{all_attributes}
use Rattle.ftl_schedule.specs.declared.names.fault.ScheduleFault.TheVariants.{TooManyBeside, TooManyPasses}
use Rattle.ftl_schedule.specs.declared.syntax.types.WrittenStage.{WrittenStage}
use Rattle.ftl_schedule.specs.declared.stages.types.Stage.{Stage}
use Rattle.ftl_schedule.specs.declared.stages.types.Schedule.{Schedule}
use Rattle.ftl_schedule.specs.stages.PassLimits.{HasFewPasses, IsWithinPassLimits}
use Rattle.ftl_schedule.specs.stages.Stages.{pass_of, stages_of}
use Rattle.ftl_schedule.specs.reading.Limits.{beside_fault, limit_fault, pass_count}
use Rattle.ftl_schedule.specs.text.ScheduleText.{CanBeWritten, HasNames}
use Rattle.ftl_schedule.specs.printing.WrittenOf.{ArePassesKnown, AreStagesKnown, IsPassKnown, name_of, pass_by_name}
use Rattle.ftl_schedule.specs.printing.WrittenOf.{stage_by_name, written_of}
use Rattle.ftl_schedule.proofs.printing.SpelledNames.{PassNames, StageNames}

-- the passes of a stage
abbrev pub passes_in : Stage → List order.Pass
passes_in stage = map pass_of stage.passes

-- each entry's name has what each entry's number has
pub each_named : {X Y : Type 0} (P : X → Type 0) (Q : Y → Type 0) (f : X → Y) (xs : List X) → ((x : X) → P x → Q (f x))
    → All P xs → All Q (map f xs)
each_named P Q f xs gives all = All-map Q f xs (λ k d within. gives _ (all k d within))

module _ (g : Grammar) where
  as_many : (stage : Stage) → length (stage_by_name g stage).passes ≡ length (passes_in stage)
  as_many stage = length-map stage.passes (pass_by_name g) ∙ sym (length-map stage.passes pass_of)

  counted : (stages : List Stage) → pass_count (map (stage_by_name g) stages) ≡ sum_by length (map passes_in stages)
  counted [] = refl
  counted (stage ∷ stages) =
      let first = as_many stage in
      let rest = counted stages in
      omega (arith, sum_by-cons length (passes_in stage) (map passes_in stages), first, rest)

  abbrev written_count : Stage → ℕ
  written_count stage = length (stage_by_name g stage).passes

  few_there : (stage : Stage) (stages : List Stage) → All HasFewPasses (map passes_in (stage ∷ stages))
      → written_count stage ≤ 4
  few_there stage stages each =
      let few = (All-head HasFewPasses (passes_in stage) (map passes_in stages) each).few in
      let first = as_many stage in
      omega (arith, few, first)

  few_beside : (n : ℕ) (stages : List Stage) → All HasFewPasses (map passes_in stages)
      → beside_fault n (map (stage_by_name g) stages) ≡ None
  few_beside n [] each = refl
  few_beside n (stage ∷ stages) each =
      by_test (nat_lt 4 (written_count stage)) refl
      (few_beside (n + 1) stages (All-tail HasFewPasses (passes_in stage) (map passes_in stages) each))
    where
      by_test : (b : Bool) → nat_lt 4 (written_count stage) ≡ b
          → beside_fault (n + 1) (map (stage_by_name g) stages) ≡ None
          → cond b (Some (TooManyBeside n (written_count stage))) (beside_fault (n + 1) (map (stage_by_name g) stages))
          ≡ None
      by_test true is rest =
          let many = ltb-true 4 (written_count stage) is in
          let few = few_there stage stages each in
          absurd (let z : ⊥ = omega (arith, many, few) in z)
      by_test false is rest = rest

  abbrev count_of : Schedule → ℕ
  count_of s = pass_count (written_of g s).stages

  -- no fault of the limits
  pub within_limits : (s : Schedule) → IsWithinPassLimits (stages_of s) → limit_fault (written_of g s).stages ≡ None
  within_limits s limits = by_test (nat_lt 2048 (count_of s)) refl
    where
      by_test : (b : Bool) → nat_lt 2048 (count_of s) ≡ b
          → cond b (Some (TooManyPasses (count_of s))) (beside_fault 1 (written_of g s).stages) ≡ None
      by_test true is =
          let many = ltb-true 2048 (count_of s) is in
          let all = limits.all in
          let same = counted s.stages in
          absurd (let z : ⊥ = omega (arith, many, all, same) in z)
      by_test false is = few_beside 1 s.stages limits.each

  abbrev HasPass : WrittenStage → Type 0
  HasPass stage = stage.passes ≢ []

  some_passes : (stages : List Stage) → All HasFewPasses (map passes_in stages) → All HasPass (map (stage_by_name g) stages)
  some_passes [] each = All-nil HasPass
  some_passes (stage ∷ stages) each =
      let some = (All-head HasFewPasses (passes_in stage) (map passes_in stages) each).some in
      let first = as_many stage in
      All-cons HasPass (stage_by_name g stage) (map (stage_by_name g) stages)
      (λ none. let empty = ap length none in let z : ⊥ = omega (arith, empty, some, first) in z)
      (some_passes stages (All-tail HasFewPasses (passes_in stage) (map passes_in stages) each))

  -- and each stage has a pass, where all names can be said
  pub writable : (s : Schedule) → IsWithinPassLimits (stages_of s) → AreStagesKnown g s.stages
      → ((a : ℕ) → a < length (all_attributes g) → HasNames (name_of g a)) → CanBeWritten (written_of g s)
  writable s limits known said = record {
    passes = some_passes s.stages limits.each;
    names =
        each_named (λ (stage : Stage). ArePassesKnown g stage.passes) StageNames (stage_by_name g) s.stages
        (λ stage passes.
        each_named (IsPassKnown g) PassNames (pass_by_name g) stage.passes
        (λ pass attributes.
        each_named (λ a. a < length (all_attributes g)) HasNames (name_of g) pass.attrs said attributes) passes)
        known;
  }
