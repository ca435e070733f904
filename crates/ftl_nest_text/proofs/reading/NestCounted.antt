-- A schedule with nests has no more stages and passes, inner ones too, than tokens spell it.
use Rattle.std.proofs.Common.{◌≡◌, ℕ, ◌+◌, ◌≤◌, List, [], ◌∷◌, ◌++◌, length, length-append, refl, arith}
use Rattle.ftl_tokens.specs.declared.scanner.kind.Kind.TheVariants as kind
use Rattle.ftl_tokens.specs.scanner.Tokenized.{fixed}
use Rattle.ftl_tokens.specs.reading.Reader.{Tokens}
use Rattle.ftl_schedule.specs.declared.syntax.types.WrittenStage.{WrittenStage}
use Rattle.ftl_schedule.specs.reading.Limits.{pass_count}
use Rattle.ftl_schedule.proofs.reading.Counted as flat
use Rattle.ftl_schedule.proofs.reading.Counted.{pass_some}
use Rattle.ftl_nest_text.specs.declared.syntax.types.WrittenNest.{WrittenNest}
use Rattle.ftl_nest_text.specs.declared.syntax.types.WrittenNestingPass.{WrittenNestingPass}
use Rattle.ftl_nest_text.specs.declared.syntax.types.WrittenNestingStage.{WrittenNestingStage}
use Rattle.ftl_nest_text.specs.declared.syntax.types.WrittenNestingSchedule.{WrittenNestingSchedule}
use Rattle.ftl_nest_text.specs.syntax.NestSpelling.{SpellsInner, SpellsNest, SpellsNestingPass, SpellsNestingPasses}
use Rattle.ftl_nest_text.specs.syntax.NestSpelling.{SpellsNestingSchedule, SpellsNestingStage, SpellsNestingStages}
use Rattle.ftl_nest_text.specs.syntax.NestSpelling.{inner_of, more_nesting_passes, more_nesting_stages, nest_of}
use Rattle.ftl_nest_text.specs.syntax.NestSpelling.{nesting_stage_of, nesting_stages_of, no_inner, no_nesting_stages}
use Rattle.ftl_nest_text.specs.syntax.NestSpelling.{one_nesting_pass, one_nesting_stage, with_nest, without_nest}
use Rattle.ftl_nest_text.specs.reading.NestLimits.{inner_sizes, inner_stage_sizes, nest_sizes, pass_total}
use Rattle.ftl_nest_text.specs.reading.NestLimits.{stage_sizes}

pub total_append : (ns ms : List ℕ) → pass_total (ns ++ ms) ≡ pass_total ns + pass_total ms
total_append [] ms = omega arith
total_append (n ∷ ns) ms = let rest = total_append ns ms in omega (arith, rest)

-- neither the sizes nor their sum are more
pub record IsFew (n : ℕ) (sizes : List ℕ) : Type 0 where
  pub all : pass_total sizes ≤ n
  pub many : length sizes ≤ n

-- the sizes of the inner stages of a nest are counted as those of a schedule without nests
pub counted : (stages : List WrittenStage)
    → (pass_total (inner_stage_sizes stages) ≡ pass_count stages) × (length (inner_stage_sizes stages) ≡ length stages)
counted [] = (refl, refl)
counted (s ∷ stages) =
    let rest = counted stages in
    let all = rest.0 in
    let many = rest.1 in (
      omega (arith, all),
      omega (arith, many),
    )

pub inner_few : {ts : Tokens} {ss : List WrittenStage} → SpellsInner ts ss → IsFew (length ts) (inner_stage_sizes ss)
inner_few no_inner = record { all = omega arith; many = omega arith }
inner_few (inner_of {xs = xs} s) =
    let few = flat.stages_few s in
    let passes = few.passes in
    let many = few.many in
    let same = counted xs in
    let all = same.0 in
    let as_many = same.1 in
    record { all = omega (arith, passes, all); many = omega (arith, many, as_many) }

pub nest_few : {ts : Tokens} {nest : WrittenNest} → SpellsNest ts nest
    → IsFew (length ts) (inner_stage_sizes nest.stages)
nest_few (nest_of {a = a} s) =
    let few = inner_few s in
    let all = few.all in
    let many = few.many in
    let long = length-append a (fixed kind.RightBrace ∷ []) in
    record { all = omega (arith, all, long); many = omega (arith, many, long) }

-- a token more than its inner passes and than its inner stages
pub record IsPassFew (n : ℕ) (p : WrittenNestingPass) : Type 0 where
  pub all : 1 + pass_total (nest_sizes p.nest) ≤ n
  pub many : 1 + length (nest_sizes p.nest) ≤ n

pub pass_few : {ts : Tokens} {p : WrittenNestingPass} → SpellsNestingPass ts p → IsPassFew (length ts) p
pass_few (without_nest s) = let some = pass_some s in record { all = omega (arith, some); many = omega (arith, some) }
pass_few (with_nest {a = a} {b = b} may s nest) =
    let some = pass_some s in
    let few = nest_few nest in
    let all = few.all in
    let many = few.many in
    let long = length-append a b in
    record { all = omega (arith, some, all, long); many = omega (arith, some, many, long) }

-- so it is with passes together
pub record ArePassesFew (n : ℕ) (ps : List WrittenNestingPass) : Type 0 where
  pub all : length ps + pass_total (inner_sizes ps) ≤ n
  pub many : 1 + length (inner_sizes ps) ≤ n

pub passes_few : {ts : Tokens} {ps : List WrittenNestingPass} → SpellsNestingPasses ts ps → ArePassesFew (length ts) ps
passes_few (one_nesting_pass {x = x} s) =
    let few = pass_few s in
    let all = few.all in
    let many = few.many in
    let whole = total_append (nest_sizes x.nest) [] in
    let long = length-append (nest_sizes x.nest) [] in
    record { all = omega (arith, all, whole); many = omega (arith, many, long) }
passes_few (more_nesting_passes {a = a} {b = b} {x = x} {xs = xs} s t) =
    let few = pass_few s in
    let all = few.all in
    let many = few.many in
    let rest = passes_few t in
    let rest_all = rest.all in
    let rest_many = rest.many in
    let tokens = length-append a (fixed kind.OrOr ∷ b) in
    let whole = total_append (nest_sizes x.nest) (inner_sizes xs) in
    let long = length-append (nest_sizes x.nest) (inner_sizes xs) in
    record {
      all = omega (arith, all, rest_all, tokens, whole);
      many = omega (arith, many, rest_many, tokens, long);
    }

pub stage_few : {ts : Tokens} {s : WrittenNestingStage} → SpellsNestingStage ts s → ArePassesFew (length ts) s.passes
stage_few (nesting_stage_of s) = passes_few s

pub stages_few : {ts : Tokens} {ss : List WrittenNestingStage} → SpellsNestingStages ts ss
    → IsFew (length ts) (stage_sizes ss)
stages_few (one_nesting_stage {x = x} s) =
    let few = stage_few s in
    let all = few.all in
    let many = few.many in
    let sizes = length x.passes ∷ inner_sizes x.passes in
    let whole = total_append sizes [] in
    let long = length-append sizes [] in
    record { all = omega (arith, all, whole); many = omega (arith, many, long) }
stages_few (more_nesting_stages {a = a} {b = b} {x = x} {xs = xs} s t) =
    let few = stage_few s in
    let all = few.all in
    let many = few.many in
    let rest = stages_few t in
    let rest_all = rest.all in
    let rest_many = rest.many in
    let sizes = length x.passes ∷ inner_sizes x.passes in
    let whole = total_append sizes (stage_sizes xs) in
    let long = length-append sizes (stage_sizes xs) in
    let tokens = length-append a (fixed kind.Semicolon ∷ b) in
    record {
      all = omega (arith, all, rest_all, whole, tokens);
      many = omega (arith, many, rest_many, long, tokens);
    }

pub schedule_few : {ts : Tokens} {s : WrittenNestingSchedule} → SpellsNestingSchedule ts s
    → IsFew (length ts) (stage_sizes s.stages)
schedule_few no_nesting_stages = record { all = omega arith; many = omega arith }
schedule_few (nesting_stages_of s) = stages_few s
