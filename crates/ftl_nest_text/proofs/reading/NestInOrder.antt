-- No inorder pass of a schedule that tokens spell has a nest.
use Rattle.std.proofs.Common.{◌≡◌, List, [], Contains, None, refl, subst, ⊎_elim}
use Rattle.ftl_model.proofs.lists.Elements.{in_cases, nothing_in}
use Rattle.ftl_tokens.specs.reading.Reader.{Tokens}
use Rattle.ftl_schedule.specs.declared.syntax.kind.PassKind.TheVariants.{InOrder}
use Rattle.ftl_nest_text.specs.declared.syntax.types.WrittenNestingPass.{WrittenNestingPass}
use Rattle.ftl_nest_text.specs.declared.syntax.types.WrittenNestingStage.{WrittenNestingStage}
use Rattle.ftl_nest_text.specs.declared.syntax.types.WrittenNestingSchedule.{WrittenNestingSchedule}
use Rattle.ftl_nest_text.specs.syntax.NestTrees.{MayNest}
use Rattle.ftl_nest_text.specs.syntax.NestSpelling.{SpellsNestingPass, SpellsNestingPasses}
use Rattle.ftl_nest_text.specs.syntax.NestSpelling.{SpellsNestingSchedule, SpellsNestingStage, SpellsNestingStages}
use Rattle.ftl_nest_text.specs.syntax.NestSpelling.{more_nesting_passes, more_nesting_stages}
use Rattle.ftl_nest_text.specs.syntax.NestSpelling.{nesting_stage_of, nesting_stages_of, no_nesting_stages}
use Rattle.ftl_nest_text.specs.syntax.NestSpelling.{one_nesting_pass, one_nesting_stage, with_nest, without_nest}
use Rattle.ftl_nest_text.proofs.reading.NestKept.{IsIn}

abbrev pub HasNone : WrittenNestingPass → Type 0
HasNone x = x.kind ≡ InOrder → x.nest ≡ None

pass_none : {ts : Tokens} {x : WrittenNestingPass} → SpellsNestingPass ts x → HasNone x
pass_none (without_nest s) e = refl
pass_none (with_nest may s n) e = absurd (subst MayNest e may)

passes_none : {ts : Tokens} {xs : List WrittenNestingPass} → SpellsNestingPasses ts xs → (x : WrittenNestingPass)
    → Contains xs x → HasNone x
passes_none (one_nesting_pass {x = y} s) x there =
    ⊎_elim (λ same. subst HasNone same (pass_none s)) (λ later. absurd (nothing_in x later)) (in_cases y x [] there)
passes_none (more_nesting_passes {x = y} {xs = ys} s t) x there =
    ⊎_elim (λ same. subst HasNone same (pass_none s)) (λ later. passes_none t x later) (in_cases y x ys there)

abbrev HasNoneIn : WrittenNestingStage → Type 0
HasNoneIn stage = (x : WrittenNestingPass) → Contains stage.passes x → HasNone x

stage_none : {ts : Tokens} {s : WrittenNestingStage} → SpellsNestingStage ts s → HasNoneIn s
stage_none (nesting_stage_of s) = passes_none s

stages_none : {ts : Tokens} {ss : List WrittenNestingStage} → SpellsNestingStages ts ss → (s : WrittenNestingStage)
    → Contains ss s → HasNoneIn s
stages_none (one_nesting_stage {x = y} s) x there =
    ⊎_elim (λ same. subst HasNoneIn same (stage_none s)) (λ later. absurd (nothing_in x later)) (in_cases y x [] there)
stages_none (more_nesting_stages {x = y} {xs = ys} s t) x there =
    ⊎_elim (λ same. subst HasNoneIn same (stage_none s)) (λ later. stages_none t x later) (in_cases y x ys there)

schedule_none : {ts : Tokens} {w : WrittenNestingSchedule} → SpellsNestingSchedule ts w → (s : WrittenNestingStage)
    → Contains w.stages s → HasNoneIn s
schedule_none no_nesting_stages s there = absurd (nothing_in s there)
schedule_none (nesting_stages_of t) s there = stages_none t s there

pub spelled_none : {ts : Tokens} (w : WrittenNestingSchedule) → SpellsNestingSchedule ts w → (x : WrittenNestingPass)
    → IsIn w x → HasNone x
spelled_none w spells x there = schedule_none spells there.0 there.1 x there.2
