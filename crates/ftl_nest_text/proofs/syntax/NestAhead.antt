-- The readers of schedules with nests look one token ahead: `x_alike` says it of the reader `x`.
use Rattle.std.proofs.Common.{[], ◌∷◌, Option, Some, None, refl}
use Rattle.ftl_tokens.specs.declared.scanner.kind.Kind.{Kind}
use Rattle.ftl_tokens.specs.declared.scanner.kind.Kind.TheVariants as kind
use Rattle.ftl_tokens.specs.reading.Reader.{next_kind, push}
use Rattle.ftl_tokens.proofs.reading.Alike.{Alike, AlikeAt, pure_alike, look_alike, alike_at_any, bind_alike, map_alike}
use Rattle.ftl_tokens.proofs.reading.TokenAlike.{token_alike, past_alike, name_alike, skip_alike, at_end_alike}
use Rattle.ftl_tokens.proofs.reading.ChainAlike.{TakesSome, takes_some, chain_alike}
use Rattle.ftl_schedule.specs.declared.syntax.kind.PassKind.{PassKind}
use Rattle.ftl_schedule.specs.declared.syntax.kind.PassKind.TheVariants.{TopDown, BottomUp, InOrder}
use Rattle.ftl_schedule.proofs.syntax.Went.{no_peak}
use Rattle.ftl_schedule.proofs.syntax.OneAhead.{pass_alike, stage_alike, more_stage_alike, some_stages}
use Rattle.ftl_nest_text.specs.syntax.NestTrees as tree
use Rattle.ftl_nest_text.specs.syntax.NestReading.{inner_stages, inner_by, inner, nest, more_nest_by, more_nest}
use Rattle.ftl_nest_text.specs.syntax.NestReading.{nest_after, nesting_pass, more_nesting_pass_by, more_nesting_pass}
use Rattle.ftl_nest_text.specs.syntax.NestReading.{nesting_stage, more_nesting_stage_by, more_nesting_stage}
use Rattle.ftl_nest_text.specs.syntax.NestReading.{nesting_stages, nesting_schedule_by, nesting_schedule}
use Rattle.ftl_nest_text.proofs.syntax.NestWords.{nest_is_token}
use Rattle.ftl_nest_text.proofs.syntax.NestPrefix.{more_nesting_pass_prefix, more_nesting_stage_prefix}
use Rattle.ftl_nest_text.proofs.syntax.NestWent.{some_nesting_pass, some_nesting_stage}

inner_stages_alike : Alike no_peak 1 1 inner_stages inner_stages
unfolding inner_stages
inner_stages_alike =
    bind_alike stage_alike (λ x. chain_alike push more_stage_alike some_stages some_stages (x ∷ []))

inner_alike : Alike no_peak 1 1 inner inner
unfolding inner
inner_alike = look_alike inner_by inner_by each
  where
    each : (k : Option Kind) → AlikeAt no_peak 1 1 k (inner_by k) (inner_by k)
    each (Some kind.Name) = alike_at_any inner_stages_alike
    each _ = alike_at_any pure_alike

nest_alike : Alike no_peak 1 1 nest nest
unfolding nest
nest_alike =
    bind_alike (token_alike nest_is_token (λ t ts u e few. few))
    (λ u. name_alike (λ text ts few. few)
    (λ host. past_alike kind.LeftBrace (λ ts few. few)
    (bind_alike inner_alike (λ xs. past_alike kind.RightBrace (λ ts few. few) pure_alike))))

more_nest_alike : Alike no_peak 1 1 more_nest more_nest
unfolding more_nest
more_nest_alike = look_alike more_nest_by more_nest_by each
  where
    each : (k : Option Kind) → AlikeAt no_peak 1 1 k (more_nest_by k) (more_nest_by k)
    each (Some kind.Name) = alike_at_any (map_alike Some nest_alike)
    each _ = alike_at_any pure_alike

nest_after_alike : (k : PassKind) → Alike no_peak 1 1 (nest_after k) (nest_after k)
nest_after_alike TopDown = more_nest_alike
nest_after_alike BottomUp = more_nest_alike
nest_after_alike InOrder = pure_alike

nesting_pass_alike : Alike no_peak 1 1 nesting_pass nesting_pass
unfolding nesting_pass
nesting_pass_alike = bind_alike pass_alike (λ p. map_alike (tree.nesting_pass p) (nest_after_alike p.kind))

more_nesting_pass_alike : Alike no_peak 1 1 more_nesting_pass more_nesting_pass
unfolding more_nesting_pass
more_nesting_pass_alike = look_alike more_nesting_pass_by more_nesting_pass_by each
  where
    each : (k : Option Kind) → AlikeAt no_peak 1 1 k (more_nesting_pass_by k) (more_nesting_pass_by k)
    each (Some kind.OrOr) = skip_alike kind.OrOr tt (λ ts few. few) (map_alike Some nesting_pass_alike)
    each _ = alike_at_any pure_alike

some_passes : TakesSome more_nesting_pass
unfolding more_nesting_pass next_kind
some_passes = takes_some more_nesting_pass_prefix (λ a x s. some_nesting_pass s) refl

nesting_stage_alike : Alike no_peak 1 1 nesting_stage nesting_stage
unfolding nesting_stage
nesting_stage_alike =
    bind_alike nesting_pass_alike
    (λ x. map_alike tree.nesting_stage
    (chain_alike push more_nesting_pass_alike some_passes some_passes (x ∷ [])))

more_nesting_stage_alike : Alike no_peak 1 1 more_nesting_stage more_nesting_stage
unfolding more_nesting_stage
more_nesting_stage_alike = look_alike more_nesting_stage_by more_nesting_stage_by each
  where
    each : (k : Option Kind) → AlikeAt no_peak 1 1 k (more_nesting_stage_by k) (more_nesting_stage_by k)
    each (Some kind.Semicolon) = skip_alike kind.Semicolon tt (λ ts few. few) (map_alike Some nesting_stage_alike)
    each _ = alike_at_any pure_alike

some_outer : TakesSome more_nesting_stage
unfolding more_nesting_stage next_kind
some_outer = takes_some more_nesting_stage_prefix (λ a x s. some_nesting_stage s) refl

nesting_stages_alike : Alike no_peak 1 1 nesting_stages nesting_stages
unfolding nesting_stages
nesting_stages_alike =
    bind_alike nesting_stage_alike
    (λ x. bind_alike (chain_alike push more_nesting_stage_alike some_outer some_outer (x ∷ []))
    (λ xs. bind_alike at_end_alike (λ u. pure_alike)))

pub nesting_schedule_alike : Alike no_peak 1 1 nesting_schedule nesting_schedule
unfolding nesting_schedule
nesting_schedule_alike = look_alike nesting_schedule_by nesting_schedule_by each
  where
    each : (k : Option Kind) → AlikeAt no_peak 1 1 k (nesting_schedule_by k) (nesting_schedule_by k)
    each None = alike_at_any pure_alike
    each (Some k) = alike_at_any nesting_stages_alike
