-- The readers of schedules look one token ahead: `x_alike` says it of the reader `x`.
use Rattle.std.proofs.Common.{[], ◌∷◌, Option, Some, None, refl}
use Rattle.ftl_tokens.specs.declared.scanner.kind.Kind.{Kind}
use Rattle.ftl_tokens.specs.declared.scanner.kind.Kind.TheVariants as kind
use Rattle.ftl_tokens.specs.reading.Reader.{next_kind, push}
use Rattle.ftl_tokens.proofs.reading.Alike.{Alike, AlikeAt, pure_alike, look_alike, alike_at_any, bind_alike, map_alike}
use Rattle.ftl_tokens.proofs.reading.TokenAlike.{token_alike, past_alike, name_alike, skip_alike, at_end_alike}
use Rattle.ftl_tokens.proofs.reading.ChainAlike.{TakesSome, takes_some, chain_alike}
use Rattle.ftl_schedule.specs.syntax.Trees.{written_stage}
use Rattle.ftl_schedule.specs.syntax.Reading.{attribute, more_attribute_by, more_attribute, pass}
use Rattle.ftl_schedule.specs.syntax.Reading.{more_pass_by, more_pass, stage, more_stage_by, more_stage, stages}
use Rattle.ftl_schedule.specs.syntax.Reading.{schedule_by, schedule}
use Rattle.ftl_schedule.proofs.syntax.KindWords.{kind_is_token}
use Rattle.ftl_schedule.proofs.syntax.SchedulePrefix.{more_attribute_prefix, more_pass_prefix, more_stage_prefix}
use Rattle.ftl_schedule.proofs.syntax.Went.{no_peak, some_attribute, some_pass, some_stage}

pub attribute_alike : Alike no_peak 1 1 attribute attribute
unfolding attribute
attribute_alike =
    name_alike (λ text ts few. few)
    (λ o. past_alike kind.Dot (λ ts few. few) (name_alike (λ text ts few. few) (λ a. pure_alike)))

pub more_attribute_alike : Alike no_peak 1 1 more_attribute more_attribute
unfolding more_attribute
more_attribute_alike = look_alike more_attribute_by more_attribute_by each
  where
    each : (k : Option Kind) → AlikeAt no_peak 1 1 k (more_attribute_by k) (more_attribute_by k)
    each (Some kind.Name) = alike_at_any (map_alike Some attribute_alike)
    each _ = alike_at_any pure_alike

pub some_attributes : TakesSome more_attribute
unfolding more_attribute next_kind
some_attributes = takes_some more_attribute_prefix (λ a x s. some_attribute s) refl

pub pass_alike : Alike no_peak 1 1 pass pass
unfolding pass
pass_alike =
    bind_alike (token_alike kind_is_token (λ t ts k e few. few))
    (λ k. past_alike kind.LeftBrace (λ ts few. few)
    (bind_alike (chain_alike push more_attribute_alike some_attributes some_attributes [])
    (λ xs. past_alike kind.RightBrace (λ ts few. few) pure_alike)))

pub more_pass_alike : Alike no_peak 1 1 more_pass more_pass
unfolding more_pass
more_pass_alike = look_alike more_pass_by more_pass_by each
  where
    each : (k : Option Kind) → AlikeAt no_peak 1 1 k (more_pass_by k) (more_pass_by k)
    each (Some kind.OrOr) = skip_alike kind.OrOr tt (λ ts few. few) (map_alike Some pass_alike)
    each _ = alike_at_any pure_alike

pub some_passes : TakesSome more_pass
unfolding more_pass next_kind
some_passes = takes_some more_pass_prefix (λ a x s. some_pass s) refl

pub stage_alike : Alike no_peak 1 1 stage stage
unfolding stage
stage_alike =
    bind_alike pass_alike
    (λ x. map_alike written_stage (chain_alike push more_pass_alike some_passes some_passes (x ∷ [])))

pub more_stage_alike : Alike no_peak 1 1 more_stage more_stage
unfolding more_stage
more_stage_alike = look_alike more_stage_by more_stage_by each
  where
    each : (k : Option Kind) → AlikeAt no_peak 1 1 k (more_stage_by k) (more_stage_by k)
    each (Some kind.Semicolon) = skip_alike kind.Semicolon tt (λ ts few. few) (map_alike Some stage_alike)
    each _ = alike_at_any pure_alike

pub some_stages : TakesSome more_stage
unfolding more_stage next_kind
some_stages = takes_some more_stage_prefix (λ a x s. some_stage s) refl

pub stages_alike : Alike no_peak 1 1 stages stages
unfolding stages
stages_alike =
    bind_alike stage_alike
    (λ x. bind_alike (chain_alike push more_stage_alike some_stages some_stages (x ∷ []))
    (λ xs. bind_alike at_end_alike (λ u. pure_alike)))

pub schedule_alike : Alike no_peak 1 1 schedule schedule
unfolding schedule
schedule_alike = look_alike schedule_by schedule_by each
  where
    each : (k : Option Kind) → AlikeAt no_peak 1 1 k (schedule_by k) (schedule_by k)
    each None = alike_at_any pure_alike
    each (Some k) = alike_at_any stages_alike
