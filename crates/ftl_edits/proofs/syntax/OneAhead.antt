-- The readers of edits look one token ahead: `x_alike` says it of the reader `x`.
use Rattle.std.proofs.Common.{[], Option, Some, refl}
use Rattle.ftl_tokens.specs.declared.scanner.kind.Kind.{Kind}
use Rattle.ftl_tokens.specs.declared.scanner.kind.Kind.TheVariants as kind
use Rattle.ftl_tokens.specs.reading.Reader.{next_kind, push}
use Rattle.ftl_tokens.proofs.reading.Alike.{Alike, AlikeAt, pure_alike, look_alike, alike_at_any, bind_alike}
use Rattle.ftl_tokens.proofs.reading.Alike.{map_alike}
use Rattle.ftl_tokens.proofs.reading.TokenAlike.{past_alike, name_alike, number_alike, skip_alike, at_end_alike}
use Rattle.ftl_tokens.proofs.reading.ChainAlike.{TakesSome, takes_some, chain_alike}
use Rattle.ftl_edits.specs.syntax.Reading.{value_by, value, edit, more_edit_by, more_edit, edits}
use Rattle.ftl_edits.proofs.syntax.EditPrefix.{more_edit_prefix}
use Rattle.ftl_edits.proofs.syntax.Went.{no_peak, some_edit}

value_alike : Alike no_peak 1 1 value value
unfolding value
value_alike = look_alike value_by value_by each
  where
    each : (k : Option Kind) → AlikeAt no_peak 1 1 k (value_by k) (value_by k)
    each (Some kind.Minus) =
        skip_alike kind.Minus tt (λ ts few. few) (number_alike (λ n ts few. few) (λ n. pure_alike))
    each _ = alike_at_any (number_alike (λ n ts few. few) (λ n. pure_alike))

edit_alike : Alike no_peak 1 1 edit edit
unfolding edit
edit_alike =
    number_alike (λ n ts few. few)
    (λ node. past_alike kind.Dot (λ ts few. few)
    (name_alike (λ text ts few. few)
    (λ x. past_alike kind.Equals (λ ts few. few)
    (bind_alike value_alike (λ n. past_alike kind.Semicolon (λ ts few. few) pure_alike)))))

more_edit_alike : Alike no_peak 1 1 more_edit more_edit
unfolding more_edit
more_edit_alike = look_alike more_edit_by more_edit_by each
  where
    each : (k : Option Kind) → AlikeAt no_peak 1 1 k (more_edit_by k) (more_edit_by k)
    each (Some kind.Number) = alike_at_any (map_alike Some edit_alike)
    each _ = alike_at_any pure_alike

some_edits : TakesSome more_edit
unfolding more_edit next_kind
some_edits = takes_some more_edit_prefix (λ a x s. some_edit s) refl

pub edits_alike : Alike no_peak 1 1 edits edits
unfolding edits
edits_alike =
    bind_alike (chain_alike push more_edit_alike some_edits some_edits [])
    (λ xs. bind_alike at_end_alike (λ u. pure_alike))
