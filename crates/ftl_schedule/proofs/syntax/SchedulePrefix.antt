-- The readers of schedules keep the correct prefix: `x_prefix` of the reader `x`.
use Rattle.std.proofs.Common.{◌≡◌, List, [], ◌∷◌, ◌++◌, Option, Some, None, Err, refl, sym, subst, append-nil}
use Rattle.ftl_tokens.specs.declared.scanner.kind.Kind.{Kind}
use Rattle.ftl_tokens.specs.declared.scanner.kind.Kind.TheVariants as kind
use Rattle.ftl_tokens.specs.scanner.Tokenized.{Symbol, name, fixed}
use Rattle.ftl_tokens.specs.reading.Reader.{Tokens, Reader, ◌>>=◌, ◌>>◌, pure, expect, push, chain_of}
use Rattle.ftl_tokens.proofs.reading.KeptPrefix.{HasPrefix, KeepsPrefix, KeepsPrefixAt, After, Example, example, bind_prefix, map_prefix, pure_prefix}
use Rattle.ftl_tokens.proofs.reading.KeptPrefix.{look_prefix, at_any}
use Rattle.ftl_tokens.proofs.reading.TokenLemmas.{token, token_by}
use Rattle.ftl_tokens.proofs.reading.TokenPrefix.{past_prefix, name_prefix, end_prefix, at_end_prefix, skip_prefix}
use Rattle.ftl_tokens.proofs.reading.ChainPrefix.{OrNone, Chain, chain_prefix, chain_spells, chain_added}
use Rattle.ftl_schedule.specs.declared.syntax.kind.PassKind.{PassKind}
use Rattle.ftl_schedule.specs.declared.syntax.kind.PassKind.TheVariants.{TopDown}
use Rattle.ftl_schedule.specs.declared.syntax.types.AttributeName.{AttributeName}
use Rattle.ftl_schedule.specs.declared.syntax.types.WrittenPass.{WrittenPass}
use Rattle.ftl_schedule.specs.declared.syntax.types.WrittenStage.{WrittenStage}
use Rattle.ftl_schedule.specs.syntax.Trees.{word_of, attribute_name, written_pass, written_stage, written_schedule}
use Rattle.ftl_schedule.specs.syntax.Spelling.{SpellsAttribute, SpellsAttributes, SpellsPass, SpellsPasses, SpellsStage}
use Rattle.ftl_schedule.specs.syntax.Spelling.{SpellsStages, SpellsSchedule, attribute_of, no_attributes}
use Rattle.ftl_schedule.specs.syntax.Spelling.{more_attributes, pass_of, one_pass, more_passes, stage_of, one_stage}
use Rattle.ftl_schedule.specs.syntax.Spelling.{more_stages, no_stages, stages_of}
use Rattle.ftl_schedule.specs.syntax.Reading.{take_kind, attribute, more_attribute_by, more_attribute, pass}
use Rattle.ftl_schedule.specs.syntax.Reading.{more_pass_by, more_pass, stage, more_stage_by, more_stage, stages}
use Rattle.ftl_schedule.specs.syntax.Reading.{schedule_by, schedule}
use Rattle.ftl_schedule.proofs.syntax.KindWords.{takes_kind, kind_is_token, from_kind}

-- ---- kinds and attributes

-- the word of a kind of pass
pub data SpellsKind : Tokens → PassKind → Type 0 where
  kind_of : {k : PassKind} → SpellsKind (name (word_of k) ∷ []) k

pub kind_prefix : KeepsPrefix SpellsKind take_kind
kind_prefix = record { keeps = λ ts. subst (λ o. HasPrefix SpellsKind o ts) (sym (kind_is_token.reads ts)) (go ts) }
  where
    refused : (ts : Tokens) → HasPrefix SpellsKind (Err ts) ts
    refused ts =
        record
        { front = []; more = name (word_of TopDown) ∷ []; value = TopDown; spells = kind_of; split = refl }

    by_case : (o : Option PassKind) (t : Symbol) (ts : Tokens) → takes_kind t ≡ o
        → HasPrefix SpellsKind (token_by o t ts) (t ∷ ts)
    by_case None t ts e = refused (t ∷ ts)
    by_case (Some k) t ts e =
        record {
          front = t ∷ [];
          spells = subst (λ u. SpellsKind (u ∷ []) k) (sym (from_kind t k e)) kind_of;
          split = refl;
        }

    go : (ts : Tokens) → HasPrefix SpellsKind (token takes_kind ts) ts
    go [] = refused []
    go (t ∷ ts) = by_case (takes_kind t) t ts refl

pub attribute_prefix : KeepsPrefix SpellsAttribute attribute
unfolding attribute
attribute_prefix =
    name_prefix (λ o. example (fixed kind.Dot ∷ name [] ∷ []) (attribute_name o []) attribute_of)
    (λ o. past_prefix kind.Dot (example (name [] ∷ []) (attribute_name o []) attribute_of)
    (name_prefix (λ a. example [] (attribute_name o a) attribute_of) (λ a. pure_prefix attribute_of)))

pub more_attribute_prefix : KeepsPrefix (OrNone SpellsAttribute) more_attribute
unfolding more_attribute
more_attribute_prefix = look_prefix more_attribute_by each
  where
    each : (k : Option Kind) → KeepsPrefixAt k (OrNone SpellsAttribute) (more_attribute_by k)
    each (Some kind.Name) = at_any (map_prefix Some attribute_prefix (λ a x s. s))
    each _ = at_any (pure_prefix refl)

pub attributes_spell : {a : Tokens} {xs : List AttributeName} → Chain push SpellsAttribute [] a xs → SpellsAttributes a xs
attributes_spell all = chain_spells SpellsAttributes no_attributes (λ a b x xs s t. more_attributes s t) all

-- ---- passes

pub pass_rest : PassKind → Reader WrittenPass
pass_rest k = do
  expect kind.LeftBrace
  xs ← chain_of push more_attribute []
  expect kind.RightBrace
  pure (written_pass k xs)

pub pass_rest_prefix : (k : PassKind) → KeepsPrefix (After (name (word_of k) ∷ []) SpellsPass) (pass_rest k)
unfolding pass_rest
pass_rest_prefix k =
    past_prefix kind.LeftBrace (example (fixed kind.RightBrace ∷ []) (written_pass k []) (pass_of no_attributes))
    (bind_prefix (chain_prefix more_attribute_prefix [])
    (λ a xs all. example (fixed kind.RightBrace ∷ []) (written_pass k xs) (pass_of (attributes_spell all)))
    (λ a xs all. end_prefix kind.RightBrace (written_pass k xs) (pass_of (attributes_spell all))))

pub pass_prefix : KeepsPrefix SpellsPass pass
unfolding pass pass_rest
pass_prefix = bind_prefix {f = pass_rest} kind_prefix more next
  where
    more : (a : Tokens) (k : PassKind) → SpellsKind a k → Example (After a SpellsPass)
    more a k kind_of =
        example (fixed kind.LeftBrace ∷ fixed kind.RightBrace ∷ []) (written_pass k []) (pass_of no_attributes)

    next : (a : Tokens) (k : PassKind) → SpellsKind a k → KeepsPrefix (After a SpellsPass) (pass_rest k)
    next a k kind_of = pass_rest_prefix k

-- ---- stages

-- `||` and a pass
pub data MorePass : Tokens → WrittenPass → Type 0 where
  more_pass_of : {a : Tokens} {x : WrittenPass} → SpellsPass a x → MorePass (fixed kind.OrOr ∷ a) x

pub more_pass_prefix : KeepsPrefix (OrNone MorePass) more_pass
unfolding more_pass
more_pass_prefix = look_prefix more_pass_by each
  where
    each : (k : Option Kind) → KeepsPrefixAt k (OrNone MorePass) (more_pass_by k)
    each (Some kind.OrOr) = skip_prefix kind.OrOr tt (map_prefix Some pass_prefix (λ a x s. more_pass_of s))
    each _ = at_any (pure_prefix refl)

-- what may stand between a pass and the end of its stage
pub record MorePasses (b : Tokens) (xs : List WrittenPass) : Type 0 where
  after : (a : Tokens) (x : WrittenPass) → SpellsPass a x → SpellsPasses (a ++ b) (x ∷ xs)

pub no_more_passes : MorePasses [] []
no_more_passes = record {
  after = λ a x s. subst (λ l. SpellsPasses l (x ∷ [])) (sym (append-nil a)) (one_pass s);
}

pub one_more_pass : (a b : Tokens) (x : WrittenPass) (xs : List WrittenPass) → MorePass a x → MorePasses b xs
    → MorePasses (a ++ b) (x ∷ xs)
one_more_pass a b x xs (more_pass_of {a = c} s) rest = record { after = λ d y t. more_passes t (rest.after c x s) }

pub passes_turn : (a b : Tokens) (x : WrittenPass) (xs : List WrittenPass) → SpellsPass a x
    → Chain push MorePass (x ∷ []) b xs → SpellsPasses (a ++ b) xs
passes_turn a b x xs s all =
    let added = chain_added MorePasses no_more_passes one_more_pass all in
    subst (λ l. SpellsPasses (a ++ b) l) (sym added.all) (added.spells.after a x s)

pub stage_prefix : KeepsPrefix SpellsStage stage
unfolding stage
stage_prefix =
    bind_prefix pass_prefix
    (λ a x s. example [] (written_stage (x ∷ [])) (stage_of (no_more_passes.after a x s)))
    (λ a x s. map_prefix written_stage (chain_prefix more_pass_prefix (x ∷ []))
    (λ b xs all. stage_of (passes_turn a b x xs s all)))

-- ---- schedules

-- `;` and a stage
pub data MoreStage : Tokens → WrittenStage → Type 0 where
  more_stage_of : {a : Tokens} {x : WrittenStage} → SpellsStage a x → MoreStage (fixed kind.Semicolon ∷ a) x

pub more_stage_prefix : KeepsPrefix (OrNone MoreStage) more_stage
unfolding more_stage
more_stage_prefix = look_prefix more_stage_by each
  where
    each : (k : Option Kind) → KeepsPrefixAt k (OrNone MoreStage) (more_stage_by k)
    each (Some kind.Semicolon) =
        skip_prefix kind.Semicolon tt (map_prefix Some stage_prefix (λ a x s. more_stage_of s))
    each _ = at_any (pure_prefix refl)

-- what may stand between a stage and the end of the schedule
pub record MoreStages (b : Tokens) (xs : List WrittenStage) : Type 0 where
  after : (a : Tokens) (x : WrittenStage) → SpellsStage a x → SpellsStages (a ++ b) (x ∷ xs)

pub no_more_stages : MoreStages [] []
no_more_stages = record {
  after = λ a x s. subst (λ l. SpellsStages l (x ∷ [])) (sym (append-nil a)) (one_stage s);
}

pub one_more_stage : (a b : Tokens) (x : WrittenStage) (xs : List WrittenStage) → MoreStage a x → MoreStages b xs
    → MoreStages (a ++ b) (x ∷ xs)
one_more_stage a b x xs (more_stage_of {a = c} s) rest = record { after = λ d y t. more_stages t (rest.after c x s) }

pub stages_turn : (a b : Tokens) (x : WrittenStage) (xs : List WrittenStage) → SpellsStage a x
    → Chain push MoreStage (x ∷ []) b xs → SpellsSchedule (a ++ (b ++ [])) (written_schedule xs)
stages_turn a b x xs s all =
    let added = chain_added MoreStages no_more_stages one_more_stage all in
    let spells : SpellsStages (a ++ b) xs =
    subst (λ l. SpellsStages (a ++ b) l) (sym added.all) (added.spells.after a x s) in
    subst (λ l. SpellsSchedule (a ++ l) (written_schedule xs)) (sym (append-nil b)) (stages_of spells)

pub stages_prefix : KeepsPrefix SpellsSchedule stages
unfolding stages
stages_prefix =
    bind_prefix stage_prefix
    (λ a x s. example [] (written_schedule (x ∷ [])) (stages_of (no_more_stages.after a x s)))
    (λ a x s. bind_prefix (chain_prefix more_stage_prefix (x ∷ []))
    (λ b xs all. example [] (written_schedule xs) (stages_turn a b x xs s all))
    (λ b xs all. at_end_prefix (written_schedule xs) (stages_turn a b x xs s all)))

pub schedule_prefix : KeepsPrefix SpellsSchedule schedule
unfolding schedule
schedule_prefix = look_prefix schedule_by each
  where
    each : (k : Option Kind) → KeepsPrefixAt k SpellsSchedule (schedule_by k)
    each None = at_any (pure_prefix no_stages)
    each (Some k) = at_any stages_prefix
