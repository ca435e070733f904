-- The readers of schedules with nests keep the correct prefix: `x_prefix` of the reader `x`.
use Rattle.std.proofs.Common.{◌≡◌, List, [], ◌∷◌, ◌++◌, Option, Some, None, Err, refl, sym, subst, append-nil}
use Rattle.ftl_tokens.specs.declared.scanner.kind.Kind.{Kind}
use Rattle.ftl_tokens.specs.declared.scanner.kind.Kind.TheVariants as kind
use Rattle.ftl_tokens.specs.scanner.Tokenized.{Symbol, name, fixed}
use Rattle.ftl_tokens.specs.reading.Reader.{Tokens, Reader, ◌>>=◌, ◌>>◌, pure, expect, push, take_name}
use Rattle.ftl_tokens.proofs.reading.KeptPrefix.{HasPrefix, KeepsPrefix, KeepsPrefixAt, After, Example, example}
use Rattle.ftl_tokens.proofs.reading.KeptPrefix.{bind_prefix, map_prefix, pure_prefix, wider_prefix}
use Rattle.ftl_tokens.proofs.reading.KeptPrefix.{look_prefix, at_any}
use Rattle.ftl_tokens.proofs.reading.TokenLemmas.{token, token_by}
use Rattle.ftl_tokens.proofs.reading.TokenPrefix.{past_prefix, name_prefix, end_prefix, at_end_prefix, skip_prefix}
use Rattle.ftl_tokens.proofs.reading.ChainPrefix.{OrNone, Chain, chain_prefix, chain_added}
use Rattle.ftl_schedule.specs.declared.syntax.kind.PassKind.{PassKind}
use Rattle.ftl_schedule.specs.declared.syntax.kind.PassKind.TheVariants.{TopDown, BottomUp, InOrder}
use Rattle.ftl_schedule.specs.declared.syntax.types.WrittenPass.{WrittenPass}
use Rattle.ftl_schedule.specs.declared.syntax.types.WrittenStage.{WrittenStage}
use Rattle.ftl_schedule.specs.syntax.Spelling.{SpellsPass, SpellsStage, SpellsStages, one_stage, more_stages}
use Rattle.ftl_schedule.proofs.syntax.SchedulePrefix.{pass_prefix, stage_prefix, more_stage_prefix, MoreStage}
use Rattle.ftl_schedule.proofs.syntax.SchedulePrefix.{more_stage_of}
use Rattle.ftl_nest_text.specs.declared.syntax.types.WrittenNest.{WrittenNest}
use Rattle.ftl_nest_text.specs.declared.syntax.types.WrittenNestingPass.{WrittenNestingPass}
use Rattle.ftl_nest_text.specs.declared.syntax.types.WrittenNestingStage.{WrittenNestingStage}
use Rattle.ftl_nest_text.specs.syntax.NestTrees as tree
use Rattle.ftl_nest_text.specs.syntax.NestTrees.{MayNest, nest_word, written_nest}
use Rattle.ftl_nest_text.specs.syntax.NestSpelling.{SpellsInner, SpellsNest, SpellsNestingPass, SpellsNestingPasses}
use Rattle.ftl_nest_text.specs.syntax.NestSpelling.{SpellsNestingStage, SpellsNestingStages, SpellsNestingSchedule}
use Rattle.ftl_nest_text.specs.syntax.NestSpelling.{no_inner, inner_of, nest_of, without_nest, with_nest}
use Rattle.ftl_nest_text.specs.syntax.NestSpelling.{one_nesting_pass, more_nesting_passes, nesting_stage_of}
use Rattle.ftl_nest_text.specs.syntax.NestSpelling.{one_nesting_stage, more_nesting_stages, no_nesting_stages}
use Rattle.ftl_nest_text.specs.syntax.NestSpelling.{nesting_stages_of}
use Rattle.ftl_nest_text.specs.syntax.NestReading.{take_nest_word, inner_stages, inner_by, inner, nest, more_nest_by}
use Rattle.ftl_nest_text.specs.syntax.NestReading.{more_nest, nest_after, nesting_pass, more_nesting_pass_by}
use Rattle.ftl_nest_text.specs.syntax.NestReading.{more_nesting_pass, nesting_stage, more_nesting_stage_by}
use Rattle.ftl_nest_text.specs.syntax.NestReading.{more_nesting_stage, nesting_stages, nesting_schedule_by}
use Rattle.ftl_nest_text.specs.syntax.NestReading.{nesting_schedule}
use Rattle.ftl_nest_text.proofs.syntax.NestWords.{takes_nest, nest_is_token, from_nest}

-- ---- nests

-- the word that a nest begins with
pub data SpellsNestWord : Tokens → Unit {0} → Type 0 where
  its_word : {x : Unit {0}} → SpellsNestWord (name nest_word ∷ []) x

nest_word_prefix : KeepsPrefix SpellsNestWord take_nest_word
nest_word_prefix =
    record { keeps = λ ts. subst (λ o. HasPrefix SpellsNestWord o ts) (sym (nest_is_token.reads ts)) (go ts) }
  where
    refused : (ts : Tokens) → HasPrefix SpellsNestWord (Err ts) ts
    refused ts = record { front = []; more = name nest_word ∷ []; value = tt; spells = its_word; split = refl }

    by_case : (o : Option (Unit {0})) (t : Symbol) (ts : Tokens) → takes_nest t ≡ o
        → HasPrefix SpellsNestWord (token_by o t ts) (t ∷ ts)
    by_case None t ts e = refused (t ∷ ts)
    by_case (Some x) t ts e =
        record {
          front = t ∷ [];
          spells = subst (λ u. SpellsNestWord (u ∷ []) x) (sym (from_nest t x e)) its_word;
          split = refl;
        }

    go : (ts : Tokens) → HasPrefix SpellsNestWord (token takes_nest ts) ts
    go [] = refused []
    go (t ∷ ts) = by_case (takes_nest t) t ts refl

-- what may stand between a stage and the end of the stages
record MoreInner (b : Tokens) (xs : List WrittenStage) : Type 0 where
  after : (a : Tokens) (x : WrittenStage) → SpellsStage a x → SpellsStages (a ++ b) (x ∷ xs)

no_more_inner : MoreInner [] []
no_more_inner = record {
  after = λ a x s. subst (λ l. SpellsStages l (x ∷ [])) (sym (append-nil a)) (one_stage s);
}

one_more_inner : (a b : Tokens) (x : WrittenStage) (xs : List WrittenStage) → MoreStage a x → MoreInner b xs
    → MoreInner (a ++ b) (x ∷ xs)
one_more_inner a b x xs (more_stage_of {a = c} s) rest = record { after = λ d y t. more_stages t (rest.after c x s) }

-- a stage and those after it spell stages
stages_turn : (a b : Tokens) (x : WrittenStage) (xs : List WrittenStage) → SpellsStage a x
    → Chain push MoreStage (x ∷ []) b xs → SpellsStages (a ++ b) xs
stages_turn a b x xs s all =
    let added = chain_added MoreInner no_more_inner one_more_inner all in
    subst (λ l. SpellsStages (a ++ b) l) (sym added.all) (added.spells.after a x s)

inner_stages_prefix : KeepsPrefix SpellsStages inner_stages
unfolding inner_stages
inner_stages_prefix =
    bind_prefix stage_prefix
    (λ a x s. example [] (x ∷ []) (no_more_inner.after a x s))
    (λ a x s. wider_prefix (λ b xs all. stages_turn a b x xs s all) (chain_prefix more_stage_prefix (x ∷ [])))

inner_prefix : KeepsPrefix SpellsInner inner
unfolding inner
inner_prefix = look_prefix inner_by each
  where
    each : (k : Option Kind) → KeepsPrefixAt k SpellsInner (inner_by k)
    each (Some kind.Name) = at_any (wider_prefix (λ a xs s. inner_of s) inner_stages_prefix)
    each _ = at_any (pure_prefix no_inner)

-- a nest without its first word
nest_rest : Reader WrittenNest
nest_rest = do
  host ← take_name
  expect kind.LeftBrace
  xs ← inner
  expect kind.RightBrace
  pure (written_nest host xs)

nest_rest_prefix : KeepsPrefix (After (name nest_word ∷ []) SpellsNest) nest_rest
unfolding nest_rest
nest_rest_prefix =
    name_prefix
    (λ host. example (fixed kind.LeftBrace ∷ fixed kind.RightBrace ∷ []) (written_nest host []) (nest_of no_inner))
    (λ host. past_prefix kind.LeftBrace
    (example (fixed kind.RightBrace ∷ []) (written_nest host []) (nest_of no_inner))
    (bind_prefix inner_prefix
    (λ a xs s. example (fixed kind.RightBrace ∷ []) (written_nest host xs) (nest_of s))
    (λ a xs s. end_prefix kind.RightBrace (written_nest host xs) (nest_of s))))

nest_prefix : KeepsPrefix SpellsNest nest
unfolding nest nest_rest
nest_prefix = bind_prefix {f = λ u. nest_rest} nest_word_prefix more next
  where
    more : (a : Tokens) (u : Unit {0}) → SpellsNestWord a u → Example (After a SpellsNest)
    more a u its_word =
        example (name [] ∷ fixed kind.LeftBrace ∷ fixed kind.RightBrace ∷ []) (written_nest [] []) (nest_of no_inner)

    next : (a : Tokens) (u : Unit {0}) → SpellsNestWord a u → KeepsPrefix (After a SpellsNest) nest_rest
    next a u its_word = nest_rest_prefix

more_nest_prefix : KeepsPrefix (OrNone SpellsNest) more_nest
unfolding more_nest
more_nest_prefix = look_prefix more_nest_by each
  where
    each : (k : Option Kind) → KeepsPrefixAt k (OrNone SpellsNest) (more_nest_by k)
    each (Some kind.Name) = at_any (map_prefix Some nest_prefix (λ a x s. s))
    each _ = at_any (pure_prefix refl)

-- what these tokens say of the nest of a pass of this kind
abbrev NestOf : PassKind → Tokens → Option WrittenNest → Type 0
NestOf k b None = b ≡ []
NestOf k b (Some x) = MayNest k × SpellsNest b x

-- where a pass may nest, no more is asked
nest_of_kind : (k : PassKind) → MayNest k → (b : Tokens) (x : Option WrittenNest) → OrNone SpellsNest b x → NestOf k b x
nest_of_kind k may b None e = e
nest_of_kind k may b (Some x) s = (may, s)

nest_after_prefix : (k : PassKind) → KeepsPrefix (NestOf k) (nest_after k)
nest_after_prefix TopDown = wider_prefix (nest_of_kind TopDown tt) more_nest_prefix
nest_after_prefix BottomUp = wider_prefix (nest_of_kind BottomUp tt) more_nest_prefix
nest_after_prefix InOrder = pure_prefix refl

-- ---- passes

-- a pass and what it nests
pass_turn : (a : Tokens) (p : WrittenPass) → SpellsPass a p → (b : Tokens) (x : Option WrittenNest)
    → NestOf p.kind b x → SpellsNestingPass (a ++ b) (tree.nesting_pass p x)
pass_turn a p s b None e =
    subst (λ l. SpellsNestingPass (a ++ l) (tree.nesting_pass p None)) (sym e)
    (subst (λ l. SpellsNestingPass l (tree.nesting_pass p None)) (sym (append-nil a)) (without_nest s))
pass_turn a p s b (Some x) n = with_nest n.0 s n.1

nesting_pass_prefix : KeepsPrefix SpellsNestingPass nesting_pass
unfolding nesting_pass
nesting_pass_prefix =
    bind_prefix pass_prefix (λ a p s. example [] (tree.nesting_pass p None) (pass_turn a p s [] None refl))
    (λ a p s. map_prefix (tree.nesting_pass p) (nest_after_prefix p.kind) (pass_turn a p s))

-- ---- stages

-- `||` and a pass
pub data MoreNestingPass : Tokens → WrittenNestingPass → Type 0 where
  more_nesting_pass_of : {a : Tokens} {x : WrittenNestingPass} → SpellsNestingPass a x
      → MoreNestingPass (fixed kind.OrOr ∷ a) x

pub more_nesting_pass_prefix : KeepsPrefix (OrNone MoreNestingPass) more_nesting_pass
unfolding more_nesting_pass
more_nesting_pass_prefix = look_prefix more_nesting_pass_by each
  where
    each : (k : Option Kind) → KeepsPrefixAt k (OrNone MoreNestingPass) (more_nesting_pass_by k)
    each (Some kind.OrOr) =
        skip_prefix kind.OrOr tt (map_prefix Some nesting_pass_prefix (λ a x s. more_nesting_pass_of s))
    each _ = at_any (pure_prefix refl)

-- what may stand between a pass and the end of its stage
record MorePasses (b : Tokens) (xs : List WrittenNestingPass) : Type 0 where
  after : (a : Tokens) (x : WrittenNestingPass) → SpellsNestingPass a x → SpellsNestingPasses (a ++ b) (x ∷ xs)

no_more_passes : MorePasses [] []
no_more_passes = record {
  after = λ a x s. subst (λ l. SpellsNestingPasses l (x ∷ [])) (sym (append-nil a)) (one_nesting_pass s);
}

one_more_pass : (a b : Tokens) (x : WrittenNestingPass) (xs : List WrittenNestingPass) → MoreNestingPass a x
    → MorePasses b xs → MorePasses (a ++ b) (x ∷ xs)
one_more_pass a b x xs (more_nesting_pass_of {a = c} s) rest =
    record { after = λ d y t. more_nesting_passes t (rest.after c x s) }

passes_turn : (a b : Tokens) (x : WrittenNestingPass) (xs : List WrittenNestingPass) → SpellsNestingPass a x
    → Chain push MoreNestingPass (x ∷ []) b xs → SpellsNestingPasses (a ++ b) xs
passes_turn a b x xs s all =
    let added = chain_added MorePasses no_more_passes one_more_pass all in
    subst (λ l. SpellsNestingPasses (a ++ b) l) (sym added.all) (added.spells.after a x s)

nesting_stage_prefix : KeepsPrefix SpellsNestingStage nesting_stage
unfolding nesting_stage
nesting_stage_prefix =
    bind_prefix nesting_pass_prefix
    (λ a x s. example [] (tree.nesting_stage (x ∷ [])) (nesting_stage_of (no_more_passes.after a x s)))
    (λ a x s. map_prefix tree.nesting_stage (chain_prefix more_nesting_pass_prefix (x ∷ []))
    (λ b xs all. nesting_stage_of (passes_turn a b x xs s all)))

-- ---- schedules

-- `;` and a stage
pub data MoreNestingStage : Tokens → WrittenNestingStage → Type 0 where
  more_nesting_stage_of : {a : Tokens} {x : WrittenNestingStage} → SpellsNestingStage a x
      → MoreNestingStage (fixed kind.Semicolon ∷ a) x

pub more_nesting_stage_prefix : KeepsPrefix (OrNone MoreNestingStage) more_nesting_stage
unfolding more_nesting_stage
more_nesting_stage_prefix = look_prefix more_nesting_stage_by each
  where
    each : (k : Option Kind) → KeepsPrefixAt k (OrNone MoreNestingStage) (more_nesting_stage_by k)
    each (Some kind.Semicolon) =
        skip_prefix kind.Semicolon tt (map_prefix Some nesting_stage_prefix (λ a x s. more_nesting_stage_of s))
    each _ = at_any (pure_prefix refl)

-- what may stand between a stage and the end of the schedule
record MoreOuter (b : Tokens) (xs : List WrittenNestingStage) : Type 0 where
  after : (a : Tokens) (x : WrittenNestingStage) → SpellsNestingStage a x → SpellsNestingStages (a ++ b) (x ∷ xs)

no_more_outer : MoreOuter [] []
no_more_outer = record {
  after = λ a x s. subst (λ l. SpellsNestingStages l (x ∷ [])) (sym (append-nil a)) (one_nesting_stage s);
}

one_more_outer : (a b : Tokens) (x : WrittenNestingStage) (xs : List WrittenNestingStage) → MoreNestingStage a x
    → MoreOuter b xs → MoreOuter (a ++ b) (x ∷ xs)
one_more_outer a b x xs (more_nesting_stage_of {a = c} s) rest =
    record { after = λ d y t. more_nesting_stages t (rest.after c x s) }

outer_turn : (a b : Tokens) (x : WrittenNestingStage) (xs : List WrittenNestingStage) → SpellsNestingStage a x
    → Chain push MoreNestingStage (x ∷ []) b xs → SpellsNestingSchedule (a ++ (b ++ [])) (tree.nesting_schedule xs)
outer_turn a b x xs s all =
    let added = chain_added MoreOuter no_more_outer one_more_outer all in
    let spells : SpellsNestingStages (a ++ b) xs =
    subst (λ l. SpellsNestingStages (a ++ b) l) (sym added.all) (added.spells.after a x s) in
    subst (λ l. SpellsNestingSchedule (a ++ l) (tree.nesting_schedule xs)) (sym (append-nil b))
    (nesting_stages_of spells)

nesting_stages_prefix : KeepsPrefix SpellsNestingSchedule nesting_stages
unfolding nesting_stages
nesting_stages_prefix =
    bind_prefix nesting_stage_prefix
    (λ a x s. example [] (tree.nesting_schedule (x ∷ [])) (nesting_stages_of (no_more_outer.after a x s)))
    (λ a x s. bind_prefix (chain_prefix more_nesting_stage_prefix (x ∷ []))
    (λ b xs all. example [] (tree.nesting_schedule xs) (outer_turn a b x xs s all))
    (λ b xs all. at_end_prefix (tree.nesting_schedule xs) (outer_turn a b x xs s all)))

pub nesting_schedule_prefix : KeepsPrefix SpellsNestingSchedule nesting_schedule
unfolding nesting_schedule
nesting_schedule_prefix = look_prefix nesting_schedule_by each
  where
    each : (k : Option Kind) → KeepsPrefixAt k SpellsNestingSchedule (nesting_schedule_by k)
    each None = at_any (pure_prefix no_nesting_stages)
    each (Some k) = at_any nesting_stages_prefix
