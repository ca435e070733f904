-- What spells a schedule with nests is read whole: `x_went` by the reader `x`.
use Rattle.std.proofs.Common.{◌≡◌, ◌<◌, List, [], ◌∷◌, ◌++◌, length, Option, Some, None, refl, sym, ap, subst}
use Rattle.std.proofs.Common.{append_assoc, append-nil, arith}
use Rattle.ftl_tokens.specs.declared.scanner.kind.Kind.{Kind}
use Rattle.ftl_tokens.specs.declared.scanner.kind.Kind.TheVariants as kind
use Rattle.ftl_tokens.specs.scanner.Tokenized.{name, fixed}
use Rattle.ftl_tokens.specs.reading.Reader.{Tokens, Reader, ◌>>=◌, ◌>>◌, pure, next_kind, expect, take_name, at_end}
use Rattle.ftl_tokens.specs.reading.Reader.{push, chain_of}
use Rattle.ftl_tokens.proofs.reading.ChainPrefix.{Chain, chain_none, chain_more}
use Rattle.ftl_tokens.proofs.reading.Went.{got, went_bind, went_map, went_pure, went_past, went_skip, went_name}
use Rattle.ftl_tokens.proofs.reading.Went.{went_by, went_at}
use Rattle.ftl_tokens.proofs.reading.ChainWent.{CompleteItem, chain_follows, chain_went}
use Rattle.ftl_schedule.specs.declared.syntax.kind.PassKind.{PassKind}
use Rattle.ftl_schedule.specs.declared.syntax.kind.PassKind.TheVariants.{TopDown, BottomUp, InOrder}
use Rattle.ftl_schedule.specs.declared.syntax.types.WrittenStage.{WrittenStage}
use Rattle.ftl_schedule.specs.syntax.Spelling.{SpellsStages, pass_of, one_stage, more_stages}
use Rattle.ftl_schedule.specs.syntax.Reading.{more_stage}
use Rattle.ftl_schedule.proofs.syntax.SchedulePrefix.{MoreStage, more_stage_of}
use Rattle.ftl_schedule.proofs.syntax.Went.{no_peak, Whole, small, part, Ends, pass_went}
use Rattle.ftl_schedule.proofs.syntax.Went.{stage_went, list_went, begins_stages}
use Rattle.ftl_nest_text.specs.declared.syntax.types.WrittenNest.{WrittenNest}
use Rattle.ftl_nest_text.specs.declared.syntax.types.WrittenNestingPass.{WrittenNestingPass}
use Rattle.ftl_nest_text.specs.declared.syntax.types.WrittenNestingStage.{WrittenNestingStage}
use Rattle.ftl_nest_text.specs.declared.syntax.types.WrittenNestingSchedule.{WrittenNestingSchedule}
use Rattle.ftl_nest_text.specs.syntax.NestTrees as tree
use Rattle.ftl_nest_text.specs.syntax.NestTrees.{MayNest, nest_word, written_nest}
use Rattle.ftl_nest_text.specs.syntax.NestSpelling.{SpellsInner, SpellsNest, SpellsNestingPass, SpellsNestingPasses}
use Rattle.ftl_nest_text.specs.syntax.NestSpelling.{SpellsNestingStage, SpellsNestingStages, SpellsNestingSchedule}
use Rattle.ftl_nest_text.specs.syntax.NestSpelling.{no_inner, inner_of, nest_of, without_nest, with_nest}
use Rattle.ftl_nest_text.specs.syntax.NestSpelling.{one_nesting_pass, more_nesting_passes, nesting_stage_of}
use Rattle.ftl_nest_text.specs.syntax.NestSpelling.{one_nesting_stage, more_nesting_stages, no_nesting_stages}
use Rattle.ftl_nest_text.specs.syntax.NestSpelling.{nesting_stages_of}
use Rattle.ftl_nest_text.specs.syntax.NestReading.{take_nest_word, inner_stages, inner_by, inner, nest, more_nest_by}
use Rattle.ftl_nest_text.specs.syntax.NestReading.{more_nest, nest_after, nesting_pass, more_nesting_pass_by}
use Rattle.ftl_nest_text.specs.syntax.NestReading.{more_nesting_pass, nesting_stage, more_nesting_stage_by}
use Rattle.ftl_nest_text.specs.syntax.NestReading.{more_nesting_stage, nesting_stages, nesting_schedule_by}
use Rattle.ftl_nest_text.specs.syntax.NestReading.{nesting_schedule}
use Rattle.ftl_nest_text.proofs.syntax.NestWords.{nest_is_token}
use Rattle.ftl_nest_text.proofs.syntax.NestPrefix.{MoreNestingPass, more_nesting_pass_of, MoreNestingStage}
use Rattle.ftl_nest_text.proofs.syntax.NestPrefix.{more_nesting_stage_of}

-- the first token is the same before others
first_before : (a rest : Tokens) (k : Kind) → next_kind a ≡ Some k → next_kind (a ++ rest) ≡ Some k
unfolding next_kind
first_before [] rest k e = cc
first_before (t ∷ a) rest k e = e

-- ---- nests

-- the stages after the first, each behind `;`
later_stages : {a : Tokens} {xs : List WrittenStage} (found : List WrittenStage) → SpellsStages a xs
    → Chain push MoreStage found (fixed kind.Semicolon ∷ a) (found ++ xs)
later_stages found (one_stage {a = a} {x = x} s) =
    subst (λ l. Chain push MoreStage found l (found ++ (x ∷ []))) (append-nil (fixed kind.Semicolon ∷ a))
    (chain_more (fixed kind.Semicolon ∷ a) [] x [] (more_stage_of s) (chain_none (push found x)))
later_stages found (more_stages {a = a} {b = b} {x = x} {xs = xs} s t) =
    chain_more (fixed kind.Semicolon ∷ a) (fixed kind.Semicolon ∷ b) x xs (more_stage_of s)
    (later_stages (push found x) t)

inner_stages_went : {a : Tokens} {xs : List WrittenStage} → SpellsStages a xs → (rest : Tokens) → Ends 1 rest
    → Whole inner_stages (a ++ rest) xs rest
unfolding inner_stages
inner_stages_went (one_stage {a = a} {x = x} s) rest e =
    went_bind (λ l. chain_of push more_stage (l ∷ [])) (stage_went s rest (list_went.ends rest e))
    (λ few. chain_went list_went (chain_none (x ∷ [])) rest e (small rest))
inner_stages_went (more_stages {a = a} {b = b} {x = x} s t) rest e =
    let later = later_stages (x ∷ []) t in
    went_at (append_assoc a (fixed kind.Semicolon ∷ b) rest)
    (went_bind (λ l. chain_of push more_stage (l ∷ []))
    (stage_went s ((fixed kind.Semicolon ∷ b) ++ rest) (chain_follows list_went later rest e))
    (λ few. chain_went list_went later rest e (small ((fixed kind.Semicolon ∷ b) ++ rest))))

inner_other : (k : Option Kind) → part k < 1 → inner_by k ≡ pure []
inner_other (Some kind.Name) e = absurd (omega arith)
inner_other _ e = refl

inner_went : {a : Tokens} {xs : List WrittenStage} → SpellsInner a xs → (rest : Tokens) → Ends 1 rest
    → Whole inner (a ++ rest) xs rest
unfolding inner
inner_went no_inner rest e = went_by inner_by (inner_other (next_kind rest) e) (went_pure (small rest))
inner_went (inner_of {a = a} s) rest e =
    went_by inner_by (ap inner_by (first_before a rest kind.Name (begins_stages s))) (inner_stages_went s rest e)

-- the word that a nest begins with is taken
word_went : {B : Type 0} {r s : Tokens} {y : B} (f : Unit {0} → Reader B) → Whole (f tt) r y s
    → Whole (take_nest_word >>= f) (name nest_word ∷ r) y s
word_went {r = r} f went =
    went_bind f (record { reads = nest_is_token.reads (name nest_word ∷ r); small = small r }) (λ few. went)

more_nest_went : {a : Tokens} {x : WrittenNest} → SpellsNest a x → (rest : Tokens)
    → Whole more_nest (a ++ rest) (Some x) rest
unfolding more_nest nest next_kind
more_nest_went (nest_of {host = host} {a = a} s) rest =
    went_by more_nest_by refl
    (went_map Some
    (word_went
    (λ u. take_name >>= (λ l. expect kind.LeftBrace
    >> (inner >>= (λ ys. expect kind.RightBrace >> pure (written_nest l ys)))))
    (went_name
    (λ l. expect kind.LeftBrace >> (inner >>= (λ ys. expect kind.RightBrace >> pure (written_nest l ys))))
    (went_past kind.LeftBrace
    (went_at (append_assoc a (fixed kind.RightBrace ∷ []) rest)
    (went_bind (λ ys. expect kind.RightBrace >> pure (written_nest host ys))
    (inner_went s (fixed kind.RightBrace ∷ rest) (omega arith))
    (λ few. went_past kind.RightBrace (went_pure (small rest)))))))))

nest_other : (k : Option Kind) → part k < 3 → more_nest_by k ≡ pure None
nest_other (Some kind.Name) e = absurd (omega arith)
nest_other _ e = refl

no_more_nest : (rest : Tokens) → Ends 3 rest → more_nest rest ≡ got None rest
unfolding more_nest
no_more_nest rest e = ap (λ p. p rest) (nest_other (next_kind rest) e)

no_nest_after : (k : PassKind) (rest : Tokens) → Ends 3 rest → nest_after k rest ≡ got None rest
no_nest_after TopDown rest e = no_more_nest rest e
no_nest_after BottomUp rest e = no_more_nest rest e
no_nest_after InOrder rest e = refl

nest_after_went : (k : PassKind) → MayNest k → {a : Tokens} {x : WrittenNest} → SpellsNest a x → (rest : Tokens)
    → Whole (nest_after k) (a ++ rest) (Some x) rest
nest_after_went TopDown may s rest = more_nest_went s rest
nest_after_went BottomUp may s rest = more_nest_went s rest
nest_after_went InOrder may s rest = absurd may

-- ---- passes

nesting_pass_went : {a : Tokens} {x : WrittenNestingPass} → SpellsNestingPass a x → (rest : Tokens) → Ends 3 rest
    → Whole nesting_pass (a ++ rest) x rest
unfolding nesting_pass
nesting_pass_went (without_nest {p = p} s) rest e =
    went_bind (λ q. nest_after q.kind >>= (λ n. pure (tree.nesting_pass q n))) (pass_went s rest)
    (λ few. went_map (tree.nesting_pass p) (record { reads = no_nest_after p.kind rest e; small = small rest }))
nesting_pass_went (with_nest {a = a} {b = b} {p = p} may s t) rest e =
    went_at (append_assoc a b rest)
    (went_bind (λ q. nest_after q.kind >>= (λ n. pure (tree.nesting_pass q n))) (pass_went s (b ++ rest))
    (λ few. went_map (tree.nesting_pass p) (nest_after_went p.kind may t rest)))

more_nesting_pass_went : {a : Tokens} {x : WrittenNestingPass} → MoreNestingPass a x → (rest : Tokens) → Ends 3 rest
    → Whole more_nesting_pass (a ++ rest) (Some x) rest
unfolding more_nesting_pass next_kind
more_nesting_pass_went (more_nesting_pass_of s) rest e =
    went_by more_nesting_pass_by refl (went_skip (went_map Some (nesting_pass_went s rest e)))

nesting_pass_other : (k : Option Kind) → part k < 2 → more_nesting_pass_by k ≡ pure None
nesting_pass_other (Some kind.OrOr) e = absurd (omega arith)
nesting_pass_other _ e = refl

no_more_nesting_pass : (rest : Tokens) → Ends 2 rest → more_nesting_pass rest ≡ got None rest
unfolding more_nesting_pass
no_more_nesting_pass rest e = ap (λ p. p rest) (nesting_pass_other (next_kind rest) e)

pub some_nesting_pass : {a : Tokens} {x : WrittenNestingPass} → MoreNestingPass a x → 0 < length a
some_nesting_pass (more_nesting_pass_of s) = omega arith

begins_pass : {a : Tokens} {x : WrittenNestingPass} → MoreNestingPass a x → (rest : Tokens) → Ends 3 (a ++ rest)
unfolding next_kind
begins_pass (more_nesting_pass_of s) rest = omega arith

passes_went : CompleteItem no_peak 1 (Ends 2) (Ends 3) MoreNestingPass more_nesting_pass
passes_went = record {
  found = λ s rest follows few. more_nesting_pass_went s rest follows;
  stops = no_more_nesting_pass;
  begins = begins_pass;
  ends = λ rest e. omega arith;
  some = some_nesting_pass;
}

-- ---- stages

-- the passes after the first, each behind `||`
later_passes : {a : Tokens} {xs : List WrittenNestingPass} (found : List WrittenNestingPass) → SpellsNestingPasses a xs
    → Chain push MoreNestingPass found (fixed kind.OrOr ∷ a) (found ++ xs)
later_passes found (one_nesting_pass {a = a} {x = x} s) =
    subst (λ l. Chain push MoreNestingPass found l (found ++ (x ∷ []))) (append-nil (fixed kind.OrOr ∷ a))
    (chain_more (fixed kind.OrOr ∷ a) [] x [] (more_nesting_pass_of s) (chain_none (push found x)))
later_passes found (more_nesting_passes {a = a} {b = b} {x = x} {xs = xs} s t) =
    chain_more (fixed kind.OrOr ∷ a) (fixed kind.OrOr ∷ b) x xs (more_nesting_pass_of s)
    (later_passes (push found x) t)

nesting_stage_went : {a : Tokens} {x : WrittenNestingStage} → SpellsNestingStage a x → (rest : Tokens) → Ends 2 rest
    → Whole nesting_stage (a ++ rest) x rest
unfolding nesting_stage
nesting_stage_went (nesting_stage_of (one_nesting_pass {x = x} s)) rest e =
    went_bind (λ l. chain_of push more_nesting_pass (l ∷ []) >>= (λ ys. pure (tree.nesting_stage ys)))
    (nesting_pass_went s rest (passes_went.ends rest e))
    (λ few. went_map tree.nesting_stage (chain_went passes_went (chain_none (x ∷ [])) rest e (small rest)))
nesting_stage_went (nesting_stage_of (more_nesting_passes {a = a} {b = b} {x = x} s t)) rest e =
    let later = later_passes (x ∷ []) t in
    went_at (append_assoc a (fixed kind.OrOr ∷ b) rest)
    (went_bind (λ l. chain_of push more_nesting_pass (l ∷ []) >>= (λ ys. pure (tree.nesting_stage ys)))
    (nesting_pass_went s ((fixed kind.OrOr ∷ b) ++ rest) (chain_follows passes_went later rest e))
    (λ few. went_map tree.nesting_stage
    (chain_went passes_went later rest e (small ((fixed kind.OrOr ∷ b) ++ rest)))))

more_nesting_stage_went : {a : Tokens} {x : WrittenNestingStage} → MoreNestingStage a x → (rest : Tokens)
    → Ends 2 rest → Whole more_nesting_stage (a ++ rest) (Some x) rest
unfolding more_nesting_stage next_kind
more_nesting_stage_went (more_nesting_stage_of s) rest e =
    went_by more_nesting_stage_by refl (went_skip (went_map Some (nesting_stage_went s rest e)))

nesting_stage_other : (k : Option Kind) → part k < 1 → more_nesting_stage_by k ≡ pure None
nesting_stage_other (Some kind.Semicolon) e = absurd (omega arith)
nesting_stage_other _ e = refl

no_more_nesting_stage : (rest : Tokens) → Ends 1 rest → more_nesting_stage rest ≡ got None rest
unfolding more_nesting_stage
no_more_nesting_stage rest e = ap (λ p. p rest) (nesting_stage_other (next_kind rest) e)

pub some_nesting_stage : {a : Tokens} {x : WrittenNestingStage} → MoreNestingStage a x → 0 < length a
some_nesting_stage (more_nesting_stage_of s) = omega arith

begins_later : {a : Tokens} {x : WrittenNestingStage} → MoreNestingStage a x → (rest : Tokens) → Ends 2 (a ++ rest)
unfolding next_kind
begins_later (more_nesting_stage_of s) rest = omega arith

outer_went : CompleteItem no_peak 1 (Ends 1) (Ends 2) MoreNestingStage more_nesting_stage
outer_went = record {
  found = λ s rest follows few. more_nesting_stage_went s rest follows;
  stops = no_more_nesting_stage;
  begins = begins_later;
  ends = λ rest e. omega arith;
  some = some_nesting_stage;
}

-- ---- schedules

-- the stages after the first, each behind `;`
later_outer : {a : Tokens} {xs : List WrittenNestingStage} (found : List WrittenNestingStage)
    → SpellsNestingStages a xs → Chain push MoreNestingStage found (fixed kind.Semicolon ∷ a) (found ++ xs)
later_outer found (one_nesting_stage {a = a} {x = x} s) =
    subst (λ l. Chain push MoreNestingStage found l (found ++ (x ∷ []))) (append-nil (fixed kind.Semicolon ∷ a))
    (chain_more (fixed kind.Semicolon ∷ a) [] x [] (more_nesting_stage_of s) (chain_none (push found x)))
later_outer found (more_nesting_stages {a = a} {b = b} {x = x} {xs = xs} s t) =
    chain_more (fixed kind.Semicolon ∷ a) (fixed kind.Semicolon ∷ b) x xs (more_nesting_stage_of s)
    (later_outer (push found x) t)

-- the first stage and those after it are read to their end
from_first : {a b : Tokens} {x : WrittenNestingStage} {xs : List WrittenNestingStage} → SpellsNestingStage a x
    → Chain push MoreNestingStage (x ∷ []) b xs
    → Whole nesting_stages (a ++ (b ++ [])) (tree.nesting_schedule xs) []
unfolding nesting_stages next_kind at_end
from_first {b = b} s later =
    went_bind (λ l. chain_of push more_nesting_stage (l ∷ []) >>= (λ ys. at_end >> pure (tree.nesting_schedule ys)))
    (nesting_stage_went s (b ++ []) (chain_follows outer_went later [] (omega arith)))
    (λ few. went_bind (λ ys. at_end >> pure (tree.nesting_schedule ys))
    (chain_went outer_went later [] (omega arith) (small (b ++ [])))
    (λ few. record { reads = refl; small = small [] }))

nesting_stages_went : {a : Tokens} {xs : List WrittenNestingStage} → SpellsNestingStages a xs
    → Whole nesting_stages a (tree.nesting_schedule xs) []
nesting_stages_went (one_nesting_stage {a = a} {x = x} s) =
    went_at (sym (append-nil a)) (from_first s (chain_none (x ∷ [])))
nesting_stages_went (more_nesting_stages {a = a} {b = b} {x = x} s t) =
    went_at (ap (λ l. a ++ l) (sym (append-nil (fixed kind.Semicolon ∷ b)))) (from_first s (later_outer (x ∷ []) t))

-- what begins a pass is a name
pass_begins : {a : Tokens} {x : WrittenNestingPass} → SpellsNestingPass a x → next_kind a ≡ Some kind.Name
unfolding next_kind
pass_begins (without_nest (pass_of s)) = refl
pass_begins (with_nest may (pass_of s) t) = refl

-- what begins a stage is a name
stage_begins : {a : Tokens} {x : WrittenNestingStage} → SpellsNestingStage a x → next_kind a ≡ Some kind.Name
stage_begins (nesting_stage_of (one_nesting_pass s)) = pass_begins s
stage_begins (nesting_stage_of (more_nesting_passes {a = a} {b = b} s t)) =
    first_before a (fixed kind.OrOr ∷ b) kind.Name (pass_begins s)

-- what begins stages is a name
stages_begin : {a : Tokens} {xs : List WrittenNestingStage} → SpellsNestingStages a xs → next_kind a ≡ Some kind.Name
stages_begin (one_nesting_stage s) = stage_begins s
stages_begin (more_nesting_stages {a = a} {b = b} s t) =
    first_before a (fixed kind.Semicolon ∷ b) kind.Name (stage_begins s)

pub nesting_schedule_went : {a : Tokens} {x : WrittenNestingSchedule} → SpellsNestingSchedule a x
    → Whole nesting_schedule a x []
unfolding nesting_schedule next_kind
nesting_schedule_went no_nesting_stages = went_by nesting_schedule_by refl (went_pure (small []))
nesting_schedule_went (nesting_stages_of s) =
    went_by nesting_schedule_by (ap nesting_schedule_by (stages_begin s)) (nesting_stages_went s)
