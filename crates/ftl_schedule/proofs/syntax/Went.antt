-- What spells a schedule is read whole: `x_went` by the reader `x`. No brackets nest here, so none are counted.
use Rattle.std.proofs.Common.{◌≡◌, ℕ, ◌<◌, List, [], ◌∷◌, ◌++◌, length, Option, Some, None, refl, sym, ap, ◌∙◌, subst}
use Rattle.std.proofs.Common.{append_assoc, append-nil, arith}
use Rattle.ftl_tokens.specs.declared.scanner.kind.Kind.{Kind}
use Rattle.ftl_tokens.specs.declared.scanner.kind.Kind.TheVariants as kind
use Rattle.ftl_tokens.specs.scanner.Tokenized.{name, fixed}
use Rattle.ftl_tokens.specs.reading.Reader.{Tokens, Reader, ◌>>=◌, ◌>>◌, pure, next_kind, expect, take_name, at_end, push}
use Rattle.ftl_tokens.specs.reading.Reader.{chain_of}
use Rattle.ftl_tokens.proofs.reading.TokenLemmas.{token_by}
use Rattle.ftl_tokens.proofs.reading.ChainPrefix.{Chain, chain_none, chain_more}
use Rattle.ftl_tokens.proofs.reading.Went.{got, Went, went_bind, went_map, went_pure, went_past, went_skip, went_name, went_by}
use Rattle.ftl_tokens.proofs.reading.Went.{went_at}
use Rattle.ftl_tokens.proofs.reading.ChainWent.{CompleteItem, chain_went}
use Rattle.ftl_schedule.specs.declared.syntax.kind.PassKind.{PassKind}
use Rattle.ftl_schedule.specs.declared.syntax.types.AttributeName.{AttributeName}
use Rattle.ftl_schedule.specs.declared.syntax.types.WrittenPass.{WrittenPass}
use Rattle.ftl_schedule.specs.declared.syntax.types.WrittenStage.{WrittenStage}
use Rattle.ftl_schedule.specs.declared.syntax.types.WrittenSchedule.{WrittenSchedule}
use Rattle.ftl_schedule.specs.syntax.Trees.{word_of, attribute_name, written_pass, written_stage, written_schedule}
use Rattle.ftl_schedule.specs.syntax.Spelling.{SpellsAttribute, SpellsAttributes, SpellsPass, SpellsPasses, SpellsStage}
use Rattle.ftl_schedule.specs.syntax.Spelling.{SpellsStages, SpellsSchedule, attribute_of, no_attributes}
use Rattle.ftl_schedule.specs.syntax.Spelling.{more_attributes, pass_of, one_pass, more_passes, stage_of, one_stage}
use Rattle.ftl_schedule.specs.syntax.Spelling.{more_stages, no_stages, stages_of}
use Rattle.ftl_schedule.specs.syntax.Reading.{take_kind, attribute, more_attribute_by, more_attribute, pass}
use Rattle.ftl_schedule.specs.syntax.Reading.{more_pass_by, more_pass, stage, more_stage_by, more_stage, stages}
use Rattle.ftl_schedule.specs.syntax.Reading.{schedule_by, schedule}
use Rattle.ftl_schedule.proofs.syntax.KindWords.{takes_kind-same, kind_is_token}
use Rattle.ftl_schedule.proofs.syntax.SchedulePrefix.{MorePass, more_pass_of, MoreStage, more_stage_of}

-- no bracket is counted
abbrev pub no_peak : Tokens → ℕ
no_peak ts = 0

-- what is read whole, with these tokens left
abbrev pub Whole : {A : Type 0} → Reader A → Tokens → A → Tokens → Type 0
Whole p ts x rest = Went no_peak p ts x rest 1

pub small : (ts : Tokens) → no_peak ts < 1
small ts = omega arith

-- what the next token goes on with: an attribute, a pass, a stage, or none of them
abbrev pub part : Option Kind → ℕ
part (Some kind.Name) = 3
part (Some kind.OrOr) = 2
part (Some kind.Semicolon) = 1
part _ = 0

-- the next token goes on with none of these
abbrev pub Ends : ℕ → Tokens → Type 0
Ends n rest = part (next_kind rest) < n

pub attribute_other : (k : Option Kind) → part k < 3 → more_attribute_by k ≡ pure None
attribute_other (Some kind.Name) e = absurd (omega arith)
attribute_other _ e = refl

pub pass_other : (k : Option Kind) → part k < 2 → more_pass_by k ≡ pure None
pass_other (Some kind.OrOr) e = absurd (omega arith)
pass_other _ e = refl

pub stage_other : (k : Option Kind) → part k < 1 → more_stage_by k ≡ pure None
stage_other (Some kind.Semicolon) e = absurd (omega arith)
stage_other _ e = refl

-- ---- passes

pub more_attribute_went : {a : Tokens} {x : AttributeName} → SpellsAttribute a x → (rest : Tokens)
    → Whole more_attribute (a ++ rest) (Some x) rest
unfolding more_attribute attribute next_kind
more_attribute_went (attribute_of {o = o} {a = a}) rest =
    went_by more_attribute_by refl
    (went_map Some
    (went_name (λ l. expect kind.Dot >> (take_name >>= (λ m. pure (attribute_name l m))))
    (went_past kind.Dot (went_name (λ m. pure (attribute_name o m)) (went_pure (small rest))))))

pub attribute_stops : (rest : Tokens) → Ends 3 rest → more_attribute rest ≡ got None rest
unfolding more_attribute
attribute_stops rest e = ap (λ p. p rest) (attribute_other (next_kind rest) e)

pub some_attribute : {a : Tokens} {x : AttributeName} → SpellsAttribute a x → 0 < length a
some_attribute attribute_of = omega arith

pub attributes_went : CompleteItem no_peak 1 (Ends 3) (λ rest. Unit {0}) SpellsAttribute more_attribute
attributes_went = record {
  found = λ s rest follows few. more_attribute_went s rest;
  stops = attribute_stops;
  begins = λ s rest. tt;
  ends = λ rest e. tt;
  some = some_attribute;
}

pub attributes_chain : (found : List AttributeName) {a : Tokens} {xs : List AttributeName} → SpellsAttributes a xs
    → Chain push SpellsAttribute found a (found ++ xs)
attributes_chain found no_attributes = chain_none found
attributes_chain found (more_attributes {a = a} {b = b} {x = x} {xs = xs} s t) =
    chain_more a b x xs s (attributes_chain (push found x) t)

-- the word of a kind is taken
pub kind_went : {B : Type 0} {r s : Tokens} {y : B} (f : PassKind → Reader B) (k : PassKind) → Whole (f k) r y s
    → Whole (take_kind >>= f) (name (word_of k) ∷ r) y s
kind_went {r = r} f k went =
    went_bind f
    (record {
      reads =
          kind_is_token.reads (name (word_of k) ∷ r)
          ∙ ap (λ o. token_by o (name (word_of k)) r) (takes_kind-same k);
      small = small r;
    })
    (λ few. went)

pub pass_went : {a : Tokens} {x : WrittenPass} → SpellsPass a x → (rest : Tokens) → Whole pass (a ++ rest) x rest
unfolding pass next_kind
pass_went (pass_of {k = k} {a = a} {xs = xs} s) rest =
    kind_went
    (λ l. expect kind.LeftBrace >> (chain_of push more_attribute []
    >>= (λ ys. expect kind.RightBrace >> pure (written_pass l ys)))) k
    (went_past kind.LeftBrace
    (went_at (append_assoc a (fixed kind.RightBrace ∷ []) rest)
    (went_bind (λ ys. expect kind.RightBrace >> pure (written_pass k ys))
    (chain_went attributes_went (attributes_chain [] s) (fixed kind.RightBrace ∷ rest) (omega arith)
    (small (a ++ (fixed kind.RightBrace ∷ rest))))
    (λ few. went_past kind.RightBrace (went_pure (small rest))))))

-- ---- stages

pub more_pass_went : {a : Tokens} {x : WrittenPass} → MorePass a x → (rest : Tokens)
    → Whole more_pass (a ++ rest) (Some x) rest
unfolding more_pass next_kind
more_pass_went (more_pass_of s) rest = went_by more_pass_by refl (went_skip (went_map Some (pass_went s rest)))

pub more_pass_stops : (rest : Tokens) → Ends 2 rest → more_pass rest ≡ got None rest
unfolding more_pass
more_pass_stops rest e = ap (λ p. p rest) (pass_other (next_kind rest) e)

pub some_pass : {a : Tokens} {x : WrittenPass} → MorePass a x → 0 < length a
some_pass (more_pass_of s) = omega arith

pub passes_went : CompleteItem no_peak 1 (Ends 2) (λ rest. Unit {0}) MorePass more_pass
passes_went = record {
  found = λ s rest follows few. more_pass_went s rest;
  stops = more_pass_stops;
  begins = λ s rest. tt;
  ends = λ rest e. tt;
  some = some_pass;
}

-- passes as their reader takes them: one, and those after `||`
pub record SplitPasses (a : Tokens) (xs : List WrittenPass) : Type 0 where
  first : WrittenPass
  front : Tokens
  back : Tokens
  spells : SpellsPass front first
  split : a ≡ front ++ back
  later : List WrittenPass
  all : xs ≡ first ∷ later
  chain : (found : List WrittenPass) → Chain push MorePass found back (found ++ later)

pub split_passes : {a : Tokens} {xs : List WrittenPass} → SpellsPasses a xs → SplitPasses a xs
split_passes (one_pass {a = a} {x = x} s) = record {
  first = x;
  front = a;
  back = [];
  spells = s;
  split = sym (append-nil a);
  later = [];
  all = refl;
  chain = λ found. chain_none found;
}
split_passes (more_passes {a = a} {b = b} {x = x} {xs = xs} s t) =
    let rest = split_passes t in
    record {
      first = x;
      front = a;
      back = fixed kind.OrOr ∷ b;
      spells = s;
      split = refl;
      later = xs;
      all = refl;
      chain = λ found.
          subst (λ l. Chain push MorePass found (fixed kind.OrOr ∷ l) (found ++ xs)) (sym rest.split)
          (subst (λ l. Chain push MorePass found (fixed kind.OrOr ∷ (rest.front ++ rest.back)) (found ++ l))
          (sym rest.all)
          (chain_more (fixed kind.OrOr ∷ rest.front) rest.back rest.first rest.later (more_pass_of rest.spells)
          (rest.chain (push found rest.first))));
    }

pub stage_went : {a : Tokens} {x : WrittenStage} → SpellsStage a x → (rest : Tokens) → Ends 2 rest
    → Whole stage (a ++ rest) x rest
unfolding stage
stage_went (stage_of {a = a} {xs = xs} s) rest e =
    let read = split_passes s in
    subst (λ l. Whole stage (a ++ rest) (written_stage l) rest) (sym read.all)
    (went_at (ap (λ l. l ++ rest) read.split ∙ append_assoc read.front read.back rest)
    (went_bind (λ l. chain_of push more_pass (l ∷ []) >>= (λ ys. pure (written_stage ys)))
    (pass_went read.spells (read.back ++ rest))
    (λ few. went_map written_stage
    (chain_went passes_went (read.chain (read.first ∷ [])) rest e (small (read.back ++ rest))))))

-- ---- schedules

pub more_stage_went : {a : Tokens} {x : WrittenStage} → MoreStage a x → (rest : Tokens) → Ends 2 rest
    → Whole more_stage (a ++ rest) (Some x) rest
unfolding more_stage next_kind
more_stage_went (more_stage_of s) rest e =
    went_by more_stage_by refl (went_skip (went_map Some (stage_went s rest e)))

pub more_stage_stops : (rest : Tokens) → Ends 1 rest → more_stage rest ≡ got None rest
unfolding more_stage
more_stage_stops rest e = ap (λ p. p rest) (stage_other (next_kind rest) e)

pub some_stage : {a : Tokens} {x : WrittenStage} → MoreStage a x → 0 < length a
some_stage (more_stage_of s) = omega arith

pub begins_later : {a : Tokens} {x : WrittenStage} → MoreStage a x → (rest : Tokens) → Ends 2 (a ++ rest)
unfolding next_kind
begins_later (more_stage_of s) rest = omega arith

pub list_went : CompleteItem no_peak 1 (Ends 1) (Ends 2) MoreStage more_stage
list_went = record {
  found = λ s rest follows few. more_stage_went s rest follows;
  stops = more_stage_stops;
  begins = begins_later;
  ends = λ rest e. omega arith;
  some = some_stage;
}

-- stages as their reader takes them: one, and those after `;`
pub record SplitStages (a : Tokens) (xs : List WrittenStage) : Type 0 where
  first : WrittenStage
  front : Tokens
  back : Tokens
  spells : SpellsStage front first
  split : a ≡ front ++ back
  later : List WrittenStage
  all : xs ≡ first ∷ later
  chain : (found : List WrittenStage) → Chain push MoreStage found back (found ++ later)
  follows : Ends 2 (back ++ [])

pub split_stages : {a : Tokens} {xs : List WrittenStage} → SpellsStages a xs → SplitStages a xs
unfolding next_kind
split_stages (one_stage {a = a} {x = x} s) = record {
  first = x;
  front = a;
  back = [];
  spells = s;
  split = sym (append-nil a);
  later = [];
  all = refl;
  chain = λ found. chain_none found;
  follows = omega arith;
}
split_stages (more_stages {a = a} {b = b} {x = x} {xs = xs} s t) =
    let rest = split_stages t in
    record {
      first = x;
      front = a;
      back = fixed kind.Semicolon ∷ b;
      spells = s;
      split = refl;
      later = xs;
      all = refl;
      chain = λ found.
          subst (λ l. Chain push MoreStage found (fixed kind.Semicolon ∷ l) (found ++ xs)) (sym rest.split)
          (subst (λ l. Chain push MoreStage found (fixed kind.Semicolon ∷ (rest.front ++ rest.back)) (found ++ l))
          (sym rest.all)
          (chain_more (fixed kind.Semicolon ∷ rest.front) rest.back rest.first rest.later
          (more_stage_of rest.spells)
          (rest.chain (push found rest.first))));
      follows = omega arith;
    }

-- stages are read to their end
pub stages_went : {a : Tokens} {xs : List WrittenStage} → SpellsStages a xs → Whole stages a (written_schedule xs) []
unfolding stages next_kind at_end
stages_went {a} {xs} s =
    let read = split_stages s in
    subst (λ l. Whole stages a (written_schedule l) []) (sym read.all)
    (went_at (read.split ∙ ap (λ l. read.front ++ l) (sym (append-nil read.back)))
    (went_bind (λ l. chain_of push more_stage (l ∷ []) >>= (λ ys. at_end >> pure (written_schedule ys)))
    (stage_went read.spells (read.back ++ []) read.follows)
    (λ few. went_bind (λ ys. at_end >> pure (written_schedule ys))
    (chain_went list_went (read.chain (read.first ∷ [])) [] (omega arith) (small (read.back ++ [])))
    (λ few. record { reads = refl; small = small [] }))))

-- what begins a stage is a name
pub begins_stages : {a : Tokens} {xs : List WrittenStage} → SpellsStages a xs → next_kind a ≡ Some kind.Name
unfolding next_kind
begins_stages (one_stage (stage_of (one_pass (pass_of s)))) = refl
begins_stages (one_stage (stage_of (more_passes (pass_of s) t))) = refl
begins_stages (more_stages (stage_of (one_pass (pass_of s))) u) = refl
begins_stages (more_stages (stage_of (more_passes (pass_of s) t)) u) = refl

pub schedule_went : {a : Tokens} {x : WrittenSchedule} → SpellsSchedule a x → Whole schedule a x []
unfolding schedule next_kind
schedule_went no_stages = went_by schedule_by refl (went_pure (small []))
schedule_went (stages_of s) = went_by schedule_by (ap schedule_by (begins_stages s)) (stages_went s)
