-- The tokens of a schedule's canonical text are read as they were written, and spell it.
use Rattle.std.proofs.Common.{◌≡◌, ◌≢◌, ℕ, zero, suc, ◌<◌, Bool, true, ◌&&◌, ◌||◌, eqb, nat_lt, List, [], ◌∷◌, ◌++◌, map, flat_map, codes, Some, refl, sym, ◌∙◌, ap, subst, append_assoc, arith}
use Rattle.std.specs.List.{All, list_all}
use Rattle.std.specs.Char.{is_ascii_alphabetic, is_ascii_alphanumeric}
use Rattle.std.specs.Str.{chars, IsAscii}
use Rattle.std.proofs.lemmas.Bool.{and_from, and_parts, ltb-true}
use Rattle.std.proofs.lemmas.List.{append-nil, map-append}
use Rattle.std.proofs.lemmas.List.Elements.{All-head, All-tail}
use Rattle.std.proofs.lemmas.Str.{chars-IsAscii, IsUtf8-from_ascii}
use Rattle.unicode_ident.specs.Ident.{is_xid_continue}
use Rattle.ftl_tokens.specs.declared.scanner.kind.Kind.TheVariants as kind
use Rattle.ftl_tokens.specs.scanner.Kinds.{begins_word, kind_of, kind_of_word}
use Rattle.ftl_tokens.specs.scanner.Tokenized.{Symbol, fixed, name}
use Rattle.ftl_tokens.proofs.scanner.FrontLemmas.{kind_of-word}
use Rattle.ftl_tokens.proofs.scanner.KindLemmas.{begins-ascii, continues-ascii}
use Rattle.ftl_tokens.specs.writing.Written.{AreReadable, CanBeSaid, IsSpace, Written, said_by, text_of, written}
use Rattle.ftl_tokens.proofs.writing.WrittenScan.{says_written}
use Rattle.ftl_schedule.specs.syntax.Spelling.{SpellsAttribute, SpellsAttributes, SpellsPass, SpellsPasses, SpellsSchedule}
use Rattle.ftl_schedule.specs.syntax.Spelling.{SpellsStage, SpellsStages, attribute_of, more_attributes, more_passes}
use Rattle.ftl_schedule.specs.syntax.Spelling.{more_stages, no_attributes, no_stages, one_pass, one_stage, pass_of}
use Rattle.ftl_schedule.specs.syntax.Spelling.{stage_of, stages_of}
use Rattle.ftl_schedule.specs.syntax.Trees.{word_of, written_schedule}
use Rattle.ftl_schedule.specs.declared.syntax.kind.PassKind.{PassKind}
use Rattle.ftl_schedule.specs.declared.syntax.kind.PassKind.TheVariants.{TopDown, BottomUp, InOrder}
use Rattle.ftl_schedule.specs.declared.syntax.types.AttributeName.{AttributeName}
use Rattle.ftl_schedule.specs.declared.syntax.types.WrittenPass.{WrittenPass}
use Rattle.ftl_schedule.specs.declared.syntax.types.WrittenStage.{WrittenStage}
use Rattle.ftl_schedule.specs.declared.syntax.types.WrittenSchedule.{WrittenSchedule}
use Rattle.ftl_schedule.specs.text.ScheduleText.{CanBeWritten, HasNames, IsTextOf, attribute_written, close, open_pass}
use Rattle.ftl_schedule.specs.text.ScheduleText.{pass_written, passes_written, schedule_text, schedule_written}
use Rattle.ftl_schedule.specs.text.ScheduleText.{stage_written, stages_written}
use Rattle.ftl_schedule.proofs.text.Fronts.{Fronts, attribute_front, front-append, no_front, spaced_front}

-- ---- the words of the kinds of passes are names

-- ASCII letters and digits, and `_`
abbrev pub go_on : List ℕ → Bool
go_on cs = list_all (λ c. nat_lt c 128 && (is_ascii_alphanumeric c || eqb c 95)) cs

pub continues : (cs : List ℕ) → go_on cs ≡ true → list_all is_xid_continue cs ≡ true
continues [] all = refl
continues (c ∷ cs) all =
    let parts = and_parts (nat_lt c 128 && (is_ascii_alphanumeric c || eqb c 95)) (go_on cs) all in
    and_from (is_xid_continue c) (list_all is_xid_continue cs)
    (and_parts (nat_lt c 128) (is_xid_continue c) (sym (continues-ascii c) ∙ parts.0)).1
    (continues cs parts.1)

pub word_is_name : (c : ℕ) (cs : List ℕ) → (nat_lt c 128 && (is_ascii_alphabetic c || eqb c 95)) ≡ true → go_on cs ≡ true
    → kind_of_word (c ∷ cs) ≡ kind.Name → kind_of (c ∷ cs) ≡ Some kind.Name
word_is_name c cs first later is =
    kind_of-word (c ∷ cs)
    (and_from (begins_word c) (list_all is_xid_continue cs)
    (and_parts (nat_lt c 128) (begins_word c) (sym (begins-ascii c) ∙ first)).1
    (continues cs later))
    ∙ ap Some is

-- each is ASCII
abbrev pub are_ascii : List ℕ → Bool
are_ascii cs = list_all (λ c. nat_lt c 128) cs

pub ascii_from : (cs : List ℕ) → are_ascii cs ≡ true → IsAscii cs
ascii_from [] all i = omega arith
ascii_from (c ∷ cs) all zero = let first = ltb-true c 128 (and_parts (nat_lt c 128) (are_ascii cs) all).0 in omega arith
ascii_from (c ∷ cs) all (suc i) = ascii_from cs (and_parts (nat_lt c 128) (are_ascii cs) all).1 i

pub ascii_said : (c : ℕ) (cs : List ℕ) → are_ascii (c ∷ cs) ≡ true → kind_of (c ∷ cs) ≡ Some kind.Name
    → CanBeSaid 2147483647 (name (c ∷ cs))
ascii_said c cs ascii is = (
  IsUtf8-from_ascii (c ∷ cs) (ascii_from (c ∷ cs) ascii),
  (ap kind_of (chars-IsAscii (c ∷ cs) (ascii_from (c ∷ cs) ascii)) ∙ is),
)

pub word_said : (k : PassKind) → CanBeSaid 2147483647 (name (word_of k))
unfolding kind_of_word
word_said TopDown = ascii_said _ _ refl (word_is_name _ _ refl refl refl)
word_said BottomUp = ascii_said _ _ refl (word_is_name _ _ refl refl refl)
word_said InOrder = ascii_said _ _ refl (word_is_name _ _ refl refl refl)

-- ---- they are read as they were written

pub attributes_front : (xs : List AttributeName) → All HasNames xs → Fronts (flat_map attribute_written xs)
attributes_front [] names = no_front
attributes_front (x ∷ xs) names =
    front-append (attribute_written x) (flat_map attribute_written xs)
    (attribute_front x (All-head HasNames x xs names)) (attributes_front xs (All-tail HasNames x xs names))

pub open_front : (k : PassKind) → Fronts (open_pass k)
open_front k =
    front-append (written (name (word_of k)) (codes " ") ∷ []) (written (fixed kind.LeftBrace) (codes " ") ∷ [])
    (spaced_front (written (name (word_of k)) (codes " ")) (word_said k) refl)
    (spaced_front (written (fixed kind.LeftBrace) (codes " ")) tt refl)

-- all names of a pass can be said
abbrev pub PassNames : WrittenPass → Type 0
PassNames p = All HasNames p.attrs

pub pass_front : (gap : List ℕ) (p : WrittenPass) → IsSpace gap → PassNames p → Fronts (pass_written gap p)
pass_front gap p space names =
    front-append (open_pass p.kind) (flat_map attribute_written p.attrs ++ close gap) (open_front p.kind)
    (front-append (flat_map attribute_written p.attrs) (close gap) (attributes_front p.attrs names)
    (spaced_front (written (fixed kind.RightBrace) gap) tt space))

pub passes_front : (gap : List ℕ) (p : WrittenPass) (more : List WrittenPass) → IsSpace gap → All PassNames (p ∷ more)
    → Fronts (passes_written gap p more)
passes_front gap p [] space names = pass_front gap p space (All-head PassNames p [] names)
passes_front gap p (q ∷ more) space names =
    front-append (pass_written (codes " ") p) (written (fixed kind.OrOr) (codes " ") ∷ passes_written gap q more)
    (pass_front (codes " ") p refl (All-head PassNames p (q ∷ more) names))
    (front-append (written (fixed kind.OrOr) (codes " ") ∷ []) (passes_written gap q more)
    (spaced_front (written (fixed kind.OrOr) (codes " ")) tt refl)
    (passes_front gap q more space (All-tail PassNames p (q ∷ more) names)))

-- all names of a stage can be said
abbrev pub StageNames : WrittenStage → Type 0
StageNames stage = All PassNames stage.passes

pub stage_front : (gap : List ℕ) (passes : List WrittenPass) → IsSpace gap → All PassNames passes
    → Fronts (stage_written gap passes)
stage_front gap [] space names = no_front
stage_front gap (p ∷ more) space names = passes_front gap p more space names

pub stages_front : (s : WrittenStage) (more : List WrittenStage) → All StageNames (s ∷ more) → Fronts (stages_written s more)
stages_front s [] names = stage_front (codes "\n") s.passes refl (All-head StageNames s [] names)
stages_front s (t ∷ more) names =
    front-append (stage_written (codes " ") s.passes) (written (fixed kind.Semicolon) (codes "\n") ∷ stages_written t more)
    (stage_front (codes " ") s.passes refl (All-head StageNames s (t ∷ more) names))
    (front-append (written (fixed kind.Semicolon) (codes "\n") ∷ []) (stages_written t more)
    (spaced_front (written (fixed kind.Semicolon) (codes "\n")) tt refl)
    (stages_front t more (All-tail StageNames s (t ∷ more) names)))

pub schedule_front : (stages : List WrittenStage) → All StageNames stages → Fronts (schedule_written stages)
schedule_front [] names = no_front
schedule_front (s ∷ more) names = stages_front s more names

-- ---- they spell the schedule

-- what tokens say, one list after another
pub said-append : (xs ys : List Written) → said_by (xs ++ ys) ≡ said_by xs ++ said_by ys
said-append xs ys = map-append (λ (t : Written). t.says) xs ys

pub attributes_spell : (xs : List AttributeName) → SpellsAttributes (said_by (flat_map attribute_written xs)) xs
attributes_spell [] = no_attributes
attributes_spell (x ∷ xs) = more_attributes attribute_of (attributes_spell xs)

pub pass_spells : (gap : List ℕ) (p : WrittenPass) → SpellsPass (said_by (pass_written gap p)) p
pass_spells gap p =
    subst (λ ts. SpellsPass (name (word_of p.kind) ∷ fixed kind.LeftBrace ∷ ts) p)
    (sym (said-append (flat_map attribute_written p.attrs) (close gap)))
    (pass_of (attributes_spell p.attrs))

pub passes_spell : (gap : List ℕ) (p : WrittenPass) (more : List WrittenPass)
    → SpellsPasses (said_by (passes_written gap p more)) (p ∷ more)
passes_spell gap p [] = one_pass (pass_spells gap p)
passes_spell gap p (q ∷ more) =
    subst (λ ts. SpellsPasses ts (p ∷ q ∷ more))
    (sym (said-append (pass_written (codes " ") p) (written (fixed kind.OrOr) (codes " ") ∷ passes_written gap q more)))
    (more_passes (pass_spells (codes " ") p) (passes_spell gap q more))

pub stage_spells : (gap : List ℕ) (s : WrittenStage) → s.passes ≢ [] → SpellsStage (said_by (stage_written gap s.passes)) s
stage_spells gap s some = stage_of (by s.passes some)
  where
    by : (ps : List WrittenPass) → ps ≢ [] → SpellsPasses (said_by (stage_written gap ps)) ps
    by [] none = absurd (none refl)
    by (p ∷ more) there = passes_spell gap p more

-- a stage has a pass
abbrev pub HasPass : WrittenStage → Type 0
HasPass s = s.passes ≢ []

pub stages_spell : (s : WrittenStage) (more : List WrittenStage) → All HasPass (s ∷ more)
    → SpellsStages (said_by (stages_written s more)) (s ∷ more)
stages_spell s [] some = one_stage (stage_spells (codes "\n") s (All-head HasPass s [] some))
stages_spell s (t ∷ more) some =
    subst (λ ts. SpellsStages ts (s ∷ t ∷ more))
    (sym (said-append (stage_written (codes " ") s.passes) (written (fixed kind.Semicolon) (codes "\n") ∷ stages_written t more)))
    (more_stages (stage_spells (codes " ") s (All-head HasPass s (t ∷ more) some))
    (stages_spell t more (All-tail HasPass s (t ∷ more) some)))

pub schedule_spells : (stages : List WrittenStage) → All HasPass stages
    → SpellsSchedule (said_by (schedule_written stages)) (written_schedule stages)
schedule_spells [] some = no_stages
schedule_spells (s ∷ more) some = stages_of (stages_spell s more some)

-- ---- both

pub canonical : (s : WrittenSchedule) → CanBeWritten s → IsTextOf (schedule_text s) s
canonical s can =
    let tokens = schedule_written s.stages in
    let ready : AreReadable 2147483647 tokens =
    subst (AreReadable 2147483647) (append-nil tokens) (schedule_front s.stages can.names [] tt) in
    let says = says_written 2147483647 (omega arith) tokens ready in
    record {
      tokens = says.tokens;
      scanned = says.scanned;
      spells = subst (λ ts. SpellsSchedule ts s) (sym says.said) (schedule_spells s.stages can.passes);
    }
