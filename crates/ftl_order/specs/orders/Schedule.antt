-- Schedules: stages one after the other, each with passes beside each other, each with a list of attributes.
use Rattle.std.specs.Prelude.{◌≡◌, ◌≢◌, ℕ, suc, ◌<◌, Bool, true, false, ◌==◌, if◌then◌else◌, List, [], ◌∷◌, count_by}
use Rattle.std.specs.Prelude.{flat_map, slice_index_or}
use Rattle.ftl_model.specs.lists.Lists.{is_listed, place_in}
use Rattle.ftl_model.specs.layout.AttributeGrammar.{AttributeGrammar, input}

-- a pass visits every node once: a node before its kids, after them, or between them in one sequence
pub data PassKind : Type 0 where
  topdown : PassKind
  bottomup : PassKind
  inorder : PassKind

-- a kind of traversal, and the attributes that it computes
pub record Pass : Type 0 where
  pub kind : PassKind
  pub attributes : List ℕ

-- stages, each a list of passes
abbrev pub Schedule : Type 0
Schedule = List (List Pass)

-- the entries of all lists, in the order of the text
abbrev pub entries : Schedule → List ℕ
entries s = flat_map (λ (passes : List Pass). flat_map (λ (pass : Pass). pass.attributes) passes) s

-- each computed attribute stands in the lists exactly once; of other entries nothing is asked here
abbrev pub EachStandsOnce : AttributeGrammar → Schedule → Type 0
EachStandsOnce g s =
    (a : ℕ) → a < g.attribute_count → g.sort a ≢ input → count_by (λ b. b == a) (entries s) ≡ 1

-- where an attribute stands: the stage, the pass in it, the kind of that pass, and the place in its list
pub record SchedulePlace : Type 0 where
  pub stage : ℕ
  pub pass : ℕ
  pub kind : PassKind
  pub index : ℕ

-- all that pairs and legal orders ask of a schedule
abbrev pub Placing : Type 0
Placing = ℕ → SchedulePlace

-- in one stage and in one pass of it
abbrev pub IsOnePass : SchedulePlace → SchedulePlace → Type 0
IsOnePass x y = (x.stage ≡ y.stage) × (x.pass ≡ y.pass)

-- the first pass that lists the attribute; the count of passes where none does
abbrev pub pass_of : List Pass → ℕ → ℕ
pass_of [] a = 0
pass_of (pass ∷ passes) a = if is_listed pass.attributes a then 0 else suc (pass_of passes a)

-- whether one of the passes lists the attribute
abbrev pub has_entry : List Pass → ℕ → Bool
has_entry [] a = false
has_entry (pass ∷ passes) a = if is_listed pass.attributes a then true else has_entry passes a

-- the first stage that lists the attribute; the count of stages where none does
abbrev pub stage_of : Schedule → ℕ → ℕ
stage_of [] a = 0
stage_of (passes ∷ stages) a = if has_entry passes a then 0 else suc (stage_of stages a)

-- a pass without attributes
abbrev pub empty_pass : Pass
empty_pass = record { kind = topdown; attributes = [] }

-- the pass at these numbers; an empty one where there is none
abbrev pub pass_at : Schedule → ℕ → ℕ → Pass
pass_at s stage pass = slice_index_or (slice_index_or s stage []) pass empty_pass

-- the pass in the first stage that lists the attribute
abbrev pub pass_in_stage : Schedule → ℕ → ℕ
pass_in_stage s a = pass_of (slice_index_or s (stage_of s a) []) a

-- the place of an attribute in a schedule
abbrev pub placing_of : Schedule → Placing
placing_of s a =
    record {
      stage = stage_of s a;
      pass = pass_in_stage s a;
      kind = (pass_at s (stage_of s a) (pass_in_stage s a)).kind;
      index = place_in (pass_at s (stage_of s a) (pass_in_stage s a)).attributes a;
    }
