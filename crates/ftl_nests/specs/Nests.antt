-- Schedules whose passes may nest a schedule: it runs inside each node of one class, the host, over what is below.
use Rattle.std.specs.Prelude.{◌≡◌, ◌⊎◌, ℕ, ◌<◌, if◌then◌else◌, List, [], ◌++◌, map, Option, None, Some, slice_index_or, Contains}
use Rattle.ftl_model.specs.lists.Lists.{is_listed}
use Rattle.ftl_model.specs.layout.AttributeGrammar.{AttributeGrammar, Read}
use Rattle.ftl_order.specs.orders.Ordered.{IsOrderedRead, Row, VisitPlace, visit_place}
use Rattle.ftl_order.specs.orders.Pairs.{IsPair, Pair, Where}
use Rattle.ftl_order.specs.orders.Schedule.{EachStandsOnce, IsOnePass, Pass, PassKind, Placing, Schedule, bottomup, entries, placing_of, topdown}
use Rattle.ftl_nests.specs.Region.{IsClosed, OfRegion}

-- a schedule that runs inside each node of a class
pub record Nest : Type 0 where
  pub host : ℕ
  pub stages : Schedule

-- a pass, and what it nests
pub record NestingPass : Type 0 where
  pub kind : PassKind
  pub attributes : List ℕ
  pub nest : Option Nest

-- stages, each a list of passes
abbrev pub NestingSchedule : Type 0
NestingSchedule = List (List NestingPass)

-- the inner stages; none where there is no nest
abbrev pub inner_stages : Option Nest → Schedule
inner_stages None = []
inner_stages (Some nest) = nest.stages

-- the host class, where there is a nest
abbrev pub host_of : Option Nest → Option ℕ
host_of None = None
host_of (Some nest) = Some nest.host

-- the pass with all its attributes in one list: its own, then those of its nest
abbrev pub whole_pass : NestingPass → Pass
whole_pass pass = record { kind = pass.kind; attributes = pass.attributes ++ entries (inner_stages pass.nest) }

-- the passes of a stage, so
abbrev pub whole_stage : List NestingPass → List Pass
whole_stage passes = map whole_pass passes

-- the schedule with the nests gone: each attribute in the outer pass that it stands in
abbrev pub outer_schedule : NestingSchedule → Schedule
outer_schedule s = map whole_stage s

-- a pass without attributes
abbrev pub no_pass : NestingPass
no_pass = record { kind = topdown; attributes = []; nest = None }

-- the pass at these numbers; an empty one where there is none
abbrev pub nesting_pass : NestingSchedule → ℕ → ℕ → NestingPass
nesting_pass s stage pass = slice_index_or (slice_index_or s stage []) pass no_pass

-- the outer pass that an attribute stands in
abbrev pub home_pass : NestingSchedule → ℕ → NestingPass
home_pass s a = nesting_pass s (placing_of (outer_schedule s) a).stage (placing_of (outer_schedule s) a).pass

-- where attributes stand: in which outer pass; within a nest of which host, if in one; and where in it
pub record NestPlacing : Type 0 where
  pub outer : Placing
  pub host : ℕ → Option ℕ
  pub inner : Placing

-- the host class of an attribute of a pass; none where it stands in the pass's own list
abbrev pub host_in : NestingPass → ℕ → Option ℕ
host_in pass a = if is_listed pass.attributes a then None else host_of pass.nest

-- where the attributes of a schedule stand
abbrev pub nest_placing_of : NestingSchedule → NestPlacing
nest_placing_of s =
    record {
      outer = placing_of (outer_schedule s);
      host = λ a. host_in (home_pass s a) a;
      inner = λ a. placing_of (inner_stages (home_pass s a).nest) a;
    }

-- In one outer pass of this kind, by the nests that the writer and the reader stand in. Neither in its nest: by the
-- flat table. Both: as in a flat schedule of the inner stages. Only the reader: in a topdown pass. Only the writer: in
-- a bottomup pass.
abbrev pub NestRow : Option ℕ → Option ℕ → PassKind → NestPlacing → Where → Read → VisitPlace → VisitPlace → Type 0
NestRow None None kind at runs_at r x y = Row runs_at kind at.outer r x y
NestRow (Some h) (Some k) kind at runs_at r x y = IsOrderedRead at.inner runs_at r x y
NestRow None (Some k) kind at runs_at r x y = kind ≡ topdown
NestRow (Some h) None kind at runs_at r x y = kind ≡ bottomup

-- the writer x stands in an earlier outer stage, or in the same outer pass, which has it earlier than the reader y
abbrev pub IsNestOrderedRead : NestPlacing → Where → Read → VisitPlace → VisitPlace → Type 0
IsNestOrderedRead at runs_at r x y =
    ((at.outer x.attribute).stage < (at.outer y.attribute).stage)
    ⊎ (IsOnePass (at.outer x.attribute) (at.outer y.attribute)
    × NestRow (at.host x.attribute) (at.host y.attribute) (at.outer y.attribute).kind at runs_at r x y)

-- each pair of the grammar is ordered
abbrev pub EachPairNestOrdered : AttributeGrammar → NestPlacing → Type 0
EachPairNestOrdered g at =
    (pair : Pair) → IsPair g pair
    → IsNestOrderedRead at pair.runs_at pair.read (visit_place g pair.writer) (visit_place g pair.reader)

-- the nest is closed, it has attributes of its region alone, and the pass's own list has none
pub record KeepsSides (g : AttributeGrammar) (attributes : List ℕ) (nest : Nest) : Type 0 where
  pub closed : IsClosed g nest.host
  pub own : (a : ℕ) → Contains attributes a → OfRegion g nest.host a → ⊥
  pub inner : (a : ℕ) → Contains (entries nest.stages) a → OfRegion g nest.host a

-- each nest keeps its sides
abbrev pub AreSidesKept : AttributeGrammar → NestingSchedule → Type 0
AreSidesKept g s =
    (m n : ℕ) (nest : Nest) → (nesting_pass s m n).nest ≡ Some nest → KeepsSides g (nesting_pass s m n).attributes nest

-- a schedule with nests that is accepted
pub record IsNestOrdered (g : AttributeGrammar) (s : NestingSchedule) : Type 0 where
  pub once : EachStandsOnce g (outer_schedule s)
  pub sides : AreSidesKept g s
  pub pairs : EachPairNestOrdered g (nest_placing_of s)
