-- The items of a stage with nests: a small tree, the tree of a host, or the visit of one node; a host's visit has the
-- inner steps over its tree.
use Rattle.std.specs.Prelude.{ℕ, ◌==◌, Bool, true, if◌then◌else◌, List, [], ◌++◌, flat_map, length, reverse, Option, None, Some}
use Rattle.std.specs.Prelude.{slice_index_or}
use Rattle.std.specs.List.{range_with_len}
use Rattle.ftl_model.specs.layout.AttributeGrammar.{AttributeGrammar}
use Rattle.ftl_model.specs.layout.Path.{Path, class_at}
use Rattle.ftl_model.specs.layout.Solves.{Instance}
use Rattle.ftl_model.specs.layout.Tree.{Forest}
use Rattle.ftl_model.specs.layout.Values.{Value}
use Rattle.ftl_order.specs.orders.Schedule.{PassKind, Schedule, bottomup, inorder, pass_at, placing_of, topdown}
use Rattle.ftl_order.specs.orders.Sequence.{sequence, sequence_at}
use Rattle.ftl_cells.specs.shared.Shape.{WorkShape}
use Rattle.ftl_items.specs.stage_items.Cut.{is_small, subtree}
use Rattle.ftl_items.specs.stage_items.Items.{PassForm, passes_of, pass_place}
use Rattle.ftl_items.specs.stage_items.StageWork.{kind_of, work_by}
use Rattle.ftl_items.specs.stage_items.Visits.{visit}
use Rattle.ftl_nests.specs.Nests.{Nest, NestingSchedule, nesting_pass, outer_schedule}

-- the tree of the node is one item: it is small, or the node is of the host class
abbrev pub is_whole_with : Option Nest → Forest → (grain : ℕ) → Path → Bool
is_whole_with None t grain p = is_small t grain p
is_whole_with (Some nest) t grain p = if is_small t grain p then true else class_at t p == nest.host

-- the steps of an inner pass over a host's tree: in preorder, in reverse preorder, or in sequence
abbrev pub inner_pass_steps : AttributeGrammar → Forest → Schedule → (stage pass : ℕ) → PassKind → Path → List Instance
inner_pass_steps g t inner u m topdown h = flat_map (visit g t (pass_at inner u m).attributes) (subtree t h)
inner_pass_steps g t inner u m bottomup h = flat_map (visit g t (pass_at inner u m).attributes) (reverse (subtree t h))
inner_pass_steps g t inner u m inorder h = sequence_at g (placing_of inner) (pass_place u m) t h

-- the steps of the passes of an inner stage, one pass after the other
abbrev pub inner_stage_steps : AttributeGrammar → Forest → Schedule → Path → (stage : ℕ) → List Instance
inner_stage_steps g t inner h u =
    flat_map (λ m. inner_pass_steps g t inner u m (pass_at inner u m).kind h)
    (range_with_len 0 (length (passes_of inner u)))

-- the inner steps of a host, stage by stage
abbrev pub inner_steps : AttributeGrammar → Forest → Schedule → Path → List Instance
inner_steps g t inner h = flat_map (inner_stage_steps g t inner h) (range_with_len 0 (length inner))

-- a host's own rules and its inner steps: in a bottomup pass the inner steps first
abbrev pub hosted_visit : PassKind → (own inner : List Instance) → List Instance
hosted_visit topdown own inner = own ++ inner
hosted_visit bottomup own inner = inner ++ own
hosted_visit inorder own inner = own

-- the visit of a node: at a host with the inner steps
abbrev pub visit_with : AttributeGrammar → Forest → PassKind → (attributes : List ℕ) → Option Nest → Path → List Instance
visit_with g t kind attributes None p = visit g t attributes p
visit_with g t kind attributes (Some nest) p =
    if class_at t p == nest.host then hosted_visit kind (visit g t attributes p) (inner_steps g t nest.stages p)
    else visit g t attributes p

-- how many passes a stage has
abbrev pub pass_count : NestingSchedule → (stage : ℕ) → ℕ
pass_count s stage = length (slice_index_or s stage [])

-- the form of the pass of a number in a stage
abbrev pub nest_form : AttributeGrammar → NestingSchedule → Forest → (grain stage pass : ℕ) → PassForm
nest_form g s t grain stage m =
    record {
      cut = record {
        kind = (nesting_pass s stage m).kind;
        is_whole = is_whole_with (nesting_pass s stage m).nest t grain;
      };
      visit = visit_with g t (nesting_pass s stage m).kind (nesting_pass s stage m).attributes
          (nesting_pass s stage m).nest;
      sequence = sequence g (placing_of (outer_schedule s)) (pass_place stage m) t;
    }

-- the work of a stage
abbrev pub nest_work : AttributeGrammar → NestingSchedule → Forest → (grain stage : ℕ) → (solution : List Value)
    → (max_reads max_stack : ℕ) → WorkShape
nest_work g s t grain stage solution max_reads max_stack =
    work_by g t (pass_count s stage) (nest_form g s t grain stage) (kind_of g (outer_schedule s) stage) solution max_reads
    max_stack
