-- The limits on pages, grammars, schedules, documents and commands that several crates speak of, each by one name.
use Rattle.std.specs.Prelude.{ℕ}

-- ---- pages

-- the bytes of a page
abbrev pub most_page_bytes : ℕ
most_page_bytes = 67108864

-- ---- grammars

-- the interfaces
abbrev pub most_interfaces : ℕ
most_interfaces = 128

-- the classes
abbrev pub most_classes : ℕ
most_classes = 128

-- the attributes of an interface, and the own attributes of a class
abbrev pub most_owner_attributes : ℕ
most_owner_attributes = 64

-- the children of a class
abbrev pub most_children : ℕ
most_children = 16

-- the attributes of all interfaces and classes
abbrev pub most_attributes : ℕ
most_attributes = 2048

-- the reads of a part of a rule
abbrev pub most_part_reads : ℕ
most_part_reads = 256

-- ---- schedules

-- the passes of all stages
abbrev pub most_passes : ℕ
most_passes = 2048

-- the passes of one stage
abbrev pub most_stage_passes : ℕ
most_stage_passes = 4

-- ---- documents

-- the nodes
abbrev pub most_nodes : ℕ
most_nodes = 1048576

-- the attributes of all nodes
abbrev pub most_instances : ℕ
most_instances = 33554432

-- the reads of all steps of a stage
abbrev pub most_stage_reads : ℕ
most_stage_reads = 67108864

-- the reads of one step
abbrev pub most_step_reads : ℕ
most_step_reads = 1048576

-- ---- commands

-- the workers
abbrev pub most_workers : ℕ
most_workers = 64

-- the nodes of a small subtree
abbrev pub most_grain : ℕ
most_grain = 1048576
