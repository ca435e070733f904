-- What each rule reads, and which rule writes that first.
use Rattle.std.specs.Prelude.{◌≡◌, ℕ, List, [], length, map, slice_index_or, Option, Some, None}
use Rattle.std.specs.List.{slice_get}
use Rattle.ftl_model.specs.layout.AttributeGrammar.{AttributeGrammar, RuleName}
use Rattle.ftl_order.specs.orders.Lawful.{class_of_rule}
use Rattle.ftl_order.specs.dependencies.DepReads.{dep_table, rule_reads}
use Rattle.ftl_order.specs.dependencies.Writers.{first_writer}
use Rattle.ftl_order.specs.declared.dependencies.dep_read.DepRead.{DepRead}

-- the reads of each rule, by number, and for each of them the number of its first writer
pub record DepRows : Type 0 where
  pub reads : List (List DepRead)
  pub writers : List (List (Option ℕ))

-- the first writers of what a rule reads, in the order of the text
abbrev pub rule_writers : AttributeGrammar → RuleName → List (Option ℕ)
rule_writers g w = map (first_writer g (class_of_rule w)) (rule_reads g w)

-- those of each rule, by number
abbrev pub writer_table : AttributeGrammar → List (List (Option ℕ))
writer_table g = map (rule_writers g) g.rules

-- both
abbrev pub dep_rows : AttributeGrammar → DepRows
dep_rows g = record { reads = dep_table g; writers = writer_table g }

-- the reads of the rule of this number
abbrev pub reads_at : DepRows → (rule : ℕ) → List DepRead
reads_at t r = slice_index_or t.reads r []

-- the first writers of the reads of the rule of this number
abbrev pub writers_at : DepRows → (rule : ℕ) → List (Option ℕ)
writers_at t r = slice_index_or t.writers r []

-- the first writer of a read, by the places of both
abbrev pub writer_at : DepRows → (rule place : ℕ) → Option ℕ
writer_at t r k = slice_index_or (writers_at t r) k None

-- there is a writer, or none, for each read
pub record IsAligned (reads : List (List DepRead)) (writers : List (List (Option ℕ))) : Type 0 where
  pub rules : length writers ≡ length reads
  pub each : (rule : ℕ) → length (slice_index_or writers rule []) ≡ length (slice_index_or reads rule [])

-- the rows are those of the rules, by number
abbrev pub RowsAreOfRules : Type 0
RowsAreOfRules =
    (g : AttributeGrammar) (r : ℕ) (w : RuleName) → slice_get g.rules r ≡ Some w
    → reads_at (dep_rows g) r ≡ rule_reads g w

-- at each place of a row stands the first writer of what the rule reads there
abbrev pub WritersAreFirst : Type 0
WritersAreFirst =
    (g : AttributeGrammar) (r k : ℕ) (w : RuleName) (d : DepRead) → slice_get g.rules r ≡ Some w
    → slice_get (rule_reads g w) k ≡ Some d → writer_at (dep_rows g) r k ≡ first_writer g (class_of_rule w) d
