-- How many rows a table has.
use Rattle.std.proofs.Common.{◌≡◌, ◌∙◌, ap, length, None}
use Rattle.ftl_meaning.specs.faults.Checked.{CheckedGrammar, all_rules}
use Rattle.ftl_meaning.specs.faults.FirstFault.{first_fault}
use Rattle.ftl_deps.specs.reads.DepRows.{DepRows, dep_rows}
use Rattle.ftl_deps.specs.reads.Meant.{meant}
use Rattle.ftl_deps.proofs.reads.WriterRows.{reads_long}

-- a row for each rule
pub rows_are_of_rules : (c : CheckedGrammar) (t : DepRows) → first_fault c.grammar ≡ None → t ≡ dep_rows (meant c)
    → length t.reads ≡ length (all_rules c.grammar)
rows_are_of_rules c t none is = ap (λ (u : DepRows). length u.reads) is ∙ reads_long c none
