-- The edges that the reads of rules make.
use Rattle.std.specs.Prelude.{◌≡◌, ℕ, Bool, true, List, Contains, slice_index_or, None}
use Rattle.lane_rows.specs.Matrix.{entry}
use Rattle.ftl_model.specs.layout.AttributeGrammar.{AttributeGrammar, RuleName, for_self}
use Rattle.ftl_order.specs.orders.Lawful.{class_of_rule}
use Rattle.ftl_order.specs.dependencies.DepReads.{rule_reads}
use Rattle.ftl_order.specs.declared.dependencies.dep_read.DepRead.{DepRead}
use Rattle.ftl_order.specs.declared.dependencies.dep_read.Site.TheVariants as sites
use Rattle.ftl_order.specs.declared.dependencies.dep_read.Form.{Form}
use Rattle.ftl_order.specs.declared.dependencies.dep_read.Form.TheVariants as forms
use Rattle.ftl_noncircular.specs.grammars.Noncircular.{Vertex, target_vertex}
use Rattle.ftl_noncircular.specs.search.Circles.{vertex_at}
use Rattle.ftl_noncircular.specs.search.Numbers.{number}
use Rattle.ftl_noncircular.specs.search.Searches.{Rows}

-- whether reads of this form make edges: all, or all but those by `prev`
abbrev pub makes_edge : (prevs : Bool) → Form → Bool
makes_edge prevs forms.Plain = true
makes_edge prevs forms.This = true
makes_edge prevs forms.Prev = prevs
makes_edge prevs forms.Last = true
makes_edge prevs forms.Each = true

-- the rule of this number; past the end a rule for the first attribute
abbrev pub rule_at : AttributeGrammar → (rule : ℕ) → RuleName
rule_at g n = slice_index_or g.rules n (for_self 0 0)

-- what is read
abbrev pub read_vertex : DepRead → Vertex
read_vertex d = vertex_at d.child d.attr

-- past the end of a rule's reads
abbrev pub no_read : DepRead
no_read = record { attr = 0; site = sites.Input; form = forms.Plain; child = None }

-- where the read makes an edge to this vertex, it is an entry
abbrev pub IsEntered : (places : List ℕ) → (prevs : Bool) → Rows → DepRead → Vertex → Type 0
IsEntered places prevs edges d to =
    makes_edge prevs d.form ≡ true → entry edges (number places (read_vertex d)) (number places to) ≡ true

-- so are those of all reads of a rule, if it is one of the class
abbrev pub IsRuleEntered : AttributeGrammar → (places : List ℕ) → (prevs : Bool) → (class : ℕ) → Rows → RuleName
    → Type 0
IsRuleEntered g places prevs class edges w =
    class_of_rule w ≡ class → (d : DepRead) → Contains (rule_reads g w) d
    → IsEntered places prevs edges d (target_vertex w)
