-- Rules and reads by number.
use Rattle.std.specs.Prelude.{ℕ, List, slice_index_or, None}
use Rattle.ftl_model.specs.layout.AttributeGrammar.{AttributeGrammar, RuleName, for_self}
use Rattle.ftl_order.specs.declared.dependencies.dep_read.DepRead.{DepRead}
use Rattle.ftl_order.specs.declared.dependencies.dep_read.Form.TheVariants as forms
use Rattle.ftl_order.specs.declared.dependencies.dep_read.Site.TheVariants as sites

-- the rule of this number; past the end a rule for the first attribute
abbrev pub rule_at : AttributeGrammar → (rule : ℕ) → RuleName
rule_at g n = slice_index_or g.rules n (for_self 0 0)

-- the read at this place; past the end one of an input
abbrev pub read_at : List DepRead → (place : ℕ) → DepRead
read_at reads k =
    slice_index_or reads k (record { attr = 0; site = sites.Input; form = forms.Plain; child = None })
