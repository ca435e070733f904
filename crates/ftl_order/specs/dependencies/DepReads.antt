-- What each rule reads, in the order of the text: which attribute, where it is written, how it is read, and of which
-- child.
use Rattle.std.specs.Prelude.{ℕ, List, ◌++◌, map, Some, None}
use Rattle.ftl_model.specs.layout.AttributeGrammar.{AttributeGrammar, Parts, Read, RuleName, Sort, each_read, first_then}
use Rattle.ftl_model.specs.layout.AttributeGrammar.{fold_over, inherited, input, last_read, local, plain, prev_read, self_read}
use Rattle.ftl_model.specs.layout.AttributeGrammar.{single_read, synthesized, this_read}
use Rattle.ftl_model.specs.layout.Solves.{rule_named}
use Rattle.ftl_order.specs.declared.dependencies.dep_read.DepRead.{DepRead}
use Rattle.ftl_order.specs.declared.dependencies.dep_read.Form.{Form}
use Rattle.ftl_order.specs.declared.dependencies.dep_read.Form.TheVariants as forms
use Rattle.ftl_order.specs.declared.dependencies.dep_read.Site.{Site}
use Rattle.ftl_order.specs.declared.dependencies.dep_read.Site.TheVariants as sites

-- where an attribute of the node itself is written
abbrev pub own_site : Sort → Site
own_site input = sites.Input
own_site inherited = sites.Above
own_site synthesized = sites.SameVisit
own_site local = sites.SameVisit

-- where an attribute of a kid is written
abbrev pub kid_site : Sort → Site
kid_site input = sites.Input
kid_site inherited = sites.SameVisit
kid_site synthesized = sites.Below
kid_site local = sites.SameVisit

-- a read of the kids in a child
abbrev pub kid_read : AttributeGrammar → Form → (child attribute : ℕ) → DepRead
kid_read g form c a = record { attr = a; site = kid_site (g.sort a); form = form; child = Some c }

-- a read
abbrev pub dep_read : AttributeGrammar → Read → DepRead
dep_read g (self_read a) = record { attr = a; site = own_site (g.sort a); form = forms.Plain; child = None }
dep_read g (single_read c a) = kid_read g forms.Plain c a
dep_read g (each_read c a) = kid_read g forms.Each c a
dep_read g (this_read c a) = kid_read g forms.This c a
dep_read g (prev_read c a) = kid_read g forms.Prev c a
dep_read g (last_read c a) = kid_read g forms.Last c a

-- the reads of all parts of a rule, in the order of the text
abbrev pub reads_of_parts : Parts → List Read
reads_of_parts (plain reads) = reads
reads_of_parts (first_then first later) = first ++ later
reads_of_parts (fold_over child start step) = start ++ step

-- the reads of a rule
abbrev pub rule_reads : AttributeGrammar → RuleName → List DepRead
rule_reads g w = map (dep_read g) (reads_of_parts (rule_named g w).parts)

-- the reads of each rule, by number
abbrev pub dep_table : AttributeGrammar → List (List DepRead)
dep_table g = map (rule_reads g) g.rules
