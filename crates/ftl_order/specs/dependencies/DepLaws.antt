-- The reads of rules are those of the pairs, and so are their writers.
use Rattle.std.specs.Prelude.{◌≡◌, ◌↔◌, ℕ, ◌<◌, true, Contains, Option, Some, None}
use Rattle.std.specs.List.{slice_get}
use Rattle.ftl_model.specs.layout.AttributeGrammar.{AttributeGrammar, Part, Parts, Read, RuleName, reads_in}
use Rattle.ftl_model.specs.layout.Solves.{rule_named}
use Rattle.ftl_order.specs.orders.Lawful.{IsLawful, IsRule, class_of_rule}
use Rattle.ftl_order.specs.orders.Pairs.{Where, Writes, child_class, parent_class, same_class}
use Rattle.ftl_order.specs.dependencies.DepReads.{dep_read, reads_of_parts}
use Rattle.ftl_order.specs.dependencies.Writers.{first_writer, is_writer}
use Rattle.ftl_order.specs.declared.dependencies.dep_read.Site.{Site}
use Rattle.ftl_order.specs.declared.dependencies.dep_read.Site.TheVariants as sites

-- the reads of a rule are those of its parts
abbrev pub ReadsAreOfParts : Type 0
ReadsAreOfParts =
    (x : Parts) (r : Read) → Contains (reads_of_parts x) r ↔ ((part : Part) × Contains (reads_in x part) r)

-- of each read of each rule of a lawful grammar
abbrev pub OfEachRead : (AttributeGrammar → (class : ℕ) → Read → Type 0) → Type 0
OfEachRead P =
    (g : AttributeGrammar) (w : RuleName) (r : Read) → IsLawful g → IsRule g w
    → Contains (reads_of_parts (rule_named g w).parts) r → P g (class_of_rule w) r

-- a rule writes what a rule of the class reads, somewhere
abbrev pub WritesSomewhere : AttributeGrammar → (class : ℕ) → Read → RuleName → Type 0
WritesSomewhere g k r w = (runs_at : Where) × Writes g k r runs_at w

-- where the writers of what is read at a site run
abbrev pub where_of : Site → Option Where
where_of sites.Input = None
where_of sites.SameVisit = Some same_class
where_of sites.Above = Some parent_class
where_of sites.Below = Some child_class

-- and they run nowhere else
abbrev pub SitesSayWhere : AttributeGrammar → (class : ℕ) → Read → Type 0
SitesSayWhere g k r =
    (runs_at : Where) (w : RuleName) → Writes g k r runs_at w → where_of (dep_read g r).site ≡ Some runs_at

-- the writers of a read are those of its pairs
abbrev pub WritersAreOfPairs : AttributeGrammar → (class : ℕ) → Read → Type 0
WritersAreOfPairs g k r =
    (w : RuleName) → IsRule g w → (is_writer g k (dep_read g r) w ≡ true) ↔ WritesSomewhere g k r w

-- each of them is a rule
abbrev pub WritersAreRules : AttributeGrammar → (class : ℕ) → Read → Type 0
WritersAreRules g k r = (w : RuleName) → WritesSomewhere g k r w → IsRule g w

-- the first writer is a rule that writes what is read, and no rule before it does
abbrev pub FirstWriterIsFirst : AttributeGrammar → (class : ℕ) → Read → Type 0
FirstWriterIsFirst g k r =
    (n : ℕ) → first_writer g k (dep_read g r) ≡ Some n
    → ((w : RuleName) × (slice_get g.rules n ≡ Some w) × WritesSomewhere g k r w)
    × ((m : ℕ) (v : RuleName) → m < n → slice_get g.rules m ≡ Some v → WritesSomewhere g k r v → ⊥)

-- there is none exactly where no rule writes what is read
abbrev pub NoneWhereNoneWrites : AttributeGrammar → (class : ℕ) → Read → Type 0
NoneWhereNoneWrites g k r =
    (first_writer g k (dep_read g r) ≡ None) ↔ ((w : RuleName) → WritesSomewhere g k r w → ⊥)
