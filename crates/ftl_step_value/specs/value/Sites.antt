-- Steps with the code of the rules, the parts of their rules, and what these give.
use Rattle.std.specs.Prelude.{◌≡◌, ℕ, ◌<◌, ◌≤◌, true, List, flat_map, length, map}
use Rattle.std.specs.List.{range_with_len}
use Rattle.ftl_model.specs.layout.AttributeGrammar.{Occurrence, Parts, Read, first_then, fold_over, plain, read_occurrences}
use Rattle.ftl_model.specs.layout.AttributeGrammar.{reads_in, seen_by}
use Rattle.ftl_model.specs.layout.AttributeGrammar as model
use Rattle.ftl_model.specs.layout.Tree.{size}
use Rattle.ftl_model.specs.layout.Values.{Value, overflow}
use Rattle.ftl_order.specs.orders.Lawful.{EachMay}
use Rattle.ftl_visit.specs.rule_code.Depth.{depth_of}
use Rattle.ftl_meaning.specs.grammars.Meaning.{Sight, sight}
use Rattle.ftl_visit.specs.compiled.RuleCode.{PartCode}
use Rattle.ftl_deps.specs.parts.RuleParts.{read_meant}
use Rattle.ftl_visit.specs.step_reads.StepReads.{AreOfChildren, IsOfChildren, children_in, kids_in}
use Rattle.ftl_visit.specs.rule_values.PartValues.{IsCodeOf, IsRuleOf, has_part, meant_rule, part_of, part_value, value_by_parts}
use Rattle.ftl_step_value.specs.value.StepValue.{IsCodeFor}
use Rattle.ftl_step_value.specs.declared.value.part.Site.{Site}
use Rattle.ftl_step_value.specs.declared.value.part.SitePart.{SitePart}

-- how many kids the node of a step has in each child
abbrev pub site_kids : Site → ℕ → ℕ
site_kids x = kids_in x.tree.now x.step.node

-- the step is of a rule at a node that is there, and the code is that of the grammar
pub record IsSite (x : Site) : Type 0 where
  pub node : x.step.node < size x.tree.now.tree
  pub rule : IsRuleOf x.tree.now.checked x.step.rule
  pub code : IsCodeFor x.tree.now.checked x.programs.now

-- the parts of the step's rule
abbrev pub site_parts : Site → Parts
site_parts x = (meant_rule x.tree.now.checked x.step.rule).parts

-- the rule has the part, and these are its reads
pub record IsPart (x : SitePart) : Type 0 where
  pub site : IsSite x.site
  pub has : has_part (site_parts x.site) (part_of x.part) ≡ true
  pub reads : reads_in (site_parts x.site) (part_of x.part) ≡ map read_meant x.reads.now
  pub children : EachMay (IsOfChildren (children_in x.site.tree.now x.site.step.node)) (map read_meant x.reads.now)

-- this is the code of the part, which finds the room of its programs enough
pub record IsCodeIn (x : SitePart) (c : PartCode) : Type 0 where
  pub width : c.width ≡ x.site.tree.now.checked.width
  pub code : IsCodeOf x.site.tree.now.checked x.site.step.rule x.part c.code
  pub room : depth_of c.code ≤ x.site.programs.now.max_stack

-- what a part reads, while this kid is at hand
abbrev pub part_sees : SitePart → (at_hand : ℕ) → List Occurrence
part_sees x k = seen_by (site_kids x.site) k (map read_meant x.reads.now)

-- what a part gives, by what a fold has so far and the values of what it reads
abbrev pub part_gives : SitePart → (at_hand : ℕ) → (so_far : Value) → (Occurrence → Value) → Value
part_gives x k so_far s =
    part_value x.site.tree.now.checked x.site.step.rule (part_of x.part) (sight (site_kids x.site) k s so_far)

-- what the step of a fold reads over so many kids, from this one on
abbrev pub steps_see : SitePart → (from count : ℕ) → List Occurrence
steps_see x from n = flat_map (part_sees x) (range_with_len from n)

-- a part reads as much at each kid
abbrev pub IsEven : SitePart → Type 0
IsEven x = (k : ℕ) → length (part_sees x k) ≡ length (part_sees x 0)

-- so does the step of a fold
abbrev pub HasEvenStep : (kids : ℕ → ℕ) → Parts → Type 0
HasEvenStep kids (plain reads) = Unit {0}
HasEvenStep kids (first_then first later) = Unit {0}
HasEvenStep kids (fold_over c start step) =
    (k : ℕ) → length (seen_by kids k step) ≡ length (seen_by kids 0 step)

-- ---- copies

-- a rule with these parts has this one, with these reads, and for the kid of this number it reads and gives no other
pub record IsPartFor (parts : Parts) (number : ℕ) (which : model.Part) (reads : List Read) : Type 0 where
  pub has : has_part parts which ≡ true
  pub reads_are : reads_in parts which ≡ reads
  pub children : (n : ℕ) → AreOfChildren n parts → EachMay (IsOfChildren n) reads
  pub sees : (kids : ℕ → ℕ) → read_occurrences parts kids number ≡ seen_by kids number reads
  pub gives : (value : model.Part → Sight → Value) (kids : ℕ → ℕ) (s : Occurrence → Value)
      → value_by_parts parts value kids number s ≡ value which (sight kids number s overflow)
