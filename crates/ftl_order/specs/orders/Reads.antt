-- What the equation of an instance reads: the instances that its rule sees from the node where it runs, in the order of
-- the text, each as often as it is read.
use Rattle.std.specs.Prelude.{ℕ, zero, suc, ◌<◌, List, [], map, Contains}
use Rattle.ftl_model.specs.layout.AttributeGrammar.{AttributeGrammar, Rule, Sort, inherited, input, local, read_occurrences}
use Rattle.ftl_model.specs.layout.AttributeGrammar.{synthesized}
use Rattle.ftl_model.specs.layout.Path.{Path, kids_at}
use Rattle.ftl_model.specs.layout.Solves.{Instance, IsInstance, rule_kid, rule_node, rule_of, seen_from}
use Rattle.ftl_model.specs.layout.Tree.{Forest}

-- what a rule reads that runs at node `p` for the kid of this number
abbrev pub rule_reads : Forest → Rule → Path → (number : ℕ) → List Instance
rule_reads t rule p k = map (seen_from p) (read_occurrences rule.parts (kids_at t p) k)

-- what the equation of attribute `a` at node `p` reads; that of an input reads nothing
abbrev pub equation_reads : AttributeGrammar → Forest → Sort → Path → ℕ → List Instance
equation_reads g t input p a = []
equation_reads g t inherited p a =
    rule_reads t (rule_of g t inherited p a) (rule_node inherited p) (rule_kid inherited p)
equation_reads g t synthesized p a = rule_reads t (rule_of g t synthesized p a) p 0
equation_reads g t local p a = rule_reads t (rule_of g t local p a) p 0

-- what the equation of an instance reads
abbrev pub reads_of : AttributeGrammar → Forest → Instance → List Instance
reads_of g t i = equation_reads g t (g.sort i.attribute) i.node i.attribute

-- the equation of i reads j
abbrev pub Reads : AttributeGrammar → Forest → Instance → Instance → Type 0
Reads g t i j = Contains (reads_of g t i) j

-- each chain of reads from i on has fewer than n reads
abbrev pub EndsWithin : AttributeGrammar → Forest → ℕ → Instance → Type 0
EndsWithin g t zero i = ⊥
EndsWithin g t (suc n) i = (j : Instance) → Reads g t i j → EndsWithin g t n j

-- each chain of reads ends: from each instance on it has fewer reads than the number of that instance
abbrev pub ReadsEnd : AttributeGrammar → Forest → (Instance → ℕ) → Type 0
ReadsEnd g t number = (i : Instance) → IsInstance g t i → EndsWithin g t (number i) i

-- the number is smaller at what is read
abbrev pub FallsAlongReads : AttributeGrammar → Forest → (Instance → ℕ) → Type 0
FallsAlongReads g t rank = (i j : Instance) → IsInstance g t i → Reads g t i j → rank j < rank i
