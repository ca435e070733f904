-- The parts of rules by number, as code has them.
use Rattle.std.specs.Prelude.{List, [], ◌∷◌, map}
use Rattle.ftl_model.specs.layout.AttributeGrammar.{AttributeGrammar, Parts, Read, RuleName, each_read, first_then, fold_over}
use Rattle.ftl_model.specs.layout.AttributeGrammar.{last_read, plain, prev_read, self_read, single_read, this_read}
use Rattle.ftl_model.specs.layout.Solves.{rule_named}
use Rattle.ftl_meaning.specs.faults.Allowed.{Leaf, Position, for_kids, for_later, for_self, for_single, in_step}
use Rattle.ftl_deps.specs.reads.Meant.{reads_among}
use Rattle.ftl_deps.specs.declared.parts.part_read.PartRead.{PartRead}
use Rattle.ftl_deps.specs.declared.parts.part_read.PartRead.TheVariants as reads
use Rattle.ftl_deps.specs.declared.parts.rule_parts.RuleParts.{RuleParts}
use Rattle.ftl_deps.specs.declared.parts.rule_parts.RuleParts.TheVariants as code

-- the read that code calls so
abbrev pub read_meant : PartRead → Read
read_meant (reads.Own a) = self_read a
read_meant (reads.Single c a) = single_read c a
read_meant (reads.Each c a) = each_read c a
read_meant (reads.This c a) = this_read c a
read_meant (reads.Prev c a) = prev_read c a
read_meant (reads.Last c a) = last_read c a

-- the parts that code has
abbrev pub parts_meant : RuleParts → Parts
parts_meant (code.Plain all) = plain (map read_meant all)
parts_meant (code.FirstThen first later) = first_then (map read_meant first) (map read_meant later)
parts_meant (code.FoldOver child start step) = fold_over child (map read_meant start) (map read_meant step)

-- the parts of the rule of a name
abbrev pub parts_named : AttributeGrammar → RuleName → Parts
parts_named g w = (rule_named g w).parts

-- the parts of all rules, by number
abbrev pub all_parts : AttributeGrammar → List Parts
all_parts g = map (parts_named g) g.rules

-- ---- rules as they are written

-- the parts of a rule of two expressions, by where the second stands
abbrev pub two_parts : Position → (first second : List Read) → Parts
two_parts (in_step c) first second = fold_over c first second
two_parts for_self first second = first_then first second
two_parts for_single first second = first_then first second
two_parts (for_kids c) first second = first_then first second
two_parts (for_later c) first second = first_then first second

-- the parts of a rule by what its expressions read, each with its position
abbrev pub parts_by_leaves : List (Position × List Leaf) → Parts
parts_by_leaves [] = plain []
parts_by_leaves (x ∷ []) = plain (reads_among x.1)
parts_by_leaves (x ∷ (y ∷ rest)) = two_parts y.0 (reads_among x.1) (reads_among y.1)
