-- Pairs as code has them.
use Rattle.std.specs.Prelude.{◌≡◌, ℕ, ◌==◌, Bool, false, Option, Some, None}
use Rattle.ftl_model.specs.layout.AttributeGrammar as model
use Rattle.ftl_model.specs.layout.AttributeGrammar.{AttributeGrammar, Part}
use Rattle.ftl_model.specs.layout.Solves.{rule_named}
use Rattle.ftl_order.specs.orders.Pairs.{Pair, Where, child_class, parent_class, same_class}
use Rattle.ftl_deps.specs.parts.RuleParts.{read_meant}
use Rattle.ftl_deps.specs.reads.Products.{name_of_info}
use Rattle.ftl_example.specs.sizes.Place.{goes_over}
use Rattle.ftl_example.specs.declared.pairs.refused_pair.RefusedPair.{RefusedPair}
use Rattle.ftl_example.specs.declared.pairs.refused_pair.RulePart.{RulePart}
use Rattle.ftl_example.specs.declared.pairs.refused_pair.RulePart.TheVariants as part
use Rattle.ftl_example.specs.declared.pairs.refused_pair.WriterNode.{WriterNode}
use Rattle.ftl_example.specs.declared.pairs.refused_pair.WriterNode.TheVariants as node

-- the part that code calls so
abbrev pub part_meant : RulePart → Part
part_meant part.Plain = model.plain_part
part_meant part.First = model.first_part
part_meant part.Then = model.then_part
part_meant part.From = model.from_part
part_meant part.With = model.with_part

-- where the writer runs
abbrev pub where_meant : WriterNode → Where
where_meant node.Same = same_class
where_meant node.Parent = parent_class
where_meant node.Kid = child_class

-- the pair
abbrev pub pair_meant : RefusedPair → Pair
pair_meant p =
    record {
      reader = name_of_info p.reader;
      part = part_meant p.part;
      read = read_meant p.read;
      writer = name_of_info p.writer;
      runs_at = where_meant p.runs_at;
    }

-- whether a child is there, and is this one
abbrev pub is_child : Option ℕ → ℕ → Bool
is_child None c = false
is_child (Some d) c = d == c

-- the part goes over the kids of the child that the pair says
abbrev pub GoesOver : AttributeGrammar → RefusedPair → Type 0
GoesOver g p =
    (c : ℕ) → goes_over (rule_named g (name_of_info p.reader)).parts (part_meant p.part) c ≡ is_child p.over c
