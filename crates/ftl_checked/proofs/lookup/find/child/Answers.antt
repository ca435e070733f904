use Rattle.std.proofs.Common.{arith}
use Rattle.std.proofs.lemmas.Grind.{common_steps}
use Rattle.ftl_checked.proofs.lookup.Finding.{child_found_here, child_found_none, child_place_within}
use Rattle.ftl_checked.proofs.lookup.find.child.Goals as goal

pub returns-in-Some : goal.returns-in-Some
returns-in-Some c = record {
  within = child_place_within c.args.grammar.now c.args.number c.args.name.now c.class_table-table.result.now.child_names c.place.result c.in-Some.place (grind (arith, common_steps)) c.place.ensures.place c.in-Some.is;
  found =
      child_found_here c.args.grammar.now c.args.number c.args.name.now c.class_table-table.result.now.child_names c.as_slice.result.now
      _ c.place.result c.in-Some.place (grind (arith, common_steps)) (grind (arith, common_steps)) c.place.ensures.place c.in-Some.is;
}

pub returns-in-None : goal.returns-in-None
returns-in-None c = record {
  within = tt;
  found =
      child_found_none c.args.grammar.now c.args.number c.args.name.now c.class_table-table.result.now.child_names
      c.place.result (grind (arith, common_steps)) c.place.ensures.place c.in-None.is;
}
