use Rattle.std.proofs.Common.{Some, None}
use Rattle.std.proofs.Common.{[]}
use Rattle.ftl_grammar.specs.syntax.Trees as trees
use Rattle.ftl_grammar.specs.declared.syntax.rules.AttrKind.TheVariants.{Inh}
use Rattle.ftl_checked.proofs.lookup.Finding.{attr_found}
use Rattle.ftl_checked.proofs.lookup.find.attr_in.Goals as goal

pub returns-in-Some : goal.returns-in-Some
returns-in-Some c = record {
  found = attr_found c.args.name.now c.args.names.now c.args.attrs.now c.args.start c.index-attrs-place.result
      c.place.result (Some c.in-Some.place) c.requires.names c.place.ensures.place c.in-Some.is;
}

pub returns-in-None : goal.returns-in-None
returns-in-None c = record {
  found = attr_found c.args.name.now c.args.names.now c.args.attrs.now c.args.start (trees.attr_decl Inh [])
      c.place.result None c.requires.names c.place.ensures.place c.in-None.is;
}
