use Rattle.std.proofs.Common.{◌≡◌, map}
use Rattle.ftl_grammar.specs.syntax.Trees.{attr_decl}
use Rattle.ftl_grammar.proofs.reading.attrs.decls_of.Given as goal

abbrev pub invariant-loop-name : goal.invariant-loop-name
invariant-loop-name l = l.found ≡ map (attr_decl l.kind) l.yielded
