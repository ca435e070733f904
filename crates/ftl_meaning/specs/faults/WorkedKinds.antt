-- Grammars whose attributes are declared by words that may not stand there.
use Rattle.std.specs.Prelude.{[], ◌∷◌, codes}
use Rattle.ftl_grammar.specs.syntax.Trees as trees
use Rattle.ftl_grammar.specs.declared.syntax.rules.AttrKind.{AttrKind}
use Rattle.ftl_grammar.specs.declared.syntax.rules.Grammar.{Grammar}

-- `root R; interface R { .. a; }`, with this word
abbrev pub shares : AttrKind → Grammar
shares kind =
    trees.grammar (codes "R") (trees.interface (codes "R") (trees.attr_decl kind (codes "a") ∷ []) [] ∷ []) []

-- `root R; interface R { } class C : R { .. a; }`, with this word
abbrev pub adds : AttrKind → Grammar
adds kind =
    trees.grammar (codes "R") (trees.interface (codes "R") [] [] ∷ [])
    (trees.class (codes "C") (codes "R") (trees.attr_decl kind (codes "a") ∷ []) [] [] ∷ [])
