use Rattle.std.proofs.Common.{◌≡◌, ◌++◌, string_bytes, take, flat_map}
use Rattle.ftl_grammar.specs.printing.GrammarTokens.{spaced_text, child_tokens}
use Rattle.ftl_grammar.proofs.printing.grammar.print_children.Given as goal

abbrev pub invariant-loop-child : goal.invariant-loop-child
invariant-loop-child l =
    string_bytes l.out ≡ string_bytes l.initial.out ++ spaced_text (flat_map child_tokens (take l.child-index l.children))
