use Rattle.std.proofs.Common.{◌≡◌, ◌++◌, string_bytes, take, flat_map}
use Rattle.ftl_grammar.specs.printing.GrammarTokens.{spaced_text, next_name}
use Rattle.ftl_grammar.proofs.printing.grammar.print_next_names.Given as goal

abbrev pub invariant-loop-next : goal.invariant-loop-next
invariant-loop-next l =
    string_bytes l.out ≡ string_bytes l.initial.out ++ spaced_text (flat_map next_name (take l.next-index l.names))
