use Rattle.std.proofs.Common.{◌≡◌, ◌++◌, string_bytes, take, flat_map}
use Rattle.ftl_grammar.specs.printing.GrammarTokens.{spaced_text, interface_tokens}
use Rattle.ftl_grammar.proofs.printing.grammar.print_interfaces.Given as goal

abbrev pub invariant-loop-interface : goal.invariant-loop-interface
invariant-loop-interface l =
    string_bytes l.out
    ≡ string_bytes l.initial.out ++ spaced_text (flat_map interface_tokens (take l.interface-index l.interfaces))
