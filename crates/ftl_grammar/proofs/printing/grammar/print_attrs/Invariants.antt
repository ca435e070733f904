use Rattle.std.proofs.Common.{◌≡◌, ◌++◌, string_bytes, take, flat_map}
use Rattle.ftl_grammar.specs.printing.GrammarTokens.{spaced_text, attr_tokens}
use Rattle.ftl_grammar.proofs.printing.grammar.print_attrs.Given as goal

abbrev pub invariant-loop-attr : goal.invariant-loop-attr
invariant-loop-attr l =
    string_bytes l.out ≡ string_bytes l.initial.out ++ spaced_text (flat_map attr_tokens (take l.attr-index l.attrs))
