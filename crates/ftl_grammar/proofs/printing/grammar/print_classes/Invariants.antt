use Rattle.std.proofs.Common.{◌≡◌, ◌++◌, string_bytes, take, flat_map}
use Rattle.ftl_grammar.specs.printing.GrammarTokens.{spaced_text, class_tokens}
use Rattle.ftl_grammar.proofs.printing.grammar.print_classes.Given as goal

abbrev pub invariant-loop-class : goal.invariant-loop-class
invariant-loop-class l =
    string_bytes l.out ≡ string_bytes l.initial.out ++ spaced_text (flat_map class_tokens (take l.class-index l.classes))
