use Rattle.std.proofs.Common.{◌≡◌, ◌++◌, string_bytes, take, flat_map}
use Rattle.ftl_grammar.specs.printing.GrammarTokens.{spaced_text, rule_tokens}
use Rattle.ftl_grammar.proofs.printing.grammar.print_rules.Given as goal

abbrev pub invariant-loop-rule : goal.invariant-loop-rule
invariant-loop-rule l =
    string_bytes l.out ≡ string_bytes l.initial.out ++ spaced_text (flat_map rule_tokens (take l.rule-index l.rules))
