use Rattle.ftl_grammar.proofs.printing.SpelledExpressions.{exact_expr}
use Rattle.ftl_grammar.proofs.printing.CanonicalTexts.{canonical_text, readable_text}
use Rattle.ftl_grammar.proofs.printing.laws.canonical_texts.Goals as goal

pub returns : goal.returns
returns c = record { grammar = canonical_text; readable = readable_text; expression = λ tokens x s. (exact_expr s).same }
