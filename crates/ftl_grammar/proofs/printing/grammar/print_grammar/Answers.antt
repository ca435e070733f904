use Rattle.std.proofs.Common.{◌≡◌, string_bytes, sym, subst, arith}
use Rattle.std.proofs.lemmas.Grind.{common_steps}
use Rattle.ftl_grammar.specs.printing.GrammarTokens.{grammar_text}
use Rattle.ftl_grammar.specs.printing.TextOf.{IsTextOf}
use Rattle.ftl_grammar.proofs.printing.CanonicalTexts.{canonical_text, readable_text}
use Rattle.ftl_grammar.proofs.printing.grammar.print_grammar.Goals as goal

pub returns-clause-spells : goal.returns-clause-spells
returns-clause-spells c = λ text utf8 is.
    let g = c.args.grammar.now in
    let printed : string_bytes c.print_whole.new.out ≡ grammar_text g = grind (arith, common_steps) in
    subst (λ l. IsTextOf l g) (sym printed) (canonical_text text g utf8 is)

pub returns-clause-reads : goal.returns-clause-reads
returns-clause-reads c = λ is.
    let g = c.args.grammar.now in
    let printed : string_bytes c.print_whole.new.out ≡ grammar_text g = grind (arith, common_steps) in
    subst (λ l. IsTextOf l g) (sym printed) (readable_text g is)
