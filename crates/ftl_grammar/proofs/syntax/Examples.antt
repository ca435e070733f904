-- A short example of each form of the syntax: `0` for what is a sum, `0 < 0` for a condition.
use Rattle.std.proofs.Common.{[], ◌∷◌, ◌++◌}
use Rattle.ftl_tokens.specs.declared.scanner.kind.Kind.TheVariants as kind
use Rattle.ftl_tokens.specs.scanner.Tokenized.{number, fixed}
use Rattle.ftl_tokens.proofs.reading.KeptPrefix.{Example, example}
use Rattle.ftl_grammar.specs.declared.syntax.expression.Atom.TheVariants as atoms
use Rattle.ftl_grammar.specs.syntax.Spelling.{SpellsPlain, SpellsAtom, SpellsUnary, SpellsTerm, SpellsSum, SpellsTest}
use Rattle.ftl_grammar.specs.syntax.Spelling.{SpellsConj, SpellsCond, SpellsExpr, less, plain_number, plain_atom, unsigned}
use Rattle.ftl_grammar.specs.syntax.Spelling.{no_factors, term_of, no_terms, sum_of, compared, no_tests, conj_of, no_conjs}
use Rattle.ftl_grammar.specs.syntax.Spelling.{cond_of, plain_sum}

pub zero_plain : Example SpellsPlain
zero_plain = example (number 0 ∷ []) (atoms.Number 0) plain_number

pub zero_atom : Example SpellsAtom
zero_atom = example zero_plain.tokens zero_plain.value (plain_atom zero_plain.spells)

pub zero_unary : Example SpellsUnary
zero_unary = example zero_atom.tokens _ (unsigned zero_atom.spells)

pub zero_term : Example SpellsTerm
zero_term = example (zero_unary.tokens ++ []) _ (term_of zero_unary.spells no_factors)

pub zero_sum : Example SpellsSum
zero_sum = example (zero_term.tokens ++ []) _ (sum_of zero_term.spells no_terms)

pub zero_expr : Example SpellsExpr
zero_expr = example zero_sum.tokens _ (plain_sum zero_sum.spells)

pub zero_test : Example SpellsTest
zero_test =
    example (zero_sum.tokens ++ (fixed kind.Less ∷ zero_sum.tokens)) _ (compared zero_sum.spells less zero_sum.spells)

pub zero_conj : Example SpellsConj
zero_conj = example (zero_test.tokens ++ []) _ (conj_of zero_test.spells no_tests)

pub zero_cond : Example SpellsCond
zero_cond = example (zero_conj.tokens ++ []) _ (cond_of zero_conj.spells no_conjs)
