-- Each rule is derived line by line.
use Rattle.std.proofs.Common.{[], ◌++◌, arith}
use Rattle.ftl_tokens.specs.reading.Reader.{Tokens}
use Rattle.ftl_grammar.specs.declared.syntax.expression.Atom.{Atom}
use Rattle.ftl_grammar.specs.declared.syntax.expression.Expr.TheVariants as exprs
use Rattle.ftl_grammar.specs.syntax.Spelling.{own, this, prev, less_eq, equal, unequal, plain_number, plain_acc, plain_read}
use Rattle.ftl_grammar.specs.syntax.Spelling.{plain_group, SpellsAtom, plain_atom, greatest, last_or, unsigned, negative}
use Rattle.ftl_grammar.specs.syntax.Spelling.{SpellsTerm, term_of, no_factors, more_factors, times, over, SpellsSum, sum_of}
use Rattle.ftl_grammar.specs.syntax.Spelling.{no_terms, more_terms, plus, minus, negated, compared, conj_of, no_tests}
use Rattle.ftl_grammar.specs.syntax.Spelling.{more_tests, cond_of, no_conjs, more_conjs, SpellsExpr, plain_sum, if_then_else}
use Rattle.ftl_grammar.specs.syntax.GrammarSpelling.{fold, own_plain, first_then, own_rule, child_rule}
use Rattle.ftl_grammar.specs.syntax.Worked.{lone, alone}
use Rattle.ftl_grammar.proofs.syntax.worked.worked_rules.Goals as goal

-- a term of one atom
a_term : {a : Tokens} {x : Atom} → SpellsAtom a x → SpellsTerm (a ++ []) (lone x)
a_term s = term_of (unsigned s) no_factors

-- a sum of one atom
a_sum : {a : Tokens} {x : Atom} → SpellsAtom a x → SpellsSum ((a ++ []) ++ []) (alone (lone x))
a_sum s = sum_of (a_term s) no_terms

-- an expression of one atom
an_expr : {a : Tokens} {x : Atom} → SpellsAtom a x → SpellsExpr ((a ++ []) ++ []) (exprs.Sum (alone (lone x)))
an_expr s = plain_sum (a_sum s)

pub returns-clause-first_then : goal.returns-clause-first_then
returns-clause-first_then c =
    child_rule
    (first_then (an_expr (plain_atom (plain_read own)))
    (plain_sum (sum_of (a_term (plain_atom (plain_read prev)))
    (more_terms (plus (a_term (plain_atom (plain_read prev)))) no_terms))))

pub returns-clause-fold : goal.returns-clause-fold
returns-clause-fold c =
    own_rule
    (fold (an_expr (plain_atom plain_number))
    (an_expr (greatest (an_expr (plain_atom plain_acc)) (an_expr (plain_atom (plain_read this))))))

pub returns-clause-sum : goal.returns-clause-sum
returns-clause-sum c =
    own_rule
    (own_plain
    (plain_sum
    (sum_of (a_term (plain_atom (plain_read own)))
    (more_terms
    (minus
    (term_of (unsigned (plain_atom plain_number))
    (more_factors (times (unsigned (plain_atom (plain_read own)))) (more_factors (over (omega arith)) no_factors))))
    (more_terms (minus (term_of (negative (plain_atom (plain_read own))) no_factors)) no_terms)))))

pub returns-clause-choice : goal.returns-clause-choice
returns-clause-choice c =
    own_rule
    (own_plain
    (if_then_else
    (cond_of
    (conj_of
    (negated
    (cond_of
    (conj_of (compared (a_sum (plain_atom (plain_read own))) less_eq (a_sum (plain_atom plain_number))) no_tests)
    no_conjs))
    (more_tests (compared (a_sum (plain_atom (plain_read own))) equal (a_sum (plain_atom plain_number))) no_tests))
    (more_conjs
    (conj_of (compared (a_sum (plain_atom plain_number)) unequal (a_sum (last_or plain_number))) no_tests)
    no_conjs))
    (a_sum (plain_atom plain_number))
    (a_sum (plain_atom (plain_group (an_expr (plain_atom plain_number)))))))
