-- An expression has no more reads than tokens spell it.
use Rattle.std.proofs.Common.{◌≡◌, ℕ, ◌+◌, ◌≤◌, true, false, List, [], ◌∷◌, ◌++◌, length, map, ap, length-append, arith}
use Rattle.std.specs.List.{fold}
use Rattle.ftl_tokens.specs.declared.scanner.kind.Kind.TheVariants as kind
use Rattle.ftl_tokens.specs.scanner.Tokenized.{fixed}
use Rattle.ftl_tokens.specs.reading.Reader.{Tokens}
use Rattle.ftl_grammar.specs.declared.syntax.expression.Read.{Read}
use Rattle.ftl_grammar.specs.declared.syntax.expression.Atom.{Atom}
use Rattle.ftl_grammar.specs.declared.syntax.expression.Unary.{Unary}
use Rattle.ftl_grammar.specs.declared.syntax.expression.Factor.{Factor}
use Rattle.ftl_grammar.specs.declared.syntax.expression.Term.{Term}
use Rattle.ftl_grammar.specs.declared.syntax.expression.SignedTerm.{SignedTerm}
use Rattle.ftl_grammar.specs.declared.syntax.expression.Sum.{Sum}
use Rattle.ftl_grammar.specs.declared.syntax.expression.Test.{Test}
use Rattle.ftl_grammar.specs.declared.syntax.expression.Conj.{Conj}
use Rattle.ftl_grammar.specs.declared.syntax.expression.Cond.{Cond}
use Rattle.ftl_grammar.specs.declared.syntax.expression.Expr.{Expr}
use Rattle.ftl_grammar.specs.syntax.Spelling.{SpellsRead, SpellsPlain, SpellsAtom, SpellsUnary, SpellsTerm, SpellsFactors, SpellsFactor, SpellsSum, SpellsSignedTerms, SpellsSignedTerm, SpellsTest, SpellsConj, SpellsAndTests, SpellsCond, SpellsOrConjs, SpellsExpr}
use Rattle.ftl_grammar.specs.syntax.Spelling.{own, this, prev, of_child, plain_number, plain_acc, plain_read, plain_group, plain_atom, least, greatest, last_or, unsigned, negative, term_of, no_factors, more_factors, times, over, sum_of, no_terms, more_terms, plus, minus, grouped, negated, compared, conj_of, no_tests, more_tests, cond_of, no_conjs, more_conjs, plain_sum, if_then_else}
use Rattle.ftl_meaning.specs.formulas.Formula.{reads_of, reads_in, both, either}
use Rattle.ftl_meaning.specs.formulas.Expressions.{Number, Truth, after, formula_of, atom_formula, factor_step, test_question, cond_question, conj_question, signed_step, sum_formula, term_formula, unary_formula}
use Rattle.ftl_meaning.proofs.formulas.Equations.{of-Number, of-Acc, of-Read, of-Group, of-Least, of-Greatest, of-LastOr, of-If, of-Sum, of-bracketed, of-Compare, of-cond, of-conj, of-sum, of-term, of-unary, times_at, over_at, minus_at, plus_at}

-- how many reads a formula has, and a question
abbrev reads : Number → ℕ
reads f = length (reads_of f)

abbrev asks : Truth → ℕ
asks q = length (reads_in q)

some_read : {a : Tokens} {x : Read} → SpellsRead a x → 1 ≤ length a
some_read own = omega arith
some_read this = omega arith
some_read prev = omega arith
some_read of_child = omega arith

two : (f g : Number) → length (reads_of f ++ reads_of g) ≡ reads f + reads g
two f g = length-append (reads_of f) (reads_of g)

pair : (p q : Truth) → length (reads_in p ++ reads_in q) ≡ asks p + asks q
pair p q = length-append (reads_in p) (reads_in q)

mutual
  plain_few : {a : Tokens} {x : Atom} → SpellsPlain a x → reads (atom_formula x) ≤ length a
  plain_few (plain_number {n = n}) = omega (arith, ap reads (of-Number n))
  plain_few plain_acc = omega (arith, ap reads of-Acc)
  plain_few (plain_read {x = x} s) = omega (arith, ap reads (of-Read x), some_read s)
  plain_few (plain_group {a = a} {x = x} s) =
      omega (arith, ap reads (of-Group x), expr_few s, length-append a (fixed kind.RightParen ∷ []))

  atom_few : {a : Tokens} {x : Atom} → SpellsAtom a x → reads (atom_formula x) ≤ length a
  atom_few (plain_atom s) = plain_few s
  atom_few (least {a = a} {b = b} {x = x} {y = y} s t) =
      omega (arith, ap reads (of-Least x y), two (formula_of x) (formula_of y), expr_few s, expr_few t, length-append a (fixed kind.Comma ∷ (b ++ (fixed kind.RightParen ∷ []))), length-append b (fixed kind.RightParen ∷ []))
  atom_few (greatest {a = a} {b = b} {x = x} {y = y} s t) =
      omega (arith, ap reads (of-Greatest x y), two (formula_of x) (formula_of y), expr_few s, expr_few t, length-append a (fixed kind.Comma ∷ (b ++ (fixed kind.RightParen ∷ []))), length-append b (fixed kind.RightParen ∷ []))
  atom_few (last_or {c = c} {n = n} {x = x} s) = omega (arith, ap reads (of-LastOr c n x), plain_few s)

  unary_few : {a : Tokens} {x : Unary} → SpellsUnary a x → reads (unary_formula x) ≤ length a
  unary_few (unsigned {x = x} s) = omega (arith, ap reads (of-unary false x), atom_few s)
  unary_few (negative {x = x} s) = omega (arith, ap reads (of-unary true x), atom_few s)

  term_few : {a : Tokens} {x : Term} → SpellsTerm a x → reads (term_formula x) ≤ length a
  term_few (term_of {a = a} {b = b} {x = x} {xs = xs} s t) =
      omega (arith, ap reads (of-term x xs), unary_few s, factors_few t (unary_formula x), length-append a b)

  factors_few : {a : Tokens} {xs : List Factor} → SpellsFactors a xs → (f : Number)
      → reads (after f (map factor_step xs)) ≤ reads f + length a
  factors_few no_factors f = omega arith
  factors_few (more_factors {a = a} {b = b} {x = x} {xs = xs} s t) f =
      omega (arith, factor_few s f, factors_few t (factor_step x f), length-append a b)

  factor_few : {a : Tokens} {x : Factor} → SpellsFactor a x → (f : Number)
      → reads (factor_step x f) ≤ reads f + length a
  factor_few (times {x = x} s) f = omega (arith, ap reads (times_at x f), unary_few s, two f (unary_formula x))
  factor_few (over {n = n} some) f = omega (arith, ap reads (over_at n f))

  sum_few : {a : Tokens} {x : Sum} → SpellsSum a x → reads (sum_formula x) ≤ length a
  sum_few (sum_of {a = a} {b = b} {x = x} {xs = xs} s t) =
      omega (arith, ap reads (of-sum x xs), term_few s, terms_few t (term_formula x), length-append a b)

  terms_few : {a : Tokens} {xs : List SignedTerm} → SpellsSignedTerms a xs → (f : Number)
      → reads (after f (map signed_step xs)) ≤ reads f + length a
  terms_few no_terms f = omega arith
  terms_few (more_terms {a = a} {b = b} {x = x} {xs = xs} s t) f =
      omega (arith, signed_few s f, terms_few t (signed_step x f), length-append a b)

  signed_few : {a : Tokens} {x : SignedTerm} → SpellsSignedTerm a x → (f : Number)
      → reads (signed_step x f) ≤ reads f + length a
  signed_few (plus {x = x} s) f = omega (arith, ap reads (plus_at x f), term_few s, two f (term_formula x))
  signed_few (minus {x = x} s) f = omega (arith, ap reads (minus_at x f), term_few s, two f (term_formula x))

  test_few : {a : Tokens} {x : Test} → SpellsTest a x → asks (test_question x) ≤ length a
  test_few (grouped {a = a} {x = x} s) =
      omega (arith, ap asks (of-bracketed false x), cond_few s, length-append a (fixed kind.RightBracket ∷ []))
  test_few (negated {a = a} {x = x} s) =
      omega (arith, ap asks (of-bracketed true x), cond_few s, length-append a (fixed kind.RightBracket ∷ []))
  test_few (compared {a = a} {b = b} {x = x} {y = y} {k = k} {c = c} s m t) =
      omega (arith, ap asks (of-Compare c x y), sum_few s, sum_few t, two (sum_formula x) (sum_formula y), length-append a (fixed k ∷ b))

  conj_few : {a : Tokens} {x : Conj} → SpellsConj a x → asks (conj_question x) ≤ length a
  conj_few (conj_of {a = a} {b = b} {x = x} {xs = xs} s t) =
      omega (arith, ap asks (of-conj (x ∷ xs)), test_few s, tests_few t (test_question x), length-append a b)

  tests_few : {a : Tokens} {xs : List Test} → SpellsAndTests a xs → (q : Truth)
      → asks (fold both q (map test_question xs)) ≤ asks q + length a
  tests_few no_tests q = omega arith
  tests_few (more_tests {a = a} {b = b} {x = x} {xs = xs} s t) q =
      omega (arith, test_few s, tests_few t (both q (test_question x)), pair q (test_question x), length-append a b)

  cond_few : {a : Tokens} {x : Cond} → SpellsCond a x → asks (cond_question x) ≤ length a
  cond_few (cond_of {a = a} {b = b} {x = x} {xs = xs} s t) =
      omega (arith, ap asks (of-cond (x ∷ xs)), conj_few s, conjs_few t (conj_question x), length-append a b)

  conjs_few : {a : Tokens} {xs : List Conj} → SpellsOrConjs a xs → (q : Truth)
      → asks (fold either q (map conj_question xs)) ≤ asks q + length a
  conjs_few no_conjs q = omega arith
  conjs_few (more_conjs {a = a} {b = b} {x = x} {xs = xs} s t) q =
      omega (arith, conj_few s, conjs_few t (either q (conj_question x)), pair q (conj_question x), length-append a b)

  pub expr_few : {a : Tokens} {x : Expr} → SpellsExpr a x → length (reads_of (formula_of x)) ≤ length a
  expr_few (plain_sum {x = x} s) = omega (arith, ap reads (of-Sum x), sum_few s)
  expr_few (if_then_else {a = a} {b = b} {c = c} {x = x} {y = y} {z = z} s t u) =
      omega (arith, ap reads (of-If x y z), cond_few s, sum_few t, sum_few u, length-append (reads_in (cond_question x)) (reads_of (sum_formula y) ++ reads_of (sum_formula z)), two (sum_formula y) (sum_formula z), length-append a (fixed kind.Then ∷ (b ++ (fixed kind.Else ∷ c))), length-append b (fixed kind.Else ∷ c))
