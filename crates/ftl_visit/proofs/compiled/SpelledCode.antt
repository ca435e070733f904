-- The code of an expression has no more instructions than tokens spell it, and divides by their numbers alone.
use Rattle.std.proofs.Common.{◌≡◌, ℕ, ◌+◌, ◌≤◌, ◌<◌, true, false, List, [], ◌∷◌, ◌++◌, length, map, sym, subst, length-append, arith}
use Rattle.std.specs.List.{AllByRecursion, fold}
use Rattle.std.proofs.lemmas.List.Elements.{All-from_recursion}
use Rattle.ftl_tokens.specs.declared.scanner.kind.Kind.TheVariants as kind
use Rattle.ftl_tokens.specs.scanner.Tokenized.{AreTokensOf, Tokenized, fixed, symbols_of}
use Rattle.ftl_tokens.specs.reading.Reader.{Tokens}
use Rattle.ftl_grammar.specs.declared.syntax.expression.Read.{Read}
use Rattle.ftl_grammar.specs.declared.syntax.expression.Atom.{Atom}
use Rattle.ftl_grammar.specs.declared.syntax.expression.Unary.{Unary}
use Rattle.ftl_grammar.specs.declared.syntax.expression.Factor.{Factor}
use Rattle.ftl_grammar.specs.declared.syntax.expression.Term.{Term}
use Rattle.ftl_grammar.specs.declared.syntax.expression.SignedTerm.{SignedTerm}
use Rattle.ftl_grammar.specs.declared.syntax.expression.Sum.{Sum}
use Rattle.ftl_grammar.specs.declared.syntax.expression.Test.{Test}
use Rattle.ftl_grammar.specs.declared.syntax.expression.Conj.{Conj}
use Rattle.ftl_grammar.specs.declared.syntax.expression.Cond.{Cond}
use Rattle.ftl_grammar.specs.declared.syntax.expression.Expr.{Expr}
use Rattle.ftl_grammar.specs.declared.syntax.rules.Body.{Body}
use Rattle.ftl_grammar.specs.declared.syntax.rules.Class.{Class}
use Rattle.ftl_grammar.specs.declared.syntax.rules.Grammar.{Grammar}
use Rattle.ftl_grammar.specs.declared.syntax.rules.Interface.{Interface}
use Rattle.ftl_grammar.specs.declared.syntax.rules.Rule.{Rule}
use Rattle.ftl_grammar.specs.reading.Readable.{CanBeRead}
use Rattle.ftl_grammar.specs.syntax.GrammarSpelling.{SpellsChildBody, SpellsClass, SpellsDeclarations, SpellsGrammar, SpellsOwnBody, SpellsRule, SpellsRules}
use Rattle.ftl_grammar.specs.syntax.GrammarSpelling.{child_plain, child_rule, class_declared, class_of, first_then, fold as folds, grammar_of, interface_declared, more_rules, no_declarations, no_rules, own_plain, own_rule}
use Rattle.ftl_grammar.specs.syntax.Spelling.{SpellsRead, SpellsPlain, SpellsAtom, SpellsUnary, SpellsTerm, SpellsFactors, SpellsFactor, SpellsSum, SpellsSignedTerms, SpellsSignedTerm, SpellsTest, SpellsConj, SpellsAndTests, SpellsCond, SpellsOrConjs, SpellsExpr}
use Rattle.ftl_grammar.specs.syntax.Spelling.{own, this, prev, of_child, plain_number, plain_acc, plain_read, plain_group, plain_atom, least, greatest, last_or, unsigned, negative, term_of, no_factors, more_factors, times, over, sum_of, no_terms, more_terms, plus, minus, grouped, negated, compared, conj_of, no_tests, more_tests, cond_of, no_conjs, more_conjs, plain_sum, if_then_else}
use Rattle.ftl_meaning.specs.formulas.Formula as form
use Rattle.ftl_meaning.specs.formulas.Formula.{both, either}
use Rattle.ftl_meaning.specs.formulas.Expressions.{Number, Truth, after, formula_of, atom_formula, factor_step, read_name, test_question, cond_question, conj_question, signed_step, sum_formula, term_formula, unary_formula}
use Rattle.ftl_meaning.specs.declared.formulas.read_name.ReadName.TheVariants as names
use Rattle.ftl_meaning.proofs.formulas.Equations.{of-Number, of-Acc, of-Read, of-Group, of-Least, of-Greatest, of-LastOr, of-If, of-Sum, of-bracketed, of-Compare, of-cond, of-conj, of-sum, of-term, of-unary, times_at, over_at, minus_at, plus_at}
use Rattle.ftl_meaning.specs.faults.RuleForms.{expressions_of}
use Rattle.ftl_visit.specs.rule_code.Code.{AsksDivisors, HasDivisors, code_in, code_of}
use Rattle.ftl_visit.specs.declared.rule_code.instruction.Instruction.{Instruction}
use Rattle.ftl_visit.specs.declared.rule_code.instruction.Instruction.TheVariants as instruction
use Rattle.ftl_visit.specs.compiled.Compilable.{AsksLasts, HasCode, HasLasts, IsCompilable, IsCompilableClass, IsCompilableRule}
use Rattle.ftl_visit.specs.compiled.RuleCode.{is_accumulator}
use Rattle.ftl_visit.proofs.compiled.SmallNumbers.{AreSmallNumbers, back_small, front_small, said_small, small_numbers}
use Rattle.ftl_meaning.proofs.counts.TokenCounts.{few_tokens}

abbrev code : Number → List Instruction
code f = code_of is_accumulator f

abbrev asked : Truth → List Instruction
asked q = code_in is_accumulator q

-- a formula whose code has at most so many instructions
record Short (f : Number) (n : ℕ) : Type 0 where
  pub size : length (code f) ≤ n
  pub divisors : HasDivisors f
  pub lasts : HasLasts f

-- and a question
record ShortQuestion (q : Truth) (n : ℕ) : Type 0 where
  pub size : length (asked q) ≤ n
  pub divisors : AsksDivisors q
  pub lasts : AsksLasts q

-- as many as there are in front, and one
one_more : (xs : List Instruction) (i : Instruction) → length (xs ++ (i ∷ [])) ≡ length xs + 1
one_more xs i = length-append xs (i ∷ [])

two_more : (xs ys : List Instruction) (i : Instruction) → length (xs ++ ys ++ (i ∷ [])) ≡ length xs + length ys + 1
two_more xs ys i = omega (arith, one_more (xs ++ ys) i, length-append xs ys)

longer : (f : Number) (n m : ℕ) → n ≤ m → Short f n → Short f m
longer f n m h s = record { size = omega (arith, h, s.size); divisors = s.divisors; lasts = s.lasts }

longer_question : (q : Truth) (n m : ℕ) → n ≤ m → ShortQuestion q n → ShortQuestion q m
longer_question q n m h s = record { size = omega (arith, h, s.size); divisors = s.divisors; lasts = s.lasts }

as_number : (f g : Number) (n : ℕ) → g ≡ f → Short f n → Short g n
as_number f g n e s = subst (λ h. Short h n) (sym e) s

as_question : (p q : Truth) (n : ℕ) → q ≡ p → ShortQuestion p n → ShortQuestion q n
as_question p q n e s = subst (λ h. ShortQuestion h n) (sym e) s

some_read : {a : Tokens} {x : Read} → SpellsRead a x → 1 ≤ length a
some_read own = omega arith
some_read this = omega arith
some_read prev = omega arith
some_read of_child = omega arith

mutual
  plain_short : {a : Tokens} {x : Atom} → SpellsPlain a x → AreSmallNumbers a → Short (atom_formula x) (length a)
  plain_short (plain_number {n = n}) h =
      as_number (form.literal n) _ _ (of-Number n) (record { size = omega arith; divisors = tt; lasts = tt })
  plain_short plain_acc h =
      as_number (form.read names.Acc) _ _ of-Acc (record { size = omega arith; divisors = tt; lasts = tt })
  plain_short (plain_read {x = x} s) h =
      as_number (form.read (read_name x)) _ _ (of-Read x)
      (record { size = omega (arith, some_read s); divisors = tt; lasts = tt })
  plain_short (plain_group {a = a} {x = x} s) h =
      as_number (formula_of x) _ _ (of-Group x)
      (longer (formula_of x) (length a) _ (omega (arith, length-append a (fixed kind.RightParen ∷ [])))
      (expr_short s (front_small a (fixed kind.RightParen ∷ []) h.1)))

  atom_short : {a : Tokens} {x : Atom} → SpellsAtom a x → AreSmallNumbers a → Short (atom_formula x) (length a)
  atom_short (plain_atom s) h = plain_short s h
  atom_short (least {a = a} {b = b} {x = x} {y = y} s t) h =
      let tail : Tokens = b ++ (fixed kind.RightParen ∷ []) in
      let f = expr_short s (front_small a (fixed kind.Comma ∷ tail) h.1.1) in
      let rest = back_small a (fixed kind.Comma ∷ tail) h.1.1 in
      let g = expr_short t (front_small b (fixed kind.RightParen ∷ []) rest.1) in
      as_number (form.least (formula_of x) (formula_of y)) _ _ (of-Least x y)
      (record {
        size =
            omega (
              arith,
              two_more (code (formula_of x)) (code (formula_of y)) instruction.Least,
              f.size,
              g.size,
              length-append a (fixed kind.Comma ∷ tail),
              length-append b (fixed kind.RightParen ∷ []),
            );
        divisors = (f.divisors, g.divisors);
        lasts = (f.lasts, g.lasts);
      })
  atom_short (greatest {a = a} {b = b} {x = x} {y = y} s t) h =
      let tail : Tokens = b ++ (fixed kind.RightParen ∷ []) in
      let f = expr_short s (front_small a (fixed kind.Comma ∷ tail) h.1.1) in
      let rest = back_small a (fixed kind.Comma ∷ tail) h.1.1 in
      let g = expr_short t (front_small b (fixed kind.RightParen ∷ []) rest.1) in
      as_number (form.greatest (formula_of x) (formula_of y)) _ _ (of-Greatest x y)
      (record {
        size =
            omega (
              arith,
              two_more (code (formula_of x)) (code (formula_of y)) instruction.Greatest,
              f.size,
              g.size,
              length-append a (fixed kind.Comma ∷ tail),
              length-append b (fixed kind.RightParen ∷ []),
            );
        divisors = (f.divisors, g.divisors);
        lasts = (f.lasts, g.lasts);
      })
  atom_short (last_or {c = c} {n = n} {a = a} {x = x} s) h =
      let f = plain_short s h.1.1.1.1.1 in
      as_number (form.read_or (names.Last c n) (atom_formula x)) _ _ (of-LastOr c n x)
      (record {
        size = omega (arith, one_more (code (atom_formula x)) instruction.Choose, f.size);
        divisors = f.divisors;
        lasts = (tt, f.lasts);
      })

  unary_short : {a : Tokens} {x : Unary} → SpellsUnary a x → AreSmallNumbers a → Short (unary_formula x) (length a)
  unary_short (unsigned {x = x} s) h = as_number (atom_formula x) _ _ (of-unary false x) (atom_short s h)
  unary_short (negative {x = x} s) h =
      let f = atom_short s h.1 in
      as_number (form.negated (atom_formula x)) _ _ (of-unary true x)
      (record {
        size = omega (arith, one_more (code (atom_formula x)) instruction.Negate, f.size);
        divisors = f.divisors;
        lasts = f.lasts;
      })

  term_short : {a : Tokens} {x : Term} → SpellsTerm a x → AreSmallNumbers a → Short (term_formula x) (length a)
  term_short (term_of {a = a} {b = b} {x = x} {xs = xs} s t) h =
      as_number (after (unary_formula x) (map factor_step xs)) _ _ (of-term x xs)
      (longer _ (length a + length b) _ (omega (arith, length-append a b))
      (factors_short t (back_small a b h) (unary_formula x) (length a) (unary_short s (front_small a b h))))

  factors_short : {a : Tokens} {xs : List Factor} → SpellsFactors a xs → AreSmallNumbers a → (f : Number) (n : ℕ)
      → Short f n → Short (after f (map factor_step xs)) (n + length a)
  factors_short no_factors h f n k = longer f n _ (omega arith) k
  factors_short (more_factors {a = a} {b = b} {x = x} {xs = xs} s t) h f n k =
      longer _ (n + length a + length b) _ (omega (arith, length-append a b))
      (factors_short t (back_small a b h) (factor_step x f) (n + length a)
      (factor_short s (front_small a b h) f n k))

  factor_short : {a : Tokens} {x : Factor} → SpellsFactor a x → AreSmallNumbers a → (f : Number) (n : ℕ)
      → Short f n → Short (factor_step x f) (n + length a)
  factor_short (times {x = x} s) h f n k =
      let g = unary_short s h.1 in
      as_number (form.product f (unary_formula x)) _ _ (times_at x f)
      (record {
        size = omega (arith, two_more (code f) (code (unary_formula x)) instruction.Multiply, k.size, g.size);
        divisors = (k.divisors, g.divisors);
        lasts = (k.lasts, g.lasts);
      })
  factor_short (over {n = m} some) h f n k =
      as_number (form.quotient f m) _ _ (over_at m f)
      (record {
        size = omega (arith, one_more (code f) (instruction.Divide m), k.size);
        divisors = (k.divisors, (omega (arith, some), h.1.0));
        lasts = k.lasts;
      })

  sum_short : {a : Tokens} {x : Sum} → SpellsSum a x → AreSmallNumbers a → Short (sum_formula x) (length a)
  sum_short (sum_of {a = a} {b = b} {x = x} {xs = xs} s t) h =
      as_number (after (term_formula x) (map signed_step xs)) _ _ (of-sum x xs)
      (longer _ (length a + length b) _ (omega (arith, length-append a b))
      (terms_short t (back_small a b h) (term_formula x) (length a) (term_short s (front_small a b h))))

  terms_short : {a : Tokens} {xs : List SignedTerm} → SpellsSignedTerms a xs → AreSmallNumbers a → (f : Number) (n : ℕ)
      → Short f n → Short (after f (map signed_step xs)) (n + length a)
  terms_short no_terms h f n k = longer f n _ (omega arith) k
  terms_short (more_terms {a = a} {b = b} {x = x} {xs = xs} s t) h f n k =
      longer _ (n + length a + length b) _ (omega (arith, length-append a b))
      (terms_short t (back_small a b h) (signed_step x f) (n + length a)
      (signed_short s (front_small a b h) f n k))

  signed_short : {a : Tokens} {x : SignedTerm} → SpellsSignedTerm a x → AreSmallNumbers a → (f : Number) (n : ℕ)
      → Short f n → Short (signed_step x f) (n + length a)
  signed_short (plus {x = x} s) h f n k =
      let g = term_short s h.1 in
      as_number (form.sum f (term_formula x)) _ _ (plus_at x f)
      (record {
        size = omega (arith, two_more (code f) (code (term_formula x)) instruction.Add, k.size, g.size);
        divisors = (k.divisors, g.divisors);
        lasts = (k.lasts, g.lasts);
      })
  signed_short (minus {x = x} s) h f n k =
      let g = term_short s h.1 in
      as_number (form.difference f (term_formula x)) _ _ (minus_at x f)
      (record {
        size = omega (arith, two_more (code f) (code (term_formula x)) instruction.Subtract, k.size, g.size);
        divisors = (k.divisors, g.divisors);
        lasts = (k.lasts, g.lasts);
      })

  test_short : {a : Tokens} {x : Test} → SpellsTest a x → AreSmallNumbers a → ShortQuestion (test_question x) (length a)
  test_short (grouped {a = a} {x = x} s) h =
      as_question (cond_question x) _ _ (of-bracketed false x)
      (longer_question _ (length a) _ (omega (arith, length-append a (fixed kind.RightBracket ∷ [])))
      (cond_short s (front_small a (fixed kind.RightBracket ∷ []) h.1)))
  test_short (negated {a = a} {x = x} s) h =
      let q = cond_short s (front_small a (fixed kind.RightBracket ∷ []) h.1.1) in
      as_question (form.denied (cond_question x)) _ _ (of-bracketed true x)
      (record {
        size =
            omega (
              arith,
              one_more (asked (cond_question x)) instruction.Not,
              q.size,
              length-append a (fixed kind.RightBracket ∷ []),
            );
        divisors = q.divisors;
        lasts = q.lasts;
      })
  test_short (compared {a = a} {b = b} {x = x} {y = y} {k = k} {c = c} s m t) h =
      let f = sum_short s (front_small a (fixed k ∷ b) h) in
      let rest = back_small a (fixed k ∷ b) h in
      let g = sum_short t rest.1 in
      as_question (form.compared c (sum_formula x) (sum_formula y)) _ _ (of-Compare c x y)
      (record {
        size =
            omega (
              arith,
              two_more (code (sum_formula x)) (code (sum_formula y)) (instruction.Compare c),
              f.size,
              g.size,
              length-append a (fixed k ∷ b),
            );
        divisors = (f.divisors, g.divisors);
        lasts = (f.lasts, g.lasts);
      })

  conj_short : {a : Tokens} {x : Conj} → SpellsConj a x → AreSmallNumbers a → ShortQuestion (conj_question x) (length a)
  conj_short (conj_of {a = a} {b = b} {x = x} {xs = xs} s t) h =
      as_question (fold both (test_question x) (map test_question xs)) _ _ (of-conj (x ∷ xs))
      (longer_question _ (length a + length b) _ (omega (arith, length-append a b))
      (tests_short t (back_small a b h) (test_question x) (length a) (test_short s (front_small a b h))))

  tests_short : {a : Tokens} {xs : List Test} → SpellsAndTests a xs → AreSmallNumbers a → (q : Truth) (n : ℕ)
      → ShortQuestion q n → ShortQuestion (fold both q (map test_question xs)) (n + length a)
  tests_short no_tests h q n k = longer_question q n _ (omega arith) k
  tests_short (more_tests {a = a} {b = b} {x = x} {xs = xs} s t) h q n k =
      let p = test_short s (front_small a b h.1) in
      longer_question _ (n + length a + 1 + length b) _ (omega (arith, length-append a b))
      (tests_short t (back_small a b h.1) (both q (test_question x)) (n + length a + 1)
      (record {
        size = omega (arith, two_more (asked q) (asked (test_question x)) instruction.Both, k.size, p.size);
        divisors = (k.divisors, p.divisors);
        lasts = (k.lasts, p.lasts);
      }))

  cond_short : {a : Tokens} {x : Cond} → SpellsCond a x → AreSmallNumbers a → ShortQuestion (cond_question x) (length a)
  cond_short (cond_of {a = a} {b = b} {x = x} {xs = xs} s t) h =
      as_question (fold either (conj_question x) (map conj_question xs)) _ _ (of-cond (x ∷ xs))
      (longer_question _ (length a + length b) _ (omega (arith, length-append a b))
      (conjs_short t (back_small a b h) (conj_question x) (length a) (conj_short s (front_small a b h))))

  conjs_short : {a : Tokens} {xs : List Conj} → SpellsOrConjs a xs → AreSmallNumbers a → (q : Truth) (n : ℕ)
      → ShortQuestion q n → ShortQuestion (fold either q (map conj_question xs)) (n + length a)
  conjs_short no_conjs h q n k = longer_question q n _ (omega arith) k
  conjs_short (more_conjs {a = a} {b = b} {x = x} {xs = xs} s t) h q n k =
      let p = conj_short s (front_small a b h.1) in
      longer_question _ (n + length a + 1 + length b) _ (omega (arith, length-append a b))
      (conjs_short t (back_small a b h.1) (either q (conj_question x)) (n + length a + 1)
      (record {
        size = omega (arith, two_more (asked q) (asked (conj_question x)) instruction.Either, k.size, p.size);
        divisors = (k.divisors, p.divisors);
        lasts = (k.lasts, p.lasts);
      }))

  expr_short : {a : Tokens} {x : Expr} → SpellsExpr a x → AreSmallNumbers a → Short (formula_of x) (length a)
  expr_short (plain_sum {x = x} s) h = as_number (sum_formula x) _ _ (of-Sum x) (sum_short s h)
  expr_short (if_then_else {a = a} {b = b} {c = c} {x = x} {y = y} {z = z} s t u) h =
      let last : Tokens = fixed kind.Else ∷ c in
      let later : Tokens = fixed kind.Then ∷ (b ++ last) in
      let q = cond_short s (front_small a later h.1) in
      let rest = back_small a later h.1 in
      let f = sum_short t (front_small b last rest.1) in
      let end = back_small b last rest.1 in
      let g = sum_short u end.1 in
      as_number (form.choice (cond_question x) (sum_formula y) (sum_formula z)) _ _ (of-If x y z)
      (record {
        size =
            omega (
              arith,
              two_more (asked (cond_question x) ++ code (sum_formula y)) (code (sum_formula z)) instruction.Choose,
              length-append (asked (cond_question x)) (code (sum_formula y)),
              q.size,
              f.size,
              g.size,
              length-append a later,
              length-append b last,
            );
        divisors = (q.divisors, f.divisors, g.divisors);
        lasts = (q.lasts, f.lasts, g.lasts);
      })

-- ---- rules

compilable : {a : Tokens} {x : Expr} → SpellsExpr a x → AreSmallNumbers a → length a < 4294967296 → IsCompilable x
compilable s h k =
    let f = expr_short s h in
    record { divisors = f.divisors; lasts = f.lasts; short = omega (arith, f.size, k) }

abbrev AreCompilable : Body → Type 0
AreCompilable x = AllByRecursion IsCompilable (expressions_of x)

own_body : {a : Tokens} {x : Body} → SpellsOwnBody a x → AreSmallNumbers a → length a < 4294967296 → AreCompilable x
own_body (own_plain s) h k = (compilable s h k, tt)
own_body (folds {a = a} {b = b} s t) h k =
    let all = length-append a (fixed kind.With ∷ b) in
    let rest = back_small a (fixed kind.With ∷ b) h.1.1.1 in (
      compilable s (front_small a (fixed kind.With ∷ b) h.1.1.1) (omega (arith, all, k)),
      (compilable t rest.1 (omega (arith, all, k)), tt),
    )

child_body : {a : Tokens} {x : Body} → SpellsChildBody a x → AreSmallNumbers a → length a < 4294967296 → AreCompilable x
child_body (child_plain s) h k = (compilable s h k, tt)
child_body (first_then {a = a} {b = b} s t) h k =
    let all = length-append a (fixed kind.Then ∷ b) in
    let rest = back_small a (fixed kind.Then ∷ b) h.1 in (
      compilable s (front_small a (fixed kind.Then ∷ b) h.1) (omega (arith, all, k)),
      (compilable t rest.1 (omega (arith, all, k)), tt),
    )

in_rule : {a : Tokens} {x : Rule} → SpellsRule a x → AreSmallNumbers a → length a < 4294967296 → IsCompilableRule x
in_rule (own_rule {a = a} {x = x} s) h k =
    All-from_recursion IsCompilable (expressions_of x)
    (own_body s (front_small a (fixed kind.Semicolon ∷ []) h.1.1.1.1)
    (omega (arith, k, length-append a (fixed kind.Semicolon ∷ []))))
in_rule (child_rule {a = a} {x = x} s) h k =
    All-from_recursion IsCompilable (expressions_of x)
    (child_body s (front_small a (fixed kind.Semicolon ∷ []) h.1.1.1.1)
    (omega (arith, k, length-append a (fixed kind.Semicolon ∷ []))))

in_rules : {a : Tokens} {xs : List Rule} → SpellsRules a xs → AreSmallNumbers a → length a < 4294967296
    → AllByRecursion IsCompilableRule xs
in_rules no_rules h k = tt
in_rules (more_rules {a = a} {b = b} s t) h k = (
  in_rule s (front_small a b h) (omega (arith, k, length-append a b)),
  in_rules t (back_small a b h) (omega (arith, k, length-append a b)),
)

in_class : {a : Tokens} {x : Class} → SpellsClass a x → AreSmallNumbers a → length a < 4294967296 → IsCompilableClass x
in_class (class_of {a = a} {b = b} {c = c} {zs = zs} s t u) h k =
    let end : Tokens = fixed kind.RightBrace ∷ [] in
    let rest = back_small a (b ++ (c ++ end)) h.1.1.1.1.1 in
    let rules = back_small b (c ++ end) rest in
    All-from_recursion IsCompilableRule zs
    (in_rules u (front_small c end rules)
    (omega (arith, k, length-append a (b ++ (c ++ end)), length-append b (c ++ end), length-append c end)))

in_classes : {a : Tokens} {xs : List Interface} {ys : List Class} → SpellsDeclarations a xs ys → AreSmallNumbers a
    → length a < 4294967296 → AllByRecursion IsCompilableClass ys
in_classes no_declarations h k = tt
in_classes (interface_declared {a = a} {b = b} s t) h k =
    in_classes t (back_small a b h) (omega (arith, k, length-append a b))
in_classes (class_declared {a = a} {b = b} s t) h k = (
  in_class s (front_small a b h) (omega (arith, k, length-append a b)),
  in_classes t (back_small a b h) (omega (arith, k, length-append a b)),
)

in_grammar : (tokens : Tokens) (g : Grammar) → SpellsGrammar tokens g → AreSmallNumbers tokens
    → length tokens < 4294967296 → HasCode g
in_grammar tokens g (grammar_of {ys = ys} s) h k =
    All-from_recursion IsCompilableClass ys (in_classes s h.1.1.1 (omega (arith, k)))

-- a grammar that a text spells has code
pub spelled_has_code : (scanned : Tokenized) (g : Grammar)
    → AreTokensOf 2147483647 scanned.text 0 scanned.tokens → length scanned.text ≤ 67108864
    → SpellsGrammar (symbols_of scanned) g → HasCode g
spelled_has_code scanned g tokens short s =
    in_grammar (symbols_of scanned) g s (small_numbers scanned tokens)
    (omega (arith, short, few_tokens 2147483647 scanned tokens))

-- and so has a grammar that can be read
pub readable_has_code : (g : Grammar) → CanBeRead g → HasCode g
readable_has_code g is = in_grammar is.tokens g is.spells (said_small is.tokens is.said) is.few
