-- The tokens that spell an expression are its tokens, and level.
use Rattle.std.proofs.Common.{◌≡◌, ℕ, true, false, List, [], ◌∷◌, ◌++◌, map, refl, sym, ap, ap₂, ◌∙◌, subst, append_assoc}
use Rattle.ftl_base.specs.declared.comparison.Cmp.{Cmp}
use Rattle.ftl_tokens.specs.declared.scanner.kind.Kind.{Kind}
use Rattle.ftl_tokens.specs.declared.scanner.kind.Kind.TheVariants as kind
use Rattle.ftl_tokens.specs.scanner.Tokenized.{Symbol, name, number, fixed}
use Rattle.ftl_tokens.specs.reading.Reader.{Tokens, same_kind}
use Rattle.ftl_grammar.specs.declared.syntax.expression.Read.{Read}
use Rattle.ftl_grammar.specs.declared.syntax.expression.Atom.{Atom}
use Rattle.ftl_grammar.specs.declared.syntax.expression.Unary.{Unary}
use Rattle.ftl_grammar.specs.declared.syntax.expression.Factor.{Factor}
use Rattle.ftl_grammar.specs.declared.syntax.expression.Term.{Term}
use Rattle.ftl_grammar.specs.declared.syntax.expression.SignedTerm.{SignedTerm}
use Rattle.ftl_grammar.specs.declared.syntax.expression.Sum.{Sum}
use Rattle.ftl_grammar.specs.declared.syntax.expression.Test.{Test}
use Rattle.ftl_grammar.specs.declared.syntax.expression.Conj.{Conj}
use Rattle.ftl_grammar.specs.declared.syntax.expression.Cond.{Cond}
use Rattle.ftl_grammar.specs.declared.syntax.expression.Expr.{Expr}
use Rattle.ftl_grammar.specs.syntax.Spelling as spelling
use Rattle.ftl_grammar.specs.syntax.Spelling.{SpellsRead, SpellsCmp, SpellsPlain, SpellsAtom, SpellsUnary, SpellsTerm}
use Rattle.ftl_grammar.specs.syntax.Spelling.{SpellsFactors, SpellsFactor, SpellsSum, SpellsSignedTerms, SpellsSignedTerm}
use Rattle.ftl_grammar.specs.syntax.Spelling.{SpellsTest, SpellsConj, SpellsAndTests, SpellsCond, SpellsOrConjs, SpellsExpr}
use Rattle.ftl_grammar.specs.printing.ExpressionTokens.{joined, behind_each, comparison_mark, read_tokens, expr_tokens}
use Rattle.ftl_grammar.specs.printing.ExpressionTokens.{atom_tokens, factor_tokens, test_tokens, cond_tokens, conj_tokens}
use Rattle.ftl_grammar.specs.printing.ExpressionTokens.{signed_tokens, sum_tokens, term_tokens, unary_tokens}
use Rattle.ftl_grammar.proofs.printing.Equations.{of-Number, of-Acc, of-Read, of-Group, of-Least, of-Greatest, of-LastOr}
use Rattle.ftl_grammar.proofs.printing.Equations.{of-If, of-Sum, of-Times, of-Over, of-bracketed, of-Compare, of-cond, of-conj}
use Rattle.ftl_grammar.proofs.printing.Equations.{of-signed, of-sum, of-term, of-unary}
use Rattle.ftl_grammar.proofs.printing.Levels.{IsPlain, IsLevel, IsPair, level-nil, level-append, level-plain, level-pair}
use Rattle.ftl_grammar.proofs.printing.Levels.{round, square}

-- the same tokens, which are level
pub record Exactly (a ts : Tokens) : Type 0 where
  pub same : a ≡ ts
  pub level : IsLevel a

pub none : Exactly [] []
none = record { same = refl; level = level-nil }

pub plain : {t : Symbol} {a x : Tokens} → IsPlain t → Exactly a x → Exactly (t ∷ a) (t ∷ x)
plain {t} p e = record { same = ap (λ l. t ∷ l) e.same; level = level-plain p e.level }

pub join : {a b x y : Tokens} → Exactly a x → Exactly b y → Exactly (a ++ b) (x ++ y)
join e f = record { same = ap₂ (λ l m. l ++ m) e.same f.same; level = level-append e.level f.level }

pub pair : {o c : Symbol} {a x : Tokens} → IsPair o c → Exactly a x → Exactly (o ∷ (a ++ (c ∷ []))) (o ∷ (x ++ (c ∷ [])))
pair {o} {c} p e = record { same = ap (λ l. o ∷ (l ++ (c ∷ []))) e.same; level = level-pair p e.level }

pub are : {a x y : Tokens} → Exactly a x → y ≡ x → Exactly a y
are e same = record { same = e.same ∙ sym same; level = e.level }

pub is_name : {n : List ℕ} → IsPlain (name n)
unfolding same_kind
is_name = record { opens = refl; closes = refl }

is_number : {n : ℕ} → IsPlain (number n)
unfolding same_kind
is_number = record { opens = refl; closes = refl }

-- the reserved words and marks that are no brackets
abbrev pub IsNoBracket : Kind → Type 0
IsNoBracket kind.LeftParen = ⊥
IsNoBracket kind.RightParen = ⊥
IsNoBracket kind.LeftBracket = ⊥
IsNoBracket kind.RightBracket = ⊥
IsNoBracket _ = Unit {0}

pub no_bracket : (k : Kind) → IsNoBracket k → IsPlain (fixed k)
unfolding same_kind
no_bracket kind.LeftParen is = absurd is
no_bracket kind.RightParen is = absurd is
no_bracket kind.LeftBracket is = absurd is
no_bracket kind.RightBracket is = absurd is
no_bracket _ is = record { opens = refl; closes = refl }

-- two expressions in round brackets
two : {a b x y : Tokens} → Exactly a x → Exactly b y
    → Exactly (fixed kind.LeftParen ∷ (a ++ (fixed kind.Comma ∷ (b ++ (fixed kind.RightParen ∷ [])))))
    (fixed kind.LeftParen ∷ (x ++ (fixed kind.Comma ∷ (y ++ (fixed kind.RightParen ∷ [])))))
two {a} {b} e f =
    let inside = level-pair round (level-append e.level (level-plain (no_bracket kind.Comma tt) f.level)) in
    record {
      same = ap₂ (λ l m. fixed kind.LeftParen ∷ (l ++ (fixed kind.Comma ∷ (m ++ (fixed kind.RightParen ∷ []))))) e.same f.same;
      level = subst (λ l. IsLevel (fixed kind.LeftParen ∷ l)) (append_assoc a (fixed kind.Comma ∷ b) (fixed kind.RightParen ∷ [])) inside;
    }

exact_read : {a : Tokens} {x : Read} → SpellsRead a x → Exactly a (read_tokens x)
exact_read spelling.own = plain (no_bracket kind.SelfWord tt) (plain (no_bracket kind.Dot tt) (plain is_name none))
exact_read spelling.this = plain (no_bracket kind.This tt) (plain (no_bracket kind.Dot tt) (plain is_name none))
exact_read spelling.prev = plain (no_bracket kind.Prev tt) (plain (no_bracket kind.Dot tt) (plain is_name none))
exact_read spelling.of_child = plain is_name (plain (no_bracket kind.Dot tt) (plain is_name none))

-- the mark of a comparison is no bracket
record Mark (k : Kind) (c : Cmp) : Type 0 where
  same : k ≡ comparison_mark c
  plain : IsPlain (fixed k)

exact_cmp : {k : Kind} {c : Cmp} → SpellsCmp k c → Mark k c
exact_cmp spelling.less = record { same = refl; plain = no_bracket kind.Less tt }
exact_cmp spelling.less_eq = record { same = refl; plain = no_bracket kind.LessEq tt }
exact_cmp spelling.more = record { same = refl; plain = no_bracket kind.More tt }
exact_cmp spelling.more_eq = record { same = refl; plain = no_bracket kind.MoreEq tt }
exact_cmp spelling.equal = record { same = refl; plain = no_bracket kind.EqualEqual tt }
exact_cmp spelling.unequal = record { same = refl; plain = no_bracket kind.Unequal tt }

mark_between : {a b x y : Tokens} {k : Kind} {c : Cmp} → Exactly a x → Mark k c → Exactly b y
    → Exactly (a ++ (fixed k ∷ b)) (x ++ (fixed (comparison_mark c) ∷ y))
mark_between {b = b} e m f =
    join e (record {
      same = ap₂ (λ j l. fixed j ∷ l) m.same f.same;
      level = level-plain m.plain f.level;
    })

mutual
  exact_plain : {a : Tokens} {x : Atom} → SpellsPlain a x → Exactly a (atom_tokens x)
  exact_plain (spelling.plain_number {n}) = are (plain is_number none) (of-Number n)
  exact_plain spelling.plain_acc = are (plain (no_bracket kind.Acc tt) none) of-Acc
  exact_plain (spelling.plain_read {x = x} s) = are (exact_read s) (of-Read x)
  exact_plain (spelling.plain_group {x = x} s) = are (pair round (exact_expr s)) (of-Group x)

  exact_atom : {a : Tokens} {x : Atom} → SpellsAtom a x → Exactly a (atom_tokens x)
  exact_atom (spelling.plain_atom s) = exact_plain s
  exact_atom (spelling.least {x = x} {y = y} s t) =
      are (plain (no_bracket kind.Min tt) (two (exact_expr s) (exact_expr t))) (of-Least x y)
  exact_atom (spelling.greatest {x = x} {y = y} s t) =
      are (plain (no_bracket kind.Max tt) (two (exact_expr s) (exact_expr t))) (of-Greatest x y)
  exact_atom (spelling.last_or {c = c} {n = n} {x = x} s) =
      are (plain (no_bracket kind.Last tt) (plain is_name (plain (no_bracket kind.Dot tt) (plain is_name (plain (no_bracket kind.Or tt) (exact_plain s))))))
      (of-LastOr c n x)

  exact_unary : {a : Tokens} {x : Unary} → SpellsUnary a x → Exactly a (unary_tokens x)
  exact_unary (spelling.unsigned {x = x} s) = are (exact_atom s) (of-unary false x)
  exact_unary (spelling.negative {x = x} s) = are (plain (no_bracket kind.Minus tt) (exact_atom s)) (of-unary true x)

  exact_term : {a : Tokens} {x : Term} → SpellsTerm a x → Exactly a (term_tokens x)
  exact_term (spelling.term_of {x = x} {xs = xs} s t) = are (join (exact_unary s) (exact_factors t)) (of-term x xs)

  exact_factors : {a : Tokens} {xs : List Factor} → SpellsFactors a xs → Exactly a (joined (map factor_tokens xs))
  exact_factors spelling.no_factors = none
  exact_factors (spelling.more_factors s t) = join (exact_factor s) (exact_factors t)

  exact_factor : {a : Tokens} {x : Factor} → SpellsFactor a x → Exactly a (factor_tokens x)
  exact_factor (spelling.times {x = x} s) = are (plain (no_bracket kind.Star tt) (exact_unary s)) (of-Times x)
  exact_factor (spelling.over {n = n} some) = are (plain (no_bracket kind.Slash tt) (plain is_number none)) (of-Over n)

  exact_sum : {a : Tokens} {x : Sum} → SpellsSum a x → Exactly a (sum_tokens x)
  exact_sum (spelling.sum_of {x = x} {xs = xs} s t) = are (join (exact_term s) (exact_signed_terms t)) (of-sum x xs)

  exact_signed_terms : {a : Tokens} {xs : List SignedTerm} → SpellsSignedTerms a xs → Exactly a (joined (map signed_tokens xs))
  exact_signed_terms spelling.no_terms = none
  exact_signed_terms (spelling.more_terms s t) = join (exact_signed_term s) (exact_signed_terms t)

  exact_signed_term : {a : Tokens} {x : SignedTerm} → SpellsSignedTerm a x → Exactly a (signed_tokens x)
  exact_signed_term (spelling.plus {x = x} s) = are (plain (no_bracket kind.Plus tt) (exact_term s)) (of-signed false x)
  exact_signed_term (spelling.minus {x = x} s) = are (plain (no_bracket kind.Minus tt) (exact_term s)) (of-signed true x)

  exact_test : {a : Tokens} {x : Test} → SpellsTest a x → Exactly a (test_tokens x)
  exact_test (spelling.grouped {x = x} s) = are (pair square (exact_cond s)) (of-bracketed false x)
  exact_test (spelling.negated {x = x} s) =
      are (plain (no_bracket kind.Bang tt) (pair square (exact_cond s))) (of-bracketed true x)
  exact_test (spelling.compared {x = x} {y = y} {c = c} s m t) =
      are (mark_between (exact_sum s) (exact_cmp m) (exact_sum t)) (of-Compare c x y)

  exact_conj : {a : Tokens} {x : Conj} → SpellsConj a x → Exactly a (conj_tokens x)
  exact_conj (spelling.conj_of {x = x} {xs = xs} s t) = are (join (exact_test s) (exact_and_tests t)) (of-conj (x ∷ xs))

  exact_and_tests : {a : Tokens} {xs : List Test} → SpellsAndTests a xs → Exactly a (behind_each kind.AndAnd (map test_tokens xs))
  exact_and_tests spelling.no_tests = none
  exact_and_tests (spelling.more_tests s t) = plain (no_bracket kind.AndAnd tt) (join (exact_test s) (exact_and_tests t))

  exact_cond : {a : Tokens} {x : Cond} → SpellsCond a x → Exactly a (cond_tokens x)
  exact_cond (spelling.cond_of {x = x} {xs = xs} s t) = are (join (exact_conj s) (exact_or_conjs t)) (of-cond (x ∷ xs))

  exact_or_conjs : {a : Tokens} {xs : List Conj} → SpellsOrConjs a xs → Exactly a (behind_each kind.OrOr (map conj_tokens xs))
  exact_or_conjs spelling.no_conjs = none
  exact_or_conjs (spelling.more_conjs s t) = plain (no_bracket kind.OrOr tt) (join (exact_conj s) (exact_or_conjs t))

  -- an expression's tokens are no others
  pub exact_expr : {a : Tokens} {x : Expr} → SpellsExpr a x → Exactly a (expr_tokens x)
  exact_expr (spelling.plain_sum {x = x} s) = are (exact_sum s) (of-Sum x)
  exact_expr (spelling.if_then_else {x = x} {y = y} {z = z} s t u) =
      are
      (plain (no_bracket kind.If tt) (join (exact_cond s) (plain (no_bracket kind.Then tt) (join (exact_sum t) (plain (no_bracket kind.Else tt) (exact_sum u))))))
      (of-If x y z)
