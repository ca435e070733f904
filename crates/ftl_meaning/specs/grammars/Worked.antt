-- Worked expressions, rules and grammars, as they are written, with what they mean typed out by hand.
use Rattle.std.specs.Prelude.{ℕ, zero, suc, ◌+◌, ◌*◌, true, false, List, [], ◌∷◌, pos, negsuc, codes}
use Rattle.ftl_base.specs.declared.comparison.Cmp.TheVariants as cmp
use Rattle.ftl_model.specs.layout.AttributeGrammar.{Occurrence, kid, own}
use Rattle.ftl_model.specs.layout.Tree.{Forest, none, tree}
use Rattle.ftl_model.specs.layout.Values.{Value, number}
use Rattle.ftl_model.specs.layout.Worked.{numbers}
use Rattle.ftl_grammar.specs.syntax.Trees as trees
use Rattle.ftl_grammar.specs.syntax.Worked.{alone, lone, own_term}
use Rattle.ftl_grammar.specs.declared.syntax.expression.Atom.TheVariants as atoms
use Rattle.ftl_grammar.specs.declared.syntax.expression.Cond.{Cond}
use Rattle.ftl_grammar.specs.declared.syntax.expression.Expr.{Expr}
use Rattle.ftl_grammar.specs.declared.syntax.expression.Expr.TheVariants as exprs
use Rattle.ftl_grammar.specs.declared.syntax.expression.Factor.TheVariants as factors
use Rattle.ftl_grammar.specs.declared.syntax.expression.Sum.{Sum}
use Rattle.ftl_grammar.specs.declared.syntax.expression.Test.{Test}
use Rattle.ftl_grammar.specs.declared.syntax.expression.Test.TheVariants as tests
use Rattle.ftl_grammar.specs.declared.syntax.rules.AttrKind.TheVariants as kinds
use Rattle.ftl_grammar.specs.declared.syntax.rules.Grammar.{Grammar}
use Rattle.ftl_meaning.specs.faults.Allowed.{for_self}
use Rattle.ftl_meaning.specs.faults.Worked as written
use Rattle.ftl_meaning.specs.grammars.Meaning.{expression_value, sight}

-- ---- expressions

-- a number as a sum
abbrev pub num : ℕ → Sum
num n = alone (lone (atoms.Number n))

-- `2147483647 + 1`
abbrev pub too_great : Sum
too_great = trees.sum (lone (atoms.Number 2147483647)) (trees.signed false (lone (atoms.Number 1)) ∷ [])

-- a condition of one test
abbrev pub one_test : Test → Cond
one_test t = trees.cond (trees.conj (t ∷ []) ∷ [])

-- `if 1 < 2 then 5 else 2147483647 + 1`
abbrev pub not_taken : Expr
not_taken = exprs.If (one_test (tests.Compare cmp.Less (num 1) (num 2))) (num 5) too_great

-- `if 2147483647 + 1 > 2 then 5 else 6`
abbrev pub unknown : Expr
unknown = exprs.If (one_test (tests.Compare cmp.More too_great (num 2))) (num 5) (num 6)

-- `if self.p > 2 then 5 else 6`
abbrev pub taken : Expr
taken = exprs.If (one_test (tests.Compare cmp.More (alone (own_term (codes "p"))) (num 2))) (num 5) (num 6)

-- `(0 - 7) / 2`
abbrev pub halved : Expr
halved =
    exprs.Sum (alone (trees.term
    (trees.unary false (atoms.Group (exprs.Sum
    (trees.sum (lone (atoms.Number 0)) (trees.signed true (lone (atoms.Number 7)) ∷ [])))))
    (factors.Over 2 ∷ [])))

-- `min(self.p, -3) * 10 + max(self.p, 4)`
abbrev pub least_and_greatest : Expr
least_and_greatest =
    exprs.Sum (trees.sum
    (trees.term
    (trees.unary false (atoms.Least (exprs.Sum (alone (own_term (codes "p"))))
    (exprs.Sum (alone (trees.term (trees.unary true (atoms.Number 3)) [])))))
    (factors.Times (trees.unary false (atoms.Number 10)) ∷ []))
    (trees.signed false (lone (atoms.Greatest (exprs.Sum (alone (own_term (codes "p")))) (exprs.Sum (num 4)))) ∷ []))

-- `if ![self.p >= 5 && 1 == 1] || 2 != 2 then 1 else 0`
abbrev pub denied : Expr
denied =
    exprs.If
    (trees.cond
    (trees.conj
    (tests.Group true (trees.cond (trees.conj
    (tests.Compare cmp.MoreEq (alone (own_term (codes "p"))) (num 5)
    ∷ tests.Compare cmp.Equal (num 1) (num 1) ∷ []) ∷ []))
    ∷ [])
    ∷ trees.conj (tests.Compare cmp.Unequal (num 2) (num 2) ∷ []) ∷ []))
    (num 1) (num 0)

-- ---- rules of a class `C : R { input p; local l; s : M; c : [K]; d : [M]; }`

-- `interface R` has a as 0, `K` x, z, w, i as 1 to 4, `M` y, v as 5, 6, and `C` p, l as 7, 8; s, c, d are 0, 1, 2
abbrev pub two : Grammar
two =
    written.two
    (written.rule_a ∷ written.rule_l ∷ written.rule_s ∷ written.rule_x ∷ written.rule_z ∷ written.rule_d ∷ [])

-- a kid's attribute has the digits of its child, its number and the attribute; a node's own has 1000 more than its
-- number
abbrev pub table : Occurrence → Value
table (own a) = number (pos (1000 + a))
table (kid c k a) = number (pos (100 * c + 10 * k + a))

-- so many kids in c, and in d
abbrev pub kids_of : (in_c in_d : ℕ) → ℕ → ℕ
kids_of in_c in_d zero = 1
kids_of in_c in_d (suc zero) = in_c
kids_of in_c in_d (suc (suc c)) = in_d

-- the value of an expression of a rule for the node itself, where p is 1007
abbrev pub value_in_width : (greatest : ℕ) → Expr → Value
value_in_width greatest e = expression_value greatest two 0 for_self e (sight (kids_of 2 3) 0 table (number (pos 0)))

-- ---- whole grammars, with trees

-- `root R; interface R { syn a, b; show a, b; } class C : R { self.a := if 1 < 2 then 5 else 2147483647 + 1; self.b
-- := (0 - 7) / 2; }`
abbrev pub branches : Grammar
branches =
    trees.grammar (codes "R")
    (trees.interface (codes "R") (trees.attr_decl kinds.Syn (codes "a") ∷ trees.attr_decl kinds.Syn (codes "b") ∷ [])
    (codes "a" ∷ codes "b" ∷ []) ∷ [])
    (trees.class (codes "C") (codes "R") [] []
    (written.self_is (codes "a") not_taken ∷ written.self_is (codes "b") halved ∷ []) ∷ [])

-- `C { }`
abbrev pub lone_node : Forest
lone_node = tree 0 0 [] none none

-- a and b
abbrev pub branches_values : List Value
branches_values = number (pos 5) ∷ number (negsuc 3) ∷ []

-- `C { kids = [ L { } L { } L { } ] }`, of the chain of kids
abbrev pub three_kids : Forest
three_kids = tree 0 0 [] (tree 1 0 [] none (tree 1 0 [] none (tree 1 0 [] none none))) none

-- a and b of each kid: each a is the b before it, and each b the sum of both before it
abbrev pub three_kids_values : List Value
three_kids_values = numbers (1 ∷ 2 ∷ 2 ∷ 3 ∷ 3 ∷ 5 ∷ [])

-- `root R; interface R { syn a, b, c; show c, a; } class C : R { self.a := 1; self.b := 2; self.c := 3; }`
abbrev pub shown_backwards : Grammar
shown_backwards =
    trees.grammar (codes "R")
    (trees.interface (codes "R")
    (trees.attr_decl kinds.Syn (codes "a") ∷ trees.attr_decl kinds.Syn (codes "b")
    ∷ trees.attr_decl kinds.Syn (codes "c") ∷ [])
    (codes "c" ∷ codes "a" ∷ []) ∷ [])
    (trees.class (codes "C") (codes "R") [] []
    (written.self_is (codes "a") (written.num 1) ∷ written.self_is (codes "b") (written.num 2)
    ∷ written.self_is (codes "c") (written.num 3) ∷ []) ∷ [])
