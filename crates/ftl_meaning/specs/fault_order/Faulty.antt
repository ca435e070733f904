-- A grammar with two faults of one's choice, typed out by hand: of limits (1), names in one space (2), the root's name (3),
-- names that stand for nothing (4), names within an interface (5), the root's attributes (6), a rule (7), and a missing
-- rule (8).
use Rattle.std.specs.Prelude.{ℕ, ◌==◌, ◌||◌, ◌++◌, false, List, [], ◌∷◌, replicate, codes, if◌then◌else◌}
use Rattle.std.specs.Prelude.{filter, nat_lt}
use Rattle.ftl_grammar.specs.syntax.Trees as trees
use Rattle.ftl_grammar.specs.syntax.Trees.{NameText}
use Rattle.ftl_grammar.specs.declared.syntax.expression.Read.TheVariants as reads
use Rattle.ftl_grammar.specs.declared.syntax.rules.AttrKind.TheVariants as kinds
use Rattle.ftl_grammar.specs.declared.syntax.rules.Class.{Class}
use Rattle.ftl_grammar.specs.declared.syntax.rules.Grammar.{Grammar}
use Rattle.ftl_grammar.specs.declared.syntax.rules.Interface.{Interface}
use Rattle.ftl_grammar.specs.declared.syntax.rules.Rule.{Rule}
use Rattle.ftl_meaning.specs.faults.Worked.{num, of_self, reading, self_folds, self_is}
use Rattle.ftl_meaning.specs.declared.faults.fault.GrammarFault.{GrammarFault}
use Rattle.ftl_meaning.specs.declared.faults.fault.GrammarFault.TheVariants as fault
use Rattle.ftl_meaning.specs.declared.faults.fault.What.TheVariants as what

-- something more, where one of the two faults is this one
abbrev pub where_one : {X : Type 0} → (p q fault : ℕ) → X → List X
where_one p q n x = if (p == n) || (q == n) then x ∷ [] else []

-- `interface R { syn a, b; inh h; show z; }`, without `h` and `show` where they are no faults
abbrev pub root_interface : (p q : ℕ) → Interface
root_interface p q =
    trees.interface (codes "R")
    (trees.attr_decl kinds.Syn (codes "a") ∷ trees.attr_decl kinds.Syn (codes "b")
    ∷ where_one p q 6 (trees.attr_decl kinds.Inh (codes "h")))
    (where_one p q 4 (codes "z"))

-- `interface T { syn t, t; }`
abbrev pub twice_t : Interface
twice_t =
    trees.interface (codes "T")
    (trees.attr_decl kinds.Syn (codes "t") ∷ trees.attr_decl kinds.Syn (codes "t") ∷ []) []

-- the rules of `C`: `self.z := 0; self.a := 1; self.b := 1;`
abbrev pub rules_of : (p q : ℕ) → List Rule
rules_of p q =
    where_one p q 7 (self_is (codes "z") (num 0))
    ++ (self_is (codes "a") (num 1) ∷ (if (p == 8) || (q == 8) then [] else self_is (codes "b") (num 1) ∷ []))

-- `class R : R { .. }`
abbrev pub class_r : Class
class_r =
    trees.class (codes "R") (codes "R") [] [] (self_is (codes "a") (num 1) ∷ self_is (codes "b") (num 1) ∷ [])

-- `class M : R { c : R; .. }`, with seventeen children
abbrev pub class_m : Class
class_m = trees.class (codes "M") (codes "R") [] (replicate 17 (trees.child (codes "c") (codes "R") false)) []

-- the name of the root
abbrev pub root_of : (p q : ℕ) → NameText
root_of p q = if (p == 3) || (q == 3) then codes "Q" else codes "R"

-- the grammar with these two faults
abbrev pub faulty : (p q : ℕ) → Grammar
faulty p q =
    trees.grammar (root_of p q) (root_interface p q ∷ where_one p q 5 twice_t)
    (trees.class (codes "C") (codes "R") [] [] (rules_of p q) ∷ (where_one p q 2 class_r ++ where_one p q 1 class_m))

-- each fault by itself
abbrev pub fault_of : (p : ℕ) → GrammarFault
fault_of p =
    if p == 1 then fault.TooMany what.Children 17
    else if p == 2 then fault.TwiceNamed (codes "R")
    else if p == 3 then fault.RootMissing (codes "Q")
    else if p == 4 then fault.UnknownName (codes "z")
    else if p == 5 then fault.TwiceNamed (codes "t")
    else if p == 6 then fault.RootInherits (codes "R")
    else if p == 7 then fault.NotAssignable (of_self (codes "C") (codes "z"))
    else fault.MissingRule (of_self (codes "C") (codes "b"))

-- the faults in their order
abbrev pub points : List ℕ
points = 1 ∷ 2 ∷ 3 ∷ 4 ∷ 5 ∷ 6 ∷ 7 ∷ 8 ∷ []

-- those that come after this one
abbrev pub later : (p : ℕ) → List ℕ
later p = filter (nat_lt p) points

-- ---- faults of one rule, and of two classes

-- `root R; interface R { syn a, b; } class C : R { .. }` and more classes
abbrev pub with_rules : List Rule → List Class → Grammar
with_rules rules classes =
    trees.grammar (codes "R") (root_interface 0 0 ∷ [])
    (trees.class (codes "C") (codes "R") [] [] rules ∷ classes)

-- `self.a := fold c from self.z with 0`, where there is no `c` and no `z`
abbrev pub bad_form_and_read : Rule
bad_form_and_read = self_folds (codes "a") (codes "c") (reading (reads.Own (codes "z"))) (num 0)

-- `self.a := self.z`
abbrev pub bad_read : Rule
bad_read = self_is (codes "a") (reading (reads.Own (codes "z")))

-- `class D : R { self.z := 0; }`
abbrev pub class_d : Class
class_d = trees.class (codes "D") (codes "R") [] [] (self_is (codes "z") (num 0) ∷ [])
