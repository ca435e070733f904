-- Classes and children that are not there.
use Rattle.std.proofs.Common.{◌≡◌, ℕ, zero, suc, ◌≤◌, false, refl, ap, arith, List, [], ◌∷◌, length, get_or}
use Rattle.ftl_grammar.specs.syntax.Trees as trees
use Rattle.ftl_grammar.specs.declared.syntax.rules.Grammar.{Grammar}
use Rattle.ftl_meaning.specs.faults.Numbering.{child_at, class_at}

past : {X : Type 0} (xs : List X) (n : ℕ) (d : X) → length xs ≤ n → get_or xs n d ≡ d
past [] n d le = refl
past (x ∷ xs) zero d le = absurd (omega (arith, le))
past (x ∷ xs) (suc n) d le = past xs n d (omega (arith, le))

pub no_children : (g : Grammar) (k : ℕ) → length g.classes ≤ k → length (class_at g k).children ≡ 0
no_children g k le = ap (λ x. length x.children) (past g.classes k (trees.class [] [] [] [] []) le)

pub no_list : (g : Grammar) (k c : ℕ) → length (class_at g k).children ≤ c → (child_at g k c).many ≡ false
no_list g k c le = ap (λ x. x.many) (past (class_at g k).children c (trees.child [] [] false) le)

pub no_list_there : (g : Grammar) (k c : ℕ) → length g.classes ≤ k → (child_at g k c).many ≡ false
no_list_there g k c le = let e = no_children g k le in no_list g k c (omega (arith, e))

pub ruleset absent_steps = (no_children, no_list, no_list_there)
