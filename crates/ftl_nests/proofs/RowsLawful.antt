-- The grammar of rows and cells is lawful, and two rows are a tree of it.
use Rattle.std.proofs.Common.{◌≡◌, ◌≢◌, ℕ, zero, suc, ◌<◌, refl, inl, inr, lit<, lit≤, arith, true, false, List, [], ◌∷◌, length, Contains, rules}
use Rattle.std.specs.List.{AllByRecursion}
use Rattle.ftl_model.specs.lists.Lists.{AreDistinct}
use Rattle.ftl_model.proofs.lists.Elements.{each_in, nothing_in}
use Rattle.ftl_model.specs.layout.AttributeGrammar.{RuleName, each_read, for_child, for_self, class_inputs, inherited, local, self_read, synthesized}
use Rattle.ftl_model.specs.layout.Tree.{Forest, none, tree}
use Rattle.ftl_model.specs.layout.TreeOf.{FitsChild, FitsClass, FitBelow, IsTreeOf}
use Rattle.ftl_model.specs.layout.Values.{IsValueIn, narrow, overflow}
use Rattle.ftl_order.specs.orders.Lawful.{IsLawful, IsOwnSort, IsRule, MayReadForChild, MayReadForSelf, MayReadInStep, PartsForChild, PartsForSelf}
use Rattle.ftl_order.proofs.orders.Bounded.{each_below}
use Rattle.ftl_order.proofs.orders.RuleOrder.{ordered_by_class}
use Rattle.ftl_nests.specs.WorkedRows.{rows, two_rows}

-- ---- rules

inherited_not_own : {X : Type 0} → IsOwnSort inherited → X
inherited_not_own (inl e) = absurd (let z : ⊥ = grind arith in z)
inherited_not_own (inr e) = absurd (let z : ⊥ = grind arith in z)

synthesized_not_inherited : {X : Type 0} → synthesized ≡ inherited → X
synthesized_not_inherited e = absurd (let z : ⊥ = grind arith in z)

-- each rule
pub each_rule : (P : RuleName → Type 0) → AllByRecursion P rows.rules → (w : RuleName) → IsRule rows w → P w
each_rule P h (for_self zero a) rule =
    each_in (λ a. IsOwnSort (rows.sort a) → P (for_self 0 a)) (0 ∷ []) ((λ own. h.0), tt) a rule.1 rule.2
each_rule P h (for_self (suc zero) a) rule =
    each_in (λ a. IsOwnSort (rows.sort a) → P (for_self 1 a)) (1 ∷ []) ((λ own. h.1.0), tt) a rule.1 rule.2
each_rule P h (for_self (suc (suc zero)) a) rule =
    each_in (λ a. IsOwnSort (rows.sort a) → P (for_self 2 a)) (2 ∷ 3 ∷ [])
    ((λ own. h.1.1.1.0), ((λ own. inherited_not_own own), tt)) a rule.1 rule.2
each_rule P h (for_self (suc (suc (suc k))) a) rule = let b = rule.0 in absurd (let z : ⊥ = omega (arith, b) in z)
each_rule P h (for_child zero zero a) rule =
    each_in (λ a. rows.sort a ≡ inherited → P (for_child 0 0 a)) (1 ∷ []) ((λ e. synthesized_not_inherited e), tt) a
    rule.2 rule.3
each_rule P h (for_child (suc zero) zero a) rule =
    each_in (λ a. rows.sort a ≡ inherited → P (for_child 1 0 a)) (2 ∷ 3 ∷ [])
    ((λ e. synthesized_not_inherited e), ((λ e. h.1.1.0), tt)) a rule.2 rule.3
each_rule P h (for_child zero (suc c) a) rule = let b = rule.1 in absurd (let z : ⊥ = omega (arith, b) in z)
each_rule P h (for_child (suc zero) (suc c) a) rule = let b = rule.1 in absurd (let z : ⊥ = omega (arith, b) in z)
each_rule P h (for_child (suc (suc zero)) c a) rule = let b = rule.1 in absurd (let z : ⊥ = omega (arith, b) in z)
each_rule P h (for_child (suc (suc (suc k))) c a) rule = let b = rule.0 in absurd (let z : ⊥ = omega (arith, b) in z)

-- the other way
rules_are : (w : RuleName) → Contains rows.rules w → IsRule rows w
rules_are =
    each_in (IsRule rows) rows.rules
    ((lit< tt, (0, lit< tt, refl), inl refl), ((lit< tt, (0, lit< tt, refl), inl refl), ((lit< tt, lit< tt, (1, lit< tt, refl), refl), ((lit< tt, (0, lit< tt, refl), inl refl), tt))))

differ : (w : RuleName) (ws : List RuleName) → AllByRecursion (λ v. v ≢ w) ws → Contains ws w → ⊥
differ w ws h in_it = each_in (λ v. v ≢ w) ws h w in_it refl

rules_once : AreDistinct rows.rules
rules_once = search (rules, differ)

-- what a lawful grammar asks of a rule
abbrev PartsAllowed : RuleName → Type 0
PartsAllowed (for_self k a) = PartsForSelf rows k (rows.self_rule k a).parts
PartsAllowed (for_child k c a) = PartsForChild rows k c (rows.child_rule k c a).parts

parts_allowed : (w : RuleName) → IsRule rows w → PartsAllowed w
parts_allowed =
    each_rule PartsAllowed (
      (
        (lit< tt, refl),
        each_in (MayReadForSelf rows 0) [] tt,
        each_in (MayReadInStep rows 0 0) (each_read 0 1 ∷ []) ((refl, (0, lit< tt, refl)), tt),
      ),
      (
        (
          (lit< tt, refl),
          each_in (MayReadForSelf rows 1) [] tt,
          each_in (MayReadInStep rows 1 0) (each_read 0 2 ∷ []) ((refl, (0, lit< tt, refl)), tt),
        ),
        (
          each_in (MayReadForChild rows 1 0) (self_read 1 ∷ []) ((0, lit< tt, refl), tt),
          (each_in (MayReadForSelf rows 2) [] tt, tt),
        ),
      ),
    )

overflow_in : IsValueIn narrow overflow
overflow_in = search rules

-- ---- attributes and their owners

abbrev SharedSort : ℕ → ℕ → Type 0
SharedSort i a = Contains (rows.shared i) a → rows.sort a ≢ local

shared_sorts : (i : ℕ) → i < 3 → (a : ℕ) → SharedSort i a
shared_sorts =
    each_below (λ i. (a : ℕ) → SharedSort i a) 3 (
      each_in (λ a. rows.sort a ≢ local) (2 ∷ 3 ∷ []) ((λ e. (let z : ⊥ = grind arith in z)), ((λ e. (let z : ⊥ = grind arith in z)), tt)),
      (
        each_in (λ a. rows.sort a ≢ local) (1 ∷ []) ((λ e. (let z : ⊥ = grind arith in z)), tt),
        (each_in (λ a. rows.sort a ≢ local) (0 ∷ []) ((λ e. (let z : ⊥ = grind arith in z)), tt), tt),
      ),
    )

pub rows_lawful : IsLawful rows
rows_lawful =
    record {
      width = inl refl;
      root_known = lit< tt;
      interfaces_known = λ k known. known;
      children_known = λ k c known declared. next_known k c known declared;
      numbering = refl;
      shared_sorts = λ i a owns. shared_sorts i owns.0 a owns.1;
      root_sorts = each_in (λ a. rows.sort a ≢ inherited) (0 ∷ []) ((λ e. (let z : ⊥ = grind arith in z)), tt);
      private_sorts = λ k a owns. absurd (nothing_in a owns.1);
      rules_are = rules_are;
      rules_have = each_rule (Contains rows.rules)
          ((0, lit< tt, refl), ((1, lit< tt, refl), ((2, lit< tt, refl), ((3, lit< tt, refl), tt))));
      rules_once = rules_once;
      rules_by_class = search (rules, ordered_by_class);
      self_parts = λ k a rule. parts_allowed (for_self k a) rule;
      self_alone = λ k a rule kids s t same. refl;
      self_range = λ k a rule kids s h. overflow_in;
      child_parts = λ k c a rule. parts_allowed (for_child k c a) rule;
      child_alone = λ k c a rule number kids s t same. refl;
      child_range = λ k c a rule number kids s h. overflow_in;
    }
  where
    next_known : (k c : ℕ) → k < 3 → c < rows.child_count k → suc k < 3
    next_known zero c known declared = lit< tt
    next_known (suc zero) c known declared = lit< tt
    next_known (suc (suc zero)) c known declared = absurd (let z : ⊥ = omega (arith, declared) in z)
    next_known (suc (suc (suc k))) c known declared = absurd (let z : ⊥ = omega (arith, known) in z)

-- ---- the tree

all_lists : {X : Type 0} → true ≡ false → X
all_lists e = absurd (let z : ⊥ = grind (arith, e) in z)

-- a node of any class: it has no inputs, and all children are lists
fits_class : (class : ℕ) (below : Forest) → class < 3 → 0 ≡ length (class_inputs rows class)
    → FitsClass rows class [] below
fits_class class below known e =
    record { known = known; count = e; numbers = tt; singles = λ c declared single. all_lists single }

cell_fits : FitsClass rows 2 [] none
cell_fits = fits_class 2 none (lit< tt) refl

-- a node stands in the one child of the class above
stands : (above : ℕ) → 0 < rows.child_count above → FitsChild rows above 0 (suc above)
stands above declared = record { declared = declared; interface = refl }

-- cells beside each other
one_cell : FitBelow rows 1 (tree 2 0 [] none none)
one_cell = (stands 1 (lit< tt), cell_fits, tt, tt, tt)

two_cells : FitBelow rows 1 (tree 2 0 [] none (tree 2 0 [] none none))
two_cells = (stands 1 (lit< tt), cell_fits, tt, lit≤ tt, one_cell)

row_fits : (below : Forest) → FitsClass rows 1 [] below
row_fits below = fits_class 1 below (lit< tt) refl

pub two_rows_fit : IsTreeOf rows two_rows
two_rows_fit = (
  refl,
  fits_class 0 _ (lit< tt) refl,
  (stands 0 (lit< tt), row_fits _, two_cells, lit≤ tt, (stands 0 (lit< tt), row_fits _, one_cell, tt, tt)),
  refl,
  refl,
)
