-- The chain grammar is lawful, and its inorder schedule ordered.
use Rattle.std.proofs.Common.{◌≡◌, ◌≢◌, ◌⊎◌, ℕ, zero, suc, ◌<◌, ◌==◌, if◌then◌else◌, refl, sym, ap, ap₂, subst₂, inl, inr, ⊎_elim, lit<, arith, ne_eqb, List, [], ◌∷◌, count_by, Contains, rules, pos}
use Rattle.std.specs.List.{AllByRecursion}
use Rattle.ftl_model.proofs.lists.Elements.{each_in, nothing_in}
use Rattle.ftl_model.specs.layout.AttributeGrammar.{Part, Read, RuleName, first_part, for_child, for_self, inherited, input, kid, prev_read, reads_in, then_part}
use Rattle.ftl_model.specs.layout.Solves.{rule_named}
use Rattle.ftl_model.specs.layout.Values.{IsValueIn, narrow, number, sum_of}
use Rattle.ftl_model.proofs.layout.ValueRanges.{sum_in}
use Rattle.ftl_order.specs.orders.Lawful.{IsAlone, IsLawful, IsOwnSort, IsRule, KeepsRange, MayReadForChild, MayReadLater, Owner, Owns, PartsForChild, class_of_rule, class_owner, interface_owner}
use Rattle.ftl_order.specs.orders.Ordered.{IsOrdered, IsOrderedRead, visit_place}
use Rattle.ftl_order.specs.orders.Pairs.{Where, Writes, same_class}
use Rattle.ftl_order.specs.orders.Schedule.{EachStandsOnce, entries, placing_of}
use Rattle.ftl_order.proofs.orders.Bounded.{each_below}
use Rattle.ftl_order.proofs.orders.PartReads.{first_then_reads}
use Rattle.ftl_order.proofs.orders.RuleOrder.{ordered_by_class}
use Rattle.ftl_order.specs.worked.Chain.{chain, chain_a, chain_b, chain_inorder}

no_children : (k c : ℕ) → c < chain.child_count (suc k) → ⊥
no_children k c h =
    let none : chain.child_count (suc k) ≡ 0 = ap (λ b. if b then 1 else 0) (ne_eqb (suc k) 0 (omega arith)) in
    omega (arith, h, none)

never_own : {X : Type 0} → IsOwnSort inherited → X
never_own (inl e) = absurd (let z : ⊥ = grind arith in z)
never_own (inr e) = absurd (let z : ⊥ = grind arith in z)

-- each rule: those of the kids
each_rule : (P : RuleName → Type 0) → P (for_child 0 0 0) → P (for_child 0 0 1) → (w : RuleName) → IsRule chain w → P w
each_rule P p q (for_self k a) rule = never_own rule.2
each_rule P p q (for_child zero zero a) rule =
    each_in (λ a. P (for_child 0 0 a)) (0 ∷ (1 ∷ [])) (p, (q, tt)) a rule.2
each_rule P p q (for_child zero (suc c) a) rule =
    absurd (let d = rule.1 in let z : ⊥ = omega (arith, d) in z)
each_rule P p q (for_child (suc k) c a) rule = absurd (no_children k c rule.1)

-- each attribute: those of K
each_owned : (P : Owner → ℕ → Type 0) → P (interface_owner 1) 0 → P (interface_owner 1) 1 → (x : Owner) (a : ℕ)
    → Owns chain x a → P x a
each_owned P p q (interface_owner i) a owns =
    each_below (λ i. Contains (chain.shared i) a → P (interface_owner i) a) 2 (
      each_in (P (interface_owner 1)) (0 ∷ (1 ∷ [])) (p, (q, tt)) a,
      (each_in (P (interface_owner 0)) [] tt a, tt),
    ) i owns.0 owns.1
each_owned P p q (class_owner k) a owns = absurd (nothing_in a owns.1)

a_allowed : PartsForChild chain 0 0 chain_a.parts
a_allowed = (
  (lit< tt, refl),
  each_in (MayReadForChild chain 0 0) [] tt,
  each_in (MayReadLater chain 0 0) (prev_read 0 1 ∷ []) ((refl, (lit< tt, refl), (1, lit< tt, refl)), tt),
)

b_allowed : PartsForChild chain 0 0 chain_b.parts
b_allowed = (
  (lit< tt, refl),
  each_in (MayReadForChild chain 0 0) [] tt,
  each_in (MayReadLater chain 0 0) (prev_read 0 0 ∷ (prev_read 0 1 ∷ []))
      ((refl, (lit< tt, refl), (0, lit< tt, refl)), ((refl, (lit< tt, refl), (1, lit< tt, refl)), tt)),
)

chain_a_alone : (number : ℕ) → IsAlone chain_a number
chain_a_alone zero kids s t same = refl
chain_a_alone (suc n) kids s t same = same (kid 0 n 1) (0, lit< tt, refl)

chain_b_alone : (number : ℕ) → IsAlone chain_b number
chain_b_alone zero kids s t same = refl
chain_b_alone (suc n) kids s t same =
    ap₂ (sum_of narrow) (same (kid 0 n 0) (0, lit< tt, refl)) (same (kid 0 n 1) (1, lit< tt, refl))

abbrev RuleAllowed : RuleName → Type 0
RuleAllowed (for_self k a) = Unit {0}
RuleAllowed (for_child k c a) =
    PartsForChild chain k c (chain.child_rule k c a).parts × ((number : ℕ) → IsAlone (chain.child_rule k c a) number)

rules_allowed : (w : RuleName) → IsRule chain w → RuleAllowed w
rules_allowed w rule =
    each_rule RuleAllowed (a_allowed, chain_a_alone) (b_allowed, chain_b_alone) w rule

one_in : IsValueIn narrow (number (pos 1))
one_in = search rules

two_in : IsValueIn narrow (number (pos 2))
two_in = search rules

a_range : (m : ℕ) → KeepsRange narrow chain_a m
a_range zero kids s h = one_in
a_range (suc n) kids s h = h (kid 0 n 1) (0, lit< tt, refl)

b_range : (m : ℕ) → KeepsRange narrow chain_b m
b_range zero kids s h = two_in
b_range (suc n) kids s h = sum_in narrow (s (kid 0 n 0)) (s (kid 0 n 1))

abbrev RangeAt : RuleName → Type 0
RangeAt (for_self k a) = Unit {0}
RangeAt (for_child k c a) = (number : ℕ) → KeepsRange narrow (chain.child_rule k c a) number

ranges : (w : RuleName) → IsRule chain w → RangeAt w
ranges = each_rule RangeAt a_range b_range

differ : for_child 0 0 1 ≢ for_child 0 0 0
differ e = let z : ⊥ = grind (arith, e) in z

pub chain_lawful : IsLawful chain
chain_lawful =
    record {
      width = inl refl;
      root_known = lit< tt;
      interfaces_known = λ k known. known;
      children_known = λ k c known declared. lit< tt;
      numbering = refl;
      shared_sorts = λ i a owns e. (let z : ⊥ = grind arith in z);
      root_sorts = λ a h e. nothing_in a h;
      private_sorts = λ k a owns. absurd (nothing_in a owns.1);
      rules_are = each_in (IsRule chain) (for_child 0 0 0 ∷ (for_child 0 0 1 ∷ []))
          ((lit< tt, lit< tt, (0, lit< tt, refl), refl), ((lit< tt, lit< tt, (1, lit< tt, refl), refl), tt));
      rules_have = each_rule (Contains chain.rules) (0, lit< tt, refl) (1, lit< tt, refl);
      rules_once = (
        (λ h. each_in (λ v. v ≢ for_child 0 0 0) (for_child 0 0 1 ∷ []) (differ, tt) (for_child 0 0 0) h refl),
        ((λ h. nothing_in (for_child 0 0 1) h), tt),
      );
      rules_by_class = search (rules, ordered_by_class);
      self_parts = λ k a rule. never_own rule.2;
      self_alone = λ k a rule. never_own rule.2;
      self_range = λ k a rule. never_own rule.2;
      child_parts = λ k c a rule. (rules_allowed (for_child k c a) rule).0;
      child_alone = λ k c a rule. (rules_allowed (for_child k c a) rule).1;
      child_range = λ k c a rule. ranges (for_child k c a) rule;
    }

chain_once : EachStandsOnce chain chain_inorder
chain_once = each_below (λ a. chain.sort a ≢ input → count_by (λ b. b == a) (entries chain_inorder) ≡ 1) 2
    ((λ c. refl), ((λ c. refl), tt))

-- each writer is ordered for this read: both rules stand in one block, and the read is by `prev`
abbrev WritersOrdered : ℕ → Read → Type 0
WritersOrdered b r =
    (runs_at : Where) (w : RuleName) → Writes chain 0 r runs_at w
    → IsOrderedRead (placing_of chain_inorder) runs_at r (visit_place chain w) (visit_place chain (for_child 0 0 b))

prev_ordered : (b a : ℕ)
    → IsOrderedRead (placing_of chain_inorder) same_class (prev_read 0 a) (visit_place chain (for_child 0 0 a))
    (visit_place chain (for_child 0 0 b))
    → WritersOrdered b (prev_read 0 a)
prev_ordered b a h runs_at w writes =
    subst₂ (λ p x. IsOrderedRead (placing_of chain_inorder) p (prev_read 0 a) (visit_place chain x)
    (visit_place chain (for_child 0 0 b)))
    (sym writes.0) (sym writes.1) h

-- the reads of the parts of a rule, none in the first
ordered_parts : (b : ℕ) (later : List Read) → AllByRecursion (WritersOrdered b) later → (part : Part) (r : Read)
    → ((part ≡ first_part) × Contains [] r) ⊎ ((part ≡ then_part) × Contains later r) → WritersOrdered b r
ordered_parts b later h part r is =
    ⊎_elim (λ first. absurd (nothing_in r first.1)) (λ rest. each_in (WritersOrdered b) later h r rest.1) is

abbrev PairsOrdered : RuleName → Type 0
PairsOrdered w =
    (part : Part) (r : Read) → Contains (reads_in (rule_named chain w).parts part) r
    → (runs_at : Where) (v : RuleName) → Writes chain (class_of_rule w) r runs_at v
    → IsOrderedRead (placing_of chain_inorder) runs_at r (visit_place chain v) (visit_place chain w)

a_ordered : PairsOrdered (for_child 0 0 0)
a_ordered part r h =
    ordered_parts 0 (prev_read 0 1 ∷ []) (prev_ordered 0 1 (inr ((refl, refl), inr ((refl, refl), inr refl))), tt) part r
    (first_then_reads [] (prev_read 0 1 ∷ []) part r h)

b_ordered : PairsOrdered (for_child 0 0 1)
b_ordered part r h =
    ordered_parts 1 (prev_read 0 0 ∷ (prev_read 0 1 ∷ [])) (
      prev_ordered 1 0 (inr ((refl, refl), inr ((refl, refl), inr refl))),
      (prev_ordered 1 1 (inr ((refl, refl), inr ((refl, refl), inr refl))), tt),
    ) part r
    (first_then_reads [] (prev_read 0 0 ∷ (prev_read 0 1 ∷ [])) part r h)

pub chain_inorder_ordered : IsOrdered chain chain_inorder
chain_inorder_ordered =
    record {
      once = chain_once;
      pairs = λ pair is.
          each_rule PairsOrdered a_ordered b_ordered pair.reader is.0.0 pair.part pair.read is.0.1
          pair.runs_at pair.writer is.1;
    }
