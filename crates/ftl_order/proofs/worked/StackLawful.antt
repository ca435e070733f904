-- The stack grammar is lawful.
use Rattle.std.proofs.Common.{◌≡◌, ◌≢◌, ◌⊎◌, ℕ, zero, suc, ◌<◌, refl, ap, ap₂, inl, inr, lit<, arith, List, [], ◌∷◌, ◌++◌, flat_map, Contains, rules, pos}
use Rattle.std.specs.List.{AllByRecursion, range_with_len}
use Rattle.ftl_model.specs.lists.Lists.{AreDistinct}
use Rattle.ftl_model.proofs.lists.Elements.{each_in, flat_map_has, here_in, range_has}
use Rattle.ftl_model.specs.layout.AttributeGrammar.{Occurrence, Read, RuleName, Sort, each_read, for_child, for_self, inherited, input, kid, local, own, prev_read, seen_by, self_read, single_read}
use Rattle.ftl_model.specs.layout.Boxes.{boxes}
use Rattle.ftl_model.specs.layout.Stack.{column_h, column_w, kids_y, stack, stack_rules, word}
use Rattle.ftl_model.specs.layout.Values.{IsValueIn, greatest_of, narrow, number, sum_of}
use Rattle.ftl_model.proofs.layout.FoldLaws.{fold_kids_same}
use Rattle.ftl_model.proofs.layout.ValueRanges.{fold_keeps, greatest_in, sum_in}
use Rattle.ftl_order.specs.orders.Lawful.{IsAlone, IsLawful, IsOwnSort, IsRule, KeepsRange, MayReadForChild, MayReadForSelf, MayReadInStep, MayReadLater, OfChild, OfClass, Owner, Owns, PartsForChild, PartsForSelf, class_owner, declared, interface_owner}
use Rattle.ftl_order.proofs.orders.Bounded.{each_below}
use Rattle.ftl_order.proofs.orders.RuleOrder.{ordered_by_class}

-- each attribute of each class
pub each_class : (P : ℕ → ℕ → Type 0) → P 0 0 → AllByRecursion (P 1) (1 ∷ 2 ∷ 3 ∷ 4 ∷ [])
    → AllByRecursion (P 2) (1 ∷ 2 ∷ 3 ∷ 4 ∷ 5 ∷ 6 ∷ []) → (k a : ℕ) → k < 3 → OfClass stack k a → P k a
each_class P sheet column word zero a known of = each_in (P 0) (0 ∷ []) (sheet, tt) a of
each_class P sheet column word (suc zero) a known of = each_in (P 1) (1 ∷ 2 ∷ 3 ∷ 4 ∷ []) column a of
each_class P sheet column word (suc (suc zero)) a known of =
    each_in (P 2) (1 ∷ 2 ∷ 3 ∷ 4 ∷ 5 ∷ 6 ∷ []) word a of
each_class P sheet column word (suc (suc (suc k))) a known of = absurd (let z : ⊥ = omega (arith, known) in z)

-- each attribute of the one child of a sheet, and of a column
pub each_child : (P : ℕ → ℕ → ℕ → Type 0) → AllByRecursion (P 0 0) (1 ∷ 2 ∷ 3 ∷ 4 ∷ [])
    → AllByRecursion (P 1 0) (1 ∷ 2 ∷ 3 ∷ 4 ∷ []) → (k c a : ℕ) → k < 3 → c < stack.child_count k
    → OfChild stack k c a → P k c a
each_child P sheet column zero zero a known declared of = each_in (P 0 0) (1 ∷ 2 ∷ 3 ∷ 4 ∷ []) sheet a of
each_child P sheet column (suc zero) zero a known declared of = each_in (P 1 0) (1 ∷ 2 ∷ 3 ∷ 4 ∷ []) column a of
each_child P sheet column zero (suc c) a known declared of = absurd (let z : ⊥ = omega (arith, declared) in z)
each_child P sheet column (suc zero) (suc c) a known declared of = absurd (let z : ⊥ = omega (arith, declared) in z)
each_child P sheet column (suc (suc zero)) c a known declared of = absurd (let z : ⊥ = omega (arith, declared) in z)
each_child P sheet column (suc (suc (suc k))) c a known declared of = absurd (let z : ⊥ = omega (arith, known) in z)

pub not_own : {X : Type 0} (sort : Sort) → (sort ≡ inherited) ⊎ (sort ≡ input) → IsOwnSort sort → X
not_own sort (inl e) (inl f) = absurd (let z : ⊥ = grind arith in z)
not_own sort (inl e) (inr f) = absurd (let z : ⊥ = grind arith in z)
not_own sort (inr e) (inl f) = absurd (let z : ⊥ = grind arith in z)
not_own sort (inr e) (inr f) = absurd (let z : ⊥ = grind arith in z)

-- each rule
pub each_rule : (P : RuleName → Type 0) → AllByRecursion P stack_rules → (w : RuleName) → IsRule stack w → P w
each_rule P h (for_self k a) rule =
    each_class (λ k a. IsOwnSort (stack.sort a) → P (for_self k a)) (λ own. h.0)
    ((λ own. not_own inherited (inl refl) own), ((λ own. not_own inherited (inl refl) own), ((λ own. h.1.1.1.0), ((λ own. h.1.1.1.1.0), tt))))
    ((λ own. not_own inherited (inl refl) own), ((λ own. not_own inherited (inl refl) own), ((λ own. h.1.1.1.1.1.1.1.0), ((λ own. h.1.1.1.1.1.1.1.1.0), ((λ own. not_own input (inr refl) own), ((λ own. not_own input (inr refl) own), tt))))))
    k a rule.0 rule.1 rule.2
each_rule P h (for_child k c a) rule =
    each_child (λ k c a. stack.sort a ≡ inherited → P (for_child k c a))
    ((λ e. h.1.0), ((λ e. h.1.1.0), ((λ e. absurd (let z : ⊥ = grind arith in z)), ((λ e. absurd (let z : ⊥ = grind arith in z)), tt))))
    ((λ e. h.1.1.1.1.1.0), ((λ e. h.1.1.1.1.1.1.0), ((λ e. absurd (let z : ⊥ = grind arith in z)), ((λ e. absurd (let z : ⊥ = grind arith in z)), tt))))
    k c a rule.0 rule.1 rule.2 rule.3

-- ---- attributes and their owners

-- each attribute of each owner
each_owned : (P : Owner → ℕ → Type 0) → P (interface_owner 0) 0
    → AllByRecursion (P (interface_owner 1)) (1 ∷ 2 ∷ 3 ∷ 4 ∷ [])
    → AllByRecursion (P (class_owner 2)) (5 ∷ 6 ∷ []) → (x : Owner) (a : ℕ) → Owns stack x a → P x a
each_owned P h boxes words (interface_owner i) a owns =
    each_below (λ i. Contains (stack.shared i) a → P (interface_owner i) a) 2 (
      each_in (P (interface_owner 1)) (1 ∷ 2 ∷ 3 ∷ 4 ∷ []) boxes a,
      (each_in (P (interface_owner 0)) (0 ∷ []) (h, tt) a, tt),
    ) i owns.0 owns.1
each_owned P h boxes words (class_owner k) a owns =
    each_below (λ k. Contains (stack.private k) a → P (class_owner k) a) 3 (
      each_in (P (class_owner 2)) (5 ∷ 6 ∷ []) words a,
      (each_in (P (class_owner 1)) [] tt a, (each_in (P (class_owner 0)) [] tt a, tt)),
    ) k owns.0 owns.1

abbrev SharedSort : Owner → ℕ → Type 0
SharedSort (interface_owner i) a = stack.sort a ≢ local
SharedSort (class_owner k) a = (stack.sort a ≡ input) ⊎ (stack.sort a ≡ local)

sorts : (x : Owner) (a : ℕ) → Owns stack x a → SharedSort x a
sorts =
    each_owned SharedSort (λ e. (let z : ⊥ = grind arith in z))
    ((λ e. (let z : ⊥ = grind arith in z)), ((λ e. (let z : ⊥ = grind arith in z)), ((λ e. (let z : ⊥ = grind arith in z)), ((λ e. (let z : ⊥ = grind arith in z)), tt))))
    (inl refl, (inl refl, tt))

-- ---- rules

differ : (w : RuleName) (ws : List RuleName) → AllByRecursion (λ v. v ≢ w) ws → Contains ws w → ⊥
differ w ws h in_it = each_in (λ v. v ≢ w) ws h w in_it refl

rules_once : AreDistinct stack_rules
rules_once = search (rules, differ)

rules_are : (w : RuleName) → Contains stack_rules w → IsRule stack w
rules_are =
    each_in (IsRule stack) stack_rules
    ((lit< tt, (0, lit< tt, refl), inl refl), ((lit< tt, lit< tt, (0, lit< tt, refl), refl), ((lit< tt, lit< tt, (1, lit< tt, refl), refl), ((lit< tt, (2, lit< tt, refl), inl refl), ((lit< tt, (3, lit< tt, refl), inl refl), ((lit< tt, lit< tt, (0, lit< tt, refl), refl), ((lit< tt, lit< tt, (1, lit< tt, refl), refl), ((lit< tt, (2, lit< tt, refl), inl refl), ((lit< tt, (3, lit< tt, refl), inl refl), tt)))))))))

rules_have : (w : RuleName) → IsRule stack w → Contains stack_rules w
rules_have =
    each_rule (Contains stack_rules)
    ((0, lit< tt, refl), ((1, lit< tt, refl), ((2, lit< tt, refl), ((3, lit< tt, refl), ((4, lit< tt, refl), ((5, lit< tt, refl), ((6, lit< tt, refl), ((7, lit< tt, refl), ((8, lit< tt, refl), tt)))))))))

-- what a lawful grammar asks of a rule
abbrev PartsAllowed : RuleName → Type 0
PartsAllowed (for_self k a) = PartsForSelf stack k (stack.self_rule k a).parts
PartsAllowed (for_child k c a) = PartsForChild stack k c (stack.child_rule k c a).parts

parts_allowed : (w : RuleName) → IsRule stack w → PartsAllowed w
parts_allowed =
    each_rule PartsAllowed (
      each_in (MayReadForSelf stack 0) (single_read 0 4 ∷ []) (((lit< tt, refl), (3, lit< tt, refl)), tt),
      (
        each_in (MayReadForChild stack 0 0) [] tt,
        (
          each_in (MayReadForChild stack 0 0) [] tt,
          (
            (
              (lit< tt, refl),
              each_in (MayReadForSelf stack 1) [] tt,
              each_in (MayReadInStep stack 1 0) (each_read 0 3 ∷ []) ((refl, (2, lit< tt, refl)), tt),
            ),
            (
              (
                (lit< tt, refl),
                each_in (MayReadForSelf stack 1) [] tt,
                each_in (MayReadInStep stack 1 0) (each_read 0 4 ∷ []) ((refl, (3, lit< tt, refl)), tt),
              ),
              (
                each_in (MayReadForChild stack 1 0) (self_read 1 ∷ []) ((0, lit< tt, refl), tt),
                (
                  (
                    (lit< tt, refl),
                    each_in (MayReadForChild stack 1 0) (self_read 2 ∷ []) ((1, lit< tt, refl), tt),
                    each_in (MayReadLater stack 1 0) (prev_read 0 2 ∷ prev_read 0 4 ∷ [])
                        ((refl, (lit< tt, refl), (1, lit< tt, refl)), ((refl, (lit< tt, refl), (3, lit< tt, refl)), tt)),
                  ),
                  (each_in (MayReadForSelf stack 2) (self_read 5 ∷ []) ((4, lit< tt, refl), tt), (each_in (MayReadForSelf stack 2) (self_read 6 ∷ []) ((5, lit< tt, refl), tt), tt)),
                ),
              ),
            ),
          ),
        ),
      ),
    )

abbrev AloneAt : RuleName → Type 0
AloneAt (for_self k a) = IsAlone (stack.self_rule k a) 0
AloneAt (for_child k c a) = (number : ℕ) → IsAlone (stack.child_rule k c a) number

-- what a fold's step reads of each kid
pub in_fold : (step : List Read) (kids : ℕ → ℕ) (c n : ℕ) (o : Occurrence) → n < kids c
    → Contains (seen_by kids n step) o
    → Contains ([] ++ flat_map (λ m. seen_by kids m step) (range_with_len 0 (kids c))) o
in_fold step kids c n o below h =
    flat_map_has (λ m. seen_by kids m step) (range_with_len 0 (kids c)) n o
    (range_has 0 (kids c) n (omega arith) (omega (arith, below))) h

column_w_alone : IsAlone column_w 0
column_w_alone kids s t same =
    fold_kids_same (kids 0) (λ acc n. greatest_of acc (s (kid 0 n 3))) (λ acc n. greatest_of acc (t (kid 0 n 3))) _
    (λ n below acc. ap (greatest_of acc)
    (same (kid 0 n 3) (in_fold (each_read 0 3 ∷ []) kids 0 n (kid 0 n 3) below (here_in (kid 0 n 3) []))))

column_h_alone : IsAlone (column_h narrow) 0
column_h_alone kids s t same =
    fold_kids_same (kids 0) (λ acc n. sum_of narrow acc (s (kid 0 n 4))) (λ acc n. sum_of narrow acc (t (kid 0 n 4))) _
    (λ n below acc. ap (sum_of narrow acc)
    (same (kid 0 n 4) (in_fold (each_read 0 4 ∷ []) kids 0 n (kid 0 n 4) below (here_in (kid 0 n 4) []))))

kids_y_alone : (number : ℕ) → IsAlone (kids_y narrow) number
kids_y_alone zero kids s t same = same (own 2) (here_in (own 2) [])
kids_y_alone (suc n) kids s t same =
    ap₂ (sum_of narrow) (same (kid 0 n 2) (0, lit< tt, refl)) (same (kid 0 n 4) (1, lit< tt, refl))

each_alone : (w : RuleName) → IsRule stack w → AloneAt w
each_alone =
    each_rule AloneAt
    ((λ kids s t same. same (kid 0 0 4) (here_in (kid 0 0 4) [])), ((λ number kids s t same. refl), ((λ number kids s t same. refl), (column_w_alone, (column_h_alone, ((λ number kids s t same. same (own 1) (here_in (own 1) [])), (kids_y_alone, ((λ kids s t same. same (own 5) (here_in (own 5) [])), ((λ kids s t same. same (own 6) (here_in (own 6) [])), tt)))))))))

abbrev RangeAt : RuleName → Type 0
RangeAt (for_self k a) = KeepsRange narrow (stack.self_rule k a) 0
RangeAt (for_child k c a) = (number : ℕ) → KeepsRange narrow (stack.child_rule k c a) number

zero_in : IsValueIn narrow (number (pos 0))
zero_in = search rules

column_w_range : KeepsRange narrow column_w 0
column_w_range kids s h =
    fold_keeps (IsValueIn narrow) (kids 0) (λ acc n. greatest_of acc (s (kid 0 n 3))) (number (pos 0)) zero_in
    (λ n below acc in_range. greatest_in narrow acc (s (kid 0 n 3)) in_range
    (h (kid 0 n 3) (in_fold (each_read 0 3 ∷ []) kids 0 n (kid 0 n 3) below (here_in (kid 0 n 3) []))))

column_h_range : KeepsRange narrow (column_h narrow) 0
column_h_range kids s h =
    fold_keeps (IsValueIn narrow) (kids 0) (λ acc n. sum_of narrow acc (s (kid 0 n 4))) (number (pos 0)) zero_in
    (λ n below acc in_range. sum_in narrow acc (s (kid 0 n 4)))

kids_y_range : (m : ℕ) → KeepsRange narrow (kids_y narrow) m
kids_y_range zero kids s h = h (own 2) (here_in (own 2) [])
kids_y_range (suc n) kids s h = sum_in narrow (s (kid 0 n 2)) (s (kid 0 n 4))

each_range : (w : RuleName) → IsRule stack w → RangeAt w
each_range =
    each_rule RangeAt (
      (λ kids s h. h (kid 0 0 4) (here_in (kid 0 0 4) [])),
      (
        (λ m kids s h. zero_in),
        (
          (λ m kids s h. zero_in),
          (
            column_w_range,
            (
              column_h_range,
              (
                (λ m kids s h. h (own 1) (here_in (own 1) [])),
                (
                  kids_y_range,
                  ((λ kids s h. h (own 5) (here_in (own 5) [])), ((λ kids s h. h (own 6) (here_in (own 6) [])), tt)),
                ),
              ),
            ),
          ),
        ),
      ),
    )

pub stack_lawful : IsLawful stack
stack_lawful =
    record {
      width = inl refl;
      root_known = lit< tt;
      interfaces_known = each_below (λ k. stack.interface k < 2) 3 (lit< tt, (lit< tt, (lit< tt, tt)));
      children_known = λ k c known declared. lit< tt;
      numbering = refl;
      shared_sorts = λ i a owns. sorts (interface_owner i) a owns;
      root_sorts = each_in (λ a. stack.sort a ≢ inherited) (0 ∷ []) ((λ e. (let z : ⊥ = grind arith in z)), tt);
      private_sorts = λ k a owns. sorts (class_owner k) a owns;
      rules_are = rules_are;
      rules_have = rules_have;
      rules_once = rules_once;
      rules_by_class = search (rules, ordered_by_class);
      self_parts = λ k a rule. parts_allowed (for_self k a) rule;
      self_alone = λ k a rule. each_alone (for_self k a) rule;
      self_range = λ k a rule. each_range (for_self k a) rule;
      child_parts = λ k c a rule. parts_allowed (for_child k c a) rule;
      child_alone = λ k c a rule. each_alone (for_child k c a) rule;
      child_range = λ k c a rule. each_range (for_child k c a) rule;
    }
