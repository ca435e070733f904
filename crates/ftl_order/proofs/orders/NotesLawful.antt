-- The worked grammar of notes is lawful.
use Rattle.std.proofs.Common.{◌≡◌, ◌≢◌, ◌⊎◌, ℕ, zero, suc, ◌<◌, ◌==◌, true, false, if◌then◌else◌, refl, ap, ap₂, inl, inr, lit<, arith, rules, List, [], ◌∷◌, ◌++◌, flat_map, Contains, ne_eqb, pos}
use Rattle.std.specs.List.{AllByRecursion, range_with_len}
use Rattle.ftl_model.specs.lists.Lists.{AreDistinct}
use Rattle.ftl_model.proofs.lists.Elements.{each_in, flat_map_has, here_in, range_has}
use Rattle.ftl_model.specs.layout.AttributeGrammar.{Occurrence, RuleName, Sort, each_read, for_child, for_self, inherited, input, kid, kid_before, last_read, local, own, prev_read, seen_by, self_read, single_read, synthesized, this_read}
use Rattle.ftl_model.specs.layout.Notes.{last_width, notes, notes_rules, plus, shift_rule, total_rule, x_rule}
use Rattle.ftl_model.specs.layout.Values.{IsValueIn, in_range, narrow, number}
use Rattle.ftl_model.proofs.layout.FoldLaws.{fold_kids_same}
use Rattle.ftl_model.proofs.layout.ValueRanges.{fold_keeps, sum_in}
use Rattle.ftl_order.specs.orders.Lawful.{IsAlone, IsLawful, IsOwnSort, IsRule, KeepsRange, MayReadForChild, MayReadForSelf, MayReadInStep, MayReadLater, OfChild, OfClass, Owner, Owns, PartsForChild, PartsForSelf, class_owner, declared, interface_owner}
use Rattle.ftl_order.proofs.orders.Bounded.{each_below}
use Rattle.ftl_order.proofs.orders.RuleOrder.{ordered_by_class}

-- each attribute of each class
each_class : (P : ℕ → ℕ → Type 0) → AllByRecursion (P 0) (0 ∷ 7 ∷ []) → AllByRecursion (P 1) (1 ∷ 2 ∷ 3 ∷ 8 ∷ [])
    → AllByRecursion (P 2) (4 ∷ 5 ∷ 6 ∷ 9 ∷ []) → (k a : ℕ) → k < 3 → OfClass notes k a → P k a
each_class P sheet item text zero a known of = each_in (P 0) (0 ∷ 7 ∷ []) sheet a of
each_class P sheet item text (suc zero) a known of = each_in (P 1) (1 ∷ 2 ∷ 3 ∷ 8 ∷ []) item a of
each_class P sheet item text (suc (suc zero)) a known of = each_in (P 2) (4 ∷ 5 ∷ 6 ∷ 9 ∷ []) text a of
each_class P sheet item text (suc (suc (suc k))) a known of = absurd (let z : ⊥ = omega (arith, known) in z)

no_children : (k c : ℕ) → c < notes.child_count (suc k) → ⊥
no_children k c h =
    let none : notes.child_count (suc k) ≡ 0 = ap (λ b. if b then 2 else 0) (ne_eqb (suc k) 0 (omega arith)) in
    omega (arith, h, none)

-- each attribute of the children of a sheet
each_child : (P : ℕ → ℕ → ℕ → Type 0) → AllByRecursion (P 0 0) (4 ∷ 5 ∷ 6 ∷ [])
    → AllByRecursion (P 0 1) (1 ∷ 2 ∷ 3 ∷ []) → (k c a : ℕ) → c < notes.child_count k → OfChild notes k c a → P k c a
each_child P head kids zero zero a declared of = each_in (P 0 0) (4 ∷ 5 ∷ 6 ∷ []) head a of
each_child P head kids zero (suc zero) a declared of = each_in (P 0 1) (1 ∷ 2 ∷ 3 ∷ []) kids a of
each_child P head kids zero (suc (suc c)) a declared of = absurd (let z : ⊥ = omega (arith, declared) in z)
each_child P head kids (suc k) c a declared of = absurd (no_children k c declared)

never : {X : Type 0} (sort : Sort) → (sort ≡ inherited) ⊎ (sort ≡ input) → IsOwnSort sort → X
never sort (inl e) (inl f) = absurd (let z : ⊥ = grind arith in z)
never sort (inl e) (inr f) = absurd (let z : ⊥ = grind arith in z)
never sort (inr e) (inl f) = absurd (let z : ⊥ = grind arith in z)
never sort (inr e) (inr f) = absurd (let z : ⊥ = grind arith in z)

-- each rule, in the order of the text
pub each_rule : (P : RuleName → Type 0) → AllByRecursion P notes_rules → (w : RuleName) → IsRule notes w → P w
each_rule P h (for_self k a) rule =
    each_class (λ k a. IsOwnSort (notes.sort a) → P (for_self k a))
    ((λ own. h.1.1.1.0), ((λ own. h.0), tt))
    ((λ own. never inherited (inl refl) own), ((λ own. h.1.1.1.1.0), ((λ own. never input (inr refl) own), ((λ own. never input (inr refl) own), tt))))
    ((λ own. never inherited (inl refl) own), ((λ own. h.1.1.1.1.1.0), ((λ own. h.1.1.1.1.1.1.0), ((λ own. never input (inr refl) own), tt))))
    k a rule.0 rule.1 rule.2
each_rule P h (for_child k c a) rule =
    each_child (λ k c a. notes.sort a ≡ inherited → P (for_child k c a))
    ((λ e. h.1.0), ((λ e. absurd (let z : ⊥ = grind arith in z)), ((λ e. absurd (let z : ⊥ = grind arith in z)), tt)))
    ((λ e. h.1.1.0), ((λ e. absurd (let z : ⊥ = grind arith in z)), ((λ e. absurd (let z : ⊥ = grind arith in z)), tt)))
    k c a rule.1 rule.2 rule.3

-- ---- attributes and their owners

each_owned : (P : Owner → ℕ → Type 0) → P (interface_owner 0) 0
    → AllByRecursion (P (interface_owner 1)) (1 ∷ 2 ∷ 3 ∷ []) → AllByRecursion (P (interface_owner 2)) (4 ∷ 5 ∷ 6 ∷ [])
    → P (class_owner 0) 7 → P (class_owner 1) 8 → P (class_owner 2) 9 → (x : Owner) (a : ℕ) → Owns notes x a → P x a
each_owned P page box note sheet item text (interface_owner i) a owns =
    each_below (λ i. Contains (notes.shared i) a → P (interface_owner i) a) 3
    (each_in (P (interface_owner 2)) (4 ∷ 5 ∷ 6 ∷ []) note a, (each_in (P (interface_owner 1)) (1 ∷ 2 ∷ 3 ∷ []) box a, (each_in (P (interface_owner 0)) (0 ∷ []) (page, tt) a, tt))) i owns.0 owns.1
each_owned P page box note sheet item text (class_owner k) a owns =
    each_below (λ k. Contains (notes.private k) a → P (class_owner k) a) 3
    (each_in (P (class_owner 2)) (9 ∷ []) (text, tt) a, (each_in (P (class_owner 1)) (8 ∷ []) (item, tt) a, (each_in (P (class_owner 0)) (7 ∷ []) (sheet, tt) a, tt))) k owns.0 owns.1

abbrev OwnerSort : Owner → ℕ → Type 0
OwnerSort (interface_owner i) a = notes.sort a ≢ local
OwnerSort (class_owner k) a = (notes.sort a ≡ input) ⊎ (notes.sort a ≡ local)

inherited≢local : inherited ≢ local
inherited≢local = grind arith

synthesized≢local : synthesized ≢ local
synthesized≢local = grind arith

input≢local : input ≢ local
input≢local = grind arith

sorts : (x : Owner) (a : ℕ) → Owns notes x a → OwnerSort x a
sorts =
    each_owned OwnerSort synthesized≢local (inherited≢local, (synthesized≢local, (input≢local, tt)))
    (inherited≢local, (synthesized≢local, (synthesized≢local, tt))) (inr refl) (inl refl) (inl refl)

-- ---- rules

differ : (w : RuleName) (ws : List RuleName) → AllByRecursion (λ v. v ≢ w) ws → Contains ws w → ⊥
differ w ws h in_it = each_in (λ v. v ≢ w) ws h w in_it refl

rules_once : AreDistinct notes_rules
rules_once = search (rules, differ)

rules_are : (w : RuleName) → Contains notes_rules w → IsRule notes w
rules_are =
    each_in (IsRule notes) notes_rules
    ((lit< tt, (1, lit< tt, refl), inr refl), ((lit< tt, lit< tt, (0, lit< tt, refl), refl), ((lit< tt, lit< tt, (0, lit< tt, refl), refl), ((lit< tt, (0, lit< tt, refl), inl refl), ((lit< tt, (1, lit< tt, refl), inl refl), ((lit< tt, (1, lit< tt, refl), inl refl), ((lit< tt, (2, lit< tt, refl), inl refl), tt)))))))

rules_have : (w : RuleName) → IsRule notes w → Contains notes_rules w
rules_have =
    each_rule (Contains notes_rules)
    ((0, lit< tt, refl), ((1, lit< tt, refl), ((2, lit< tt, refl), ((3, lit< tt, refl), ((4, lit< tt, refl), ((5, lit< tt, refl), ((6, lit< tt, refl), tt)))))))

abbrev PartsAllowed : RuleName → Type 0
PartsAllowed (for_self k a) = PartsForSelf notes k (notes.self_rule k a).parts
PartsAllowed (for_child k c a) = PartsForChild notes k c (notes.child_rule k c a).parts

parts_allowed : (w : RuleName) → IsRule notes w → PartsAllowed w
parts_allowed =
    each_rule PartsAllowed (
      each_in (MayReadForSelf notes 0) (single_read 0 5 ∷ []) (((lit< tt, refl), (1, lit< tt, refl)), tt),
      (
        each_in (MayReadForChild notes 0 0) (last_read 1 2 ∷ [])
            (((lit< tt, refl), (lit< tt, refl), (1, lit< tt, refl)), tt),
        (
          (
            (lit< tt, refl),
            each_in (MayReadForChild notes 0 1) (self_read 7 ∷ []) ((1, lit< tt, refl), tt),
            each_in (MayReadLater notes 0 1) (prev_read 1 1 ∷ prev_read 1 2 ∷ this_read 1 3 ∷ [])
                ((refl, (lit< tt, refl), (0, lit< tt, refl)), ((refl, (lit< tt, refl), (1, lit< tt, refl)), ((refl, (lit< tt, refl), (2, lit< tt, refl)), tt))),
          ),
          (
            (
              (lit< tt, refl),
              each_in (MayReadForSelf notes 0) [] tt,
              each_in (MayReadInStep notes 0 1) (each_read 1 2 ∷ self_read 7 ∷ [])
                  ((refl, (1, lit< tt, refl)), ((1, lit< tt, refl), tt)),
            ),
            (
              each_in (MayReadForSelf notes 1) (self_read 8 ∷ []) ((3, lit< tt, refl), tt),
              (
                each_in (MayReadForSelf notes 2) (self_read 9 ∷ []) ((3, lit< tt, refl), tt),
                (
                  each_in (MayReadForSelf notes 2) (self_read 4 ∷ self_read 5 ∷ [])
                      ((0, lit< tt, refl), ((1, lit< tt, refl), tt)),
                  tt,
                ),
              ),
            ),
          ),
        ),
      ),
    )

abbrev AloneAt : RuleName → Type 0
AloneAt (for_self k a) = IsAlone (notes.self_rule k a) 0
AloneAt (for_child k c a) = (number : ℕ) → IsAlone (notes.child_rule k c a) number

shift_alone : (number : ℕ) → IsAlone shift_rule number
shift_alone m kids s t same = go (kids 1) same
  where
    go : (n : ℕ) → ((o : Occurrence) → Contains (kid_before 1 2 n ++ []) o → s o ≡ t o) → last_width n s ≡ last_width n t
    go zero same = refl
    go (suc before) same = same (kid 1 before 2) (here_in (kid 1 before 2) [])

x_alone : (number : ℕ) → IsAlone x_rule number
x_alone zero kids s t same = same (own 7) (here_in (own 7) [])
x_alone (suc n) kids s t same =
    ap₂ plus (ap₂ plus (same (kid 1 n 1) (0, lit< tt, refl)) (same (kid 1 n 2) (1, lit< tt, refl)))
    (same (kid 1 (suc n) 3) (2, lit< tt, refl))

total_alone : IsAlone total_rule 0
total_alone kids s t same =
    fold_kids_same (kids 1) (λ acc n. plus (plus acc (s (kid 1 n 2))) (s (own 7)))
    (λ acc n. plus (plus acc (t (kid 1 n 2))) (t (own 7))) _
    (λ n below acc.
    ap₂ (λ v w. plus (plus acc v) w)
    (same (kid 1 n 2) (in_step n below (kid 1 n 2) (0, lit< tt, refl)))
    (same (own 7) (in_step n below (own 7) (1, lit< tt, refl))))
  where
    in_step : (n : ℕ) → n < kids 1 → (o : Occurrence) → Contains (kid 1 n 2 ∷ (own 7 ∷ [])) o
        → Contains ([] ++ flat_map (λ m. seen_by kids m (each_read 1 2 ∷ (self_read 7 ∷ []))) (range_with_len 0 (kids 1))) o
    in_step n below o h =
        flat_map_has (λ m. seen_by kids m (each_read 1 2 ∷ (self_read 7 ∷ []))) (range_with_len 0 (kids 1)) n o
        (range_has 0 (kids 1) n (omega arith) (omega (arith, below))) h

each_alone : (w : RuleName) → IsRule notes w → AloneAt w
each_alone =
    each_rule AloneAt
    ((λ kids s t same. ap (λ v. plus v (number (pos 1))) (same (kid 0 0 5) (here_in (kid 0 0 5) []))), (shift_alone, (x_alone, (total_alone, ((λ kids s t same. same (own 8) (here_in (own 8) [])), ((λ kids s t same. same (own 9) (here_in (own 9) [])), ((λ kids s t same. ap₂ plus (same (own 4) (0, lit< tt, refl)) (same (own 5) (1, lit< tt, refl))), tt)))))))

abbrev RangeAt : RuleName → Type 0
RangeAt (for_self k a) = KeepsRange narrow (notes.self_rule k a) 0
RangeAt (for_child k c a) = (number : ℕ) → KeepsRange narrow (notes.child_rule k c a) number

zero_in : IsValueIn narrow (number (pos 0))
zero_in = search rules

seven_in : IsValueIn narrow (number (pos 7))
seven_in = search rules

shift_range : (m : ℕ) → KeepsRange narrow shift_rule m
shift_range m kids s h = go (kids 1) h
  where
    go : (n : ℕ) → ((o : Occurrence) → Contains (kid_before 1 2 n ++ []) o → IsValueIn narrow (s o))
        → IsValueIn narrow (last_width n s)
    go zero h = seven_in
    go (suc before) h = h (kid 1 before 2) (here_in (kid 1 before 2) [])

x_range : (m : ℕ) → KeepsRange narrow x_rule m
x_range zero kids s h = h (own 7) (here_in (own 7) [])
x_range (suc n) kids s h = sum_in narrow (plus (s (kid 1 n 1)) (s (kid 1 n 2))) (s (kid 1 (suc n) 3))

total_range : KeepsRange narrow total_rule 0
total_range kids s h =
    fold_keeps (IsValueIn narrow) (kids 1) (λ acc n. plus (plus acc (s (kid 1 n 2))) (s (own 7))) (number (pos 0)) zero_in
    (λ n below acc in_range. sum_in narrow (plus acc (s (kid 1 n 2))) (s (own 7)))

each_range : (w : RuleName) → IsRule notes w → RangeAt w
each_range =
    each_rule RangeAt
    ((λ kids s h. sum_in narrow (s (kid 0 0 5)) (number (pos 1))), (shift_range, (x_range, (total_range, ((λ kids s h. h (own 8) (here_in (own 8) [])), ((λ kids s h. h (own 9) (here_in (own 9) [])), ((λ kids s h. sum_in narrow (s (own 4)) (s (own 5))), tt)))))))

pub notes_lawful : IsLawful notes
notes_lawful =
    record {
      width = inl refl;
      root_known = lit< tt;
      interfaces_known = λ k known. known;
      children_known = λ k c known declared.
          elim (c == 0) as (λ b. (if b then 2 else 1) < 3) [ true ↦ lit< tt | false ↦ lit< tt ];
      numbering = refl;
      shared_sorts = λ i a owns. sorts (interface_owner i) a owns;
      root_sorts = each_in (λ a. notes.sort a ≢ inherited) (0 ∷ []) ((λ e. (let z : ⊥ = grind arith in z)), tt);
      private_sorts = λ k a owns. sorts (class_owner k) a owns;
      rules_are = rules_are;
      rules_have = rules_have;
      rules_once = rules_once;
      rules_by_class = search (rules, ordered_by_class);
      self_parts = λ k a rule. parts_allowed (for_self k a) rule;
      self_alone = λ k a rule. each_alone (for_self k a) rule;
      self_range = λ k a rule. each_range (for_self k a) rule;
      child_parts = λ k c a rule. parts_allowed (for_child k c a) rule;
      child_alone = λ k c a rule. each_alone (for_child k c a) rule;
      child_range = λ k c a rule. each_range (for_child k c a) rule;
    }
