-- The grammars of the frame are lawful where each rule reads what it may.
use Rattle.std.proofs.Common.{◌≡◌, ◌≢◌, ◌⊎◌, ℕ, ◌<◌, ◌==◌, true, false, if◌then◌else◌, refl, inl, inr, lit<, arith, rules, List, [], ◌∷◌, map, pos, Contains}
use Rattle.std.specs.List.{AllByRecursion}
use Rattle.ftl_model.specs.lists.Lists.{AreDistinct}
use Rattle.ftl_model.proofs.lists.Elements.{each_in, here_in, nothing_in}
use Rattle.ftl_model.specs.layout.AttributeGrammar.{Occurrence, Parts, RuleName, for_child, for_self, inherited, input, local, plain, read_occurrences, synthesized}
use Rattle.ftl_model.specs.layout.Values.{IsValueIn, Value, narrow, number}
use Rattle.ftl_order.specs.orders.Lawful.{IsAlone, IsLawful, IsOwnSort, IsRule, KeepsRange, OfChild, OfClass, Owner, Owns, PartsForChild, PartsForSelf, class_owner, interface_owner}
use Rattle.ftl_order.proofs.orders.Bounded.{each_below}
use Rattle.ftl_order.proofs.orders.RuleOrder.{ordered_by_class}
use Rattle.ftl_noncircular.specs.grammars.Worked.{FrameParts, copying, first_value, frame_rules, framed}

-- ---- copying rules

first_same : (s t : Occurrence → Value) (os : List Occurrence) → ((o : Occurrence) → Contains os o → s o ≡ t o)
    → first_value (map s os) ≡ first_value (map t os)
first_same s t [] same = refl
first_same s t (o ∷ os) same = same o (here_in o os)

one_in : IsValueIn narrow (number (pos 1))
one_in = search rules

first_in : (s : Occurrence → Value) (os : List Occurrence)
    → ((o : Occurrence) → Contains os o → IsValueIn narrow (s o)) → IsValueIn narrow (first_value (map s os))
first_in s [] h = one_in
first_in s (o ∷ os) h = h o (here_in o os)

copying_alone : (parts : Parts) (k : ℕ) → IsAlone (copying parts) k
copying_alone parts k kids s t same = first_same s t (read_occurrences parts kids k) same

copying_range : (parts : Parts) (k : ℕ) → KeepsRange narrow (copying parts) k
copying_range parts k kids s h = first_in s (read_occurrences parts kids k) h

-- ---- the frame

inherited≢own : {X : Type 0} → IsOwnSort inherited → X
inherited≢own (inl e) = absurd (let z : ⊥ = grind (arith, e) in z)
inherited≢own (inr e) = absurd (let z : ⊥ = grind (arith, e) in z)

synthesized≢inherited : {X : Type 0} → synthesized ≡ inherited → X
synthesized≢inherited e = absurd (let z : ⊥ = grind (arith, e) in z)

inherited≢local : inherited ≢ local
inherited≢local = grind arith

synthesized≢local : synthesized ≢ local
synthesized≢local = grind arith

differ : (w : RuleName) (ws : List RuleName) → AllByRecursion (λ v. v ≢ w) ws → Contains ws w → ⊥
differ w ws h in_it = each_in (λ v. v ≢ w) ws h w in_it refl

rules_once : AreDistinct frame_rules
rules_once = search (rules, differ)

module _ (p : FrameParts) where
  -- each rule, in the order of the text
  pub each_rule : (P : RuleName → Type 0) → P (for_self 0 5) → P (for_child 0 0 0) → P (for_child 0 0 1)
      → P (for_child 0 1 3) → P (for_self 1 2) → P (for_self 2 4) → P (for_child 2 0 0) → P (for_child 2 0 1)
      → P (for_child 2 1 3) → P (for_child 2 2 3) → P (for_self 3 4) → (w : RuleName) → IsRule (framed p) w → P w
  each_rule P top_a top_x top_y top_i kid_z box_s box_x box_y left_i right_i leaf_s (for_self k a) rule =
      each_below (λ k. OfClass (framed p) k a → IsOwnSort ((framed p).sort a) → P (for_self k a)) 4 (
        each_in (λ a. IsOwnSort ((framed p).sort a) → P (for_self 3 a)) (3 ∷ 4 ∷ [])
            (inherited≢own, ((λ own. leaf_s), tt)) a,
        (
          each_in (λ a. IsOwnSort ((framed p).sort a) → P (for_self 2 a)) (3 ∷ 4 ∷ [])
              (inherited≢own, ((λ own. box_s), tt)) a,
          (
            each_in (λ a. IsOwnSort ((framed p).sort a) → P (for_self 1 a)) (0 ∷ 1 ∷ 2 ∷ [])
                (inherited≢own, (inherited≢own, ((λ own. kid_z), tt))) a,
            (each_in (λ a. IsOwnSort ((framed p).sort a) → P (for_self 0 a)) (5 ∷ []) ((λ own. top_a), tt) a, tt),
          ),
        ),
      ) k rule.0 rule.1 rule.2
  each_rule P top_a top_x top_y top_i kid_z box_s box_x box_y left_i right_i leaf_s (for_child k c a) rule =
      each_below
      (λ k. c < (framed p).child_count k → OfChild (framed p) k c a → (framed p).sort a ≡ inherited
      → P (for_child k c a)) 4 (
        (λ none. absurd (let z : ⊥ = omega (arith, none) in z)),
        (
          each_below (λ c. OfChild (framed p) 2 c a → (framed p).sort a ≡ inherited → P (for_child 2 c a)) 3 (
            each_in (λ a. (framed p).sort a ≡ inherited → P (for_child 2 2 a)) (3 ∷ 4 ∷ [])
                ((λ e. right_i), (synthesized≢inherited, tt)) a,
            (
              each_in (λ a. (framed p).sort a ≡ inherited → P (for_child 2 1 a)) (3 ∷ 4 ∷ [])
                  ((λ e. left_i), (synthesized≢inherited, tt)) a,
              (
                each_in (λ a. (framed p).sort a ≡ inherited → P (for_child 2 0 a)) (0 ∷ 1 ∷ 2 ∷ []) (
                  (λ e. box_x),
                  ((λ e. box_y), (synthesized≢inherited, tt)),
                ) a,
                tt,
              ),
            ),
          ) c,
          (
            (λ none. absurd (let z : ⊥ = omega (arith, none) in z)),
            (
              each_below (λ c. OfChild (framed p) 0 c a → (framed p).sort a ≡ inherited → P (for_child 0 c a)) 2 (
                each_in (λ a. (framed p).sort a ≡ inherited → P (for_child 0 1 a)) (3 ∷ 4 ∷ [])
                    ((λ e. top_i), (synthesized≢inherited, tt)) a,
                (
                  each_in (λ a. (framed p).sort a ≡ inherited → P (for_child 0 0 a)) (0 ∷ 1 ∷ 2 ∷ [])
                      ((λ e. top_x), ((λ e. top_y), (synthesized≢inherited, tt))) a,
                  tt,
                ),
              ) c,
              tt,
            ),
          ),
        ),
      ) k rule.0 rule.1 rule.2 rule.3

  rules_are : (w : RuleName) → Contains frame_rules w → IsRule (framed p) w
  rules_are =
      each_in (IsRule (framed p)) frame_rules (
        (lit< tt, (0, lit< tt, refl), inr refl),
        (
          (lit< tt, lit< tt, (0, lit< tt, refl), refl),
          (
            (lit< tt, lit< tt, (1, lit< tt, refl), refl),
            (
              (lit< tt, lit< tt, (0, lit< tt, refl), refl),
              (
                (lit< tt, (2, lit< tt, refl), inl refl),
                (
                  (lit< tt, (1, lit< tt, refl), inl refl),
                  (
                    (lit< tt, lit< tt, (0, lit< tt, refl), refl),
                    (
                      (lit< tt, lit< tt, (1, lit< tt, refl), refl),
                      (
                        (lit< tt, lit< tt, (0, lit< tt, refl), refl),
                        (
                          (lit< tt, lit< tt, (0, lit< tt, refl), refl),
                          ((lit< tt, (1, lit< tt, refl), inl refl), tt),
                        ),
                      ),
                    ),
                  ),
                ),
              ),
            ),
          ),
        ),
      )

  rules_have : (w : RuleName) → IsRule (framed p) w → Contains frame_rules w
  rules_have =
      each_rule (Contains frame_rules) (0, lit< tt, refl) (1, lit< tt, refl) (2, lit< tt, refl) (3, lit< tt, refl)
      (4, lit< tt, refl) (5, lit< tt, refl) (6, lit< tt, refl) (7, lit< tt, refl) (8, lit< tt, refl) (9, lit< tt, refl)
      (10, lit< tt, refl)

  -- each attribute that an owner has
  abbrev OwnerSort : Owner → ℕ → Type 0
  OwnerSort (interface_owner i) a = (framed p).sort a ≢ local
  OwnerSort (class_owner k) a = ((framed p).sort a ≡ input) ⊎ ((framed p).sort a ≡ local)

  sorts : (x : Owner) (a : ℕ) → Owns (framed p) x a → OwnerSort x a
  sorts (interface_owner i) a owns =
      each_below (λ i. Contains ((framed p).shared i) a → (framed p).sort a ≢ local) 3 (
        each_in (λ a. (framed p).sort a ≢ local) (3 ∷ 4 ∷ []) (inherited≢local, (synthesized≢local, tt)) a,
        (
          each_in (λ a. (framed p).sort a ≢ local) (0 ∷ 1 ∷ 2 ∷ [])
              (inherited≢local, (inherited≢local, (synthesized≢local, tt))) a,
          (each_in (λ a. (framed p).sort a ≢ local) [] tt a, tt),
        ),
      ) i owns.0 owns.1
  sorts (class_owner k) a owns =
      each_below
      (λ k. Contains ((framed p).private k) a → ((framed p).sort a ≡ input) ⊎ ((framed p).sort a ≡ local)) 4 (
        (λ h. absurd (nothing_in a h)),
        (
          (λ h. absurd (nothing_in a h)),
          (
            (λ h. absurd (nothing_in a h)),
            (each_in (λ a. ((framed p).sort a ≡ input) ⊎ ((framed p).sort a ≡ local)) (5 ∷ []) (inr refl, tt) a, tt),
          ),
        ),
      ) k owns.0 owns.1

  -- what a lawful grammar asks of the parts of a rule
  abbrev pub PartsAllowed : RuleName → Type 0
  PartsAllowed (for_self k a) = PartsForSelf (framed p) k ((framed p).self_rule k a).parts
  PartsAllowed (for_child k c a) = PartsForChild (framed p) k c ((framed p).child_rule k c a).parts

  pub frame_lawful : ((w : RuleName) → IsRule (framed p) w → PartsAllowed w) → IsLawful (framed p)
  frame_lawful allowed =
      record {
        width = inl refl;
        root_known = lit< tt;
        interfaces_known = each_below (λ k. (framed p).interface k < 3) 4
            (lit< tt, (lit< tt, (lit< tt, (lit< tt, tt))));
        children_known = λ k c known declared.
            elim (c == 0) as (λ b. (if b then 1 else 2) < 3) [ true ↦ lit< tt | false ↦ lit< tt ];
        numbering = refl;
        shared_sorts = λ i a owns. sorts (interface_owner i) a owns;
        root_sorts = λ a h e. nothing_in a h;
        private_sorts = λ k a owns. sorts (class_owner k) a owns;
        rules_are = rules_are;
        rules_have = rules_have;
        rules_once = rules_once;
        rules_by_class = search (rules, ordered_by_class);
        self_parts = λ k a rule. allowed (for_self k a) rule;
        self_alone = λ k a rule. copying_alone ((framed p).self_rule k a).parts 0;
        self_range = λ k a rule. copying_range ((framed p).self_rule k a).parts 0;
        child_parts = λ k c a rule. allowed (for_child k c a) rule;
        child_alone = λ k c a rule number. copying_alone ((framed p).child_rule k c a).parts number;
        child_range = λ k c a rule number. copying_range ((framed p).child_rule k c a).parts number;
      }

  -- a rule that reads nothing
  pub own_one : (k : ℕ) → PartsForSelf (framed p) k (plain [])
  own_one k r h = absurd (nothing_in r h)

  pub kid_one : (k c : ℕ) → PartsForChild (framed p) k c (plain [])
  kid_one k c r h = absurd (nothing_in r h)
