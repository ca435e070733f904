-- A grammar with two attributes that read each other is stuck at both.
use Rattle.std.proofs.Common.{◌≢◌, ◌⊎◌, ℕ, ◌<◌, refl, inl, inr, ⊎_elim, lit<, arith, List, [], ◌∷◌, Contains}
use Rattle.ftl_model.specs.lists.Lists.{place_in}
use Rattle.ftl_model.proofs.lists.Elements.{each_in, in_cases, nothing_in}
use Rattle.ftl_model.specs.layout.AttributeGrammar.{Part, Read, RuleName, for_child, for_self, plain_part, reads_in}
use Rattle.ftl_model.specs.layout.AttributeGrammar.{self_read}
use Rattle.ftl_model.specs.layout.Solves.{rule_named}
use Rattle.ftl_order.specs.orders.Lawful.{IsRule}
use Rattle.ftl_order.specs.orders.Ordered.{Row, visit_place}
use Rattle.ftl_order.specs.orders.Pairs.{same_class}
use Rattle.ftl_order.specs.orders.Schedule.{PassKind, bottomup, inorder, topdown}
use Rattle.ftl_order.proofs.orders.Bounded.{each_below}
use Rattle.ftl_order.proofs.orders.PartReads.{plain_reads}
use Rattle.ftl_order.specs.worked.WorkedSchedules.{pair_of}
use Rattle.ftl_order.specs.automatic.Automatic.{IsNext, IsStuck, pass_of_kind}
use Rattle.ftl_order.specs.automatic.Fitting.{Fits, HasAll, IsListOf, placing_after}
use Rattle.ftl_order.specs.automatic.WorkedGrammars.{circle}
use Rattle.ftl_order.proofs.automatic.ByHand.{fits_nothing, key_less, list_by, needed}
use Rattle.ftl_order.proofs.automatic.FitTests.{ascends, entries_fit}
use Rattle.ftl_order.proofs.automatic.WorkedStack.{some_entry}
use Rattle.ftl_order.proofs.automatic.WorkedSmall.{Differ, both, neither_in, one_other, zero_other}

circle_less : (done : List ℕ) (kind : PassKind) (list : List ℕ) (a b : ℕ) → a ≢ b
    → Row same_class kind (placing_after done kind list) (self_read a) (visit_place circle (for_self 0 a))
    (visit_place circle (for_self 0 b))
    → place_in list a < place_in list b
circle_less done topdown list a b other h =
    ⊎_elim
    (λ key. key_less done topdown list (visit_place circle (for_self 0 a)) (visit_place circle (for_self 0 b)) refl key)
    (λ rest. absurd (other rest.1.0)) h
circle_less done bottomup list a b other h =
    ⊎_elim
    (λ key. key_less done bottomup list (visit_place circle (for_self 0 a)) (visit_place circle (for_self 0 b)) refl key)
    (λ rest. absurd (other rest.1.0)) h
circle_less done inorder list a b other h =
    ⊎_elim
    (λ block.
    ⊎_elim (λ less. absurd (let z : ⊥ = omega (arith, less) in z))
    (λ same. let less = same.1 in absurd (let z : ⊥ = omega (arith, less) in z)) block)
    (λ rest.
    ⊎_elim
    (λ key. key_less done inorder list (visit_place circle (for_self 0 a)) (visit_place circle (for_self 0 b)) refl key)
    (λ prev. absurd (let z : ⊥ = grind (arith, prev) in z)) rest.1)
    h

-- by the number: 0, 1 and 2
each_of_three : (P : ℕ → Type 0) → P 0 → P 1 → P 2 → (a : ℕ) → a < 3 → P a
each_of_three P p q r a known = each_below P 3 (r, (q, (p, tt))) a known

-- where neither is done, no list has one of the two
module _ (kind : PassKind) (done other : List ℕ) (f : Fits circle kind done other) (out_0 : Contains done 0 → ⊥)
    (out_1 : Contains done 1 → ⊥) where
  circle_out : (a : ℕ) → a < 2 → Contains other a → Contains [] a
  circle_out =
      neither_in other
      (λ there.
      let n = needed circle kind done other f
      (pair_of (for_self 0 0) plain_part (self_read 1) same_class (for_self 0 1))
      (((lit< tt, (0, lit< tt, refl), inr refl), (0, lit< tt, refl)), (refl, refl)) out_1 there in
      (n.there, circle_less done kind other 1 0 one_other n.row))
      (λ there.
      let n = needed circle kind done other f
      (pair_of (for_self 0 1) plain_part (self_read 0) same_class (for_self 0 0))
      (((lit< tt, (1, lit< tt, refl), inr refl), (0, lit< tt, refl)), (refl, refl)) out_0 there in
      (n.there, circle_less done kind other 0 1 zero_other n.row))

abbrev only_c : List ℕ
only_c = 2 ∷ []

c_reads_nothing : (w : RuleName) → IsRule circle w → Contains only_c (visit_place circle w).attribute → (part : Part)
    (r : Read) → Contains (reads_in (rule_named circle w).parts part) r → ⊥
c_reads_nothing (for_self k a) rule there part r =
    each_in (λ b. Contains (reads_in (circle.self_rule k b).parts part) r → ⊥) only_c
    ((λ h. nothing_in r (plain_reads [] part r h).1), tt) a there
c_reads_nothing (for_child k c a) rule there part r =
    let known = rule.1 in absurd (let z : ⊥ = omega (arith, known) in z)

c_fits : (kind : PassKind) → Fits circle kind [] only_c
c_fits kind =
    let given = entries_fit circle [] only_c refl in
    record {
      distinct = given.distinct;
      computed = given.each;
      not_done = given.out;
      ordered = λ pair is there.
          absurd (c_reads_nothing pair.reader is.0.0 there pair.part pair.read is.0.1);
    }

c_alone : (kind : PassKind) (other : List ℕ) → Fits circle kind [] other → HasAll only_c other
c_alone kind other f a h =
    each_of_three (λ b. Contains other b → Contains only_c b)
    (λ there. absurd (nothing_in 0 (circle_out kind [] other f (nothing_in 0) (nothing_in 1) 0 (lit< tt) there)))
    (λ there. absurd (nothing_in 1 (circle_out kind [] other f (nothing_in 0) (nothing_in 1) 1 (lit< tt) there)))
    (λ there. (0, lit< tt, refl))
    a (f.computed a h).0 h

c_list : (kind : PassKind) → IsListOf circle kind [] only_c
c_list kind = list_by circle kind [] only_c (c_fits kind) (ascends only_c refl) (c_alone kind)

circle_next : IsNext circle [] (pass_of_kind topdown only_c)
circle_next =
    record {
      down = only_c;
      up = only_c;
      in_order = only_c;
      is_down = c_list topdown;
      is_up = c_list bottomup;
      is_in_order = c_list inorder;
      is = refl;
    }

neither_done : (a : ℕ) → Differ 2 a → Contains only_c a → ⊥
neither_done a other h = ⊎_elim other (λ none. nothing_in a none) (in_cases 2 a [] h)

none_more : (kind : PassKind) (other : List ℕ) → Fits circle kind only_c other → HasAll [] other
none_more kind other f a h =
    each_of_three (λ b. Contains other b → Contains [] b)
    (λ there. circle_out kind only_c other f out_0 out_1 0 (lit< tt) there)
    (λ there. circle_out kind only_c other f out_0 out_1 1 (lit< tt) there)
    (λ there. absurd (f.not_done 2 there (0, lit< tt, refl)))
    a (f.computed a h).0 h
  where
    out_0 : Contains only_c 0 → ⊥
    out_0 = neither_done 0 (λ e. (let z : ⊥ = omega (arith, e) in z))

    out_1 : Contains only_c 1 → ⊥
    out_1 = neither_done 1 (λ e. (let z : ⊥ = omega (arith, e) in z))

no_more : (kind : PassKind) → IsListOf circle kind only_c []
no_more kind = list_by circle kind only_c [] (fits_nothing circle kind only_c) tt (none_more kind)

circle_last : IsNext circle only_c (pass_of_kind inorder [])
circle_last =
    record {
      down = [];
      up = [];
      in_order = [];
      is_down = no_more topdown;
      is_up = no_more bottomup;
      is_in_order = no_more inorder;
      is = refl;
    }

pub circle_stuck : IsStuck circle both
circle_stuck =
    let given = entries_fit circle only_c both refl in
    record {
      passes = (pass_of_kind topdown only_c ∷ []) ∷ [];
      chain = (
        pass_of_kind topdown only_c,
        refl,
        circle_next,
        some_entry 2 [],
        (pass_of_kind inorder [], circle_last, refl),
      );
      is_left = record {
        distinct = given.distinct;
        ascending = ascends both refl;
        computed = given.each;
        left_out = given.out;
        whole = λ a c.
            each_of_three (λ b. Contains only_c b ⊎ Contains both b) (inr (0, lit< tt, refl)) (inr (1, lit< tt, refl))
            (inl (0, lit< tt, refl)) a c.0;
      };
      some = some_entry 0 (1 ∷ []);
    }
