-- The automatic schedules of small grammars: a tie, and an inorder pass.
use Rattle.std.proofs.Common.{◌≡◌, ◌≢◌, ◌⊎◌, ℕ, ◌<◌, refl, inl, inr, ⊎_elim, lit<, arith, List, [], ◌∷◌, Contains}
use Rattle.ftl_model.specs.lists.Lists.{place_in}
use Rattle.ftl_model.proofs.lists.Elements.{nothing_in}
use Rattle.ftl_model.specs.layout.AttributeGrammar.{Part, Read, RuleName, for_child, for_self, prev_read, reads_in}
use Rattle.ftl_model.specs.layout.AttributeGrammar.{then_part}
use Rattle.ftl_model.specs.layout.Solves.{rule_named}
use Rattle.ftl_order.specs.orders.Ordered.{Row, visit_place}
use Rattle.ftl_order.specs.orders.Pairs.{same_class}
use Rattle.ftl_order.specs.orders.Schedule.{PassKind, bottomup, inorder, topdown}
use Rattle.ftl_order.proofs.orders.Bounded.{each_below}
use Rattle.ftl_order.proofs.orders.PartReads.{plain_reads}
use Rattle.ftl_order.specs.worked.Chain.{a_reads_b, chain, chain_inorder}
use Rattle.ftl_order.specs.worked.WorkedSchedules.{pair_of}
use Rattle.ftl_order.proofs.worked.ChainLaws.{chain_lawful}
use Rattle.ftl_order.specs.automatic.Automatic.{IsAutomatic, IsNext, pass_of_kind}
use Rattle.ftl_order.specs.automatic.Fitting.{Fits, HasAll, IsListOf, placing_after}
use Rattle.ftl_order.specs.automatic.WorkedGrammars.{both_topdown, free}
use Rattle.ftl_order.proofs.automatic.ByHand.{fits_nothing, key_less, list_by, needed, nothing_left}
use Rattle.ftl_order.proofs.automatic.FitTests.{ascends, entries_fit, fits_by_test}
use Rattle.ftl_order.proofs.automatic.WorkedStack.{some_entry}

abbrev pub both : List ℕ
both = 0 ∷ (1 ∷ [])

-- by the number: 0 and 1
pub each_of_two : (P : ℕ → Type 0) → P 0 → P 1 → (a : ℕ) → a < 2 → P a
each_of_two P p q a known = each_below P 2 (q, (p, tt)) a known

-- each has its writer earlier in the list, so neither is in it
pub neither_in : (list : List ℕ) → (Contains list 0 → Contains list 1 × (place_in list 1 < place_in list 0))
    → (Contains list 1 → Contains list 0 × (place_in list 0 < place_in list 1)) → (a : ℕ) → a < 2
    → Contains list a → Contains [] a
neither_in list f s a known =
    each_of_two (λ b. Contains list b → Contains [] b)
    (λ h. let x = f h in let y = s x.0 in let p = x.1 in let q = y.1 in absurd (let z : ⊥ = omega (arith, p, q) in z))
    (λ h. let y = s h in let x = f y.0 in let p = x.1 in let q = y.1 in absurd (let z : ⊥ = omega (arith, p, q) in z))
    a known

abbrev pub Differ : ℕ → ℕ → Type 0
Differ a b = a ≢ b

pub zero_other : Differ 0 1
zero_other e = let z : ⊥ = omega (arith, e) in z

pub one_other : Differ 1 0
one_other e = let z : ⊥ = omega (arith, e) in z

-- ---- a tie

no_reads : (w : RuleName) (part : Part) (r : Read) → Contains (reads_in (rule_named free w).parts part) r → ⊥
no_reads (for_self k a) part r h = nothing_in r (plain_reads [] part r h).1
no_reads (for_child k c a) part r h = nothing_in r (plain_reads [] part r h).1

free_fits : (kind : PassKind) → Fits free kind [] both
free_fits kind =
    let given = entries_fit free [] both refl in
    record {
      distinct = given.distinct;
      computed = given.each;
      not_done = given.out;
      ordered = λ pair is there. absurd (no_reads pair.reader pair.part pair.read is.0.1);
    }

free_list : (kind : PassKind) → IsListOf free kind [] both
free_list kind =
    list_by free kind [] both (free_fits kind) (ascends both refl)
    (λ other f a h. each_of_two (Contains both) (0, lit< tt, refl) (1, lit< tt, refl) a (f.computed a h).0)

free_next : IsNext free [] (pass_of_kind topdown both)
free_next =
    record {
      down = both;
      up = both;
      in_order = both;
      is_down = free_list topdown;
      is_up = free_list bottomup;
      is_in_order = free_list inorder;
      is = refl;
    }

free_done : (kind : PassKind) → IsListOf free kind both []
free_done kind =
    nothing_left free kind both
    (λ a c. each_of_two (Contains both) (0, lit< tt, refl) (1, lit< tt, refl) a c.0)

free_last : IsNext free both (pass_of_kind inorder [])
free_last =
    record {
      down = [];
      up = [];
      in_order = [];
      is_down = free_done topdown;
      is_up = free_done bottomup;
      is_in_order = free_done inorder;
      is = refl;
    }

pub free_automatic : IsAutomatic free both_topdown
free_automatic =
    record {
      chain = (
        pass_of_kind topdown both,
        refl,
        free_next,
        some_entry 0 (1 ∷ []),
        (pass_of_kind inorder [], free_last, refl),
      );
      whole = λ a c. each_of_two (Contains both) (0, lit< tt, refl) (1, lit< tt, refl) a c.0;
    }

-- ---- an inorder pass

chain_key : (kind : PassKind) (list : List ℕ) (a b : ℕ) → a ≢ b → (kind ≡ topdown) ⊎ (kind ≡ bottomup)
    → Row same_class kind (placing_after [] kind list) (prev_read 0 a) (visit_place chain (for_child 0 0 a))
    (visit_place chain (for_child 0 0 b))
    → place_in list a < place_in list b
chain_key topdown list a b other is h =
    ⊎_elim
    (λ key. key_less [] topdown list (visit_place chain (for_child 0 0 a)) (visit_place chain (for_child 0 0 b)) refl key)
    (λ rest. absurd (other rest.1.0)) h
chain_key bottomup list a b other is h =
    ⊎_elim
    (λ key. key_less [] bottomup list (visit_place chain (for_child 0 0 a)) (visit_place chain (for_child 0 0 b)) refl key)
    (λ rest. absurd (other rest.1.0)) h
chain_key inorder list a b other is h =
    ⊎_elim (λ e. absurd (let z : ⊥ = grind (arith, e) in z)) (λ e. absurd (let z : ⊥ = grind (arith, e) in z)) is

chain_none : (kind : PassKind) → (kind ≡ topdown) ⊎ (kind ≡ bottomup) → (other : List ℕ) → Fits chain kind [] other
    → HasAll [] other
chain_none kind is other f a h =
    neither_in other
    (λ there.
    let n = needed chain kind [] other f a_reads_b
    (((lit< tt, lit< tt, (0, lit< tt, refl), refl), (0, lit< tt, refl)), (refl, refl)) (λ none. nothing_in 1 none) there
    in
    (n.there, chain_key kind other 1 0 one_other is n.row))
    (λ there.
    let n = needed chain kind [] other f
    (pair_of (for_child 0 0 1) then_part (prev_read 0 0) same_class (for_child 0 0 0))
    (((lit< tt, lit< tt, (1, lit< tt, refl), refl), (0, lit< tt, refl)), (refl, refl)) (λ none. nothing_in 0 none) there
    in
    (n.there, chain_key kind other 0 1 zero_other is n.row))
    a (f.computed a h).0 h

chain_next : IsNext chain [] (pass_of_kind inorder both)
chain_next =
    record {
      down = [];
      up = [];
      in_order = both;
      is_down = list_by chain topdown [] [] (fits_nothing chain topdown []) tt (chain_none topdown (inl refl));
      is_up = list_by chain bottomup [] [] (fits_nothing chain bottomup []) tt (chain_none bottomup (inr refl));
      is_in_order = list_by chain inorder [] both (fits_by_test chain chain_lawful inorder [] both refl refl)
          (ascends both refl)
          (λ other f a h. each_of_two (Contains both) (0, lit< tt, refl) (1, lit< tt, refl) a (f.computed a h).0);
      is = refl;
    }

chain_done : (kind : PassKind) → IsListOf chain kind both []
chain_done kind =
    nothing_left chain kind both
    (λ a c. each_of_two (Contains both) (0, lit< tt, refl) (1, lit< tt, refl) a c.0)

chain_last : IsNext chain both (pass_of_kind inorder [])
chain_last =
    record {
      down = [];
      up = [];
      in_order = [];
      is_down = chain_done topdown;
      is_up = chain_done bottomup;
      is_in_order = chain_done inorder;
      is = refl;
    }

pub chain_automatic : IsAutomatic chain chain_inorder
chain_automatic =
    record {
      chain = (
        pass_of_kind inorder both,
        refl,
        chain_next,
        some_entry 0 (1 ∷ []),
        (pass_of_kind inorder [], chain_last, refl),
      );
      whole = λ a c. each_of_two (Contains both) (0, lit< tt, refl) (1, lit< tt, refl) a c.0;
    }
