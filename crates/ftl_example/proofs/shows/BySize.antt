-- The size says whether there is an example.
use Rattle.std.proofs.Common.{◌≡◌, ℕ, ◌<◌, ◌≤◌, refl, sym, ◌∙◌, ap, ap₂, inl, inr, ⊎_elim, arith, List, Option, None, Some}
use native.Mathlib.Decide.{ℕ_discrete}
use Rattle.ftl_model.specs.lists.Lists.{StandsBefore}
use Rattle.ftl_model.specs.layout.Tree.{Forest, size}
use Rattle.ftl_model.specs.layout.TreeOf.{IsTreeOf}
use Rattle.ftl_model.specs.layout.Path.{Path, down, top}
use Rattle.ftl_model.specs.layout.AttributeGrammar.{AttributeGrammar}
use Rattle.ftl_model.specs.layout.Solves.{Instance, instance_of}
use Rattle.ftl_order.specs.orders.Lawful.{IsLawful}
use Rattle.ftl_order.specs.orders.LegalOrder.{IsLegalOrder, MustPrecede, turn_of}
use Rattle.ftl_order.specs.orders.Ordered.{IsOrderedPair}
use Rattle.ftl_order.specs.orders.Pairs.{IsPair, Pair}
use Rattle.ftl_order.specs.orders.Schedule.{Schedule, placing_of}
use Rattle.ftl_order.proofs.orders.LegalOrders.{placing_of-one_kind}
use Rattle.ftl_order.proofs.orders.OrderRank.{step_rank, step_rises}
use Rattle.ftl_order.proofs.orders.Precedence.{Decided, precede_chain, precede_decided}
use Rattle.ftl_example.specs.shows.Examples.{AllAreLarger, HasExample, NoneShows, ShowsPair, SizeSays}
use Rattle.ftl_example.specs.sizes.Place.{example_size}
use Rattle.ftl_example.proofs.sizes.ExampleSize.{none_smaller, some_so}
use Rattle.ftl_example.proofs.shows.ShownRows.{shown_ordered}
use Rattle.ftl_example.proofs.shows.WrongOrder.{wrong_order}

both : {P Q : Type 0} → Decided P → Decided Q → Decided (P × Q)
both (inl p) (inl q) = inl (p, q)
both (inl p) (inr no_q) = inr (λ h. no_q h.1)
both (inr no_p) q = inr (λ h. no_p h.0)

equal_decided : (m n : ℕ) → Decided (m ≡ n)
equal_decided m n = go (ℕ_discrete m n)
  where
    go : Dec (m ≡ n) → Decided (m ≡ n)
    go (yes e) = inl e
    go (no differ) = inr differ

down_parts : (c k d n : ℕ) (p q : Path) → down c k p ≡ down d n q → (c ≡ d) × ((k ≡ n) × (p ≡ q))
down_parts c k d n p q e = (cc e, (cc e, cc e))

path_decided : (p q : Path) → Decided (p ≡ q)
path_decided top top = inl refl
path_decided top (down d n q) = inr (λ e. (let z : ⊥ = grind (arith, e) in z))
path_decided (down c k p) top = inr (λ e. (let z : ⊥ = grind (arith, e) in z))
path_decided (down c k p) (down d n q) =
    ⊎_elim (λ same. inl (ap (λ x. down x k p) same.0 ∙ ap (λ x. down d x p) same.1.0 ∙ ap (down d n) same.1.1))
    (λ differ. inr (λ e. differ (down_parts c k d n p q e)))
    (both (equal_decided c d) (both (equal_decided k n) (path_decided p q)))

same_instance : (i j : Instance) → Decided (i ≡ j)
same_instance i j =
    ⊎_elim (λ h. inl (ap₂ (λ p a. instance_of p a) h.0 h.1))
    (λ differ. inr (λ e. differ (ap (λ (x : Instance). x.node) e, ap (λ (x : Instance). x.attribute) e)))
    (both (path_decided i.node j.node) (equal_decided i.attribute j.attribute))

some_same : (a b : ℕ) → Some a ≡ Some b → a ≡ b
some_same a b e = grind arith

module _ (g : AttributeGrammar) (s : Schedule) (law : IsLawful g) where
  pub goes_wrong : (t : Forest) → IsTreeOf g t → (r w : Instance) → (MustPrecede g t s w r → ⊥)
      → (order : List Instance) × IsLegalOrder g t s order × (StandsBefore order w r → ⊥)
  goes_wrong t fits r w free =
      wrong_order g t law fits (MustPrecede g t s)
      (λ i j k. precede_chain (placing_of s) (placing_of-one_kind s) (turn_of g i) (turn_of g j) (turn_of g k))
      (λ i j. precede_decided (placing_of s) (turn_of g i) (turn_of g j))
      same_instance (step_rank g (placing_of s) t) (λ i j step. step_rises g (placing_of s) t (placing_of-one_kind s) i j step.0) r w
      free

  module _ (pair : Pair) (most : ℕ) (is : IsPair g pair) (unordered : IsOrderedPair g (placing_of s) pair → ⊥) where
    none_shows : example_size g pair ≡ None → NoneShows g pair
    none_shows e t shows =
        let l = none_smaller g law pair is t shows in
        let f : None ≡ Some l.0 = sym e ∙ l.1 in let z : ⊥ = grind arith in z

    least_of : (n : ℕ) → example_size g pair ≡ Some n → (u : Forest) → ShowsPair g pair u → n ≤ size u
    least_of n e u shows =
        let l = none_smaller g law pair is u shows in
        let same = some_same n l.0 (sym e ∙ l.1) in let m = l.2 in omega (arith, same, m)

    within : (n : ℕ) → example_size g pair ≡ Some n → n ≤ most → HasExample g s pair most
    within n e le =
        let x = some_so g law pair is n e in
        let t = x.0 in let r = x.3.0 in let w = x.3.1 in
        let o = goes_wrong t x.1 r w
        (λ first. unordered (shown_ordered g law (placing_of s) t x.1 pair r w is x.3.2 first)) in
        let nodes = x.4 in (
          t,
          r,
          w,
          o.0,
          record {
            tree = x.1;
            bare = x.2;
            shows = x.3.2;
            fewest = λ u shows. let l = least_of n e u shows in omega (arith, l, nodes);
            legal = o.1;
            wrong = o.2;
          },
          omega (arith, le, nodes),
        )

    beyond : (n : ℕ) → example_size g pair ≡ Some n → most < n → AllAreLarger g pair most
    beyond n e less =
        let x = some_so g law pair is n e in (
          (x.0, (x.1, x.3)),
          (λ t shows. let l = least_of n e t shows in omega (arith, less, l)),
        )

    pub by_size : SizeSays g s pair most (example_size g pair)
    by_size = go (example_size g pair) refl
      where
        go : (o : Option ℕ) → example_size g pair ≡ o → SizeSays g s pair most o
        go None e = none_shows e
        go (Some n) e = (within n e, beyond n e)
