-- The automatic schedule is found exactly where some schedule is ordered; else the chain is stuck.
use Rattle.std.proofs.Common.{◌⊎◌, ℕ, refl, sym, ◌∙◌, ap, subst, inl, inr, ⊎_elim, arith, List, [], ◌∷◌, Contains}
use Rattle.std.specs.List.{range_with_len}
use Rattle.ftl_model.specs.lists.Lists.{sorted_by}
use Rattle.ftl_model.proofs.lists.Elements.{distinct-filter, distinct-range, filter_has, here_in, in_filter, nothing_in}
use Rattle.ftl_model.proofs.lists.Sorted.{distinct-sorted, in_sorted, none_falls-sorted, sorted_has}
use Rattle.ftl_model.specs.layout.AttributeGrammar.{AttributeGrammar}
use Rattle.ftl_order.specs.orders.Lawful.{IsLawful}
use Rattle.ftl_order.specs.orders.Schedule.{Pass, PassKind, Schedule, bottomup, entries, inorder, topdown}
use Rattle.ftl_order.specs.automatic.Automatic.{IsAutomatic, IsChain, IsLeft, IsStuck, SomeScheduleIsOrdered}
use Rattle.ftl_order.specs.automatic.Fitting.{IsListOf}
use Rattle.ftl_order.proofs.automatic.Chains.{chain_end, chain_exists}
use Rattle.ftl_order.proofs.automatic.Missed.{IsUndone, below_range, in_range, is_undone, some_fits, test_undone}
use Rattle.ftl_order.proofs.automatic.Missed.{undone, undone_test}
use Rattle.ftl_order.proofs.automatic.Ones.{AllEmpty, chosen_empty}
use Rattle.ftl_order.proofs.automatic.Ordered.{automatic_ordered}
use Rattle.ftl_order.proofs.automatic.Turns.{cases_in}

-- the computed attributes that are no entries, in their order
abbrev left_of : AttributeGrammar → Schedule → List ℕ
left_of g s = sorted_by (λ a. a) (undone g (entries s))

module _ (g : AttributeGrammar) where
  left_undone : (s : Schedule) (a : ℕ) → Contains (left_of g s) a → IsUndone g (entries s) a
  left_undone s a h =
      let f = in_filter (is_undone g (entries s)) (range_with_len 0 g.attribute_count) a
      (in_sorted (λ b. b) (undone g (entries s)) a h) in
      test_undone g (entries s) a (below_range g.attribute_count a f.0) f.1

  left_has : (s : Schedule) (a : ℕ) → IsUndone g (entries s) a → Contains (left_of g s) a
  left_has s a h =
      sorted_has (λ b. b) (undone g (entries s)) a
      (filter_has (is_undone g (entries s)) (range_with_len 0 g.attribute_count) a (in_range g.attribute_count a h.0.0)
      (undone_test g (entries s) a h))

  left_is : (s : Schedule) → IsLeft g s (left_of g s)
  left_is s =
      record {
        distinct = distinct-sorted (λ a. a) (undone g (entries s))
            (distinct-filter (is_undone g (entries s)) (range_with_len 0 g.attribute_count)
            (distinct-range 0 g.attribute_count));
        ascending = none_falls-sorted (λ a. a) (undone g (entries s));
        computed = λ a h. (left_undone s a h).0;
        left_out = λ a h. (left_undone s a h).1;
        whole = λ a c. ⊎_elim (λ there. inl there) (λ out. inr (left_has s a (c, out))) (cases_in (entries s) a);
      }

  -- a chain that leaves nothing is an automatic schedule; else it is stuck
  sorted_out : (s : Schedule) → IsChain g s → (left : List ℕ) → IsLeft g s left
      → ((t : Schedule) × IsAutomatic g t) ⊎ ((xs : List ℕ) × IsStuck g xs)
  sorted_out s chain [] left =
      inl (
        s,
        record {
          chain = chain;
          whole = λ a c. ⊎_elim (λ there. there) (λ none. absurd (nothing_in a none)) (left.whole a c);
        },
      )
  sorted_out s chain (x ∷ xs) left =
      inr (
        x ∷ xs,
        record {
          passes = s;
          chain = chain;
          is_left = left;
          some = λ e. (let z : ⊥ = grind (arith, e) in z);
        },
      )

  pub one_of_both : IsLawful g → ((s : Schedule) × IsAutomatic g s) ⊎ ((left : List ℕ) × IsStuck g left)
  one_of_both law =
      let c = chain_exists g law in sorted_out c.0 c.1 (left_of g c.0) (left_is c.0)

  -- a list of one of the three kinds that is empty has all that fit
  none_taken : (done down up in_order : List ℕ) → IsListOf g topdown done down → IsListOf g bottomup done up
      → IsListOf g inorder done in_order → AllEmpty down up in_order → (kind : PassKind) → IsListOf g kind done []
  none_taken done down up in_order d u i e topdown = subst (IsListOf g topdown done) e.down_empty d
  none_taken done down up in_order d u i e bottomup = subst (IsListOf g bottomup done) e.up_empty u
  none_taken done down up in_order d u i e inorder = subst (IsListOf g inorder done) e.in_order_empty i

  -- where a schedule is ordered the chain isn't stuck
  never_stuck : IsLawful g → SomeScheduleIsOrdered g → (left : List ℕ) → IsStuck g left → ⊥
  never_stuck law some [] stuck = stuck.some refl
  never_stuck law some (a ∷ left) stuck =
      let e = chain_end g [] stuck.passes stuck.chain in
      let n = e.next in
      let new : IsUndone g e.all_done a = (
        stuck.is_left.computed a (here_in a left),
        (λ h. ⊎_elim (λ none. nothing_in a none) (λ there. stuck.is_left.left_out a (here_in a left) there)
            (e.known a h)),
      ) in
      let f = some_fits g law some.0 some.1 e.all_done a new in
      let empty = chosen_empty n.down n.up n.in_order (sym (ap (λ (p : Pass). p.attributes) n.is) ∙ e.empty) in
      nothing_in f.entry
      ((none_taken e.all_done n.down n.up n.in_order n.is_down n.is_up n.is_in_order empty f.kind).largest
      f.list f.fits f.entry f.there)

  pub found : IsLawful g → SomeScheduleIsOrdered g → (s : Schedule) × IsAutomatic g s
  found law some =
      ⊎_elim (λ h. h) (λ stuck. absurd (never_stuck law some stuck.0 stuck.1)) (one_of_both law)

  pub ordered_where_found : IsLawful g → ((s : Schedule) × IsAutomatic g s) → SomeScheduleIsOrdered g
  ordered_where_found law h = (h.0, automatic_ordered g h.0 law h.1)

  pub none_where_stuck : IsLawful g → ((left : List ℕ) × IsStuck g left) → SomeScheduleIsOrdered g → ⊥
  none_where_stuck law stuck some = never_stuck law some stuck.0 stuck.1

  pub stuck_where_none : IsLawful g → (SomeScheduleIsOrdered g → ⊥) → (left : List ℕ) × IsStuck g left
  stuck_where_none law none =
      ⊎_elim (λ h. absurd (none (ordered_where_found law h))) (λ stuck. stuck) (one_of_both law)
