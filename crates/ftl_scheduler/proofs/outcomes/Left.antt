-- The attributes that are left, number by number.
use Rattle.std.proofs.Common.{◌≡◌, ℕ, ◌+◌, ◌<◌, ◌≤◌, ◌&&◌, not, Bool, true, false, sym, ◌∙◌, ap, subst, inl, inr}
use Rattle.std.proofs.Common.{⊎_elim, arith, List, [], ◌∷◌, ◌++◌, length, Contains}
use Rattle.std.specs.FinSet as set
use Rattle.std.proofs.lemmas.Bool.{and_from, and_parts, cases_lt, false_from_ne_true, not-true, not_from_false, true≢false}
use Rattle.std.proofs.lemmas.List.Elements.{Contains-append_cases, Contains-append_left, Contains-append_right}
use Rattle.ftl_model.specs.lists.Lists.{NoneFalls}
use Rattle.ftl_model.proofs.lists.Elements.{distinct-append, here_in, in_cases, later_in, nothing_in}
use Rattle.ftl_model.specs.layout.AttributeGrammar.{AttributeGrammar}
use Rattle.ftl_order.specs.orders.Schedule.{Schedule, entries}
use Rattle.ftl_order.specs.automatic.Automatic.{IsAutomatic, IsChain, IsLeft, IsStuck}
use Rattle.ftl_order.proofs.automatic.Turns.{cases_in}
use Rattle.ftl_scheduler.specs.largest_sets.Rows.{Has, Row}
use Rattle.ftl_scheduler.specs.outcomes.ConstraintRows.{HasComputed, IsRowOf}
use Rattle.ftl_scheduler.specs.outcomes.Outcomes.{Passes}

falls_push : (xs : List ℕ) (n : ℕ) → NoneFalls (λ a. a) xs → ((a : ℕ) → Contains xs a → a ≤ n)
    → NoneFalls (λ a. a) (xs ++ n ∷ [])
falls_push [] n f most = ((λ y none. absurd (nothing_in y none)), tt)
falls_push (x ∷ xs) n f most = (
  (λ y h.
      ⊎_elim (λ here. f.0 y here)
      (λ last.
      ⊎_elim (λ same. let m = most x (here_in x xs) in omega (arith, m, same)) (λ none. absurd (nothing_in y none))
      (in_cases n y [] last))
      (Contains-append_cases xs (n ∷ []) y h)),
  falls_push xs n f.1 (λ a h. most a (later_in x a xs h)),
)

module _ (test : ℕ → Bool) where
  pub passes_none : (list : List ℕ) → list ≡ [] → Passes test 0 list
  passes_none list e =
      subst (Passes test 0) (sym e)
      (record {
        distinct = tt;
        ascending = tt;
        are = λ a. ((λ h. absurd (nothing_in a h)), (λ h. absurd (let less = h.0 in let z : ⊥ = omega (arith, less) in z)));
      })

  pub passes_push : (list new : List ℕ) (n : ℕ) → Passes test n list → test n ≡ true → new ≡ list ++ n ∷ []
      → Passes test (n + 1) new
  passes_push list new n p t e =
      subst (Passes test (n + 1)) (sym e)
      (record {
        distinct = distinct-append list (n ∷ []) p.distinct ((λ none. nothing_in n none), tt)
            (λ a here last.
            let less = ((p.are a).0 here).0 in
            ⊎_elim (λ same. let z : ⊥ = omega (arith, less, same) in z) (λ none. nothing_in a none) (in_cases n a [] last));
        ascending = falls_push list n p.ascending (λ a h. let less = ((p.are a).0 h).0 in omega (arith, less));
        are = λ a. (
          (λ h.
              ⊎_elim (λ here. let less = ((p.are a).0 here).0 in (omega (arith, less), ((p.are a).0 here).1))
              (λ last.
              ⊎_elim (λ same. (omega (arith, same), subst (λ b. test b ≡ true) same t)) (λ none. absurd (nothing_in a none))
              (in_cases n a [] last))
              (Contains-append_cases list (n ∷ []) a h)),
          (λ h.
              let below = h.0 in
              ⊎_elim (λ less. Contains-append_left list (n ∷ []) a ((p.are a).1 (less, h.1)))
              (λ more.
              let same : n ≡ a = omega (arith, below, more) in
              Contains-append_right list (n ∷ []) a (subst (Contains (n ∷ [])) same (here_in n [])))
              (cases_lt a n)),
        );
      })

  pub passes_skip : (list : List ℕ) (n : ℕ) → Passes test n list → test n ≡ false → Passes test (n + 1) list
  passes_skip list n p t =
      record {
        distinct = p.distinct;
        ascending = p.ascending;
        are = λ a. (
          (λ h. let less = ((p.are a).0 h).0 in (omega (arith, less), ((p.are a).0 h).1)),
          (λ h.
              let below = h.0 in
              ⊎_elim (λ less. (p.are a).1 (less, h.1))
              (λ more.
              let same : n ≡ a = omega (arith, below, more) in
              absurd (true≢false (sym h.1 ∙ subst (λ b. test b ≡ false) same t))) (cases_lt a n)),
        );
      }

module _ (g : AttributeGrammar) (all taken : Row) (size : ℕ) (known : (a : ℕ) → Has all a → a < size)
    (computed : HasComputed g all) (s : Schedule) (row : IsRowOf (entries s) taken) (chain : IsChain g s) (left : List ℕ)
    (p : Passes (λ a. set.contains all a && not (set.contains taken a)) size left) where
  is_left : IsLeft g s left
  is_left =
      record {
        distinct = p.distinct;
        ascending = p.ascending;
        computed = λ a h.
            (computed a).0 (and_parts (set.contains all a) (not (set.contains taken a)) ((p.are a).0 h).1).0;
        left_out = λ a h there.
            true≢false (sym ((row a).1 there)
            ∙ not-true (set.contains taken a)
            (and_parts (set.contains all a) (not (set.contains taken a)) ((p.are a).0 h).1).1);
        whole = λ a c.
            ⊎_elim (λ there. inl there)
            (λ out.
            inr ((p.are a).1 (
              known a ((computed a).1 c),
              and_from (set.contains all a) (not (set.contains taken a)) ((computed a).1 c)
                  (not_from_false (set.contains taken a)
                  (false_from_ne_true (set.contains taken a) (λ e. out ((row a).0 e)))),
            ))) (cases_in (entries s) a);
      }

  pub automatic_by : length left ≡ 0 → IsAutomatic g s
  automatic_by none = by left is_left none
    where
      by : (xs : List ℕ) → IsLeft g s xs → length xs ≡ 0 → IsAutomatic g s
      by [] l e =
          record {
            chain = chain;
            whole = λ a c. ⊎_elim (λ there. there) (λ none. absurd (nothing_in a none)) (l.whole a c);
          }
      by (x ∷ xs) l e = absurd (let z : ⊥ = omega (arith, e) in z)

  pub stuck_by : (length left ≡ 0 → ⊥) → IsStuck g left
  stuck_by some = record { passes = s; chain = chain; is_left = is_left; some = λ e. some (ap length e) }
