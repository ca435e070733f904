-- The sequence of an inorder pass has the steps of each node of the tree.
use Rattle.std.proofs.Common.{◌≡◌, ◌⊎◌, ℕ, zero, suc, ◌+◌, ◌==◌, ◌&&◌, Bool, true, false, if◌then◌else◌, refl, sym, ◌∙◌, ap, subst, inl, inr, ⊎_elim, arith, eqb-true, eq-eqb, List, ◌++◌, filter, Contains}
use Rattle.std.proofs.lemmas.List.Elements.{Contains-append_left, Contains-append_right}
use Rattle.ftl_model.proofs.lists.Elements.{filter_has}
use Rattle.ftl_model.proofs.lists.Sorted.{sorted_has}
use Rattle.ftl_model.specs.layout.AttributeGrammar.{AttributeGrammar, Sort, attributes_of, inherited, input, local, synthesized}
use Rattle.ftl_model.specs.layout.Path.{AtOrAbove, Has, Path, at as tree_at, class_at, down, one_more, top}
use Rattle.ftl_model.specs.layout.Solves.{Instance}
use Rattle.ftl_model.specs.layout.Tree.{Forest, IsTree, below_of, class_of, from_kid, none, tree}
use Rattle.ftl_model.proofs.layout.Standing.{has_parent}
use Rattle.ftl_order.specs.orders.Lawful.{OfClass}
use Rattle.ftl_order.specs.orders.Schedule.{IsOnePass, Placing, SchedulePlace}
use Rattle.ftl_order.specs.orders.Sequence.{is_in_pass, is_same_sort, keyed, sequence_at, sequence_below, steps_at}

both_pass : (p q : Bool) → p ≡ true → q ≡ true → (p && q) ≡ true
both_pass true q a b = b
both_pass false q a b = absurd (let z : ⊥ = grind arith in z)

itself : (sort : Sort) → is_same_sort sort sort ≡ true
itself input = refl
itself inherited = refl
itself synthesized = refl
itself local = refl

module _ (g : AttributeGrammar) (at : Placing) (x : SchedulePlace) where
  pub keyed_has : (sort : Sort) (k a : ℕ) → g.sort a ≡ sort → OfClass g k a → IsOnePass (at a) x
      → Contains (keyed g at x sort k) a
  keyed_has sort k a e of pass =
      sorted_has (λ a. (at a).index)
      (filter (λ a. is_same_sort (g.sort a) sort && is_in_pass at x a) (attributes_of g k)) a
      (filter_has (λ a. is_same_sort (g.sort a) sort && is_in_pass at x a) (attributes_of g k) a of
      (both_pass (is_same_sort (g.sort a) sort) (is_in_pass at x a)
      (subst (λ s. is_same_sort s sort ≡ true) (sym e) (itself sort))
      (both_pass ((at a).stage == x.stage) ((at a).pass == x.pass) (eq-eqb (at a).stage x.stage pass.0)
      (eq-eqb (at a).pass x.pass pass.1))))

  -- the sequence of a node has this instance, and with what comes before its visit
  abbrev pub InVisit : Path → Forest → Instance → Type 0
  InVisit q f i =
      Contains (steps_at g at x local (class_of f) q) i
      ⊎ (Contains (sequence_below g at x q (λ c. 0) (below_of f)) i
      ⊎ Contains (steps_at g at x synthesized (class_of f) q) i)

  abbrev pub InKid : Path → Forest → Instance → Type 0
  InKid q f i = Contains (steps_at g at x inherited (class_of f) q) i ⊎ InVisit q f i

  first_kid : (class child : ℕ) (inputs : List _) (below beside : Forest) (p : Path) (seen : ℕ → ℕ) (i : Instance)
      → InKid (down child (seen child) p) (tree class child inputs below beside) i
      → Contains (sequence_below g at x p seen (tree class child inputs below beside)) i
  first_kid class child inputs below beside p seen i h =
      let q = down child (seen child) p in
      let is = steps_at g at x inherited class q in
      let ls = steps_at g at x local class q in
      let bs = sequence_below g at x q (λ c. 0) below in
      let ss = steps_at g at x synthesized class q in
      let rs = sequence_below g at x p (one_more child seen) beside in
      ⊎_elim (λ a. Contains-append_left is (ls ++ (bs ++ (ss ++ rs))) i a)
      (λ h. Contains-append_right is (ls ++ (bs ++ (ss ++ rs))) i
      (⊎_elim (λ a. Contains-append_left ls (bs ++ (ss ++ rs)) i a)
      (λ h. Contains-append_right ls (bs ++ (ss ++ rs)) i
      (⊎_elim (λ a. Contains-append_left bs (ss ++ rs) i a)
      (λ a. Contains-append_right bs (ss ++ rs) i (Contains-append_left ss rs i a)) h)) h)) h

  later_kid : (class child : ℕ) (inputs : List _) (below beside : Forest) (p : Path) (seen : ℕ → ℕ) (i : Instance)
      → Contains (sequence_below g at x p (one_more child seen) beside) i
      → Contains (sequence_below g at x p seen (tree class child inputs below beside)) i
  later_kid class child inputs below beside p seen i a =
      let q = down child (seen child) p in
      let is = steps_at g at x inherited class q in
      let ls = steps_at g at x local class q in
      let bs = sequence_below g at x q (λ c. 0) below in
      let ss = steps_at g at x synthesized class q in
      let rs = sequence_below g at x p (one_more child seen) beside in
      Contains-append_right is (ls ++ (bs ++ (ss ++ rs))) i
      (Contains-append_right ls (bs ++ (ss ++ rs)) i
      (Contains-append_right bs (ss ++ rs) i (Contains-append_right ss rs i a)))

  pub kid_in : (f : Forest) (p : Path) (seen : ℕ → ℕ) (c k n : ℕ) → n ≡ seen c + k → IsTree (from_kid c k f)
      → (i : Instance)
      → InKid (down c n p) (from_kid c k f) i → Contains (sequence_below g at x p seen f) i
  kid_in none p seen c k n e there i h = absurd there
  kid_in (tree class child inputs below beside) p seen c zero n e there i h =
      (elim (child == c) as
      (λ b. (child == c ≡ b) → IsTree (if b then tree class child inputs below beside else from_kid c zero beside)
      → InKid (down c n p) (if b then tree class child inputs below beside else from_kid c zero beside) i
      → Contains (sequence_below g at x p seen (tree class child inputs below beside)) i) [
        | true ↦ λ same there h.
            first_kid class child inputs below beside p seen i
            (subst (λ q. InKid q (tree class child inputs below beside) i)
            (ap (λ m. down c m p) (let z : n ≡ seen c = omega (arith, e) in z)
            ∙ ap (λ d. down d (seen d) p) (sym (eqb-true child c same)))
            h)
        | false ↦ λ other there h.
            later_kid class child inputs below beside p seen i
            (kid_in beside p (one_more child seen) c zero n
            (e ∙ ap (λ b. (if b then suc (seen c) else seen c) + 0) (sym other)) there i h)
      ])
      refl there h
  kid_in (tree class child inputs below beside) p seen c (suc k) n e there i h =
      (elim (child == c) as
      (λ b. (child == c ≡ b) → IsTree (if b then from_kid c k beside else from_kid c (suc k) beside)
      → InKid (down c n p) (if b then from_kid c k beside else from_kid c (suc k) beside) i
      → Contains (sequence_below g at x p seen (tree class child inputs below beside)) i) [
        | true ↦ λ same there h.
            later_kid class child inputs below beside p seen i
            (kid_in beside p (one_more child seen) c k n
            ((let z : n ≡ suc (seen c) + k = omega (arith, e) in z)
            ∙ ap (λ b. (if b then suc (seen c) else seen c) + k) (sym same)) there i h)
        | false ↦ λ other there h.
            later_kid class child inputs below beside p seen i
            (kid_in beside p (one_more child seen) c (suc k) n
            (e ∙ ap (λ b. (if b then suc (seen c) else seen c) + suc k) (sym other)) there i h)
      ])
      refl there h

  -- the sequence at a node has what its visit has
  in_own_visit : (t : Forest) (q : Path) (i : Instance) → InVisit q (tree_at t q) i → Contains (sequence_at g at x t q) i
  in_own_visit t q i h =
      let ls = steps_at g at x local (class_at t q) q in
      let bs = sequence_below g at x q (λ c. 0) (below_of (tree_at t q)) in
      let ss = steps_at g at x synthesized (class_at t q) q in
      ⊎_elim (λ a. Contains-append_left ls (bs ++ ss) i a)
      (λ h. Contains-append_right ls (bs ++ ss) i
      (⊎_elim (λ a. Contains-append_left bs ss i a) (λ a. Contains-append_right bs ss i a) h)) h

  -- and what the visit of each node below it has
  pub visit_in : (t : Forest) (r p : Path) → AtOrAbove r p → Has t p → (i : Instance) → InVisit p (tree_at t p) i
      → Contains (sequence_at g at x t r) i
  visit_in t r p (inl same) there i h =
      subst (λ q. Contains (sequence_at g at x t q) i) (sym same) (in_own_visit t p i h)
  visit_in t r top (inr above) there i h = absurd above
  visit_in t r (down c k p) (inr above) there i h =
      visit_in t r p above (has_parent t c k p there) i
      (inr (inl
      (kid_in (below_of (tree_at t p)) p (λ c. 0) c k k (let z : k ≡ 0 + k = omega arith in z) there i (inr h))))
