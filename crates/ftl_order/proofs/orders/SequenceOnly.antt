-- The sequence of an inorder pass has no step but those of the pass, each once.
use Rattle.std.proofs.Common.{◌≡◌, ◌≢◌, ℕ, suc, ◌+◌, refl, sym, ◌∙◌, ap, subst, inl, inr, ⊎_elim, arith, List, [], ◌∷◌, ◌++◌, Contains, ℤ}
use Rattle.std.proofs.lemmas.List.Elements.{Contains-append_cases}
use Rattle.ftl_model.specs.lists.Lists.{AreDistinct}
use Rattle.ftl_model.proofs.lists.Elements.{nothing_in}
use Rattle.ftl_model.proofs.lists.Rising.{Rising, before_once}
use Rattle.ftl_model.specs.layout.AttributeGrammar.{AttributeGrammar, Sort, inherited, input, local, synthesized}
use Rattle.ftl_model.specs.layout.Path.{AtOrAbove, Has, Path, at as tree_at, class_at, down, one_more, top}
use Rattle.ftl_model.specs.layout.Solves.{Instance, instance_of, rule_node}
use Rattle.ftl_model.specs.layout.Tree.{Forest, IsTree, below_of, class_of, none, size, tree}
use Rattle.ftl_model.proofs.layout.Numbering.{Left, left_all, left_next, left_below, at-left}
use Rattle.ftl_order.specs.orders.LegalOrder.{IsStep, turn_of}
use Rattle.ftl_order.specs.orders.Schedule.{IsOnePass, Placing, SchedulePlace}
use Rattle.ftl_order.specs.orders.Sequence.{sequence_at, sequence_below, steps_at}
use Rattle.ftl_order.proofs.orders.SequenceAddresses.{is_keyed, steps_go}

pub rising_distinct : {X : Type 0} (R : X → X → Type 0) → ((x : X) → R x x → ⊥) → (xs : List X) → Rising R xs
    → AreDistinct xs
rising_distinct R never [] h = tt
rising_distinct R never (x ∷ xs) h = ((λ again. never x (h.0 x again)), rising_distinct R never xs h.1)

module _ (g : AttributeGrammar) (at : Placing) (x : SchedulePlace) (t : Forest) (r : Path) where
  -- a step of the pass that runs at this node or below it
  abbrev pub InPass : Instance → Type 0
  InPass i = IsStep g t i × IsOnePass (at i.attribute) x × AtOrAbove r (turn_of g i).visit

  -- the steps of one kind at a node
  steps_only : (sort : Sort) → sort ≢ input → (p : Path) → Has t p → AtOrAbove r (rule_node sort p) → (i : Instance)
      → Contains (steps_at g at x sort (class_at t p) p) i → InPass i
  steps_only sort computed p there below i h =
      let m = steps_go g at x sort (class_at t p) p i h in
      let k = is_keyed g at x sort (class_at t p) m.from m.there in
      subst InPass m.is (
        ((there, k.of), (λ e. computed (sym k.sort_is ∙ e))),
        k.pass,
        subst (λ s. AtOrAbove r (rule_node s p)) (sym k.sort_is) below,
      )

  inherited_computed : inherited ≢ input
  inherited_computed = grind arith

  local_computed : local ≢ input
  local_computed = grind arith

  synthesized_computed : synthesized ≢ input
  synthesized_computed = grind arith

  -- the steps of a kid that is a tree of this class
  kid_only : (sort : Sort) → sort ≢ input → (q : Path) (k : ℕ) → Has t q → class_at t q ≡ k
      → AtOrAbove r (rule_node sort q) → (i : Instance) → Contains (steps_at g at x sort k q) i → InPass i
  kid_only sort computed q k there is below i h =
      steps_only sort computed q there below i (subst (λ c. Contains (steps_at g at x sort c q) i) (sym is) h)

  pub below_only : (f : Forest) (p : Path) (seen : ℕ → ℕ) (passed : ℕ) → Left t p seen f passed → Has t p
      → AtOrAbove r p → (i : Instance) → Contains (sequence_below g at x p seen f) i → InPass i
  below_only none p seen passed left there below i h = absurd (nothing_in i h)
  below_only (tree k d ns b s) p seen passed left there below i h =
      let q = down d (seen d) p in
      let is : tree_at t q ≡ tree k d ns b s = at-left t p seen passed k d ns b s left in
      let here : Has t q = subst IsTree (sym is) tt in
      let class : class_at t q ≡ k = ap class_of is in
      let is_ = steps_at g at x inherited k q in
      let ls = steps_at g at x local k q in
      let bs = sequence_below g at x q (λ c. 0) b in
      let ss = steps_at g at x synthesized k q in
      let rs = sequence_below g at x p (one_more d seen) s in
      ⊎_elim (λ a. kid_only inherited inherited_computed q k here class below i a)
      (λ h. ⊎_elim (λ a. kid_only local local_computed q k here class (inr below) i a)
      (λ h. ⊎_elim (λ a. below_only b q (λ c. 0) 0 (left_below t p seen passed k d ns b s left) here (inr below) i a)
      (λ h. ⊎_elim (λ a. kid_only synthesized synthesized_computed q k here class (inr below) i a)
      (λ a. below_only s p (one_more d seen) (passed + suc (size b)) (left_next t p seen passed k d ns b s left) there
      below i a)
      (Contains-append_cases ss rs i h))
      (Contains-append_cases bs (ss ++ rs) i h))
      (Contains-append_cases ls (bs ++ (ss ++ rs)) i h))
      (Contains-append_cases is_ (ls ++ (bs ++ (ss ++ rs))) i h)

  -- the sequence at the node
  pub sequence_only : Has t r → (i : Instance) → Contains (sequence_at g at x t r) i → InPass i
  sequence_only there i h =
      let ls = steps_at g at x local (class_at t r) r in
      let bs = sequence_below g at x r (λ c. 0) (below_of (tree_at t r)) in
      let ss = steps_at g at x synthesized (class_at t r) r in
      ⊎_elim (λ a. steps_only local local_computed r there (inl refl) i a)
      (λ h. ⊎_elim (λ a. below_only (below_of (tree_at t r)) r (λ c. 0) 0 (left_all t r) there (inl refl) i a)
      (λ a. steps_only synthesized synthesized_computed r there (inl refl) i a)
      (Contains-append_cases bs ss i h))
      (Contains-append_cases ls (bs ++ ss) i h)
