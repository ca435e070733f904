-- A number that rises from each step to those that it must precede, and so falls along the reads.
use Rattle.std.proofs.Common.{◌≡◌, ◌⊎◌, ℕ, suc, ◌+◌, ◌-◌, ◌<◌, ◌≤◌, refl, sym, ap, subst, inl, inr, ⊎_elim, arith, List, [], ◌∷◌, length, Contains}
use Rattle.ftl_model.specs.lists.Lists.{Before}
use Rattle.ftl_model.proofs.lists.Elements.{nothing_in}
use Rattle.ftl_model.proofs.lists.Listed.{listed}
use Rattle.ftl_model.proofs.lists.Weights.{all_below, at_most_total_of, before_weight, sum_of_all, total_by, weight}
use Rattle.ftl_model.specs.layout.AttributeGrammar.{AttributeGrammar, Sort, inherited, input, local, synthesized}
use Rattle.ftl_model.specs.layout.Path.{Above, Has, Path, at as tree_at, down, top}
use Rattle.ftl_model.specs.layout.Solves.{Instance, IsInstance, rule_node}
use Rattle.ftl_model.specs.layout.Table.{instances}
use Rattle.ftl_model.specs.layout.Tree.{Forest, below_of, size}
use Rattle.ftl_model.specs.layout.TreeOf.{IsTreeOf}
use Rattle.ftl_model.proofs.layout.Standing.{has_parent}
use Rattle.ftl_order.specs.orders.Lawful.{IsLawful}
use Rattle.ftl_order.specs.orders.LegalOrder.{FirstInPass, KeyFirst, PrecedesBy, Turn, TurnPrecedes, address, turn_of}
use Rattle.ftl_order.specs.orders.Ordered.{EachPairOrdered}
use Rattle.ftl_order.specs.orders.Reads.{FallsAlongReads, Reads, equation_reads}
use Rattle.ftl_order.specs.orders.Schedule.{PassKind, Placing, bottomup, inorder, topdown}
use Rattle.ftl_order.proofs.orders.Instances.{is_listed_instance}
use Rattle.ftl_order.proofs.orders.Kids.{below_size, kid_size}
use Rattle.ftl_order.proofs.orders.Precedence.{HasOneKind}
use Rattle.ftl_order.proofs.orders.DirectPrecedence.{reads_direct}
use Rattle.ftl_order.proofs.orders.Rows.{direct_precedes}
use Rattle.ftl_order.proofs.orders.TreeEquations.{inside_by}

abbrev pub depth_of : Path → ℕ
depth_of top = 0
depth_of (down c k p) = suc (depth_of p)

above_depth : (p q : Path) → Above p q → depth_of p < depth_of q
above_depth p top h = absurd h
above_depth p (down c k q) h =
    ⊎_elim (λ e. let z : depth_of p ≡ depth_of q = ap depth_of e in omega (arith, z))
    (λ above. let i = above_depth p q above in omega (arith, i)) h

depth_within : (t : Forest) (p : Path) → Has t p → depth_of p + size (tree_at t p) ≤ size t
depth_within t top h = omega arith
depth_within t (down c k p) h =
    let i = depth_within t p (has_parent t c k p h) in
    let a = kid_size c k (below_of (tree_at t p)) in
    let b = below_size (tree_at t p) (has_parent t c k p h) in
    omega (arith, i, a, b)

-- the digits of a turn in its pass
abbrev digits_in_pass : PassKind → Placing → ℕ → Turn → List ℕ
digits_in_pass topdown at n x =
    depth_of x.visit ∷ ((at x.rule.attribute).index ∷ (x.rule.child ∷ (x.kid ∷ [])))
digits_in_pass bottomup at n x =
    (n - depth_of x.visit) ∷ ((at x.rule.attribute).index ∷ (x.rule.child ∷ (x.kid ∷ [])))
digits_in_pass inorder at n x = address at x

abbrev digits : Placing → ℕ → Turn → List ℕ
digits at n x =
    (at x.rule.attribute).stage ∷ ((at x.rule.attribute).pass ∷ digits_in_pass (at x.rule.attribute).kind at n x)

key_digits : (at : Placing) (x y : Turn) → KeyFirst at x y
    → Before ((at x.rule.attribute).index ∷ (x.rule.child ∷ (x.kid ∷ [])))
    ((at y.rule.attribute).index ∷ (y.rule.child ∷ (y.kid ∷ [])))
key_digits at x y first =
    ⊎_elim (λ key. ⊎_elim (λ less. inl less) (λ same. inr (same.0, inl same.1)) key)
    (λ same. inr (ap (λ a. (at a).index) same.0.0, inr (same.0.1, inl same.1))) first

first_digits : (kind : PassKind) (at : Placing) (n : ℕ) (x y : Turn) → depth_of x.visit ≤ n → FirstInPass kind at x y
    → Before (digits_in_pass kind at n x) (digits_in_pass kind at n y)
first_digits topdown at n x y deep first =
    ⊎_elim (λ here. inr (ap depth_of here.0, key_digits at x y here.1))
    (λ above. inl (above_depth x.visit y.visit above)) first
first_digits bottomup at n x y deep first =
    ⊎_elim (λ here. inr (ap (λ p. n - depth_of p) here.0, key_digits at x y here.1))
    (λ above. inl
    (let d = above_depth y.visit x.visit above in let z : n - depth_of x.visit < n - depth_of y.visit = omega
    (arith, d, deep) in z))
    first
first_digits inorder at n x y deep first = first

precedes_digits : (at : Placing) → HasOneKind at → (n : ℕ) (x y : Turn) → depth_of x.visit ≤ n → TurnPrecedes at x y
    → Before (digits at n x) (digits at n y)
precedes_digits at one_kind n x y deep first =
    ⊎_elim (λ stage. inl stage)
    (λ here.
    inr (
      here.0.0,
      inr (
        here.0.1,
        subst (λ kind. Before (digits_in_pass kind at n x) (digits_in_pass (at y.rule.attribute).kind at n y))
            (sym (one_kind x.rule.attribute y.rule.attribute here.0))
            (first_digits (at y.rule.attribute).kind at n x y deep here.1),
      ),
    ))
    first

visit_there : (t : Forest) (sort : Sort) (p : Path) → Has t p → Has t (rule_node sort p)
visit_there t input p h = h
visit_there t inherited top h = h
visit_there t inherited (down c k p) h = has_parent t c k p h
visit_there t synthesized p h = h
visit_there t local p h = h

module _ (g : AttributeGrammar) (at : Placing) (t : Forest) where
  abbrev digits_of : Instance → List ℕ
  digits_of i = digits at (size t) (turn_of g i)

  abbrev base : ℕ
  base = suc (total_by (λ i. sum_of_all (digits_of i)) (instances g t))

  abbrev digit_count : ℕ
  digit_count = total_by (λ i. length (digits_of i)) (instances g t)

  abbrev pub step_rank : Instance → ℕ
  step_rank i = weight base digit_count (digits_of i)

  pub step_rises : HasOneKind at → (i j : Instance) → IsInstance g t i → PrecedesBy g at i j
      → step_rank i < step_rank j
  step_rises one_kind i j valid first =
      let listed = is_listed_instance g t i valid in
      let deep = depth_within t (turn_of g i).visit (visit_there t (g.sort i.attribute) i.node valid.0) in
      before_weight base digit_count (digits_of i) (digits_of j) (omega arith)
      (all_below base (digits_of i)
      (let z = at_most_total_of (λ x. sum_of_all (digits_of x)) (instances g t) i listed in omega (arith, z)))
      (at_most_total_of (λ x. length (digits_of x)) (instances g t) i listed)
      (precedes_digits at one_kind (size t) (turn_of g i) (turn_of g j) (omega (arith, deep)) first)

  -- inputs first, then the steps
  abbrev rank_by : Sort → Instance → ℕ
  rank_by input i = 0
  rank_by inherited i = suc (step_rank i)
  rank_by synthesized i = suc (step_rank i)
  rank_by local i = suc (step_rank i)

  abbrev pub read_rank : Instance → ℕ
  read_rank i = rank_by (g.sort i.attribute) i

  below_step : (sort : Sort) (j : Instance) (n : ℕ) → (sort ≡ input) ⊎ (step_rank j < n) → rank_by sort j < suc n
  below_step input j n h = omega arith
  below_step inherited j n h = ⊎_elim (λ e. absurd (let z : ⊥ = grind arith in z)) (λ less. omega (arith, less)) h
  below_step synthesized j n h = ⊎_elim (λ e. absurd (let z : ⊥ = grind arith in z)) (λ less. omega (arith, less)) h
  below_step local j n h = ⊎_elim (λ e. absurd (let z : ⊥ = grind arith in z)) (λ less. omega (arith, less)) h

  step_or_nothing : (sort : Sort) (i j : Instance) → g.sort i.attribute ≡ sort → Reads g t i j
      → rank_by sort i ≡ suc (step_rank i)
  step_or_nothing input i j e reads =
      absurd (nothing_in j (subst (λ s. Contains (equation_reads g t s i.node i.attribute) j) e reads))
  step_or_nothing inherited i j e reads = refl
  step_or_nothing synthesized i j e reads = refl
  step_or_nothing local i j e reads = refl

  pub rank_falls : HasOneKind at → IsLawful g → EachPairOrdered g at → IsTreeOf g t → FallsAlongReads g t read_rank
  rank_falls one_kind law pairs fits i j valid reads =
      let there = inside_by g law t fits (g.sort i.attribute) i.node i.attribute refl valid.0 valid.1 j reads in
      subst (λ n. read_rank j < n) (sym (step_or_nothing (g.sort i.attribute) i j refl reads))
      (below_step (g.sort j.attribute) j (step_rank i)
      (⊎_elim (λ e. inl e)
      (λ near. inr (step_rises one_kind j i there (direct_precedes g at j i near)))
      (reads_direct g law at t fits pairs i j valid reads)))
