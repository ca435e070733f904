-- Trees with other inputs: what stays, and where their inputs stand among those of all nodes.
use Rattle.std.proofs.Common.{◌≡◌, ℕ, zero, suc, ◌+◌, ◌-◌, ◌<◌, Bool, true, false, eqb, if◌then◌else◌, List, [], ◌∷◌}
use Rattle.std.proofs.Common.{◌++◌, ℤ, length, get_or, map, take, flat_map, refl, sym, ap, ap₂, ◌∙◌, subst, arith}
use Rattle.std.proofs.Common.{length-append}
use Rattle.std.specs.Prelude.{slice_set, ◌==◌}
use Rattle.std.proofs.lemmas.List.{get_or-map, length-map, length-set, set-append_left, set-append_right, take-map}
use Rattle.std.proofs.lemmas.List.Folds.{flat_map-map}
use Rattle.std.proofs.lemmas.Bool.{eq-eqb, ne_eqb}
use Rattle.ftl_model.specs.layout.AttributeGrammar.{AttributeGrammar}
use Rattle.ftl_model.specs.layout.Inputs.{IsSameButInputs}
use Rattle.ftl_model.specs.layout.Path.{Has, Path, inputs_at, node_at, number_of, preorder, top}
use Rattle.ftl_model.specs.layout.Shape.{Shape, shape, shapes}
use Rattle.ftl_model.specs.layout.ShapeLaws.{length-shapes}
use Rattle.ftl_model.specs.layout.Tree.{Forest, count_in, none, size, tree}
use Rattle.ftl_model.specs.layout.TreeOf.{AreInputs, FitBelow, FitsClass, IsInput, IsTreeOf, StartsFrom}
use Rattle.ftl_model.proofs.layout.Numbering.{length-preorder}
use Rattle.ftl_model.proofs.layout.SameTrees.{same_preorder}
use Rattle.ftl_model.proofs.layout.Standing.{node_at-number_of, number_of-lt}
use Rattle.ftl_tree.specs.rows.Rows.{all_inputs}
use Rattle.ftl_tree.proofs.rows.Access.{size-one}
use Rattle.ftl_tree.proofs.rows.Shapes.{shape_at, shapes-preorder}
use Rattle.ftl_model.specs.layout.WithInput.{changed, with_inputs}

abbrev Change : Type 0
Change = ℕ → List ℤ → List ℤ

-- as many numbers as before
abbrev pub KeepsLengths : Change → Type 0
KeepsLengths h = (m : ℕ) (xs : List ℤ) → length (h m xs) ≡ length xs

-- numbers of the same width as before
abbrev pub KeepsWidth : ℕ → Change → Type 0
KeepsWidth greatest h = (m : ℕ) (xs : List ℤ) → AreInputs greatest xs → AreInputs greatest (h m xs)

module _ (h : Change) where
  pub size-changed : (m : ℕ) (t : Forest) → size (with_inputs h m t) ≡ size t
  size-changed m none = refl
  size-changed m (tree k d i b s) = ap₂ (λ x y. suc (x + y)) (size-changed (suc m) b) (size-changed (suc m + size b) s)

  count-changed : (c m : ℕ) (t : Forest) → count_in c (with_inputs h m t) ≡ count_in c t
  count-changed c m none = refl
  count-changed c m (tree k d i b s) = ap (λ n. if eqb d c then suc n else n) (count-changed c (suc m + size b) s)

  starts-changed : (c m : ℕ) (t : Forest) → StartsFrom c t → StartsFrom c (with_inputs h m t)
  starts-changed c m none is = is
  starts-changed c m (tree k d i b s) is = is

  pub same-changed : KeepsLengths h → (m : ℕ) (t : Forest) → IsSameButInputs t (with_inputs h m t)
  same-changed long m none = tt
  same-changed long m (tree k d i b s) =
      (refl, refl, sym (long m i), same-changed long (suc m) b, same-changed long (suc m + size b) s)

  module _ (g : AttributeGrammar) (long : KeepsLengths h) (fit : KeepsWidth g.greatest h) where
    class-changed : (m k : ℕ) (i : List ℤ) (b : Forest) → FitsClass g k i b
        → FitsClass g k (h m i) (with_inputs h (suc m) b)
    class-changed m k i b f = record {
      known = f.known;
      count = long m i ∙ f.count;
      numbers = fit m i f.numbers;
      singles = λ c within single. count-changed c (suc m) b ∙ f.singles c within single;
    }

    below-changed : (above m : ℕ) (t : Forest) → FitBelow g above t → FitBelow g above (with_inputs h m t)
    below-changed above m none f = tt
    below-changed above m (tree k d i b s) f = (
      f.0,
      class-changed m k i b f.1,
      below-changed k (suc m) b f.2,
      starts-changed d (suc m + size b) s f.3,
      below-changed above (suc m + size b) s f.4,
    )

    pub tree-changed : (t : Forest) → IsTreeOf g t → IsTreeOf g (with_inputs h 0 t)
    tree-changed none f = f
    tree-changed (tree k d i b s) f =
        (f.0, class-changed 0 k i b f.1, below-changed k 1 b f.2, f.3, ap (with_inputs h (1 + size b)) f.4)

  -- ---- nodes side by side

  abbrev pub renumbered : ℕ → List Shape → List Shape
  renumbered m [] = []
  renumbered m (s ∷ ss) = shape s.class s.child (h m s.inputs) s.below ∷ renumbered (suc m) ss

  renumbered-append : (m : ℕ) (xs ys : List Shape)
      → renumbered m (xs ++ ys) ≡ renumbered m xs ++ renumbered (m + length xs) ys
  renumbered-append m [] ys = ap (λ n. renumbered n ys) (let z : m ≡ m + 0 = omega arith in z)
  renumbered-append m (x ∷ xs) ys =
      ap (λ l. shape x.class x.child (h m x.inputs) x.below ∷ l)
      (renumbered-append (suc m) xs ys
      ∙ ap (λ n. renumbered (suc m) xs ++ renumbered n ys)
      (let z : suc m + length xs ≡ m + suc (length xs) = omega arith in z))

  pub shapes-changed : (m : ℕ) (t : Forest) → shapes (with_inputs h m t) ≡ renumbered m (shapes t)
  shapes-changed m none = refl
  shapes-changed m (tree k d i b s) =
      ap (λ n. (shape k d (h m i) n ∷ shapes (with_inputs h (suc m) b)) ++ shapes (with_inputs h (suc m + size b) s))
      (size-changed (suc m) b)
      ∙ ap₂ (λ xs ys. (shape k d (h m i) (size b) ∷ xs) ++ ys) (shapes-changed (suc m) b)
      (shapes-changed (suc m + size b) s)
      ∙ ap (λ n. shape k d (h m i) (size b) ∷ (renumbered (suc m) (shapes b) ++ renumbered (suc m + n) (shapes s)))
      (sym (length-shapes b))
      ∙ ap (λ l. shape k d (h m i) (size b) ∷ l) (sym (renumbered-append (suc m) (shapes b) (shapes s)))

  get_or-renumbered : (m i : ℕ) (xs : List Shape) (d : Shape) → i < length xs
      → (get_or (renumbered m xs) i d).inputs ≡ h (m + i) (get_or xs i d).inputs
  get_or-renumbered m i [] d within = absurd (omega (arith, within))
  get_or-renumbered m zero (x ∷ xs) d within = ap (λ n. h n x.inputs) (let z : m ≡ m + 0 = omega arith in z)
  get_or-renumbered m (suc i) (x ∷ xs) d within =
      get_or-renumbered (suc m) i xs d (omega (arith, within))
      ∙ ap (λ n. h n (get_or xs i d).inputs) (let z : suc m + i ≡ m + suc i = omega arith in z)

  -- each node has what the change makes of its inputs
  pub inputs_at-changed : (g : AttributeGrammar) (t : Forest) → IsTreeOf g t → IsTreeOf g (with_inputs h 0 t)
      → KeepsLengths h → (p : Path) → Has t p
      → inputs_at (with_inputs h 0 t) p ≡ h (number_of t p) (inputs_at t p)
  inputs_at-changed g t is is' long p has =
      let u = with_inputs h 0 t in
      let d = shape 0 0 [] 0 in
      let n = number_of t p in
      let ps = preorder t in
      let within : n < length ps = omega (arith, number_of-lt t p has, length-preorder t) in
      let at : get_or ps n top ≡ p = node_at-number_of t p has in
      let before : get_or (shapes t) n d ≡ shape_at t p =
      ap (λ xs. get_or xs n d) (shapes-preorder g t is) ∙ get_or-map (shape_at t) ps n top d within
      ∙ ap (shape_at t) at in
      let after : get_or (shapes u) n d ≡ shape_at u p =
      ap (λ xs. get_or xs n d) (shapes-preorder g u is')
      ∙ ap (λ qs. get_or (map (shape_at u) qs) n d) (sym (same_preorder t u (same-changed long 0 t)))
      ∙ get_or-map (shape_at u) ps n top d within ∙ ap (shape_at u) at in
      let many : n < length (shapes t) =
      omega (arith, within, ap length (shapes-preorder g t is), length-map ps (shape_at t)) in
      ap (λ (s : Shape). s.inputs) (sym after)
      ∙ ap (λ xs. (get_or xs n d).inputs) (shapes-changed 0 t)
      ∙ get_or-renumbered 0 n (shapes t) d many
      ∙ ap₂ (λ m (s : Shape). h m s.inputs) (let z : 0 + n ≡ n = omega arith in z) before

-- ---- one number of one node

abbrev pub inputs_in : List Shape → List ℤ
inputs_in ss = flat_map (λ (s : Shape). s.inputs) ss

pub inputs_of-shapes : (g : AttributeGrammar) (t : Forest) → IsTreeOf g t → all_inputs t ≡ inputs_in (shapes t)
inputs_of-shapes g t is =
    sym (ap inputs_in (shapes-preorder g t is) ∙ flat_map-map (λ (s : Shape). s.inputs) (shape_at t) (preorder t))

module _ (n i : ℕ) (z : ℤ) where
  pub keeps_lengths : KeepsLengths (changed n i z)
  keeps_lengths m xs = go (m == n)
    where
      go : (b : Bool) → length (if b then slice_set xs i z else xs) ≡ length xs
      go true = length-set xs i z
      go false = refl

  inputs-set : (greatest : ℕ) → IsInput greatest z → (j : ℕ) (xs : List ℤ) → AreInputs greatest xs
      → AreInputs greatest (slice_set xs j z)
  inputs-set greatest fits j [] are = are
  inputs-set greatest fits zero (x ∷ xs) are = (fits, are.1)
  inputs-set greatest fits (suc j) (x ∷ xs) are = (are.0, inputs-set greatest fits j xs are.1)

  pub keeps_width : (greatest : ℕ) → IsInput greatest z → KeepsWidth greatest (changed n i z)
  keeps_width greatest fits m xs are = go (m == n)
    where
      go : (b : Bool) → AreInputs greatest (if b then slice_set xs i z else xs)
      go true = inputs-set greatest fits i xs are
      go false = are

  pub here : (m : ℕ) (xs : List ℤ) → m ≡ n → changed n i z m xs ≡ slice_set xs i z
  here m xs e = ap (λ b. if b then slice_set xs i z else xs) (eq-eqb m n e)

  pub other : (m : ℕ) (xs : List ℤ) → (m ≡ n → ⊥) → changed n i z m xs ≡ xs
  other m xs ne = ap (λ b. if b then slice_set xs i z else xs) (ne_eqb m n ne)

  -- past the node nothing changes
  past : (m : ℕ) (ss : List Shape) → n < m → renumbered (changed n i z) m ss ≡ ss
  past m [] later = refl
  past m (s ∷ ss) later =
      ap₂ (λ xs rest. shape s.class s.child xs s.below ∷ rest)
      (other m s.inputs (λ e. absurd (omega (arith, e, later)))) (past (suc m) ss (omega (arith, later)))

  inputs-renumbered : (m k : ℕ) (ss : List Shape) (d : Shape) → n ≡ m + k → k < length ss
      → i < length (get_or ss k d).inputs
      → inputs_in (renumbered (changed n i z) m ss) ≡ slice_set (inputs_in ss) (length (inputs_in (take k ss)) + i) z
  inputs-renumbered m k [] d at within room = absurd (omega (arith, within))
  inputs-renumbered m zero (s ∷ ss) d at within room =
      ap₂ (λ xs rest. xs ++ inputs_in rest) (here m s.inputs (omega (arith, at)))
      (past (suc m) ss (omega (arith, at)))
      ∙ sym (set-append_left s.inputs (inputs_in ss) i z room)
      ∙ ap (λ j. slice_set (s.inputs ++ inputs_in ss) j z) (let e : i ≡ 0 + i = omega arith in e)
  inputs-renumbered m (suc k) (s ∷ ss) d at within room =
      let before = length (inputs_in (take k ss)) in
      let long = length-append s.inputs (inputs_in (take k ss)) in
      ap₂ (λ xs rest. xs ++ rest) (other m s.inputs (λ e. absurd (omega (arith, e, at))))
      (inputs-renumbered (suc m) k ss d (omega (arith, at)) (omega (arith, within)) room)
      ∙ ap (λ j. s.inputs ++ slice_set (inputs_in ss) j z)
      (let e : before + i ≡ length (s.inputs ++ inputs_in (take k ss)) + i - length s.inputs = omega (arith, long) in e)
      ∙ sym (set-append_right s.inputs (inputs_in ss) (length s.inputs)
      (length (s.inputs ++ inputs_in (take k ss)) + i) z refl (omega (arith, long)))

  -- where the number stands among those of all nodes
  pub all_inputs-changed : (g : AttributeGrammar) (t : Forest) → IsTreeOf g t
      → IsTreeOf g (with_inputs (changed n i z) 0 t) → n < size t → i < length (inputs_at t (node_at t n))
      → all_inputs (with_inputs (changed n i z) 0 t)
      ≡ slice_set (all_inputs t) (length (flat_map (inputs_at t) (take n (preorder t))) + i) z
  all_inputs-changed g t is is' known room =
      let d = shape 0 0 [] 0 in
      let ps = preorder t in
      let within : n < length ps = omega (arith, known, length-preorder t, size-one g t is) in
      let stands : get_or (shapes t) n d ≡ shape_at t (node_at t n) =
      ap (λ xs. get_or xs n d) (shapes-preorder g t is) ∙ get_or-map (shape_at t) ps n top d within in
      let many : n < length (shapes t) =
      omega (arith, within, ap length (shapes-preorder g t is), length-map ps (shape_at t)) in
      let before : inputs_in (take n (shapes t)) ≡ flat_map (inputs_at t) (take n ps) =
      ap (λ ss. inputs_in (take n ss)) (shapes-preorder g t is) ∙ ap inputs_in (take-map (shape_at t) n ps)
      ∙ flat_map-map (λ (s : Shape). s.inputs) (shape_at t) (take n ps) in
      inputs_of-shapes g (with_inputs (changed n i z) 0 t) is'
      ∙ ap inputs_in (shapes-changed (changed n i z) 0 t)
      ∙ inputs-renumbered 0 n (shapes t) d (omega arith) many
      (subst (λ (s : Shape). i < length s.inputs) (sym stands) room)
      ∙ ap₂ (λ xs (ys : List ℤ). slice_set xs (length ys + i) z) (sym (inputs_of-shapes g t is)) before
