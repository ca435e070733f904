-- The rows of the first so many nodes.
use Rattle.std.proofs.Common.{◌≡◌, ℕ, suc, ◌+◌, ◌<◌, ◌≤◌, Bool, true, false, cond, ◌∙◌, ap, arith, List, [], ◌∷◌, ◌++◌, filter, length, length-take, map, take}
use Rattle.std.specs.List.{range_with_len}
use Rattle.std.proofs.lemmas.List.{append-nil, length-map, map-append, take_all}
use Rattle.std.proofs.lemmas.List.Elements.{filter_more}
use Rattle.std.proofs.lemmas.List.FromFn.{map-range_with_len_more}
use Rattle.ftl_model.specs.layout.Path.{Path, node_at, number_of, preorder, top}
use Rattle.ftl_model.specs.layout.Tree.{Forest}
use Rattle.ftl_items.specs.stage_items.Cut.{begins_by}
use Rattle.ftl_items.specs.numbers.ItemNumbers.{first_nodes_by, items_before_by}

few_passing : {X : Type 0} (test : X → Bool) (xs : List X) → length (filter test xs) ≤ length xs
few_passing test [] = omega arith
few_passing test (x ∷ xs) =
    let i = few_passing test xs in
    elim (test x) as (λ b. length (cond b (x ∷ filter test xs) (filter test xs)) ≤ suc (length xs)) [
      | true ↦ (let z : suc (length (filter test xs)) ≤ suc (length xs) = omega (arith, i) in z)
      | false ↦ (let z : length (filter test xs) ≤ suc (length xs) = omega (arith, i) in z)
    ]

few_taken : {X : Type 0} (n : ℕ) (xs : List X) → length (take n xs) ≤ n
few_taken n xs = omega (arith, length-take n xs)

module _ (is_whole : Path → Bool) (t : Forest) where
  abbrev pub firsts_to : ℕ → List ℕ
  firsts_to n = map (number_of t) (filter (begins_by is_whole) (take n (preorder t)))

  abbrev pub before_to : ℕ → List ℕ
  before_to n = map (items_before_by is_whole t) (range_with_len 0 n)

  pub length-firsts_to : (n : ℕ) → length (firsts_to n) ≡ items_before_by is_whole t n
  length-firsts_to n = length-map (filter (begins_by is_whole) (take n (preorder t))) (number_of t)

  pub few_before : (n : ℕ) → items_before_by is_whole t n ≤ n
  few_before n =
      let a = few_passing (begins_by is_whole) (take n (preorder t)) in
      let b = few_taken n (preorder t) in
      omega (arith, a, b)

  pub few_firsts : length (first_nodes_by is_whole t) ≤ length (preorder t)
  few_firsts = few_passing (begins_by is_whole) (preorder t)

  pub before_more : (n : ℕ) → before_to (n + 1) ≡ before_to n ++ items_before_by is_whole t n ∷ []
  before_more n = map-range_with_len_more (items_before_by is_whole t) 0 n n (omega arith)

  module _ (n : ℕ) (known : n < length (preorder t)) where
    firsts_step : firsts_to (n + 1)
        ≡ firsts_to n ++ map (number_of t) (cond (begins_by is_whole (node_at t n)) (node_at t n ∷ []) [])
    firsts_step =
        ap (map (number_of t)) (filter_more (begins_by is_whole) (preorder t) n top known)
        ∙ map-append (number_of t) (filter (begins_by is_whole) (take n (preorder t)))
        (cond (begins_by is_whole (node_at t n)) (node_at t n ∷ []) [])

    pub firsts_kept : begins_by is_whole (node_at t n) ≡ false → firsts_to (n + 1) ≡ firsts_to n
    firsts_kept e =
        firsts_step
        ∙ ap (λ b. firsts_to n ++ map (number_of t) (cond b (node_at t n ∷ []) [])) e
        ∙ append-nil (firsts_to n)

    pub firsts_more : begins_by is_whole (node_at t n) ≡ true → number_of t (node_at t n) ≡ n
        → firsts_to (n + 1) ≡ firsts_to n ++ n ∷ []
    firsts_more e is =
        firsts_step
        ∙ ap (λ b. firsts_to n ++ map (number_of t) (cond b (node_at t n ∷ []) [])) e
        ∙ ap (λ m. firsts_to n ++ m ∷ []) is

  pub firsts_end : (n : ℕ) → length (preorder t) ≤ n → firsts_to n ≡ map (number_of t) (first_nodes_by is_whole t)
  firsts_end n past = ap (λ ps. map (number_of t) (filter (begins_by is_whole) ps)) (take_all n (preorder t) past)
