-- The addresses of an inorder pass's sequence rise.
use Rattle.std.proofs.Common.{◌≡◌, ◌≢◌, ℕ, suc, ◌<◌, ◌≤◌, ◌==◌, ◌&&◌, true, false, if◌then◌else◌, refl, sym, ◌∙◌, subst₂, inl, inr, ⊎_elim, arith, List, [], ◌∷◌, ◌++◌, filter, Contains}
use Rattle.std.proofs.lemmas.List.Elements.{Contains-append_cases}
use Rattle.ftl_model.specs.lists.Lists.{Before}
use Rattle.ftl_model.proofs.lists.Elements.{distinct-filter, nothing_in}
use Rattle.ftl_model.proofs.lists.Rising.{Rising, across-append, rising-append, rising-map, rising_more, strictly}
use Rattle.ftl_model.proofs.lists.Sorted.{distinct-sorted, none_falls-sorted}
use Rattle.ftl_model.specs.layout.AttributeGrammar.{AttributeGrammar, Sort, attributes_of, inherited, input, local, synthesized}
use Rattle.ftl_model.specs.layout.Path.{Path, down, one_more}
use Rattle.ftl_model.specs.layout.Solves.{Instance, instance_of}
use Rattle.ftl_model.specs.layout.Tree.{Forest, none, tree}
use Rattle.ftl_model.specs.layout.TreeOf.{FitBelow, StartsFrom}
use Rattle.ftl_order.specs.orders.Lawful.{IsLawful}
use Rattle.ftl_order.specs.orders.Schedule.{IsOnePass, Placing, SchedulePlace}
use Rattle.ftl_order.specs.orders.Sequence.{is_in_pass, is_same_sort, keyed, sequence_below, steps_at}
use Rattle.ftl_order.proofs.orders.LegalOrders.{computed}
use Rattle.ftl_order.proofs.orders.Owners.{class_distinct}
use Rattle.ftl_order.proofs.orders.SequenceAddresses.{EarlierAddress, Goes, RisesBelow, StillToCome, address_by, at_kid, goes_before, inherited_goes, into_block, into_kid, is_keyed, key_before, kid_first, local_goes, synthesized_goes}

-- no two computed attributes of a class that stand in the pass of this place have one place in its list
abbrev pub OwnPlaces : AttributeGrammar → Placing → SchedulePlace → Type 0
OwnPlaces g at x =
    (k a b : ℕ) → k < g.class_count → Contains (attributes_of g k) a → Contains (attributes_of g k) b
    → g.sort a ≢ input → g.sort b ≢ input → IsOnePass (at a) x → IsOnePass (at b) x → (at a).index ≡ (at b).index
    → a ≡ b

module _ (g : AttributeGrammar) (law : IsLawful g) (at : Placing) (x : SchedulePlace) (own : OwnPlaces g at x) where
  abbrev pub Earlier : Instance → Instance → Type 0
  Earlier i j = EarlierAddress g at i j

  keyed_rises : (sort : Sort) (k : ℕ) → k < g.class_count → sort ≢ input
      → Rising (λ a b. (at a).index < (at b).index) (keyed g at x sort k)
  keyed_rises sort k known computed =
      let chosen = filter (λ a. is_same_sort (g.sort a) sort && is_in_pass at x a) (attributes_of g k) in
      strictly (λ a. (at a).index) (keyed g at x sort k) (none_falls-sorted (λ a. (at a).index) chosen)
      (distinct-sorted (λ a. (at a).index) chosen
      (distinct-filter (λ a. is_same_sort (g.sort a) sort && is_in_pass at x a) (attributes_of g k)
      (class_distinct g law k known)))
      (λ a b ha hb same.
      let ka = is_keyed g at x sort k a ha in
      let kb = is_keyed g at x sort k b hb in
      own k a b known ka.of kb.of (λ e. computed (sym ka.sort_is ∙ e)) (λ e. computed (sym kb.sort_is ∙ e))
      ka.pass kb.pass same)

  pub steps_rise : (sort : Sort) (k : ℕ) (q : Path) → k < g.class_count → sort ≢ input
      → Rising Earlier (steps_at g at x sort k q)
  steps_rise sort k q known computed =
      rising-map Earlier (instance_of q) (keyed g at x sort k)
      (rising_more (λ a b. (at a).index < (at b).index) (λ a b. Earlier (instance_of q a) (instance_of q b))
      (keyed g at x sort k)
      (λ a b ha hb less.
      subst₂ Before (sym (address_by g at sort q a (is_keyed g at x sort k a ha).sort_is))
      (sym (address_by g at sort q b (is_keyed g at x sort k b hb).sort_is))
      (key_before g at sort q a b computed less))
      (keyed_rises sort k known computed))

  one_more_up : (c : ℕ) (seen : ℕ → ℕ) (d : ℕ) → seen d ≤ one_more c seen d
  one_more_up c seen d =
      elim (c == d) as (λ b. seen d ≤ (if b then suc (seen d) else seen d)) [ true ↦ omega arith | false ↦ omega arith ]

  pub starts_anywhere : (f : Forest) → StartsFrom 0 f
  starts_anywhere none = tt
  starts_anywhere (tree class child inputs below beside) = omega arith

  -- what a kid has, in its groups
  module _ (p : Path) (c : ℕ) (seen : ℕ → ℕ) (class : ℕ) (known : class < g.class_count) (below rest : List Instance)
      (within : RisesBelow g at (down c (seen c) p) 0 (λ d. 0) below)
      (after : RisesBelow g at p c (one_more c seen) rest) where
    abbrev here : Path
    here = down c (seen c) p

    abbrev locals : List Instance
    locals = steps_at g at x local class here

    abbrev synths : List Instance
    synths = steps_at g at x synthesized class here

    abbrev inherits : List Instance
    inherits = steps_at g at x inherited class here

    in_kid : (b : ℕ) (i : Instance) → Goes g at here (b ∷ []) i → Goes g at p (1 ∷ (c ∷ (seen c ∷ []))) i
    in_kid b i h = record { rest = 1 ∷ (b ∷ h.rest); is = h.is }

    block_goes : (i : Instance) → Contains below i → Goes g at here (1 ∷ []) i
    block_goes i h = into_block g at here 0 (λ d. 0) i (within.to_come i h)

    blocks_before : (a b : ℕ) → a < b → (i j : Instance) → Goes g at here (a ∷ []) i → Goes g at here (b ∷ []) j
        → Earlier i j
    blocks_before a b less i j gi gj = goes_before g at here (a ∷ []) (b ∷ []) i j gi gj (λ ri rj. inl less)

    inherits_first : (b : ℕ) (i j : Instance) → Contains inherits i → Goes g at here (b ∷ []) j → Earlier i j
    inherits_first b i j hi gj =
        goes_before g at p (1 ∷ (c ∷ (seen c ∷ (0 ∷ [])))) (1 ∷ (c ∷ (seen c ∷ (1 ∷ (b ∷ []))))) i j
        (inherited_goes g at x class c (seen c) p i hi)
        (into_kid g at c (seen c) b p j gj) (λ ri rj. inr (refl, inr (refl, inr (refl, inl (omega arith)))))

    rest_last : (i j : Instance) → Goes g at p (1 ∷ (c ∷ (seen c ∷ []))) i → Contains rest j → Earlier i j
    rest_last i j gi hj = kid_first g at c seen p i j gi (after.to_come j hj)

    inherits_go : (i : Instance) → Contains inherits i → Goes g at p (1 ∷ (c ∷ (seen c ∷ []))) i
    inherits_go i h = at_kid g at c (seen c) 0 p i (inherited_goes g at x class c (seen c) p i h)

    synths_rest : Rising Earlier (synths ++ rest)
    synths_rest =
        rising-append Earlier synths rest (steps_rise synthesized class here known (grind arith)) after.rising
        (λ i j hi hj. rest_last i j (in_kid 2 i (synthesized_goes g at x class here i hi)) hj)

    below_synths_rest : Rising Earlier (below ++ (synths ++ rest))
    below_synths_rest =
        rising-append Earlier below (synths ++ rest) within.rising synths_rest
        (across-append Earlier below synths rest
        (λ i j hi hj. blocks_before 1 2 (omega arith) i j (block_goes i hi) (synthesized_goes g at x class here j hj))
        (λ i j hi hj. rest_last i j (in_kid 1 i (block_goes i hi)) hj))

    locals_and_rest : Rising Earlier (locals ++ (below ++ (synths ++ rest)))
    locals_and_rest =
        rising-append Earlier locals (below ++ (synths ++ rest))
        (steps_rise local class here known (grind arith)) below_synths_rest
        (across-append Earlier locals below (synths ++ rest)
        (λ i j hi hj. blocks_before 0 1 (omega arith) i j (local_goes g at x class here i hi) (block_goes j hj))
        (across-append Earlier locals synths rest
        (λ i j hi hj. blocks_before 0 2 (omega arith) i j (local_goes g at x class here i hi)
        (synthesized_goes g at x class here j hj))
        (λ i j hi hj. rest_last i j (in_kid 0 i (local_goes g at x class here i hi)) hj)))

    all_rise : Rising Earlier (inherits ++ (locals ++ (below ++ (synths ++ rest))))
    all_rise =
        rising-append Earlier inherits (locals ++ (below ++ (synths ++ rest)))
        (steps_rise inherited class here known (grind arith)) locals_and_rest
        (across-append Earlier inherits locals (below ++ (synths ++ rest))
        (λ i j hi hj. inherits_first 0 i j hi (local_goes g at x class here j hj))
        (across-append Earlier inherits below (synths ++ rest)
        (λ i j hi hj. inherits_first 1 i j hi (block_goes j hj))
        (across-append Earlier inherits synths rest
        (λ i j hi hj. inherits_first 2 i j hi (synthesized_goes g at x class here j hj))
        (λ i j hi hj. rest_last i j (inherits_go i hi) hj))))

    module _ (from : ℕ) (starts : from ≤ c) where
      kid_to_come : (i : Instance) → Goes g at p (1 ∷ (c ∷ (seen c ∷ []))) i → StillToCome g at p from seen i
      kid_to_come i h = record { child = c; kid = seen c; goes = h; later_child = starts; later_kid = omega arith }

      rest_to_come : (i : Instance) → Contains rest i → StillToCome g at p from seen i
      rest_to_come i h =
          let s = after.to_come i h in
          record {
            child = s.child;
            kid = s.kid;
            goes = s.goes;
            later_child = (let l = s.later_child in omega (arith, l, starts));
            later_kid = (let k = s.later_kid in let u = one_more_up c seen s.child in omega (arith, k, u));
          }

      all_to_come : (i : Instance) → Contains (inherits ++ (locals ++ (below ++ (synths ++ rest)))) i
          → StillToCome g at p from seen i
      all_to_come i h =
          ⊎_elim (λ a. kid_to_come i (inherits_go i a))
          (λ h. ⊎_elim (λ a. kid_to_come i (in_kid 0 i (local_goes g at x class here i a)))
          (λ h. ⊎_elim (λ a. kid_to_come i (in_kid 1 i (block_goes i a)))
          (λ h. ⊎_elim (λ a. kid_to_come i (in_kid 2 i (synthesized_goes g at x class here i a)))
          (λ a. rest_to_come i a)
          (Contains-append_cases synths rest i h))
          (Contains-append_cases below (synths ++ rest) i h))
          (Contains-append_cases locals (below ++ (synths ++ rest)) i h))
          (Contains-append_cases inherits (locals ++ (below ++ (synths ++ rest))) i h)

  pub below_rises : (f : Forest) (above from : ℕ) (p : Path) (seen : ℕ → ℕ) → FitBelow g above f → StartsFrom from f
      → RisesBelow g at p from seen (sequence_below g at x p seen f)
  below_rises none above from p seen fit starts = record { rising = tt; to_come = λ i h. absurd (nothing_in i h) }
  below_rises (tree class child inputs below beside) above from p seen fit starts =
      let q = down child (seen child) p in
      let within = below_rises below class 0 q (λ d. 0) fit.2 (starts_anywhere below) in
      let after = below_rises beside above child p (one_more child seen) fit.4 fit.3 in
      let bs = sequence_below g at x q (λ d. 0) below in
      let rs = sequence_below g at x p (one_more child seen) beside in
      record {
        rising = all_rise p child seen class fit.1.known bs rs within after;
        to_come = all_to_come p child seen class fit.1.known bs rs within after from starts;
      }
