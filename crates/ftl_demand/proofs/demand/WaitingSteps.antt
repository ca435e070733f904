-- A stack of steps that wait, and the words as they are.
use Rattle.std.proofs.Common.{◌≡◌, ◌≢◌, ◌⊎◌, ℕ, suc, ◌<◌, ◌≤◌, List, [], ◌∷◌, ◌++◌, length, map, get_or, refl, sym, ap, ◌∙◌, subst, inl, inr, ⊎_elim, arith, Contains}
use lib.ListN.{set}
use Rattle.std.proofs.lemmas.Bool.{cases_eq}
use Rattle.std.proofs.lemmas.List.{get_or-set_same, get_or-set_other, length-map, length-set, map-append}
use Rattle.std.proofs.lemmas.List.Elements.{Contains-append_cases, Contains-append_left, Contains-append_right}
use Rattle.ftl_model.proofs.lists.Elements.{here_in, in_cases, later_in, nothing_in}
use Rattle.ftl_model.proofs.lists.Rising.{map_has}
use Rattle.ftl_model.specs.layout.AttributeGrammar.{AttributeGrammar}
use Rattle.ftl_model.specs.layout.Solves.{Instance, IsInstance}
use Rattle.ftl_model.specs.layout.Table.{instance_count, instance_number, instances}
use Rattle.ftl_model.specs.layout.Tree.{Forest}
use Rattle.ftl_model.specs.layout.Values.{Value, overflow, word_of_value}
use Rattle.ftl_order.proofs.orders.Instances.{instance_at_number, number_within}
use Rattle.ftl_order.specs.orders.Reads.{EndsWithin, Reads}
use Rattle.ftl_demand.specs.demand.Words.{AreWordsSoFar, IsSolution, StaysWhereThere}
use Rattle.ftl_demand.proofs.demand.Chains.{IsChain, chain_longer, chain_once, chain_short, chain_shorter}
use Rattle.ftl_demand.proofs.demand.Zeros.{one_less, zeros}

-- the number of an instance tells it from all others
pub same_instance : (g : AttributeGrammar) (t : Forest) (i j : Instance) → IsInstance g t i → IsInstance g t j
    → instance_number g t i ≡ instance_number g t j → i ≡ j
same_instance g t i j valid other same =
    sym (instance_at_number g t i.node i.attribute i valid.0 valid.1)
    ∙ ap (λ n. get_or (instances g t) n i) same
    ∙ instance_at_number g t j.node j.attribute i other.0 other.1

pub only_is : {W : Type 0} (x y : W) → Contains (x ∷ []) y → y ≡ x
only_is x y h = ⊎_elim (λ same. sym same) (λ none. absurd (nothing_in y none)) (in_cases x y [] h)

pub map_in : {W V : Type 0} (f : W → V) (xs : List W) (v : V) → Contains (map f xs) v
    → (w : W) × Contains xs w × (f w ≡ v)
map_in f [] v h = absurd (nothing_in v h)
map_in f (x ∷ xs) v h =
    ⊎_elim (λ same. (x, here_in x xs, same))
    (λ later. let rest = map_in f xs v later in (rest.0, later_in x rest.0 xs rest.1, rest.2))
    (in_cases (f x) v (map f xs) h)

module _ (g : AttributeGrammar) (t : Forest) {W : Type 0} (target : W → Instance) (cell : W → ℕ) (Is : W → Type 0) where
  -- Each of the steps is read by the one below it, and its word is not there yet. What was there has stayed. The word
  -- of the first cell is there, or its step waits.
  pub record IsUnderWay (start : ℕ) (before words : List ℕ) (waiting : List W) : Type 0 where
    pub so_far : AreWordsSoFar g t words
    pub chain : IsChain g t (map target waiting)
    pub each : (w : W) → Contains waiting w → Is w
    pub lack : (w : W) → Contains waiting w → get_or words (cell w) 0 ≡ 0
    pub stays : StaysWhereThere before words
    pub started : ((w : W) × Contains waiting w × (cell w ≡ start)) ⊎ (get_or words start 0 ≢ 0)

  pub first_waits : (start : ℕ) (words : List ℕ) (w : W) → AreWordsSoFar g t words → Is w → cell w ≡ start
      → get_or words start 0 ≡ 0 → IsUnderWay start words words (w ∷ [])
  first_waits start words w so_far is at none = record {
    so_far = so_far;
    chain = tt;
    each = λ v h. subst Is (sym (only_is w v h)) is;
    lack = λ v h. ap (λ x. get_or words (cell x) 0) (only_is w v h) ∙ ap (λ n. get_or words n 0) at ∙ none;
    stays = λ c some. refl;
    started = inl (w, here_in w [], at);
  }

  module _ (valid : (w : W) → Is w → IsInstance g t (target w))
      (cell_is : (w : W) → Is w → cell w ≡ instance_number g t (target w))
      (ends : (i : Instance) → IsInstance g t i → EndsWithin g t (instance_count g t) i)
      (start : ℕ) (before words : List ℕ) where
    chain_ends : (waiting : List W) → ((w : W) → Contains waiting w → Is w)
        → (c : Instance) → Contains (map target waiting) c → EndsWithin g t (instance_count g t) c
    chain_ends waiting each c there =
        let from = map_in target waiting c there in
        subst (EndsWithin g t (instance_count g t)) from.2 (ends (target from.0) (valid from.0 (each from.0 from.1)))

    -- the steps that wait are no more than there are words
    pub few_wait : (waiting : List W) → IsUnderWay start before words waiting → length waiting ≤ length words
    few_wait waiting h =
        let count = h.so_far.count in
        let few : length (map target waiting) ≤ instance_count g t =
        chain_short g t (instance_count g t) (map target waiting) (chain_ends waiting h.each) h.chain in
        let long : length (map target waiting) ≡ length waiting = length-map waiting target in
        omega (arith, few, count, long)

    module _ (front : List W) (top : W) (h : IsUnderWay start before words (front ++ top ∷ [])) where
      top_there : Contains (front ++ top ∷ []) top
      top_there = Contains-append_right front (top ∷ []) top (here_in top [])

      pub top_is : Is top
      top_is = h.each top top_there

      pub top_lacks : get_or words (cell top) 0 ≡ 0
      top_lacks = h.lack top top_there

      pub top_within : cell top < length words
      top_within =
          let i = target top in
          let v = valid top top_is in
          let low = number_within g t i.node i.attribute v.0 v.1 in
          let is = cell_is top top_is in
          let count = h.so_far.count in
          let z : cell top < length words = omega (arith, low, is, count) in
          z

      targets : map target (front ++ top ∷ []) ≡ map target front ++ target top ∷ []
      targets = map-append target front (top ∷ [])

      chain_top : IsChain g t (map target front ++ target top ∷ [])
      chain_top = subst (IsChain g t) targets h.chain

      -- the top may have changed, and one more waits above it
      pub pushed : (again next : W) → Is again → target again ≡ target top → cell again ≡ cell top → Is next
          → Reads g t (target top) (target next) → get_or words (cell next) 0 ≡ 0
          → IsUnderWay start before words ((front ++ again ∷ []) ++ next ∷ [])
      pushed again next again_is same_target same_cell next_is read none = record {
        so_far = h.so_far;
        chain =
            subst (IsChain g t)
            (sym
            (map-append target (front ++ again ∷ []) (next ∷ [])
            ∙ ap (λ xs. xs ++ target next ∷ []) (map-append target front (again ∷ []))
            ∙ ap (λ x. (map target front ++ x ∷ []) ++ target next ∷ []) same_target))
            (chain_longer g t (map target front) (target top) (target next) chain_top read);
        each = λ w there. elim (Contains-append_cases (front ++ again ∷ []) (next ∷ []) w there) [
          | inl old ↦ elim (Contains-append_cases front (again ∷ []) w old) [
            | inl below ↦ h.each w (Contains-append_left front (top ∷ []) w below)
            | inr last ↦ subst Is (sym (only_is again w last)) again_is
          ]
          | inr last ↦ subst Is (sym (only_is next w last)) next_is
        ];
        lack = λ w there. elim (Contains-append_cases (front ++ again ∷ []) (next ∷ []) w there) [
          | inl old ↦ elim (Contains-append_cases front (again ∷ []) w old) [
            | inl below ↦ h.lack w (Contains-append_left front (top ∷ []) w below)
            | inr last ↦
                ap (λ x. get_or words (cell x) 0) (only_is again w last)
                ∙ ap (λ n. get_or words n 0) same_cell
                ∙ top_lacks
          ]
          | inr last ↦ ap (λ x. get_or words (cell x) 0) (only_is next w last) ∙ none
        ];
        stays = h.stays;
        started =
            ⊎_elim
            (λ waits.
            ⊎_elim
            (λ below.
            inl (
              waits.0,
              Contains-append_left (front ++ again ∷ []) (next ∷ []) waits.0
                  (Contains-append_left front (again ∷ []) waits.0 below),
              waits.2,
            ))
            (λ last.
            inl (
              again,
              Contains-append_left (front ++ again ∷ []) (next ∷ []) again
                  (Contains-append_right front (again ∷ []) again (here_in again [])),
              same_cell ∙ sym (ap cell (only_is top waits.0 last)) ∙ waits.2,
            ))
            (Contains-append_cases front (top ∷ []) waits.0 waits.1))
            (λ some. inr some) h.started;
      }

      -- the word of the top is computed
      module _ (v : ℕ) (some : v ≢ 0)
          (right : (values : List Value) → IsSolution g t values
          → v ≡ word_of_value (get_or values (cell top) overflow))
        where
          at_top : get_or (set words (cell top) v) (cell top) 0 ≡ v
          at_top = get_or-set_same words (cell top) v 0 top_within

          elsewhere : (c : ℕ) → c ≢ cell top → get_or (set words (cell top) v) c 0 ≡ get_or words c 0
          elsewhere c other = get_or-set_other words (cell top) c v 0 other

          apart : (w : W) → Contains front w → cell w ≢ cell top
          apart w there same =
              let is = h.each w (Contains-append_left front (top ∷ []) w there) in
              let one = same_instance g t (target w) (target top) (valid w is) (valid top top_is)
              (sym (cell_is w is) ∙ same ∙ cell_is top top_is) in
              chain_once g t (instance_count g t) (map target front) (target top)
              (chain_ends front (λ x k. h.each x (Contains-append_left front (top ∷ []) x k))) chain_top
              (subst (Contains (map target front)) one (map_has target front w there))

          pub zeros_fall : suc (zeros (set words (cell top) v)) ≡ zeros words
          zeros_fall = one_less words (cell top) v top_within top_lacks some

          stays_there : (c : ℕ) → get_or words c 0 ≢ 0 → get_or (set words (cell top) v) c 0 ≡ get_or words c 0
          stays_there c there = elim (cases_eq c (cell top)) [
            | inl same ↦ absurd (there (ap (λ x. get_or words x 0) same ∙ top_lacks))
            | inr other ↦ elsewhere c other
          ]

          pub computed : IsUnderWay start before (set words (cell top) v) front
          computed = record {
            so_far = record {
              solvable = h.so_far.solvable;
              count = length-set words (cell top) v ∙ h.so_far.count;
              inputs = λ i is kind none.
                  h.so_far.inputs i is kind
                  (elim (cases_eq (instance_number g t i) (cell top)) [
                    | inl same ↦ ap (λ x. get_or words x 0) same ∙ top_lacks
                    | inr other ↦ sym (elsewhere (instance_number g t i) other) ∙ none
                  ]);
              right = λ values solved c there. elim (cases_eq c (cell top)) [
                | inl same ↦
                    ap (λ x. get_or (set words (cell top) v) x 0) same
                    ∙ at_top
                    ∙ right values solved
                    ∙ ap (λ x. word_of_value (get_or values x overflow)) (sym same)
                | inr other ↦
                    elsewhere c other
                    ∙ h.so_far.right values solved c (λ none. there (elsewhere c other ∙ none))
              ];
            };
            chain = chain_shorter g t (map target front) (target top) chain_top;
            each = λ w there. h.each w (Contains-append_left front (top ∷ []) w there);
            lack = λ w there.
                elsewhere (cell w) (apart w there) ∙ h.lack w (Contains-append_left front (top ∷ []) w there);
            stays = λ c there.
                stays_there c (λ none. there (sym (h.stays c there) ∙ none)) ∙ h.stays c there;
            started =
                ⊎_elim
                (λ waits.
                ⊎_elim (λ below. inl (waits.0, below, waits.2))
                (λ last.
                inr
                (λ none.
                some
                (sym at_top
                ∙ ap (λ x. get_or (set words (cell top) v) x 0) (sym (ap cell (only_is top waits.0 last)) ∙ waits.2)
                ∙ none)))
                (Contains-append_cases front (top ∷ []) waits.0 waits.1))
                (λ old. inr (λ none. old (sym (stays_there start old) ∙ none))) h.started;
          }
