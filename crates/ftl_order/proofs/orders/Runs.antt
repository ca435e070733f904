-- A run along a legal order, from values that are right at the inputs, ends in the list that solves.
use Rattle.std.proofs.Common.{◌≡◌, ◌≢◌, ◌⊎◌, ◌+◌, ◌<◌, refl, sym, ◌∙◌, ap, subst, inl, inr, ⊎_elim, arith, List, [], ◌∷◌, ◌++◌, length, get_or, set, Contains, append_assoc, length-set, get_or-set_same, get_or-set_other, length-append, ℕ}
use Rattle.std.proofs.lemmas.List.{get_or-append-add, append-nil}
use Rattle.std.proofs.lemmas.List.Elements.{Contains-append_cases, Contains-append_left, Contains-append_right}
use native.Mathlib.Decide.{ℕ_discrete}
use Rattle.ftl_model.proofs.lists.Elements.{here_in, in_cases, nothing_in}
use Rattle.ftl_model.specs.layout.AttributeGrammar.{AttributeGrammar, Sort, input, input_value, is_input}
use Rattle.ftl_model.specs.layout.Path.{class_at, inputs_at}
use Rattle.ftl_model.specs.layout.Solves.{Instance, IsInstance, Solves, equation_value}
use Rattle.ftl_model.specs.layout.Table.{SolvesList, instance_count, instance_number, instances, value_in}
use Rattle.ftl_model.specs.layout.Tree.{Forest}
use Rattle.ftl_model.specs.layout.TreeOf.{IsTreeOf}
use Rattle.ftl_model.specs.layout.Values.{Value, overflow}
use Rattle.ftl_order.specs.orders.Lawful.{IsLawful}
use Rattle.ftl_order.specs.orders.LegalOrder.{HoldsInputs, IsLegalBy, IsStep, run}
use Rattle.ftl_order.specs.orders.Reads.{Reads}
use Rattle.ftl_order.proofs.orders.Instances.{instance_at_number, number_within}
use Rattle.ftl_order.proofs.orders.LegalOrders.{computed, input_or_computed, places_rise, writer_is_step}
use Rattle.ftl_order.proofs.orders.OneList.{solves_alike}
use Rattle.ftl_order.proofs.orders.TreeEquations.{alone_by, inside_by}

module _ (g : AttributeGrammar) (t : Forest) (law : IsLawful g) (fits : IsTreeOf g t)
    (First : Instance → Instance → Type 0) (number : Instance → ℕ)
    (rises : (i j : Instance) → IsStep g t i → First i j → number i < number j)
    (writer_first : (i j : Instance) → IsStep g t i → Reads g t i j → g.sort j.attribute ≢ input → First j i)
    (s : Instance → Value) (solves : Solves g t s)
    (order : List Instance) (legal : IsLegalBy g t First order) where
  same_number : (i j : Instance) → IsInstance g t i → IsInstance g t j → instance_number g t i ≡ instance_number g t j
      → i ≡ j
  same_number i j vi vj e =
      sym (instance_at_number g t i.node i.attribute i vi.0 vi.1)
      ∙ ap (λ n. get_or (instances g t) n i) e
      ∙ instance_at_number g t j.node j.attribute i vj.0 vj.1

  -- the values are those of the solution at the inputs and at the steps that are done
  record Done (done : List Instance) (values : List Value) : Type 0 where
    pub count : length values ≡ instance_count g t
    pub inputs : (i : Instance) → IsInstance g t i → g.sort i.attribute ≡ input → value_in g t values i ≡ s i
    pub steps : (i : Instance) → Contains done i → value_in g t values i ≡ s i

  -- a step that must precede the next one is done
  precedes_done : (done rest : List Instance) (i j : Instance) → order ≡ done ++ (i ∷ rest) → IsStep g t i
      → IsStep g t j
      → First j i → Contains done j
  precedes_done done rest i j e step before first =
      ⊎_elim (λ h. h) (λ h. absurd (late h))
      (Contains-append_cases done (i ∷ rest) j (subst (λ l. Contains l j) e (legal.all j before)))
    where
      place : length done < length order
      place = let f = ap length e in omega (arith, f, length-append done (i ∷ rest))

      here : get_or order (length done) i ≡ i
      here =
          ap (λ l. get_or l (length done) i) e
          ∙ (let z : length done ≡ length done + 0 = omega arith in ap (λ n. get_or (done ++ (i ∷ rest)) n i) z)
          ∙ get_or-append-add done (i ∷ rest) 0 i

      late : Contains (i ∷ rest) j → ⊥
      late h =
          let there : length done + h.0 < length order =
          (let f = ap length e in let b = h.1 in omega (arith, f, b, length-append done (i ∷ rest))) in
          let is : get_or order (length done + h.0) j ≡ j =
          ap (λ l. get_or l (length done + h.0) j) e ∙ get_or-append-add done (i ∷ rest) h.0 j ∙ h.2 in
          let less = places_rise g t law fits First number rises order legal j i before first (length done + h.0)
          (length done) there place is here in
          omega (arith, less)

  -- the value that a step computes is the solution's
  step_value : (done rest : List Instance) (i : Instance) (values : List Value) → order ≡ done ++ (i ∷ rest) → IsStep g t i
      → Done done values
      → equation_value g t (value_in g t values) (g.sort i.attribute) i.node i.attribute ≡ s i
  step_value done rest i values e step good =
      alone_by g law t fits (value_in g t values) s
      (g.sort i.attribute) i.node i.attribute refl step.0.0 step.0.1
      (λ j reads. read_value j reads (input_or_computed (g.sort j.attribute)))
      ∙ sym (solves i step.0)
    where
      read_value : (j : Instance) → Reads g t i j → (g.sort j.attribute ≡ input) ⊎ (g.sort j.attribute ≢ input)
          → value_in g t values j ≡ s j
      read_value j reads (inl is_input) =
          good.inputs j
          (inside_by g law t fits (g.sort i.attribute) i.node i.attribute refl step.0.0 step.0.1 j reads)
          is_input
      read_value j reads (inr computed) =
          good.steps j
          (precedes_done done rest i j e step
          (writer_is_step g t law fits First number rises writer_first i j step reads computed)
          (writer_first i j step reads computed))

  -- after a step the other values stay
  after_step : (i j : Instance) (values : List Value) (v : Value) → length values ≡ instance_count g t → IsInstance g t i
      → IsInstance g t j
      → v ≡ s i → (value_in g t values j ≡ s j) ⊎ (i ≡ j)
      → value_in g t (set values (instance_number g t i) v) j ≡ s j
  after_step i j values v count vi vj is old = go (ℕ_discrete (instance_number g t i) (instance_number g t j))
    where
      go : Dec (instance_number g t i ≡ instance_number g t j)
          → value_in g t (set values (instance_number g t i) v) j ≡ s j
      go (yes e) =
          ap (λ n. get_or (set values (instance_number g t i) v) n overflow) (sym e)
          ∙ get_or-set_same values (instance_number g t i) v overflow
          (let w = number_within g t i.node i.attribute vi.0 vi.1 in omega (arith, w, count))
          ∙ is
          ∙ ap s (same_number i j vi vj e)
      go (no differ) =
          get_or-set_other values (instance_number g t i) (instance_number g t j) v overflow (λ e. differ (sym e))
          ∙ ⊎_elim (λ old. old) (λ e. absurd (differ (ap (instance_number g t) e))) old

  run_done : (rest done : List Instance) (values : List Value) → order ≡ done ++ rest → Done done values
      → Done order (run g t rest values)
  run_done [] done values e good = subst (λ l. Done l values) (sym (e ∙ append-nil done)) good
  run_done (i ∷ rest) done values e good =
      let step = legal.steps i
      (subst (λ l. Contains l i) (sym e) (Contains-append_right done (i ∷ rest) i (here_in i rest))) in
      let v = equation_value g t (value_in g t values) (g.sort i.attribute) i.node i.attribute in
      let is : v ≡ s i = step_value done rest i values e step good in
      run_done rest (done ++ (i ∷ [])) (set values (instance_number g t i) v)
      (e ∙ sym (append_assoc done (i ∷ []) rest))
      (record {
        count = length-set values (instance_number g t i) v ∙ good.count;
        inputs = λ j valid is_input. after_step i j values v good.count step.0 valid is
            (inl (good.inputs j valid is_input));
        steps = λ j h.
            let cases = Contains-append_cases done (i ∷ []) j h in
            let valid = (legal.steps j
            (subst (λ l. Contains l j) (sym e)
            (⊎_elim (λ d. Contains-append_left done (i ∷ rest) j d)
            (λ last. Contains-append_right done (i ∷ rest) j
            (⊎_elim (λ same. subst (Contains (i ∷ rest)) same (here_in i rest)) (λ none. absurd (nothing_in j none))
            (in_cases i j [] last)))
            cases))).0 in
            after_step i j values v good.count step.0 valid is
            (⊎_elim (λ d. inl (good.steps j d))
            (λ last. inr (⊎_elim (λ same. same) (λ none. absurd (nothing_in j none)) (in_cases i j [] last))) cases);
      })

  given_value : (sort : Sort) (i : Instance) → g.sort i.attribute ≡ sort → sort ≡ input → IsInstance g t i
      → s i ≡ input_value g (class_at t i.node) i.attribute (inputs_at t i.node)
  given_value sort i e is_input valid =
      solves i valid
      ∙ ap (λ x. equation_value g t s x i.node i.attribute) (e ∙ is_input)

  pub run_solves : (values : List Value) → length values ≡ instance_count g t → HoldsInputs g t values
      → SolvesList g t (run g t order values)
  run_solves values count holds =
      let good = run_done order [] values refl
      (record {
        count = count;
        inputs = λ i valid is_input. holds i valid is_input
            ∙ sym (given_value (g.sort i.attribute) i refl is_input valid);
        steps = λ i none. absurd (nothing_in i none);
      }) in
      record {
        count = good.count;
        solves =
            solves_alike g law t fits (value_in g t (run g t order values)) s
            (λ i valid. at_each good i valid (input_or_computed (g.sort i.attribute)))
            solves;
      }
    where
      at_each : Done order (run g t order values) → (i : Instance) → IsInstance g t i
          → (g.sort i.attribute ≡ input) ⊎ (g.sort i.attribute ≢ input)
          → value_in g t (run g t order values) i ≡ s i
      at_each good i valid (inl is_input) = good.inputs i valid is_input
      at_each good i valid (inr computed) = good.steps i (legal.all i (valid, computed))
