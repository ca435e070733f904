-- Words before anything is computed, and once all are there.
use Rattle.std.proofs.Common.{◌≡◌, ◌≢◌, ℕ, ◌<◌, ◌≤◌, List, length, map, get_or, refl, sym, ap, ◌∙◌, subst, ⊎_elim, arith}
use Rattle.std.proofs.lemmas.Bool.{cases_lt}
use Rattle.std.proofs.lemmas.Grind.{same_number_lists}
use Rattle.std.proofs.lemmas.Int.{ints}
use Rattle.std.proofs.lemmas.List.{get_or-map, get_or_past, length-map}
use Rattle.ftl_cells.proofs.shared.Words.{word_of_value_pos}
use Rattle.ftl_items.specs.stage_items.WordLaws.{first_word, first_words}
use Rattle.ftl_model.specs.layout.AttributeGrammar.{AttributeGrammar, Sort, inherited, input, local, synthesized}
use Rattle.ftl_model.specs.layout.Solves.{Instance, IsInstance, equation_value}
use Rattle.ftl_model.specs.layout.Table.{SolvesList, instance_count, instance_number, instances, value_in}
use Rattle.ftl_model.specs.layout.Tree.{Forest}
use Rattle.ftl_model.specs.layout.TreeOf.{IsTreeOf}
use Rattle.ftl_model.specs.layout.Values.{IsValue, IsValueIn, Value, number, overflow, wide, word_of_value}
use Rattle.ftl_order.specs.orders.GrammarLaws.{TablesAreInRange}
use Rattle.ftl_order.specs.orders.Lawful.{IsLawful}
use Rattle.ftl_order.specs.orders.Reads.{ReadsEnd}
use Rattle.ftl_order.proofs.orders.Instances.{instance_at_number, length-instances, number_within, numbered}
use Rattle.ftl_demand.specs.demand.Words.{AreWordsSoFar, IsSolution}

in_wide : (greatest : ℕ) (v : Value) → greatest ≤ wide → IsValueIn greatest v → IsValue v
in_wide greatest (number n) most h =
    ((let low = h.0 in omega (arith, ints, low, most)), (let high = h.1 in omega (arith, ints, high, most)))
in_wide greatest overflow most h = tt

greatest_is : (g : AttributeGrammar) → IsLawful g → g.greatest ≤ wide
greatest_is g law =
    ⊎_elim (λ e. let z : g.greatest ≤ wide = omega (arith, e) in z)
    (λ e. let z : g.greatest ≤ wide = omega (arith, e) in z) law.width

-- past the end there is Overflow
value_anywhere : (values : List Value) → ((i : ℕ) → i < length values → IsValue (get_or values i overflow)) → (i : ℕ)
    → IsValue (get_or values i overflow)
value_anywhere values each i =
    ⊎_elim (λ below. each i below)
    (λ past. subst IsValue (sym (get_or_past values i overflow past)) tt) (cases_lt i (length values))

module _ (g : AttributeGrammar) (t : Forest) where
  -- each of the values that solve is one
  pub solution_value : (values : List Value) → IsSolution g t values → (i : ℕ) → IsValue (get_or values i overflow)
  solution_value values solved = value_anywhere values solved.in_range

  module _ (law : IsLawful g) (fits : IsTreeOf g t) where
    -- values that solve are in range, where chains of reads end
    pub in_range : TablesAreInRange g → (bound : Instance → ℕ) → ReadsEnd g t bound → (values : List Value)
        → SolvesList g t values → IsSolution g t values
    in_range tables bound ends values solves = record {
      solves = solves;
      in_range = λ c below.
          let count = solves.count in
          let here = numbered g t law fits c (omega (arith, below, count)) in
          let range : IsValueIn g.greatest (value_in g t values here.instance) =
          tables t fits bound ends (value_in g t values) solves.solves here.instance here.valid in
          in_wide g.greatest (get_or values c overflow) (greatest_is g law)
          (subst (λ n. IsValueIn g.greatest (get_or values n overflow)) here.number range);
    }

    long : length (first_words g t) ≡ instance_count g t
    long =
        length-map (instances g t) (λ (i : Instance). first_word g t (g.sort i.attribute) i) ∙ length-instances g t

    word_there : (i : Instance) → IsInstance g t i
        → get_or (first_words g t) (instance_number g t i) 0 ≡ first_word g t (g.sort i.attribute) i
    word_there i valid =
        let within = number_within g t i.node i.attribute valid.0 valid.1 in
        let count = length-instances g t in
        get_or-map (λ (i : Instance). first_word g t (g.sort i.attribute) i) (instances g t)
        (instance_number g t i) i 0 (omega (arith, within, count))
        ∙ ap (λ (i : Instance). first_word g t (g.sort i.attribute) i)
        (instance_at_number g t i.node i.attribute i valid.0 valid.1)

    -- an input's is that of its value, whatever values solve; nothing else is there
    input_right : (i : Instance) (values : List Value) → g.sort i.attribute ≡ input → IsInstance g t i
        → SolvesList g t values → first_word g t input i ≡ word_of_value (value_in g t values i)
    input_right i values is valid solves =
        ap word_of_value
        (sym (solves.solves i valid ∙ ap (λ s. equation_value g t (value_in g t values) s i.node i.attribute) is))

    first_right : (sort : Sort) (i : Instance) (values : List Value) → g.sort i.attribute ≡ sort → IsInstance g t i
        → SolvesList g t values → first_word g t sort i ≢ 0
        → first_word g t sort i ≡ word_of_value (value_in g t values i)
    first_right input i values is valid solves there = input_right i values is valid solves
    first_right inherited i values is valid solves there = absurd (there refl)
    first_right synthesized i values is valid solves there = absurd (there refl)
    first_right local i values is valid solves there = absurd (there refl)

    -- the words before anything is computed
    pub first_so_far : (words : List ℕ) → words ≡ first_words g t → (values : List Value) → IsSolution g t values
        → AreWordsSoFar g t words
    first_so_far words are values solved = record {
      solvable = (values, solved);
      count = ap length are ∙ long;
      inputs = λ i valid is none.
          word_of_value_pos (value_in g t values i) (solution_value values solved (instance_number g t i))
          (sym (input_right i values is valid solved.solves)
          ∙ sym (ap (λ s. first_word g t s i) is)
          ∙ sym (word_there i valid)
          ∙ sym (ap (λ ws. get_or ws (instance_number g t i) 0) are)
          ∙ none);
      right = λ others solves cell there.
          let here = numbered g t law fits cell
          (⊎_elim (λ below. below)
          (λ past.
          absurd
          (there
          (get_or_past words cell 0 (let count = ap length are ∙ long in omega (arith, past, count)))))
          (cases_lt cell (instance_count g t))) in
          let i = here.instance in
          let word : get_or words cell 0 ≡ first_word g t (g.sort i.attribute) i =
          ap (λ ws. get_or ws cell 0) are
          ∙ ap (λ n. get_or (first_words g t) n 0) (sym here.number)
          ∙ word_there i here.valid in
          word
          ∙ first_right (g.sort i.attribute) i others refl here.valid solves.solves (λ none. there (word ∙ none))
          ∙ ap (λ n. word_of_value (get_or others n overflow)) here.number;
    }

    -- once the word of each instance is there, the words are those of the values
    pub all_there : (words : List ℕ) → AreWordsSoFar g t words
        → ((i : Instance) → IsInstance g t i → get_or words (instance_number g t i) 0 ≢ 0)
        → (values : List Value) → IsSolution g t values → words ≡ map word_of_value values
    all_there words so_far there values solved =
        let count = so_far.count in
        let all = solved.solves.count in
        let same = length-map values word_of_value in
        same_number_lists words (map word_of_value values) (omega (arith, count, all, same))
        (λ k below.
        let here = numbered g t law fits k (omega (arith, below, count)) in
        so_far.right values solved k
        (λ none. there here.instance here.valid (ap (λ n. get_or words n 0) here.number ∙ none))
        ∙ sym (get_or-map word_of_value values k overflow 0 (omega (arith, below, count, all))))
