-- Of a schedule that has each computed attribute once: the first words fit its first stage, and after its last stage
-- each cell holds the solution's word, whatever forms the passes have.
use Rattle.std.proofs.Common.{◌≡◌, ℕ, suc, ◌<◌, ◌≤◌, ◌==◌, true, false, if◌then◌else◌, ltb, ltb-true, ltb-false, refl, sym, ◌∙◌, ap, ap₂, subst, arith, eq-eqb, List, [], get_or, length, map, ext_get_or}
use Rattle.std.proofs.lemmas.List.{get_or-map, get_or_past, length-map}
use Rattle.ftl_cells.specs.shared.Shape.{WorkShape, listed}
use Rattle.ftl_cells.specs.shared.State.{AreFirst, AreLast, first_word_of, last_word_of}
use Rattle.ftl_cells.specs.declared.shared.kind.CellKind.TheVariants.{Given, Target, Later}
use Rattle.ftl_cells.proofs.shared.Shapes.{cell_total-listed, kind_at-listed, solution_at-listed}
use Rattle.ftl_model.specs.layout.AttributeGrammar.{AttributeGrammar, Sort, inherited, input, local, synthesized}
use Rattle.ftl_model.specs.layout.Solves.{Instance, equation_value}
use Rattle.ftl_model.specs.layout.Table.{SolvesList, instance_count, instances, value_in}
use Rattle.ftl_model.specs.layout.Tree.{Forest}
use Rattle.ftl_model.specs.layout.TreeOf.{IsTreeOf}
use Rattle.ftl_model.specs.layout.Values.{Value, overflow, word_of_value}
use Rattle.ftl_order.specs.orders.Lawful.{IsLawful}
use Rattle.ftl_order.specs.orders.LegalOrder.{IsStep}
use Rattle.ftl_order.specs.orders.Schedule.{EachStandsOnce, Pass, Schedule, pass_in_stage, placing_of, stage_of}
use Rattle.ftl_order.proofs.orders.Instances.{instance_here, length-instances}
use Rattle.ftl_items.specs.stage_items.Items.{PassForm}
use Rattle.ftl_items.specs.stage_items.StageWork.{kind_by, kind_by_stage, kind_of, no_instance, work_by}
use Rattle.ftl_items.specs.stage_items.WordLaws.{first_word, first_words}
use Rattle.ftl_items.proofs.stage_items.Passes.{listed_at}
use Rattle.ftl_items.proofs.stage_items.PassSteps.{many_of}
use Rattle.ftl_items.proofs.stage_items.WordLaws.{ltb_not}

none_before_first : (n word : ℕ) → first_word_of (kind_by_stage n 0) word ≡ 0
none_before_first n word =
    ap (λ b. first_word_of (if b then Given else (if n == 0 then Target else Later)) word)
    (ltb_not n 0 (omega arith))
    ∙ (elim (n == 0) as (λ b. first_word_of (if b then Target else Later) word ≡ 0) [ true ↦ refl | false ↦ refl ])

all_after_last : (n stage word : ℕ) → n ≤ stage → last_word_of (kind_by_stage n stage) word ≡ word
all_after_last n stage word low =
    elim (ltb n stage) as
    (λ b. (ltb n stage ≡ b)
    → last_word_of (if b then Given else (if n == stage then Target else Later)) word ≡ word) [
      | true ↦ λ e. refl
      | false ↦ λ e.
          let h = ltb-false n stage e in
          ap (λ b. last_word_of (if b then Target else Later) word)
          (eq-eqb n stage (let z : n ≡ stage = omega (arith, h, low) in z))
    ]
    refl

module _ (g : AttributeGrammar) (s : Schedule) (t : Forest) (law : IsLawful g)
    (once : EachStandsOnce g s) (fits : IsTreeOf g t) where
  -- a computed instance stands in a stage of the schedule
  pub in_a_stage : (i : Instance) → IsStep g t i → (placing_of s i.attribute).stage < length s
  in_a_stage i step =
      let at = listed_at s i.attribute (many_of g s t law once fits 0 i step) in
      elim (ltb (stage_of s i.attribute) (length s)) as
      (λ b. (ltb (stage_of s i.attribute) (length s) ≡ b) → stage_of s i.attribute < length s) [
        | true ↦ λ e. ltb-true (stage_of s i.attribute) (length s) e
        | false ↦ λ e.
            absurd
            (let past = ltb-false (stage_of s i.attribute) (length s) e in
            let none = get_or_past s (stage_of s i.attribute) [] past in
            let known : pass_in_stage s i.attribute < 0 =
            subst (λ (ps : List Pass). pass_in_stage s i.attribute < length ps) none at.known in
            let z : ⊥ = omega (arith, known) in
            z)
      ]
      refl

  module _ (solution : List Value) (solves : SolvesList g t solution) where
    abbrev cell : ℕ → Instance
    cell c = get_or (instances g t) c no_instance

    abbrev value_of : ℕ → Value
    value_of c = get_or solution c overflow

    first_by : (sort : Sort) (c n : ℕ) → c < instance_count g t → g.sort (cell c).attribute ≡ sort
        → first_word g t sort (cell c) ≡ first_word_of (kind_by sort n 0) (word_of_value (value_of c))
    first_by input c n below is =
        let here = instance_here g t law fits c no_instance below in
        let e = solves.solves (cell c) here.0 in
        let by_sort = λ (sort : Sort).
        equation_value g t (value_in g t solution) sort (cell c).node (cell c).attribute in
        let at_c = ap (λ k. get_or solution k overflow) here.1 in
        ap word_of_value (sym (ap by_sort is) ∙ sym e ∙ at_c)
    first_by inherited c n below is = sym (none_before_first n (word_of_value (value_of c)))
    first_by synthesized c n below is = sym (none_before_first n (word_of_value (value_of c)))
    first_by local c n below is = sym (none_before_first n (word_of_value (value_of c)))

    last_by : (sort : Sort) (c stage : ℕ) → c < instance_count g t → suc stage ≡ length s
        → g.sort (cell c).attribute ≡ sort → (word : ℕ)
        → last_word_of (kind_by sort (placing_of s (cell c).attribute).stage stage) word ≡ word
    last_by input c stage below last is word = refl
    last_by inherited c stage below last is word =
        let valid = (instance_here g t law fits c no_instance below).0 in
        let within = in_a_stage (cell c) (valid, (λ e. let z : ⊥ = grind arith in z)) in
        all_after_last (placing_of s (cell c).attribute).stage stage word (omega (arith, within, last))
    last_by synthesized c stage below last is word =
        let valid = (instance_here g t law fits c no_instance below).0 in
        let within = in_a_stage (cell c) (valid, (λ e. let z : ⊥ = grind arith in z)) in
        all_after_last (placing_of s (cell c).attribute).stage stage word (omega (arith, within, last))
    last_by local c stage below last is word =
        let valid = (instance_here g t law fits c no_instance below).0 in
        let within = in_a_stage (cell c) (valid, (λ e. let z : ⊥ = grind arith in z)) in
        all_after_last (placing_of s (cell c).attribute).stage stage word (omega (arith, within, last))

    length-first : length (first_words g t) ≡ instance_count g t
    length-first =
        length-map (instances g t) (λ (i : Instance). first_word g t (g.sort i.attribute) i)
        ∙ length-instances g t

    first_at : (c : ℕ) → c < instance_count g t
        → get_or (first_words g t) c 0 ≡ first_word g t (g.sort (cell c).attribute) (cell c)
    first_at c below =
        get_or-map (λ (i : Instance). first_word g t (g.sort i.attribute) i) (instances g t) c no_instance 0
        (let e = length-instances g t in omega (arith, below, e))

    pub words_first : (count : ℕ) (forms : ℕ → PassForm) (reads stack : ℕ)
        → AreFirst (listed (work_by g t count forms (kind_of g s 0) solution reads stack)) (first_words g t)
    words_first count forms reads stack =
        let w : WorkShape = work_by g t count forms (kind_of g s 0) solution reads stack in
        record {
          count = length-first ∙ sym (cell_total-listed w);
          each = λ c below.
              let inside : c < instance_count g t = subst (λ n. c < n) (cell_total-listed w) below in
              first_at c inside
              ∙ first_by (g.sort (cell c).attribute) c (placing_of s (cell c).attribute).stage inside refl
              ∙ sym (ap₂ first_word_of (kind_at-listed w c inside) (ap word_of_value (solution_at-listed w c inside)));
        }

    pub words_last : (count : ℕ) (forms : ℕ → PassForm) (stage reads stack : ℕ) (words : List ℕ)
        → suc stage ≡ length s
        → AreLast (listed (work_by g t count forms (kind_of g s stage) solution reads stack)) words
        → words ≡ map word_of_value solution
    words_last passes forms stage reads stack words last closed =
        let w : WorkShape = work_by g t passes forms (kind_of g s stage) solution reads stack in
        let count : length words ≡ instance_count g t = closed.count ∙ cell_total-listed w in
        ext_get_or 0 words (map word_of_value solution)
        (count ∙ sym solves.count ∙ sym (length-map solution word_of_value))
        (λ c below.
        let inside : c < instance_count g t = omega (arith, below, count) in
        let solved : c < length solution = (let e = solves.count in omega (arith, inside, e)) in
        closed.each c (subst (λ n. c < n) (sym (cell_total-listed w)) inside)
        ∙ ap₂ last_word_of (kind_at-listed w c inside) (ap word_of_value (solution_at-listed w c inside))
        ∙ last_by (g.sort (cell c).attribute) c stage inside last refl (word_of_value (value_of c))
        ∙ sym (get_or-map word_of_value solution c overflow 0 solved))

    pub no_stages : length s ≡ 0 → first_words g t ≡ map word_of_value solution
    no_stages none =
        ext_get_or 0 (first_words g t) (map word_of_value solution)
        (length-first ∙ sym solves.count ∙ sym (length-map solution word_of_value))
        (λ c below.
        let long = length-first in
        let inside : c < instance_count g t = omega (arith, below, long) in
        let solved : c < length solution = (let e = solves.count in omega (arith, inside, e)) in
        first_at c inside
        ∙ given_by (g.sort (cell c).attribute) c inside refl
        ∙ sym (get_or-map word_of_value solution c overflow 0 solved))
      where
        given_by : (sort : Sort) (c : ℕ) → c < instance_count g t → g.sort (cell c).attribute ≡ sort
            → first_word g t sort (cell c) ≡ word_of_value (value_of c)
        given_by input c below is = first_by input c 0 below is
        given_by inherited c below is =
            let valid = (instance_here g t law fits c no_instance below).0 in
            absurd
            (let within = in_a_stage (cell c) (valid, (λ e. let z : ⊥ = grind arith in z)) in
            let z : ⊥ = omega (arith, within, none) in
            z)
        given_by synthesized c below is =
            let valid = (instance_here g t law fits c no_instance below).0 in
            absurd
            (let within = in_a_stage (cell c) (valid, (λ e. let z : ⊥ = grind arith in z)) in
            let z : ⊥ = omega (arith, within, none) in
            z)
        given_by local c below is =
            let valid = (instance_here g t law fits c no_instance below).0 in
            absurd
            (let within = in_a_stage (cell c) (valid, (λ e. let z : ⊥ = grind arith in z)) in
            let z : ⊥ = omega (arith, within, none) in
            z)
