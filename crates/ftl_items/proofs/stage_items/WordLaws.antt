-- The words that close a stage fit the next.
use Rattle.std.proofs.Common.{◌≡◌, ℕ, suc, ◌<◌, ◌≤◌, ◌==◌, true, false, if◌then◌else◌, ltb, ltb-true, ltb-false, refl, sym, ◌∙◌, ap, ap₂, subst, arith, eqb-true, eq-eqb, List, get_or, length}
use Rattle.ftl_cells.specs.shared.Shape.{WorkShape, listed}
use Rattle.ftl_cells.specs.shared.State.{AreFirst, AreLast, first_word_of, last_word_of}
use Rattle.ftl_cells.specs.declared.shared.kind.CellKind.TheVariants.{Given, Target, Later}
use Rattle.ftl_cells.proofs.shared.Shapes.{cell_total-listed, kind_at-listed, solution_at-listed}
use Rattle.ftl_model.specs.layout.AttributeGrammar.{AttributeGrammar, Sort, inherited, input, local, synthesized}
use Rattle.ftl_model.specs.layout.Table.{instance_count, instances}
use Rattle.ftl_model.specs.layout.Tree.{Forest}
use Rattle.ftl_model.specs.layout.Values.{Value, word_of_value}
use Rattle.ftl_order.specs.orders.Schedule.{Schedule, placing_of}
use Rattle.ftl_items.specs.stage_items.StageWork.{kind_by, kind_by_stage, kind_of, no_instance, stage_work, work_by}
use Rattle.ftl_items.specs.stage_items.Items.{PassForm, form_of, passes_of}

pub ltb_is : (n m : ℕ) → n < m → ltb n m ≡ true
ltb_is n m less =
    elim (ltb n m) as (λ b. (ltb n m ≡ b) → b ≡ true)
    [ true ↦ λ e. refl | false ↦ λ e. absurd (let h = ltb-false n m e in let z : ⊥ = omega (arith, h, less) in z) ]
    refl

pub ltb_not : (n m : ℕ) → m ≤ n → ltb n m ≡ false
ltb_not n m more =
    elim (ltb n m) as (λ b. (ltb n m ≡ b) → b ≡ false)
    [ true ↦ λ e. absurd (let h = ltb-true n m e in let z : ⊥ = omega (arith, h, more) in z) | false ↦ λ e. refl ]
    refl

given_next : (n k word : ℕ) → n < suc k → first_word_of (kind_by_stage n (suc k)) word ≡ word
given_next n k word less =
    ap (λ b. first_word_of (if b then Given else (if n == suc k then Target else Later)) word) (ltb_is n (suc k) less)

empty_next : (n k word : ℕ) → suc k ≤ n → first_word_of (kind_by_stage n (suc k)) word ≡ 0
empty_next n k word more =
    ap (λ b. first_word_of (if b then Given else (if n == suc k then Target else Later)) word) (ltb_not n (suc k) more)
    ∙ (elim (n == suc k) as (λ b. first_word_of (if b then Target else Later) word ≡ 0) [ true ↦ refl | false ↦ refl ])

stage_words : (n k word : ℕ)
    → last_word_of (kind_by_stage n k) word ≡ first_word_of (kind_by_stage n (suc k)) word
stage_words n k word =
    elim (ltb n k) as
    (λ b. (ltb n k ≡ b)
    → last_word_of (if b then Given else (if n == k then Target else Later)) word
    ≡ first_word_of (kind_by_stage n (suc k)) word) [
      | true ↦ λ e. let l = ltb-true n k e in sym (given_next n k word (omega (arith, l)))
      | false ↦ λ e.
          let h = ltb-false n k e in
          (elim (n == k) as
          (λ b. (n == k ≡ b) → last_word_of (if b then Target else Later) word
          ≡ first_word_of (kind_by_stage n (suc k)) word) [
            | true ↦ λ f. let same = eqb-true n k f in sym (given_next n k word (omega (arith, same)))
            | false ↦ λ f.
                sym
                (empty_next n k word
                (apart n k h (λ same. let is = eq-eqb n k same in let z : ⊥ = grind arith in z)))
          ]) refl
    ]
    refl
  where
    apart : (n k : ℕ) → k ≤ n → (n ≡ k → ⊥) → suc k ≤ n
    apart n k more other =
        elim (ltb k n) as (λ b. (ltb k n ≡ b) → suc k ≤ n) [
          | true ↦ λ e. let l = ltb-true k n e in omega (arith, l)
          | false ↦ λ e.
              absurd (let h = ltb-false k n e in other (let z : n ≡ k = omega (arith, h, more) in z))
        ] refl

sort_words : (sort : Sort) (n k word : ℕ)
    → last_word_of (kind_by sort n k) word ≡ first_word_of (kind_by sort n (suc k)) word
sort_words input n k word = refl
sort_words inherited n k word = stage_words n k word
sort_words synthesized n k word = stage_words n k word
sort_words local n k word = stage_words n k word

-- of any passes in either stage
pub form_words_fit : (g : AttributeGrammar) (s : Schedule) (t : Forest) (stage count more : ℕ)
    (forms more_forms : ℕ → PassForm) (solution : List Value) (reads stack more_reads more_stack : ℕ) (words : List ℕ)
    → AreLast (listed (work_by g t count forms (kind_of g s stage) solution reads stack)) words
    → AreFirst (listed (work_by g t more more_forms (kind_of g s (suc stage)) solution more_reads more_stack)) words
form_words_fit g s t stage count more forms more_forms solution reads stack more_reads more_stack words last =
    let w : WorkShape = work_by g t count forms (kind_of g s stage) solution reads stack in
    let v : WorkShape = work_by g t more more_forms (kind_of g s (suc stage)) solution more_reads more_stack in
    record {
      count = last.count ∙ cell_total-listed w ∙ sym (cell_total-listed v);
      each = λ c below.
          let inside : c < instance_count g t = subst (λ n. c < n) (cell_total-listed v) below in
          let i = get_or (instances g t) c no_instance in
          last.each c (subst (λ n. c < n) (sym (cell_total-listed w)) inside)
          ∙ ap₂ last_word_of (kind_at-listed w c inside) (ap word_of_value (solution_at-listed w c inside))
          ∙ sort_words (g.sort i.attribute) (placing_of s i.attribute).stage stage (word_of_value (w.value c))
          ∙ sym (ap₂ first_word_of (kind_at-listed v c inside) (ap word_of_value (solution_at-listed v c inside)));
    }

pub words_fit : (g : AttributeGrammar) (s : Schedule) (t : Forest) (grain stage : ℕ) (solution : List Value)
    (reads stack more_reads more_stack : ℕ) (words : List ℕ)
    → AreLast (listed (stage_work g s t grain stage solution reads stack)) words
    → AreFirst (listed (stage_work g s t grain (suc stage) solution more_reads more_stack)) words
words_fit g s t grain stage =
    form_words_fit g s t stage (length (passes_of s stage)) (length (passes_of s (suc stage))) (form_of g s stage t grain)
    (form_of g s (suc stage) t grain)
