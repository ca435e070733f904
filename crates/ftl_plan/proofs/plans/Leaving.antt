-- A stage in which no attribute of a node stands fills no cell, so the words that fit it are those that close it.
use Rattle.std.proofs.Common.{◌≡◌, ℕ, zero, suc, ◌<◌, ◌==◌, Bool, true, false, if◌then◌else◌, ltb, refl, sym, ◌∙◌, ap, subst, arith, List, [], ◌∷◌, get_or, length}
use Rattle.std.proofs.lemmas.Bool.{eqb-true}
use Rattle.ftl_cells.specs.shared.Shape.{WorkShape, listed}
use Rattle.ftl_cells.specs.shared.State.{AreFirst, AreLast, first_word_of, last_word_of}
use Rattle.ftl_cells.specs.shared.Work.{solved_word}
use Rattle.ftl_cells.specs.declared.shared.kind.CellKind.TheVariants.{Given, Target, Later}
use Rattle.ftl_cells.proofs.shared.Shapes.{cell_total-listed, kind_at-listed}
use Rattle.ftl_items.specs.stage_items.Items.{PassForm}
use Rattle.ftl_items.specs.stage_items.StageWork.{kind_by, kind_by_stage, kind_of, no_instance, work_by}
use Rattle.ftl_step_value.proofs.limits.reads.Entries.{whole}
use Rattle.ftl_model.specs.layout.AttributeGrammar.{AttributeGrammar, Sort, attributes_of, inherited, input, local, synthesized}
use Rattle.ftl_model.specs.layout.Path.{class_at, number_of}
use Rattle.ftl_model.specs.layout.Solves.{Instance, IsInstance}
use Rattle.ftl_model.specs.layout.Table.{instance_count, instances}
use Rattle.ftl_model.specs.layout.Tree.{Forest, size}
use Rattle.ftl_model.specs.layout.TreeOf.{IsTreeOf}
use Rattle.ftl_model.specs.layout.Values.{Value}
use Rattle.ftl_model.proofs.layout.Standing.{node_at-number_of, number_of-lt}
use Rattle.ftl_order.specs.orders.Lawful.{IsLawful}
use Rattle.ftl_order.specs.orders.Schedule.{Schedule, stage_of}
use Rattle.ftl_order.proofs.orders.Instances.{instance_here}
use Rattle.ftl_deps.specs.reads.Meant.{meant}
use Rattle.ftl_items.specs.solution.Solution.{solution}
use Rattle.ftl_model.specs.layout.Limits.{most_step_reads}
use Rattle.ftl_nest_check.specs.stages.Nested.{nests_of}
use Rattle.ftl_nests.specs.NestItems.{nest_form, pass_count}
use Rattle.ftl_nests.specs.Nests.{outer_schedule}
use Rattle.ftl_plan.specs.laws.StageMeanings.{CanBePlanned}
use Rattle.ftl_plan.specs.plans.FilledStages.{AreSetForNodes, AreStagesSet, TellFilling}
use Rattle.ftl_plan.specs.plans.Planned.{PlanMeaning}

-- a cell of another stage has the same word before and after
other_stage : (its stage word : ℕ) → (its ≡ stage → ⊥)
    → first_word_of (kind_by_stage its stage) word ≡ last_word_of (kind_by_stage its stage) word
other_stage its stage word other =
    elim (ltb its stage) as
    (λ b. first_word_of (if b then Given else (if its == stage then Target else Later)) word
    ≡ last_word_of (if b then Given else (if its == stage then Target else Later)) word) [
      | true ↦ refl
      | false ↦
          elim (its == stage) as
          (λ b. (its == stage ≡ b)
          → first_word_of (if b then Target else Later) word ≡ last_word_of (if b then Target else Later) word) [
            | true ↦ λ e. absurd (other (eqb-true its stage e))
            | false ↦ λ e. refl
          ]
          refl
    ]

-- and so has one of an input
same_word : (sort : Sort) (its stage word : ℕ) → (its ≡ stage → ⊥)
    → first_word_of (kind_by sort its stage) word ≡ last_word_of (kind_by sort its stage) word
same_word input its stage word other = refl
same_word inherited its stage word other = other_stage its stage word other
same_word synthesized its stage word other = other_stage its stage word other
same_word local its stage word other = other_stage its stage word other

-- an entry that is there is the same whatever stands for others
pub same_entry : (marks : List Bool) (n : ℕ) → n < length marks → get_or marks n true ≡ get_or marks n false
same_entry [] n within = absurd (let z : ⊥ = omega (arith, within) in z)
same_entry (b ∷ marks) zero within = refl
same_entry (b ∷ marks) (suc n) within = same_entry marks n (omega (arith, within))

-- a mark that is told not to be set is there
is_there : (marks : List Bool) (n : ℕ) → get_or marks n true ≡ false → n < length marks
is_there [] n not_set = absurd (let z : ⊥ = cc in z)
is_there (b ∷ marks) zero not_set = omega arith
is_there (b ∷ marks) (suc n) not_set = omega (arith, is_there marks n not_set)

module _ (g : AttributeGrammar) (s : Schedule) (t : Forest) (law : IsLawful g) (fits : IsTreeOf g t) where
  -- no instance of the tree stands in a stage whose mark is not set
  pub none_here : (count : ℕ) (marks : List Bool) → AreSetForNodes g s t count marks → (stage : ℕ)
      → get_or marks stage true ≡ false → (i : Instance) → IsInstance g t i → stage_of s i.attribute ≡ stage → ⊥
  none_here count marks all stage not_set i valid here =
      let p = i.node in
      let there = node_at-number_of t p valid.0 in
      let low = number_of-lt t p valid.0 in
      let size_is = whole g t fits in
      let known : number_of t p < size t = omega (arith, low, size_is) in
      let each : AreStagesSet s (attributes_of g (class_at t p)) marks =
      subst (λ q. AreStagesSet s (attributes_of g (class_at t q)) marks) there (all.each (number_of t p) known) in
      let within : stage_of s i.attribute < length marks =
      subst (λ n. n < length marks) (sym here) (is_there marks stage not_set) in
      let is_set : get_or marks stage false ≡ true =
      subst (λ n. get_or marks n false ≡ true) here (each i.attribute valid.1 within) in
      let both : false ≡ true = sym not_set ∙ same_entry marks stage (is_there marks stage not_set) ∙ is_set in
      let z : ⊥ = cc in
      z

  -- so the words stay as they are
  module _ (count : ℕ) (forms : ℕ → PassForm) (stage : ℕ) (solution : List Value) (reads stack : ℕ) where
    abbrev work : WorkShape
    work = work_by g t count forms (kind_of g s stage) solution reads stack

    pub leaves : ((i : Instance) → IsInstance g t i → stage_of s i.attribute ≡ stage → ⊥)
        → (words : List ℕ) → AreFirst (listed work) words → AreLast (listed work) words
    leaves none words first =
        record {
          count = first.count;
          each = λ c below.
              let inside : c < instance_count g t = subst (λ n. c < n) (cell_total-listed work) below in
              let i = get_or (instances g t) c no_instance in
              let word = solved_word (listed work) c in
              let kind = kind_at-listed work c inside in
              first.each c below
              ∙ ap (λ k. first_word_of k word) kind
              ∙ same_word (g.sort i.attribute) (stage_of s i.attribute) stage word
              (none i (instance_here g t law fits c no_instance inside).0)
              ∙ ap (λ k. last_word_of k word) (sym kind);
        }

-- so are those of a plan told
pub told : (p : PlanMeaning) (count : ℕ) (marks : List Bool) → CanBePlanned (meant p.checked) (nests_of p.schedule) p.tree
    → count ≡ length (nests_of p.schedule)
    → AreSetForNodes (meant p.checked) (outer_schedule (nests_of p.schedule)) p.tree count marks → TellFilling p marks
told p count marks can all set =
    let g = meant p.checked in
    let s = nests_of p.schedule in
    record {
      count = set.count_is ∙ all;
      others = λ stage not_set words first.
          leaves g (outer_schedule s) p.tree can.law can.is_tree (pass_count s stage)
          (nest_form g s p.tree p.grain stage) stage (solution g p.tree) most_step_reads p.programs.max_stack
          (none_here g (outer_schedule s) p.tree can.law can.is_tree count marks set stage not_set) words first;
    }
