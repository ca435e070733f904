use Rattle.std.proofs.Common.{◌≡◌, ℕ, List, IfOk, ap, ap₂, ◌∙◌, subst, sym}
use Rattle.ftl_meaning.specs.faults.Checked.{CheckedGrammar}
use Rattle.ftl_model.specs.layout.Tree.{Forest}
use Rattle.ftl_deps.specs.reads.Meant.{meant}
use Rattle.ftl_step_value.specs.limits.reads.ReadTables.{AreTables}
use Rattle.ftl_items.specs.stage_items.WordLaws.{first_words}
use Rattle.ftl_plan.specs.plans.Planned.{PlanMeaning}
use Rattle.ftl_plan.proofs.plans.plan.Plan.first_words.Goals as goal

pub first_words-requires-clause-tables : goal.first_words-requires-clause-tables
first_words-requires-clause-tables c =
    subst (λ (x : CheckedGrammar). AreTables (meant x) c.self.inside.tables) (sym c.self.invariant.tree)
    c.self.invariant.tables

pub returns : goal.returns
returns c =
    let t = c.self.inside.tree.now in
    let p = c.args.self.now in
    let view = c.self.view_is in
    let same_grammar : t.checked ≡ p.checked = c.self.invariant.tree ∙ ap (λ (q : PlanMeaning). q.checked) view in
    let same_tree : t.tree ≡ p.tree = ap (λ (q : PlanMeaning). q.tree) view in
    record {
      words =
          subst (λ (ws : List ℕ). IfOk c.first_words.result (λ v. v.items ≡ ws))
          (ap₂ (λ (x : CheckedGrammar) (u : Forest). first_words (meant x) u) same_grammar same_tree)
          c.first_words.ensures.words;
    }
