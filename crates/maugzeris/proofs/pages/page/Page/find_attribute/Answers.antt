use Rattle.std.proofs.Common.{◌≢◌, ◌<◌, ◌∙◌, ℕ, sym, subst, arith, List, [], get_or, length, take}
use Rattle.std.proofs.lemmas.Bool.{both_ways}
use Rattle.std.proofs.lemmas.Bool.Decides.{Decides-eqb}
use Rattle.std.proofs.lemmas.Grind.{common_steps}
use Rattle.std.proofs.lemmas.Slice.Eq.{slice_eq-Decides}
use Rattle.std.proofs.lemmas.List.{take_all, take_more}
use Rattle.std.proofs.lemmas.List.Elements.{All-append, All-cons, All-nil}
use Rattle.std.specs.List.{All}
use Rattle.ftl_meaning.specs.faults.Checked.{attribute_at}
use Rattle.maugzeris.proofs.pages.page.Page.find_attribute.Goals as goal

pub loop-attr-preserved : goal.loop-attr-preserved
loop-attr-preserved c =
    let xs = c.attributes-attr-items.result.now in
    let i = c.loop-attr.attr-index in
    let x = get_or xs i 0 in
    let Other : ℕ → Type 0 =
    λ a. (attribute_at c.args.self.now.checked.grammar a).decl.name ≢ c.args.name.now in
    let within : i < length xs = grind (arith, common_steps) in
    let same = slice_eq-Decides Decides-eqb c.attribute_name.result.now c.args.name.now c.eq.result c.eq.ensures in
    let another : Other x = λ e. both_ways c.eq.result c.if-eq.false (same.1 (c.attribute_name.ensures.name ∙ e)) in (
      c.loop-attr.invariant.0,
      subst (λ (ys : List ℕ). All Other ys) (sym (take_more xs i 0 within))
          (All-append Other (take i xs) _ c.loop-attr.invariant.1 (All-cons Other x [] another (All-nil Other))),
    )

pub returns : goal.returns
returns c =
    let xs = c.attributes-attr-items.result.now in
    let i = c.loop-attr.attr-index in
    let Other : ℕ → Type 0 =
    λ a. (attribute_at c.args.self.now.checked.grammar a).decl.name ≢ c.args.name.now in
    record {
      named =
          subst (λ (ys : List ℕ). All Other ys) (take_all i xs c.loop-attr-test.false ∙ c.loop-attr.invariant.0)
          c.loop-attr.invariant.1;
    }
