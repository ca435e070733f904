use Rattle.std.proofs.Common.{◌++◌, ◌∷◌, [], List, Option, map, ap, ap₂, ◌∙◌, sym, subst, arith}
use Rattle.std.specs.List.{All}
use Rattle.std.proofs.lemmas.List.{map_more, map_push, take_all}
use Rattle.std.proofs.lemmas.List.Elements.{All-nil, All-push}
use Rattle.ftl_deps.specs.reads.Meant.{meant}
use Rattle.ftl_host_cursors.specs.NestTables.{HasTables, NestMeaning, kept_meaning}
use Rattle.ftl_host_cursors.specs.declared.nest_rows.NestRows.{NestRows}
use Rattle.ftl_nest_check.specs.declared.stages.types.NestingPass.{NestingPass}
use Rattle.ftl_plan.specs.plans.PlannedStages.{AreNestsKept, pass_nest}
use Rattle.ftl_plan.proofs.plans.stages.kept_nests.Goals as goal

pub loop-pass-init : goal.loop-pass-init
loop-pass-init c =
    let none = c.in_ok-nests.ensures.items in
    record {
      nests_are = ap (λ (ns : List (Option NestRows)). map kept_meaning ns) none;
      tables = subst (All (HasTables (meant c.args.index.now))) (sym none) (All-nil (HasTables (meant c.args.index.now)));
    }

pub loop-pass-preserved : goal.loop-pass-preserved
loop-pass-preserved c =
    let g = meant c.args.index.now in
    let passes = c.args.passes.now in
    let n = c.loop-pass.pass-index in
    let old = c.loop-pass.nests.items in
    let kept = c.in_ok-kept_nest.field-0 in
    let of = c.in_ok-kept_nest.ensures.nest in
    let grown = c.in_ok-push.ensures.items in
    record {
      nests_are =
          ap (λ (ns : List (Option NestRows)). map kept_meaning ns) grown
          ∙ map_push kept_meaning old kept
          ∙ ap₂ (λ (ns : List NestMeaning) x. ns ++ x ∷ []) c.loop-pass.invariant.nests_are
          (of.nest_is ∙ ap pass_nest c.pass-item.is)
          ∙ sym (map_more pass_nest passes n c.pass-item.result c.loop-pass-test.true);
      tables =
          subst (All (HasTables g)) (sym grown)
          (All-push (HasTables g) old kept c.loop-pass.invariant.tables of.tables);
    }

pub returns : goal.returns
returns c =
    let past = c.loop-pass-test.false in
    record {
      nests =
          subst
          (λ (ps : List NestingPass). AreNestsKept (meant c.args.index.now) ps c.loop-pass.nests.items)
          (take_all c.loop-pass.pass-index c.args.passes.now (omega (arith, past))) c.loop-pass.invariant;
    }
