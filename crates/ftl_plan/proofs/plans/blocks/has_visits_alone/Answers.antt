use Rattle.std.proofs.Common.{◌≡◌, refl, sym, ◌∙◌, ap, false, not, Option, None, Some}
use Rattle.std.proofs.lemmas.List.{get_or_default}
use Rattle.std.specs.Option.{is_some}
use Rattle.ftl_host_cursors.specs.declared.nest_rows.NestRows.{NestRows}
use Rattle.ftl_order.specs.orders.Schedule.{inorder}
use Rattle.ftl_schedule.specs.stages.Stages.{kind_of}
use Rattle.ftl_schedule.specs.declared.syntax.kind.PassKind.{PassKind}
use Rattle.ftl_schedule.specs.declared.syntax.kind.PassKind.TheVariants.{BottomUp, InOrder, TopDown}
use Rattle.ftl_cursors.proofs.items.Starts.{pass_kind}
use Rattle.ftl_plan.proofs.plans.blocks.has_visits_alone.Goals as goal

-- one kind alone is that of inorder passes
in_order : (kind : PassKind) → kind_of kind ≡ inorder → kind ≡ InOrder
in_order TopDown e = absurd (let z : ⊥ = cc in z)
in_order BottomUp e = absurd (let z : ⊥ = cc in z)
in_order InOrder e = refl

nothing : (nest : Option NestRows) → is_some nest ≡ false → nest ≡ None
nothing None e = refl
nothing (Some nest) e = absurd (let z : ⊥ = cc in z)

pub returns-in_default : goal.returns-in_default
returns-in_default c =
    let x = c.args.tables in
    let m = c.args.pass in
    record {
      alone = λ yes. record {
        kind = λ e.
            c.in_default.not-InOrder (in_order _ (sym (pass_kind x.own.items.passes.now m _ c.requires.known) ∙ e));
        none =
            get_or_default x.nests.now m None c.index-tables-pass.result c.requires.nest
            ∙ nothing _ (c.is_none.ensures ∙ ap not yes);
      };
    }
