use Rattle.std.proofs.Common.{◌++◌, ◌∷◌, [], ℕ, List, Option, None, Some, map, refl, ap, ap₂, sym, ◌∙◌, subst, arith}
use Rattle.std.proofs.lemmas.List.{map_more, map_push, take_all}
use Rattle.std.proofs.lemmas.List.Elements.{All-nil, All-push}
use Rattle.ftl_cursors.specs.items.RowsOfTree.{AreOfTree, IsOfTree}
use Rattle.ftl_cursors.specs.declared.items.columns.ItemRows.{ItemRows}
use Rattle.ftl_cursors.proofs.items.by_host.TreeRows.new.Goals as goal

abbrev host_in : ItemRows → Option ℕ
host_in r = r.host

pub loop-host-init : goal.loop-host-init
loop-host-init c =
    let made = c.in_ok-small.ensures.made in
    let grown = c.in_ok-push.ensures.items ∙ ap (λ (rs : List ItemRows). rs ++ c.in_ok-small.small ∷ []) c.new-by_host.ensures.items in
    record {
      of_tree =
          subst (AreOfTree c.args.tree.now c.args.grain) (sym grown)
          (All-push (IsOfTree c.args.tree.now c.args.grain) [] c.in_ok-small.small
          (All-nil (IsOfTree c.args.tree.now c.args.grain))
          (record { tree = made.tree; grain_is = made.grain_is }));
      hosts = ap (map host_in) grown ∙ ap (λ h. h ∷ []) made.host_is;
    }

pub loop-host-preserved : goal.loop-host-preserved
loop-host-preserved c =
    let made = c.in_ok-rows.ensures.made in
    let n = c.loop-host.host-index in
    let old = c.loop-host.by_host.items in
    let grown = c.in_ok-push-2.ensures.items in
    let inv = c.loop-host.invariant in
    record {
      of_tree =
          subst (AreOfTree c.args.tree.now c.args.grain) (sym grown)
          (All-push (IsOfTree c.args.tree.now c.args.grain) old c.in_ok-rows.rows inv.of_tree
          (record { tree = made.tree; grain_is = made.grain_is }));
      hosts =
          ap (map host_in) grown
          ∙ map_push host_in old c.in_ok-rows.rows
          ∙ ap₂ (λ (hs : List (Option ℕ)) h. hs ++ h ∷ []) inv.hosts made.host_is
          ∙ ap (λ (hs : List (Option ℕ)). None ∷ hs) (sym (map_more Some c.args.hosts.now n 0 c.loop-host-test.true));
    }

pub returns : goal.returns
returns c =
    let past = c.loop-host-test.false in
    record {
      made = record {
        tree = refl;
        grain_is = refl;
        hosts_are =
            c.loop-host.invariant.hosts
            ∙ ap (λ (ns : List ℕ). None ∷ map Some ns) (take_all c.loop-host.host-index c.args.hosts.now (omega (arith, past)));
      };
    }
