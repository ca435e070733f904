-- The items of a stage are told by the kinds and the host classes of its passes.
use Rattle.std.proofs.Common.{◌≡◌, ℕ, sym, ◌∙◌, ap, Bool, List, Option, None, get_or, length}
use Rattle.std.proofs.lemmas.List.{length-map}
use Rattle.std.proofs.Math.ListN.{get_or-map}
use mathlib.Core.Path.{fun_ext}
use Rattle.ftl_items.specs.stage_items.Items.{cuts_of, pass_in}
use Rattle.ftl_model.specs.layout.AttributeGrammar.{AttributeGrammar}
use Rattle.ftl_model.specs.layout.Path.{Path}
use Rattle.ftl_model.specs.layout.Tree.{Forest}
use Rattle.ftl_order.specs.orders.Schedule.{Pass, PassKind, empty_pass, topdown}
use Rattle.ftl_nests.specs.NestItems.{nest_form, pass_count}
use Rattle.ftl_nests.specs.Nests.{NestingPass, NestingSchedule, host_of, nesting_pass, no_pass}
use Rattle.ftl_cursors.specs.items.RowsCut.{cut_with}
use Rattle.ftl_cursors.specs.items.WholeTrees.{is_whole_at}
use Rattle.ftl_host_cursors.specs.NestTables.{nesting_passes}
use Rattle.ftl_host_cursors.proofs.StageCuts.{whole_is}
use Rattle.ftl_plan.specs.phases.StagePhases.{kinds_in, stage_hosts, stage_kinds}

module _ (g : AttributeGrammar) (s : NestingSchedule) (t : Forest) (grain stage : ℕ) (passes : List Pass)
    (hosts : List (Option ℕ)) (kinds : stage_kinds s stage ≡ kinds_in passes) (are : stage_hosts s stage ≡ hosts) where
  abbrev these : List NestingPass
  these = nesting_passes s stage

  kind_at : (m : ℕ) → (pass_in passes m).kind ≡ (nesting_pass s stage m).kind
  kind_at m =
      sym (get_or-map (λ (p : Pass). p.kind) passes m empty_pass)
      ∙ ap (λ (ks : List PassKind). get_or ks m topdown) (sym kinds)
      ∙ get_or-map (λ (p : NestingPass). p.kind) these m no_pass

  host_at : (m : ℕ) → get_or hosts m None ≡ host_of (nesting_pass s stage m).nest
  host_at m =
      ap (λ (hs : List (Option ℕ)). get_or hs m None) (sym are)
      ∙ get_or-map (λ (p : NestingPass). host_of p.nest) these m no_pass

  -- passes of these kinds with these hosts are cut as those of the stage
  pub cuts_tell : cut_with t grain passes hosts ≡ cuts_of (nest_form g s t grain stage)
  cuts_tell =
      fun_ext
      (λ m. ap (λ (k : PassKind). record { kind = k; is_whole = is_whole_at (get_or hosts m None) t grain }) (kind_at m)
      ∙ ap
      (λ (h : Option ℕ). record { kind = (nesting_pass s stage m).kind; is_whole = is_whole_at h t grain })
      (host_at m)
      ∙ ap (λ (w : Path → Bool). record { kind = (nesting_pass s stage m).kind; is_whole = w })
      (fun_ext (whole_is (nesting_pass s stage m).nest t grain)))

  -- and are as many
  pub count_tells : length passes ≡ pass_count s stage
  count_tells =
      sym (length-map passes (λ (p : Pass). p.kind))
      ∙ ap (λ (ks : List PassKind). length ks) (sym kinds)
      ∙ length-map these (λ (p : NestingPass). p.kind)
