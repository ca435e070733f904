-- How the passes of a stage with nests are cut, by their host classes.
use Rattle.std.proofs.Common.{◌≡◌, ℕ, refl, ◌∙◌, ap, List, get_or, map, Bool, Option, None, Some}
use Rattle.std.proofs.Math.ListN.{get_or-map}
use mathlib.Core.Path.{fun_ext}
use Rattle.ftl_items.specs.stage_items.Items.{cuts_of, pass_in}
use Rattle.ftl_model.specs.layout.AttributeGrammar.{AttributeGrammar}
use Rattle.ftl_model.specs.layout.Path.{Path}
use Rattle.ftl_model.specs.layout.Tree.{Forest}
use Rattle.ftl_order.specs.orders.Schedule.{Pass}
use Rattle.ftl_nests.specs.NestItems.{is_whole_with, nest_form}
use Rattle.ftl_nests.specs.Nests.{Nest, NestingPass, NestingSchedule, host_of, nesting_pass, no_pass}
use Rattle.ftl_cursors.specs.items.RowsCut.{cut_with}
use Rattle.ftl_cursors.specs.items.WholeTrees.{is_whole_at}
use Rattle.ftl_host_cursors.specs.NestTables.{nesting_passes, own_pass}

-- a tree is one item by the host class of a nest exactly where it is by the nest
pub whole_is : (nest : Option Nest) (t : Forest) (grain : ℕ) (p : Path)
    → is_whole_at (host_of nest) t grain p ≡ is_whole_with nest t grain p
whole_is None t grain p = refl
whole_is (Some nest) t grain p = refl

module _ (g : AttributeGrammar) (s : NestingSchedule) (t : Forest) (grain stage : ℕ) (passes : List Pass)
    (hosts : List (Option ℕ)) (own : passes ≡ map own_pass (nesting_passes s stage))
    (host : hosts ≡ map (λ (p : NestingPass). host_of p.nest) (nesting_passes s stage)) where
  -- the pass of a number
  pub own_at : (m : ℕ) → pass_in passes m ≡ own_pass (nesting_pass s stage m)
  own_at m =
      ap (λ (ps : List Pass). pass_in ps m) own ∙ get_or-map own_pass (nesting_passes s stage) m no_pass

  -- and its host class
  pub host_at : (m : ℕ) → get_or hosts m None ≡ host_of (nesting_pass s stage m).nest
  host_at m =
      ap (λ (hs : List (Option ℕ)). get_or hs m None) host
      ∙ get_or-map (λ (p : NestingPass). host_of p.nest) (nesting_passes s stage) m no_pass

  -- by which it is cut as its form
  pub cut_is : (m : ℕ) → cut_with t grain passes hosts m ≡ (nest_form g s t grain stage m).cut
  cut_is m =
      ap (λ (p : Pass). record { kind = p.kind; is_whole = is_whole_at (get_or hosts m None) t grain }) (own_at m)
      ∙ ap
      (λ (h : Option ℕ). record { kind = (nesting_pass s stage m).kind; is_whole = is_whole_at h t grain })
      (host_at m)
      ∙ ap (λ (w : Path → Bool). record { kind = (nesting_pass s stage m).kind; is_whole = w })
      (fun_ext (whole_is (nesting_pass s stage m).nest t grain))

  -- so are all
  pub cuts_are : cut_with t grain passes hosts ≡ cuts_of (nest_form g s t grain stage)
  cuts_are = fun_ext cut_is
