-- The tests of the table with nests decide its rows.
use Rattle.std.proofs.Common.{◌≡◌, ◌↔◌, ℕ, Bool, true, refl, sym, ◌∙◌, ap, subst, inr, ⊎_elim, arith, Option, Some, None}
use Rattle.std.specs.Bool.{Decides}
use Rattle.std.proofs.lemmas.Bool.Decides.{Decides-and, Decides-eqb, Decides-ltb, Decides-or}
use Rattle.ftl_model.specs.layout.AttributeGrammar.{AttributeGrammar, Read, RuleName}
use Rattle.ftl_order.specs.orders.Lawful.{IsLawful, class_of_rule}
use Rattle.ftl_order.specs.orders.Ordered.{Row, VisitPlace, visit_place}
use Rattle.ftl_order.specs.orders.Pairs.{IsPair, Pair, Where, child_class, parent_class, same_class}
use Rattle.ftl_order.specs.orders.Schedule.{PassKind, Placing, bottomup, inorder, topdown}
use Rattle.ftl_order.specs.dependencies.DepLaws.{where_of}
use Rattle.ftl_order.specs.dependencies.DepReads.{dep_read}
use Rattle.ftl_order.specs.declared.dependencies.dep_read.DepRead.{DepRead}
use Rattle.ftl_order.specs.declared.dependencies.dep_read.Site.{Site}
use Rattle.ftl_order.specs.declared.dependencies.dep_read.Site.TheVariants as sites
use Rattle.ftl_order.specs.faults.OrderedReads.{in_pass_by}
use Rattle.ftl_order.proofs.dependencies.Writers.{sites_say}
use Rattle.ftl_order.proofs.faults.Tests.{ordered_tells}
use Rattle.ftl_nests.specs.Nests.{IsNestOrderedRead, NestPlacing, NestRow}
use Rattle.ftl_regions.specs.pairs.NestReads.{TellsPairs, in_nests, is_bottomup, is_nest_ordered, is_topdown}

topdown_tells : (kind : PassKind) → Decides (is_topdown kind) (kind ≡ topdown)
topdown_tells topdown = ((λ e. refl), (λ e. refl))
topdown_tells bottomup = ((λ e. cc), (λ e. cc))
topdown_tells inorder = ((λ e. cc), (λ e. cc))

bottomup_tells : (kind : PassKind) → Decides (is_bottomup kind) (kind ≡ bottomup)
bottomup_tells topdown = ((λ e. cc), (λ e. cc))
bottomup_tells bottomup = ((λ e. refl), (λ e. refl))
bottomup_tells inorder = ((λ e. cc), (λ e. cc))

-- all in one pass of this kind, each at its place in the list
abbrev in_one_pass : PassKind → Placing → Placing
in_one_pass kind at a = record { stage = 0; pass = 0; kind = kind; index = (at a).index }

-- what is asked in a pass is asked of the places in its list alone
pass_is : (s : Site) (kind : PassKind) (at : Placing) (d : DepRead) (x y : VisitPlace)
    → in_pass_by s kind (in_one_pass kind at) d x y ≡ in_pass_by s kind at d x y
pass_is sites.Input kind at d x y = refl
pass_is sites.SameVisit topdown at d x y = refl
pass_is sites.SameVisit bottomup at d x y = refl
pass_is sites.SameVisit inorder at d x y = refl
pass_is sites.Above kind at d x y = refl
pass_is sites.Below kind at d x y = refl

row_is : (runs_at : Where) (kind : PassKind) (at : Placing) (r : Read) (x y : VisitPlace)
    → Row runs_at kind (in_one_pass kind at) r x y ≡ Row runs_at kind at r x y
row_is same_class topdown at r x y = refl
row_is same_class bottomup at r x y = refl
row_is same_class inorder at r x y = refl
row_is parent_class kind at r x y = refl
row_is child_class kind at r x y = refl

module _ (g : AttributeGrammar) (runs_at : Where) (r : Read) (v w : RuleName)
    (site : where_of (dep_read g r).site ≡ Some runs_at) where
  abbrev x : VisitPlace
  x = visit_place g v

  abbrev y : VisitPlace
  y = visit_place g w

  row_of : (at : Placing) (kind : PassKind)
      → Decides (in_pass_by (dep_read g r).site kind at (dep_read g r) x y) (Row runs_at kind at r x y)
  row_of at kind =
      let whole = ordered_tells g (in_one_pass kind at) runs_at r v w site in
      let pass = pass_is (dep_read g r).site kind at (dep_read g r) x y in
      let row = row_is runs_at kind at r x y in (
        (λ e. ⊎_elim (λ less. absurd (omega (arith, less))) (λ both. subst (λ (T : Type 0). T) row both.1)
            (whole.0 (pass ∙ e))),
        (λ h. sym pass ∙ whole.1 (inr ((refl, refl), subst (λ (T : Type 0). T) (sym row) h))),
      )

  nests_tell : (hx hy : Option ℕ) (kind : PassKind) (at : NestPlacing)
      → Decides (in_nests hx hy kind at (dep_read g r) x y) (NestRow hx hy kind at runs_at r x y)
  nests_tell None None kind at = row_of at.outer kind
  nests_tell (Some h) (Some k) kind at = ordered_tells g at.inner runs_at r v w site
  nests_tell None (Some k) kind at = topdown_tells kind
  nests_tell (Some h) None kind at = bottomup_tells kind

  nest_tells : (at : NestPlacing)
      → Decides (is_nest_ordered at (dep_read g r) x y) (IsNestOrderedRead at runs_at r x y)
  nest_tells at =
      Decides-or _ _ (Decides-ltb (at.outer x.attribute).stage (at.outer y.attribute).stage)
      (Decides-and _ _
      (Decides-and _ _ (Decides-eqb (at.outer x.attribute).stage (at.outer y.attribute).stage)
      (Decides-eqb (at.outer x.attribute).pass (at.outer y.attribute).pass))
      (nests_tell (at.host x.attribute) (at.host y.attribute) (at.outer y.attribute).kind at))

-- of a pair of a grammar
pub pair_tells : (g : AttributeGrammar) → IsLawful g → (at : NestPlacing) (pair : Pair) → IsPair g pair
    → Decides
    (is_nest_ordered at (dep_read g pair.read) (visit_place g pair.writer) (visit_place g pair.reader))
    (IsNestOrderedRead at pair.runs_at pair.read (visit_place g pair.writer) (visit_place g pair.reader))
pair_tells g law at pair is =
    nest_tells g pair.runs_at pair.read pair.writer pair.reader
    (sites_say g law (class_of_rule pair.reader) pair.read pair.runs_at pair.writer is.1) at

-- so the test tells it
pub test_tells : (at : NestPlacing) (d : DepRead) (x y : VisitPlace) (told : Bool) → told ≡ is_nest_ordered at d x y
    → TellsPairs at d x y told
test_tells at d x y told is g pair h =
    subst (λ p. (told ≡ true) ↔ IsNestOrderedRead at pair.runs_at pair.read p y) h.writer
    (subst (λ p. (told ≡ true) ↔ IsNestOrderedRead at pair.runs_at pair.read (visit_place g pair.writer) p) h.reader
    (let both = pair_tells g h.lawful at pair h.there in
    ((λ e. both.0 (tested ∙ sym is ∙ e)), (λ o. is ∙ sym tested ∙ both.1 o))))
  where
    tested : is_nest_ordered at (dep_read g pair.read) (visit_place g pair.writer) (visit_place g pair.reader)
        ≡ is_nest_ordered at d x y
    tested =
        ap (λ e. is_nest_ordered at e (visit_place g pair.writer) (visit_place g pair.reader)) h.read
        ∙ ap (λ p. is_nest_ordered at d p (visit_place g pair.reader)) h.writer
        ∙ ap (λ p. is_nest_ordered at d x p) h.reader
