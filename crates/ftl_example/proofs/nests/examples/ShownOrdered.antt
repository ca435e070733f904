-- Where the writer of a shown read must precede the reader, a schedule with nests orders the pair.
use Rattle.std.proofs.Common.{◌≡◌, ℕ, sym, ◌∙◌, ap, refl, subst₂, inl, inr, ⊎_elim, arith, Option, None, Some}
use Rattle.ftl_model.specs.layout.AttributeGrammar.{AttributeGrammar, RuleName}
use Rattle.ftl_model.specs.layout.Solves.{Instance}
use Rattle.ftl_model.specs.layout.Tree.{Forest}
use Rattle.ftl_model.specs.layout.TreeOf.{IsTreeOf}
use Rattle.ftl_order.specs.orders.Lawful.{IsLawful}
use Rattle.ftl_order.specs.orders.LegalOrder.{turn_of}
use Rattle.ftl_order.specs.orders.Ordered.{VisitPlace, visit_place}
use Rattle.ftl_order.specs.orders.Pairs.{IsPair, Pair}
use Rattle.ftl_order.specs.orders.ReadPairs.{rule_of_step}
use Rattle.ftl_order.specs.orders.Schedule.{IsOnePass}
use Rattle.ftl_order.proofs.orders.DirectPrecedence.{place_of_rule}
use Rattle.ftl_example.specs.shows.Shows.{Shows}
use Rattle.ftl_example.proofs.shows.ShownRows.{shown_ordered}
use Rattle.ftl_nests.specs.Hosted.{HostedFirst, MustPrecedeWithNests}
use Rattle.ftl_nests.specs.Nests.{NestPlacing, NestRow}
use Rattle.ftl_example.specs.nests.pairs.NestPair.{IsNestOrderedPair}

module _ (g : AttributeGrammar) (law : IsLawful g) (at : NestPlacing) (t : Forest) (fits : IsTreeOf g t) (pair : Pair)
    (is : IsPair g pair) (r w : Instance) (shows : Shows g t pair r w) where
  -- the attributes of the pair's rules are those of the instances
  attribute_by : (i : Instance) (rule : RuleName) → rule_of_step g t i ≡ rule → (visit_place g rule).attribute ≡ i.attribute
  attribute_by i rule name =
      ap (λ n. (visit_place g n).attribute) (sym name)
      ∙ ap (λ (x : VisitPlace). x.attribute) (place_of_rule g t (g.sort i.attribute) i.node i.attribute refl)

  abbrev x : VisitPlace
  x = visit_place g pair.writer

  abbrev y : VisitPlace
  y = visit_place g pair.reader

  of_x : x.attribute ≡ w.attribute
  of_x = attribute_by w pair.writer shows.writer

  of_y : y.attribute ≡ r.attribute
  of_y = attribute_by r pair.reader shows.reader

  row : (hw hr : Option ℕ) → IsOnePass (at.outer w.attribute) (at.outer r.attribute)
      → HostedFirst t hw hr (at.outer r.attribute).kind at (turn_of g w) (turn_of g r)
      → NestRow hw hr (at.outer y.attribute).kind at pair.runs_at pair.read x y
  row None None pass first =
      ⊎_elim
      (λ less.
      absurd
      (let e : (at.outer x.attribute).stage ≡ (at.outer y.attribute).stage =
      ap (λ a. (at.outer a).stage) of_x ∙ pass.0 ∙ ap (λ a. (at.outer a).stage) (sym of_y) in
      let z : ⊥ = omega (arith, less, e) in
      z))
      (λ here. here.1) (shown_ordered g law at.outer t fits pair r w is shows (inr (pass, first)))
  row (Some h) (Some k) pass first = shown_ordered g law at.inner t fits pair r w is shows first.3
  row None (Some k) pass first = ap (λ a. (at.outer a).kind) of_y ∙ first.0
  row (Some h) None pass first = ap (λ a. (at.outer a).kind) of_y ∙ first.0

  pub shown_nest_ordered : MustPrecedeWithNests g t at w r → IsNestOrderedPair g at pair
  shown_nest_ordered must =
      ⊎_elim
      (λ less.
      inl
      (let e = ap (λ a. (at.outer a).stage) of_x in
      let f = ap (λ a. (at.outer a).stage) of_y in
      omega (arith, less, e, f)))
      (λ here.
      inr (
        (
          ap (λ a. (at.outer a).stage) of_x ∙ here.0.0 ∙ ap (λ a. (at.outer a).stage) (sym of_y),
          ap (λ a. (at.outer a).pass) of_x ∙ here.0.1 ∙ ap (λ a. (at.outer a).pass) (sym of_y),
        ),
        subst₂ (λ hw hr. NestRow hw hr (at.outer y.attribute).kind at pair.runs_at pair.read x y)
            (ap at.host (sym of_x)) (ap at.host (sym of_y)) (row (at.host w.attribute) (at.host r.attribute) here.0 here.1),
      )) must
