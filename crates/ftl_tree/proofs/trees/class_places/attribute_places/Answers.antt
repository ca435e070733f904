use Rattle.std.proofs.Common.{◌++◌, ap, subst, sym, ◌∙◌, List, ℕ}
use Rattle.ftl_base.specs.Widths.{greatest_of_width}
use Rattle.ftl_deps.specs.reads.Meant.{meant}
use Rattle.ftl_tree.specs.rows.ClassRows.{AreAttributePlaces}
use Rattle.ftl_tree.specs.trees.OwnerPlaces.{own_places, shared_places}
use Rattle.ftl_tree.proofs.trees.Places.{places_are}
use Rattle.ftl_tree.proofs.trees.class_places.attribute_places.Goals as goal

pub returns : goal.returns
returns c =
    let g = c.args.checked.now.grammar in
    let are = c.in_ok-add_own.ensures.added
    ∙ ap (λ xs. xs ++ own_places g) c.in_ok-add_shared.ensures.added
    ∙ ap (λ xs. (xs ++ shared_places g) ++ own_places g) c.in_ok-places.ensures.items in
    record {
      places =
          subst (λ (xs : List ℕ). AreAttributePlaces (meant c.args.checked.now) xs) (sym are)
          (places_are g c.grammar-lawful.ensures.lawful (greatest_of_width c.args.checked.now.width));
    }
