-- What is shown is read.
use Rattle.std.proofs.Common.{◌≡◌, ◌≢◌, refl, sym, subst, Contains}
use Rattle.ftl_model.proofs.lists.Rising.{map_has}
use Rattle.ftl_model.specs.layout.Tree.{Forest}
use Rattle.ftl_model.specs.layout.Path.{Path, class_at, down, kids_at, top}
use Rattle.ftl_model.specs.layout.AttributeGrammar.{AttributeGrammar, Sort, inherited, input, local, read_occurrences, synthesized}
use Rattle.ftl_model.specs.layout.Solves.{Instance, rule_kid, rule_name, rule_named, rule_node, seen_from}
use Rattle.ftl_order.specs.orders.Pairs.{IsPair, Pair}
use Rattle.ftl_order.specs.orders.Reads.{Reads, equation_reads}
use Rattle.ftl_example.specs.shows.Shows.{ReadIs, Shows}
use Rattle.ftl_example.proofs.shows.PlaceShows.{read_among}

module _ (g : AttributeGrammar) (t : Forest) (pair : Pair) (is : IsPair g pair) where
  by_sort : (s : Sort) (p : Path) (a : _) → s ≢ input → rule_name t s p a ≡ pair.reader → (w : Instance)
      → ReadIs t (rule_named g pair.reader).parts pair.part (rule_node s p) (rule_kid s p) pair.read w
      → Contains (equation_reads g t s p a) w
  by_sort input p a computed e w read = absurd (computed refl)
  by_sort inherited top a computed e w (n, hand, (o, seen, w_is)) =
      subst (Contains (equation_reads g t inherited top a)) (sym w_is)
      (map_has (seen_from top) (read_occurrences (g.self_rule (class_at t top) a).parts (kids_at t top) 0) o
      (subst (λ x. Contains (read_occurrences (rule_named g x).parts (kids_at t top) 0) o) (sym e)
      (read_among (rule_named g pair.reader).parts pair.part (kids_at t top) 0 n pair.read o is.0.1 hand seen)))
  by_sort inherited (down c k p) a computed e w (n, hand, (o, seen, w_is)) =
      subst (Contains (equation_reads g t inherited (down c k p) a)) (sym w_is)
      (map_has (seen_from p) (read_occurrences (g.child_rule (class_at t p) c a).parts (kids_at t p) k) o
      (subst (λ x. Contains (read_occurrences (rule_named g x).parts (kids_at t p) k) o) (sym e)
      (read_among (rule_named g pair.reader).parts pair.part (kids_at t p) k n pair.read o is.0.1 hand seen)))
  by_sort synthesized p a computed e w (n, hand, (o, seen, w_is)) =
      subst (Contains (equation_reads g t synthesized p a)) (sym w_is)
      (map_has (seen_from p) (read_occurrences (g.self_rule (class_at t p) a).parts (kids_at t p) 0) o
      (subst (λ x. Contains (read_occurrences (rule_named g x).parts (kids_at t p) 0) o) (sym e)
      (read_among (rule_named g pair.reader).parts pair.part (kids_at t p) 0 n pair.read o is.0.1 hand seen)))
  by_sort local p a computed e w (n, hand, (o, seen, w_is)) =
      subst (Contains (equation_reads g t local p a)) (sym w_is)
      (map_has (seen_from p) (read_occurrences (g.self_rule (class_at t p) a).parts (kids_at t p) 0) o
      (subst (λ x. Contains (read_occurrences (rule_named g x).parts (kids_at t p) 0) o) (sym e)
      (read_among (rule_named g pair.reader).parts pair.part (kids_at t p) 0 n pair.read o is.0.1 hand seen)))

  pub shown_read : (r w : Instance) → Shows g t pair r w → Reads g t r w
  shown_read r w shows =
      by_sort (g.sort r.attribute) r.node r.attribute shows.reader_there.1 shows.reader w shows.read
