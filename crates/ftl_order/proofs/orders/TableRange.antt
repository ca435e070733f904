-- The values of a table that solves are in the range of the width.
use Rattle.std.proofs.Common.{◌≡◌, ℕ, zero, suc, ◌<◌, refl, sym, subst, inl, inr, arith, List, [], ◌∷◌, get_or, Contains, ℤ, pos, negsuc}
use Rattle.std.proofs.lemmas.Int.{ints}
use Rattle.ftl_model.specs.lists.Lists.{place_in}
use Rattle.ftl_model.proofs.lists.Rising.{map_has}
use Rattle.ftl_model.specs.layout.AttributeGrammar.{AttributeGrammar, class_inputs, for_child, for_self, inherited, input, local, read_occurrences, Sort, synthesized}
use Rattle.ftl_model.specs.layout.Path.{Has, Path, class_at, down, inputs_at, kids_at, top}
use Rattle.ftl_model.specs.layout.Solves.{Instance, IsInstance, Solves, equation_value, instance_of, seen_from}
use Rattle.ftl_model.specs.layout.Tree.{Forest}
use Rattle.ftl_model.specs.layout.TreeOf.{AreInputs, IsInput, IsTreeOf}
use Rattle.ftl_model.specs.layout.Values.{IsValueIn, Value, number}
use Rattle.ftl_model.proofs.layout.Fits.{fits_at}
use Rattle.ftl_order.specs.orders.Lawful.{IsLawful, IsOwnSort, OfClass}
use Rattle.ftl_order.specs.orders.Reads.{EndsWithin, Reads, equation_reads, rule_reads}
use Rattle.ftl_order.proofs.orders.TreeEquations.{inside_by, kid_rule, own_rule, root_inherits_nothing}

input_is_value : (greatest : ℕ) (n : ℤ) → IsInput greatest n → IsValueIn greatest (number n)
input_is_value greatest n h = ((let low = h.0 in omega (arith, ints, low)), h.1)

input_in_range : (greatest : ℕ) (ns : List ℤ) (i : ℕ) → AreInputs greatest ns → IsValueIn greatest (number (get_or ns i (pos 0)))
input_in_range greatest [] i h = (omega (arith, ints), omega (arith, ints))
input_in_range greatest (n ∷ ns) zero h = input_is_value greatest n h.0
input_in_range greatest (n ∷ ns) (suc i) h = input_in_range greatest ns i h.1

module _ (g : AttributeGrammar) (law : IsLawful g) (t : Forest) (fits : IsTreeOf g t) (s : Instance → Value)
    (solves : Solves g t s) where
  abbrev InRange : Instance → Type 0
  InRange i = IsValueIn g.greatest (s i)

  own_range : (p : Path) (a : ℕ) → Has t p → OfClass g (class_at t p) a → IsOwnSort (g.sort a)
      → ((j : Instance) → Contains (rule_reads t (g.self_rule (class_at t p) a) p 0) j → InRange j)
      → IsValueIn g.greatest ((g.self_rule (class_at t p) a).value (kids_at t p) 0 (λ o. s (seen_from p o)))
  own_range p a h of sort read =
      law.self_range (class_at t p) a (own_rule g t fits p a h of sort) (kids_at t p) (λ o. s (seen_from p o))
      (λ o in_it. read (seen_from p o)
      (map_has (seen_from p) (read_occurrences (g.self_rule (class_at t p) a).parts (kids_at t p) 0) o in_it))

  range_by : (sort : Sort) (p : Path) (a : ℕ) → g.sort a ≡ sort → Has t p → OfClass g (class_at t p) a
      → ((j : Instance) → Contains (equation_reads g t sort p a) j → InRange j)
      → IsValueIn g.greatest (equation_value g t s sort p a)
  range_by input p a e h of read =
      input_in_range g.greatest (inputs_at t p) (place_in (class_inputs g (class_at t p)) a)
      (fits_at g t p fits h).class.numbers
  range_by inherited top a e h of read = absurd (root_inherits_nothing g law t fits a h of e)
  range_by inherited (down c k p) a e h of read =
      law.child_range (class_at t p) c a (kid_rule g law t fits c k p a h of e) k (kids_at t p) (λ o. s (seen_from p o))
      (λ o in_it. read (seen_from p o)
      (map_has (seen_from p) (read_occurrences (g.child_rule (class_at t p) c a).parts (kids_at t p) k) o in_it))
  range_by synthesized p a e h of read = own_range p a h of (inl e) read
  range_by local p a e h of read = own_range p a h of (inr e) read

  pub value_in_range : (n : ℕ) (i : Instance) → IsInstance g t i → EndsWithin g t n i → InRange i
  value_in_range zero i valid ends = absurd ends
  value_in_range (suc n) i valid ends =
      subst (IsValueIn g.greatest) (sym (solves i valid))
      (range_by (g.sort i.attribute) i.node i.attribute refl valid.0 valid.1
      (λ j reads. value_in_range n j
      (inside_by g law t fits (g.sort i.attribute) i.node i.attribute refl valid.0 valid.1 j reads) (ends j reads)))
