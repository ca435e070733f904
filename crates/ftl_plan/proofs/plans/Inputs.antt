-- The inputs of a tree are values.
use Rattle.std.proofs.Common.{◌≡◌, ℕ, zero, suc, ◌≤◌, true, ◌∙◌, ap, subst, ⊎_elim, arith, List, [], ◌∷◌, get_or, Contains, ℤ, pos, to_z, of_z, w64, SFits}
use Rattle.std.proofs.lemmas.Int.{ints, to_z-of_z}
use Rattle.ftl_model.specs.lists.Lists.{place_in}
use Rattle.ftl_model.proofs.lists.Elements.{filter_has}
use Rattle.ftl_model.specs.layout.AttributeGrammar.{AttributeGrammar, attributes_of, class_inputs, input_value, is_input}
use Rattle.ftl_model.specs.layout.Path.{Has, Path, class_at, inputs_at}
use Rattle.ftl_model.specs.layout.Tree.{Forest}
use Rattle.ftl_model.specs.layout.TreeOf.{AreInputs, IsInput, IsTreeOf}
use Rattle.ftl_model.specs.layout.Values.{IsValueIn, number, value_of, wide}
use Rattle.ftl_model.proofs.layout.Fits.{fits_at}
use Rattle.ftl_order.specs.orders.Lawful.{IsLawful, OfClass}

input_is_value : (greatest : ℕ) (n : ℤ) → IsInput greatest n → IsValueIn greatest (number n)
input_is_value greatest n h = ((let low = h.0 in omega (arith, ints, low)), h.1)

input_in_range : (greatest : ℕ) (ns : List ℤ) (i : ℕ) → AreInputs greatest ns
    → IsValueIn greatest (number (get_or ns i (pos 0)))
input_in_range greatest [] i h = (omega (arith, ints), omega (arith, ints))
input_in_range greatest (n ∷ ns) zero h = input_is_value greatest n h.0
input_in_range greatest (n ∷ ns) (suc i) h = input_in_range greatest ns i h.1

in_wide : (greatest : ℕ) (n : ℤ) → greatest ≤ wide → IsValueIn greatest (number n) → IsValueIn wide (number n)
in_wide greatest n most h =
    ((let low = h.0 in omega (arith, ints, low, most)), (let high = h.1 in omega (arith, ints, high, most)))

greatest_is : (g : AttributeGrammar) → IsLawful g → g.greatest ≤ wide
greatest_is g law =
    ⊎_elim (λ e. let z : g.greatest ≤ wide = omega (arith, e) in z) (λ e. let z : g.greatest ≤ wide = omega (
      arith,
      e,
    ) in z)
    law.width

stays : (n : ℤ) → IsValueIn wide (number n) → value_of wide n ≡ number n
stays n h = grind (arith, ints, h.0, h.1)

-- an input is in range
input_fits : (g : AttributeGrammar) (law : IsLawful g) (t : Forest) (fits : IsTreeOf g t) (p : Path) (a : ℕ) (n : ℤ)
    → Has t p → input_value g (class_at t p) a (inputs_at t p) ≡ number n → IsValueIn wide (number n)
input_fits g law t fits p a n here is =
    in_wide g.greatest n (greatest_is g law)
    (subst (IsValueIn g.greatest) is
    (input_in_range g.greatest (inputs_at t p) (place_in (class_inputs g (class_at t p)) a)
    (fits_at g t p fits here).class.numbers))

-- and itself as a value
pub input_kept : (g : AttributeGrammar) (law : IsLawful g) (t : Forest) (fits : IsTreeOf g t) (p : Path) (a : ℕ) (n : ℤ)
    → Has t p → input_value g (class_at t p) a (inputs_at t p) ≡ number n
    → value_of wide (to_z w64 (of_z w64 n)) ≡ number n
input_kept g law t fits p a n here is =
    let range = input_fits g law t fits p a n here is in
    let low = range.0 in
    let high = range.1 in
    ap (value_of wide) (to_z-of_z w64 n (let z : SFits w64 n = grind (arith, ints, low, high) in z)) ∙ stays n range

-- an attribute that is an input is among those of the class
pub input_listed : (g : AttributeGrammar) (class a : ℕ) → OfClass g class a → is_input (g.sort a) ≡ true
    → Contains (class_inputs g class) a
input_listed g class a of is = filter_has (λ b. is_input (g.sort b)) (attributes_of g class) a of is
