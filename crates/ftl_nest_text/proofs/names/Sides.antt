-- Attributes by the side of a nest that they are on, as the tests of regions tell it.
use Rattle.std.proofs.Common.{◌≡◌, ◌↔◌, ℕ, zero, suc, ◌<◌, Bool, true, false, not, refl, sym, ◌∙◌, ap, subst, arith}
use Rattle.std.proofs.Common.{List, [], ◌∷◌, length, get_or, Contains, Result, Ok, Err}
use Rattle.ftl_grammar.specs.declared.syntax.rules.Grammar.{Grammar}
use Rattle.ftl_model.proofs.lists.Elements.{here_in, later_in}
use Rattle.ftl_schedule.specs.declared.syntax.types.AttributeName.{AttributeName}
use Rattle.ftl_schedule.specs.declared.names.fault.ScheduleFault.{ScheduleFault}
use Rattle.ftl_schedule.specs.declared.names.fault.ScheduleFault.TheVariants.{NestAttribute}
use Rattle.ftl_schedule.specs.names.Named.{attribute_number, before, each}
use Rattle.ftl_schedule.proofs.names.NamedParts.{parts, same_Ok}
use Rattle.ftl_nest_text.specs.names.RegionTests.{RegionTests}
use Rattle.ftl_nest_text.specs.names.NestNamed.{on_side, outer_number, with_number}

-- as many are made as there are entries
pub each_as_many : {X Y : Type 0} (f : X → Result Y ScheduleFault) (xs : List X) (ys : List Y) → each f xs ≡ Ok ys
    → length ys ≡ length xs
each_as_many f [] ys e = ap length (sym (same_Ok [] ys e))
each_as_many f (x ∷ xs) ys e =
    parts f x xs ys e
    (λ z zs is is_later same.
    let rest = each_as_many f xs zs is_later in
    subst (λ vs. length vs ≡ length (x ∷ xs)) same (omega (arith, rest)))

-- two tests of one fact tell the same
pub same_told : {P : Type 0} (a b : Bool) → (a ≡ true) ↔ P → (b ≡ true) ↔ P → a ≡ b
same_told true b p q = sym (q.1 (p.0 refl))
same_told false true p q = p.1 (q.0 refl)
same_told false false p q = refl

-- a number that the name stands for, on the side that is told
pub on_told_side : (right : Bool) (x : AttributeName) (a : ℕ) → right ≡ true → on_side right x a ≡ Ok a
on_told_side right x a e = ap (λ b. on_side b x a) e

pub on_other_side : (right : Bool) (x : AttributeName) (a : ℕ) → right ≡ false
    → on_side right x a ≡ Err (NestAttribute x.owner x.attr)
on_other_side right x a e = ap (λ b. on_side b x a) e

module _ (tests : RegionTests) (g : Grammar) (host : ℕ) where
  outer_found : (x : AttributeName) (a : ℕ) → attribute_number g x ≡ Ok a
      → outer_number tests g host x ≡ on_side (not (tests.has host a)) x a
  outer_found x a is = ap (with_number (λ b. on_side (not (tests.has host b)) x b)) is

  -- all are outside
  pub all_outside : (xs : List AttributeName) (ns : List ℕ) → each (attribute_number g) xs ≡ Ok ns
      → ((a : ℕ) → Contains ns a → tests.has host a ≡ false) → each (outer_number tests g host) xs ≡ Ok ns
  all_outside [] ns e out = e
  all_outside (x ∷ xs) ns e out =
      parts (attribute_number g) x xs ns e
      (λ z zs is is_later same.
      let later = all_outside xs zs is_later (λ a there. out a (subst (λ vs. Contains vs a) same (later_in z a zs there))) in
      let first = out z (subst (λ vs. Contains vs z) same (here_in z zs)) in
      ap (λ r. before r (each (outer_number tests g host) xs))
      (outer_found x z is ∙ on_told_side (not (tests.has host z)) x z (ap not first))
      ∙ ap (before (Ok z)) later ∙ ap Ok same)

  -- the first that is inside
  pub first_inside : (xs : List AttributeName) (ns : List ℕ) (d : AttributeName) (place : ℕ)
      → each (attribute_number g) xs ≡ Ok ns → place < length ns → tests.has host (get_or ns place 0) ≡ true
      → ((j : ℕ) → j < place → tests.has host (get_or ns j 0) ≡ false)
      → each (outer_number tests g host) xs
      ≡ Err (NestAttribute (get_or xs place d).owner (get_or xs place d).attr)
  first_inside [] ns d place e below here out =
      let none = ap length (same_Ok [] ns e) in absurd (let z : ⊥ = omega (arith, below, none) in z)
  first_inside (x ∷ xs) ns d place e below here out =
      parts (attribute_number g) x xs ns e
      (λ z zs is is_later same. by_place zs (first_inside xs zs d) place z is is_later
      (subst (λ vs. place < length vs) (sym same) below)
      (subst (λ vs. tests.has host (get_or vs place 0) ≡ true) (sym same) here)
      (λ j less. subst (λ vs. tests.has host (get_or vs j 0) ≡ false) (sym same) (out j less)))
    where
      by_place : (zs : List ℕ)
          → ((p : ℕ) → each (attribute_number g) xs ≡ Ok zs → p < length zs → tests.has host (get_or zs p 0) ≡ true
          → ((j : ℕ) → j < p → tests.has host (get_or zs j 0) ≡ false)
          → each (outer_number tests g host) xs ≡ Err (NestAttribute (get_or xs p d).owner (get_or xs p d).attr))
          → (place z : ℕ) → attribute_number g x ≡ Ok z → each (attribute_number g) xs ≡ Ok zs
          → place < length (z ∷ zs) → tests.has host (get_or (z ∷ zs) place 0) ≡ true
          → ((j : ℕ) → j < place → tests.has host (get_or (z ∷ zs) j 0) ≡ false)
          → each (outer_number tests g host) (x ∷ xs)
          ≡ Err (NestAttribute (get_or (x ∷ xs) place d).owner (get_or (x ∷ xs) place d).attr)
      by_place zs rest zero z is is_later below here out =
          ap (λ r. before r (each (outer_number tests g host) xs))
          (outer_found x z is ∙ on_other_side (not (tests.has host z)) x z (ap not here))
      by_place zs rest (suc place) z is is_later below here out =
          let first = out 0 (omega arith) in
          ap (λ r. before r (each (outer_number tests g host) xs))
          (outer_found x z is ∙ on_told_side (not (tests.has host z)) x z (ap not first))
          ∙ ap (before (Ok z))
          (rest place is_later (omega (arith, below)) here (λ j less. out (suc j) (omega (arith, less))))
