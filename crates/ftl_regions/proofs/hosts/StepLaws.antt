-- The steps of a class are put into the matrix child by child.
use Rattle.std.proofs.Common.{◌≡◌, ◌⊎◌, ◌↔◌, ℕ, ◌+◌, ◌<◌, ◌==◌, ◌&&◌, ◌||◌, Bool, true, length, sym, ◌∙◌}
use Rattle.std.proofs.Common.{ap, inl, inr, ⊎_elim, arith, eqb-true, eq-eqb}
use Rattle.std.proofs.lemmas.Bool.{and_from, and_parts, cases_lt, or_cases, or_left, or_right}
use Rattle.lane_rows.specs.Matrix.{entry}
use Rattle.ftl_model.specs.layout.AttributeGrammar.{AttributeGrammar}
use Rattle.ftl_regions.specs.hosts.Steps.{IsRowOf, IsStepOf, Rows, class_row}

-- what an entry is after one was put
pub put_tells : (a b from to : ℕ) (old new : Bool) → new ≡ (((a == from) && (b == to)) || old)
    → (new ≡ true) ↔ (((a ≡ from) × (b ≡ to)) ⊎ (old ≡ true))
put_tells a b from to old new is = (
  λ e. elim (or_cases ((a == from) && (b == to)) old (sym is ∙ e)) [
    | inl here ↦
        let both = and_parts (a == from) (b == to) here in inl (eqb-true a from both.0, eqb-true b to both.1)
    | inr there ↦ inr there
  ],
  λ h. is ∙ ⊎_elim
      (λ here. or_left ((a == from) && (b == to)) old
      (and_from (a == from) (b == to) (eq-eqb a from here.0) (eq-eqb b to here.1)))
      (λ there. or_right ((a == from) && (b == to)) old there) h,
)

-- a step of the class to one of its first children
abbrev pub IsStepAmong : AttributeGrammar → (class count from to : ℕ) → Type 0
IsStepAmong g k n from to =
    IsRowOf g k from × ((c : ℕ) × (c < n) × (g.child_interface k c ≡ to))

-- the matrix has the steps of the classes before this one, and of it those to its first children
pub record AreStepsTo (g : AttributeGrammar) (k n : ℕ) (steps : Rows) : Type 0 where
  pub size : length steps ≡ g.interface_count + g.class_count
  pub are :
      (from to : ℕ)
      → (entry steps from to ≡ true)
      ↔ (((class : ℕ) × (class < k) × IsStepOf g class from to) ⊎ IsStepAmong g k n from to)

module _ (g : AttributeGrammar) where
  -- over one child more
  module _ (k n : ℕ) (old half new : Rows) (interface host below : ℕ) (has : AreStepsTo g k n old)
      (interface_is : interface ≡ g.interface k) (host_is : host ≡ class_row g k)
      (below_is : below ≡ g.child_interface k n)
      (first : (a b : ℕ) → entry half a b ≡ (((a == interface) && (b == below)) || entry old a b))
      (second : (a b : ℕ) → entry new a b ≡ (((a == host) && (b == below)) || entry half a b)) where
    abbrev Told : (from to : ℕ) → Type 0
    Told a b = ((class : ℕ) × (class < k) × IsStepOf g class a b) ⊎ IsStepAmong g k (n + 1) a b

    put_first : (a b : ℕ) → (entry half a b ≡ true) ↔ (((a ≡ interface) × (b ≡ below)) ⊎ (entry old a b ≡ true))
    put_first a b = put_tells a b interface below (entry old a b) (entry half a b) (first a b)

    put_second : (a b : ℕ) → (entry new a b ≡ true) ↔ (((a ≡ host) × (b ≡ below)) ⊎ (entry half a b ≡ true))
    put_second a b = put_tells a b host below (entry half a b) (entry new a b) (second a b)

    from_old : (a b : ℕ) → entry old a b ≡ true → Told a b
    from_old a b e =
        ⊎_elim (λ before. inl before)
        (λ here. inr (here.0, (here.1.0, omega (arith, here.1.1), here.1.2))) ((has.are a b).0 e)

    told : (a b : ℕ) → entry new a b ≡ true → Told a b
    told a b e =
        ⊎_elim (λ h. inr (inr (h.0 ∙ host_is), (n, omega arith, sym below_is ∙ sym h.1)))
        (λ rest. ⊎_elim (λ h. inr (inl (h.0 ∙ interface_is), (n, omega arith, sym below_is ∙ sym h.1)))
        (λ before. from_old a b before) ((put_first a b).0 rest)) ((put_second a b).0 e)

    to_new : (a b : ℕ) → entry old a b ≡ true → entry new a b ≡ true
    to_new a b e = (put_second a b).1 (inr ((put_first a b).1 (inr e)))

    last_child : (a b : ℕ) → IsRowOf g k a → b ≡ below → entry new a b ≡ true
    last_child a b (inl e) to = (put_second a b).1 (inr ((put_first a b).1 (inl (e ∙ sym interface_is, to))))
    last_child a b (inr e) to = (put_second a b).1 (inl (e ∙ sym host_is, to))

    among : (a b : ℕ) → IsStepAmong g k (n + 1) a b → entry new a b ≡ true
    among a b h = elim (cases_lt h.1.0 n) [
      | inl less ↦ to_new a b ((has.are a b).1 (inr (h.0, (h.1.0, less, h.1.2))))
      | inr above ↦
          let same : h.1.0 ≡ n = omega (arith, above, h.1.1) in
          last_child a b h.0 (sym h.1.2 ∙ ap (g.child_interface k) same ∙ sym below_is)
    ]

    pub steps_more : length half ≡ length old → length new ≡ length half → AreStepsTo g k (n + 1) new
    steps_more half_size new_size = record {
      size = new_size ∙ half_size ∙ has.size;
      are = λ a b. (
        told a b,
        λ h. ⊎_elim (λ before. to_new a b ((has.are a b).1 (inl before))) (λ here. among a b here) h,
      );
    }
