-- Which of the lists of the three kinds is the next pass.
use Rattle.std.proofs.Common.{◌≡◌, ◌↔◌, ℕ, ◌<◌, ◌≤◌, Bool, true, false, if◌then◌else◌, refl, sym, ◌∙◌, ap, arith}
use Rattle.std.proofs.Common.{List, [], ◌∷◌, length}
use Rattle.std.proofs.lemmas.Bool.{le-leb, lt-leb, true≢false}
use Rattle.ftl_model.specs.layout.AttributeGrammar.{AttributeGrammar}
use Rattle.ftl_order.specs.orders.Lawful.{IsLawful}
use Rattle.ftl_order.specs.orders.Schedule.{Pass, bottomup, inorder, topdown}
use Rattle.ftl_order.specs.automatic.Automatic.{IsNext, chosen, pass_of_kind}
use Rattle.ftl_order.specs.automatic.Fitting.{IsListOf}
use Rattle.ftl_order.proofs.automatic.Largest.{list_exists}

-- a test whether a list is empty
pub not_empty : (b : Bool) (xs : List ℕ) → ((b ≡ true) ↔ (xs ≡ [])) → b ≡ false → 0 < length xs
not_empty b [] tells e = absurd (true≢false (sym (tells.1 refl) ∙ e))
not_empty b (x ∷ xs) tells e = omega arith

pub is_empty : (b : Bool) (xs : List ℕ) → ((b ≡ true) ↔ (xs ≡ [])) → b ≡ true → length xs ≡ 0
is_empty b xs tells e = ap length (tells.0 e)

chosen_down : (xs ys zs : List ℕ) → 0 < length xs → length ys ≤ length xs
    → chosen xs ys zs ≡ pass_of_kind topdown xs
chosen_down [] ys zs some few = absurd (let z : ⊥ = omega (arith, some) in z)
chosen_down (x ∷ xs) ys zs some few =
    ap (λ b. if b then pass_of_kind topdown (x ∷ xs) else pass_of_kind bottomup ys)
    (le-leb (length ys) (length (x ∷ xs)) few)

chosen_up : (xs ys zs : List ℕ) → length xs < length ys → chosen xs ys zs ≡ pass_of_kind bottomup ys
chosen_up [] [] zs more = absurd (let z : ⊥ = omega (arith, more) in z)
chosen_up [] (y ∷ ys) zs more = refl
chosen_up (x ∷ xs) ys zs more =
    ap (λ b. if b then pass_of_kind topdown (x ∷ xs) else pass_of_kind bottomup ys)
    (lt-leb (length ys) (length (x ∷ xs)) more)

chosen_in_order : (xs ys zs : List ℕ) → length xs ≡ 0 → length ys ≤ length xs → chosen xs ys zs ≡ pass_of_kind inorder zs
chosen_in_order [] [] zs e few = refl
chosen_in_order [] (y ∷ ys) zs e few = absurd (let z : ⊥ = omega (arith, few) in z)
chosen_in_order (x ∷ xs) ys zs e few = absurd (let z : ⊥ = omega (arith, e) in z)

module _ (g : AttributeGrammar) (law : IsLawful g) (done xs ys : List ℕ) (down : IsListOf g topdown done xs)
    (up : IsListOf g bottomup done ys) where
  is_next : (zs : List ℕ) → IsListOf g inorder done zs → (pass : Pass) → chosen xs ys zs ≡ pass → IsNext g done pass
  is_next zs in_order pass e =
      record {
        down = xs;
        up = ys;
        in_order = zs;
        is_down = down;
        is_up = up;
        is_in_order = in_order;
        is = sym e;
      }

  pub next_in_order : (zs : List ℕ) → IsListOf g inorder done zs → length xs ≡ 0 → length ys ≤ length xs
      → IsNext g done (pass_of_kind inorder zs)
  next_in_order zs in_order e few =
      is_next zs in_order (pass_of_kind inorder zs) (chosen_in_order xs ys zs e few)

  pub next_down : 0 < length xs → length ys ≤ length xs → IsNext g done (pass_of_kind topdown xs)
  next_down some few =
      let i = list_exists g law inorder done in
      is_next i.0 i.1 (pass_of_kind topdown xs) (chosen_down xs ys i.0 some few)

  pub next_up : length xs < length ys → IsNext g done (pass_of_kind bottomup ys)
  next_up more =
      let i = list_exists g law inorder done in
      is_next i.0 i.1 (pass_of_kind bottomup ys) (chosen_up xs ys i.0 more)
