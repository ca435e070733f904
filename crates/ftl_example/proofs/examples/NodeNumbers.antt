-- Whether a node is above another, by their numbers.
use Rattle.std.proofs.Common.{◌≡◌, ℕ, ◌+◌, ◌-◌, ◌<◌, ◌≤◌, ◌&&◌, nat_le, nat_lt, false, sym, ◌∙◌, ap, ⊎_elim, arith}
use Rattle.std.proofs.Common.{le-leb, lt-ltb}
use Rattle.std.proofs.lemmas.Bool.{cases_lt, le-ltb}
use Rattle.std.proofs.lemmas.Bool.Decides.{leb_tells}
use Rattle.ftl_model.specs.layout.Path.{Path, number_of, size_at}
use Rattle.ftl_model.specs.layout.Tree.{Forest}
use Rattle.ftl_example.specs.orders.EarlyVisits.{is_over}

module _ (t : Forest) (p q : Path) (a n long : ℕ) (is_a : number_of t p ≡ a) (is_n : number_of t q ≡ n)
    (is_long : size_at t p ≡ long) where
  tests : is_over t p q ≡ (nat_le a n && nat_lt n (a + long))
  tests =
      ap (λ (x : ℕ). nat_le x (number_of t q) && nat_lt (number_of t q) (x + size_at t p)) is_a
      ∙ ap (λ (y : ℕ). nat_le a y && nat_lt y (a + size_at t p)) is_n
      ∙ ap (λ (z : ℕ). nat_le a n && nat_lt n (a + z)) is_long

  pub over_later : a ≤ n → nat_lt (n - a) long ≡ is_over t p q
  over_later low =
      ⊎_elim
      (λ less.
      lt-ltb (n - a) long (omega (arith, low, less))
      ∙ sym (tests ∙ ap (λ b. b && nat_lt n (a + long)) (le-leb a n low) ∙ lt-ltb n (a + long) less))
      (λ more.
      le-ltb (n - a) long (omega (arith, low, more))
      ∙ sym (tests ∙ ap (λ b. b && nat_lt n (a + long)) (le-leb a n low) ∙ le-ltb n (a + long) more))
      (cases_lt n (a + long))

  pub over_earlier : n < a → nat_le a n ≡ is_over t p q
  over_earlier less =
      let no : nat_le a n ≡ false =
      ⊎_elim (λ yes. let low = yes.1 in absurd (let z : ⊥ = omega (arith, low, less) in z)) (λ other. other.0)
      (leb_tells a n) in
      no ∙ sym (tests ∙ ap (λ b. b && nat_lt n (a + long)) no)
