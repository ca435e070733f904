-- Chains beside loops that count their turns: what is read in all, after each turn.
use Rattle.std.proofs.Common.{◌≡◌, ℕ, suc, ◌+◌, ◌-◌, ◌<◌, ◌≤◌, Option, None, Ok, ap, ◌∙◌, arith}
use Rattle.ftl_tokens.specs.declared.reading.chain_item.ChainItem.{ChainItem}
use Rattle.ftl_tokens.specs.reading.Reader.{Tokens, ReadResult, Reader, and_then, go_on, go_until, chain, until}

-- a count that goes on
one_more : {X : Type 0} {x : X} (f : ℕ → X) (n at : ℕ) → at < n → x ≡ f (n - at) → x ≡ f (suc (n - (at + 1)))
one_more f n at below e = let turn : n - at ≡ suc (n - (at + 1)) = omega arith in e ∙ ap f turn

module _ {A B : Type 0} (add : B → A → B) (item : Reader (Option A)) (n at : ℕ) (found : B) (ts : Tokens) {whole : ReadResult B} where
  -- one more turn of a chain
  pub turn : at < n → whole ≡ chain add item (n - at) found ts
      → whole ≡ and_then (item ts) (go_on found (λ x. chain add item (n - (at + 1)) (add found x)))
  unfolding chain
  turn below e = one_more (λ k. chain add item k found ts) n at below e

  -- no more turns
  pub no_turn : n ≤ at → whole ≡ chain add item (n - at) found ts → whole ≡ Ok (found, ts)
  unfolding chain
  no_turn done e = let none : n - at ≡ 0 = omega arith in e ∙ ap (λ k. chain add item k found ts) none

-- the same of a chain that another thing may end
module _ {A B C : Type 0} (add : C → A → C) (item : Reader (ChainItem A B)) (n at : ℕ) (found : C) (ts : Tokens) {whole : ReadResult (C × Option B)} where
  pub until_turn : at < n → whole ≡ until add item (n - at) found ts
      → whole ≡ and_then (item ts) (go_until found (λ x. until add item (n - (at + 1)) (add found x)))
  unfolding until
  until_turn below e = one_more (λ k. until add item k found ts) n at below e

  pub no_until_turn : n ≤ at → whole ≡ until add item (n - at) found ts → whole ≡ Ok ((found, None), ts)
  unfolding until
  no_until_turn done e = let none : n - at ≡ 0 = omega arith in e ∙ ap (λ k. until add item k found ts) none
