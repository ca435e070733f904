-- Chains look one token ahead where their items do.
use Rattle.std.proofs.Common.{◌≡◌, ℕ, zero, suc, ◌+◌, ◌<◌, ◌≤◌, [], ◌∷◌, ◌++◌, length, Option, Some, None, Ok, Err}
use Rattle.std.proofs.Common.{sym, refl, ap, ◌∙◌, subst, length-append, arith}
use Rattle.ftl_tokens.specs.reading.Reader.{Tokens, ReadResult, Reader, and_then, go_on, chain, chain_of}
use Rattle.ftl_tokens.proofs.reading.KeptPrefix.{Taken, HasPrefix, KeepsPrefix}
use Rattle.ftl_tokens.proofs.reading.ChainPrefix.{OrNone}
use Rattle.ftl_tokens.proofs.reading.Went.{got}
use Rattle.ftl_tokens.proofs.reading.Alike.{left, with_left, Alike, bind_alike, pure_alike}

-- at the end of the tokens there is no more, and each item that is found takes a token
pub record TakesSome {A : Type 0} (item : Reader (Option A)) : Type 0 where
  pub at_end : item [] ≡ got None []
  pub fewer : (ts rest : Tokens) (x : A) → item ts ≡ got (Some x) rest → length rest < length ts

module _ {A B : Type 0} (add : B → A → B) {item : Reader (Option A)} (some : TakesSome item) where
  -- where no token is left, each count of turns gives what is found
  none_left : (m : ℕ) (found : B) (ts : Tokens) → length ts ≤ 0 → got found ts ≡ chain add item m found ts
  unfolding chain
  none_left zero found ts few = refl
  none_left (suc m) found [] few =
      ap (λ o. and_then o (go_on found (λ x. chain add item m (add found x)))) (sym some.at_end)
  none_left (suc m) found (t ∷ ts) few = absurd (omega arith)

  -- one turn of the same
  turn_enough : (n m : ℕ)
      → ((found : B) (ts : Tokens) → length ts ≤ n → length ts ≤ m → chain add item n found ts
      ≡ chain add item m found ts)
      → (found : B) (ts : Tokens) → length ts ≤ suc n → length ts ≤ suc m → (o : ReadResult (Option A)) → item ts ≡ o
      → and_then o (go_on found (λ x. chain add item n (add found x))) ≡ and_then o
      (go_on found (λ x. chain add item m (add found x)))
  turn_enough n m again found ts few many (Err rest) e = refl
  turn_enough n m again found ts few many (Ok (None, rest)) e = refl
  turn_enough n m again found ts few many (Ok (Some x, rest)) e =
      let fewer = some.fewer ts rest x e in
      again (add found x) rest (omega arith) (omega arith)

  -- all counts from the number of tokens on give one answer
  enough : (n m : ℕ) (found : B) (ts : Tokens) → length ts ≤ n → length ts ≤ m
      → chain add item n found ts ≡ chain add item m found ts
  unfolding chain
  enough zero m found ts few many = none_left m found ts few
  enough (suc n) zero found ts few many = sym (none_left (suc n) found ts many)
  enough (suc n) (suc m) found ts few many = turn_enough n m (λ l us. enough n m l us) found ts few many (item ts) refl

-- a turn more, and those after it
go_on_alike : {A B : Type 0} {peak : Tokens → ℕ} {n : ℕ} (found : B) {p q : A → Reader B}
    → ((x : A) → Alike peak n n (p x) (q x))
    → (x : Option A) → Alike peak n n (go_on found p x) (go_on found q x)
go_on_alike found each None = pure_alike
go_on_alike found each (Some x) = each x

module _ {A B : Type 0} {peak : Tokens → ℕ} {n : ℕ} (add : B → A → B) {item other : Reader (Option A)}
    (each : Alike peak n n item other)
    (some : TakesSome item) (others : TakesSome other) where
  -- chains of one count of turns
  turns_alike : (turns : ℕ) (found : B) → Alike peak n n (chain add item turns found) (chain add other turns found)
  unfolding chain
  turns_alike zero found = pure_alike
  turns_alike (suc turns) found = bind_alike each (go_on_alike found (λ x. turns_alike turns (add found x)))

  -- chains of as many turns as there are tokens
  pub chain_alike : (found : B) → Alike peak n n (chain_of add item found) (chain_of add other found)
  chain_alike found = record {
    ends = λ ts. (turns_alike (length ts) found).ends ts;
    falls = λ ts rest x e small. (turns_alike (length ts) found).falls ts rest x e small;
    alike = λ front r s same small back.
        let turns = length (front ++ r) + length (front ++ s) in
        let here = enough add some (length (front ++ r)) turns found (front ++ r) (omega arith) (omega arith) in
        let there = enough add others (length (front ++ s)) turns found (front ++ s) (omega arith) (omega arith) in
        there ∙ (turns_alike turns found).alike front r s same small (ap left (sym here) ∙ back) ∙ ap
        (λ o. with_left o s) (sym here);
  }

-- an item that keeps the prefix takes some tokens, where what it spells has some
pub takes_some : {A : Type 0} {S : Tokens → A → Type 0} {item : Reader (Option A)} → KeepsPrefix (OrNone S) item
    → ((a : Tokens) (x : A) → S a x → 0 < length a) → item [] ≡ got None [] → TakesSome item
takes_some {A} {S} {item} told some at_end = record { at_end = at_end; fewer = fewer }
  where
    fewer : (ts rest : Tokens) (x : A) → item ts ≡ got (Some x) rest → length rest < length ts
    fewer ts rest x e =
        let taken : Taken (OrNone S) ts (Some x) rest = subst (λ o. HasPrefix (OrNone S) o ts) e (told.keeps ts) in
        omega (arith, some taken.front x taken.spells, ap length taken.split, length-append taken.front rest)
