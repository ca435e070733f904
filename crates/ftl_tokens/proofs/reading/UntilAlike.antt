-- Chains that another thing may end look one token ahead where their items do.
use Rattle.std.proofs.Common.{◌≡◌, ℕ, zero, suc, ◌+◌, ◌<◌, ◌≤◌, [], ◌∷◌, ◌++◌, length, Option, None, Ok, Err, sym}
use Rattle.std.proofs.Common.{refl, ap, ◌∙◌, subst, length-append, arith}
use Rattle.ftl_tokens.specs.declared.reading.chain_item.ChainItem.{ChainItem}
use Rattle.ftl_tokens.specs.declared.reading.chain_item.ChainItem.TheVariants.{Stop, Next, Last}
use Rattle.ftl_tokens.specs.reading.Reader.{Tokens, ReadResult, Reader, and_then, go_until, until, until_of}
use Rattle.ftl_tokens.proofs.reading.KeptPrefix.{Taken, HasPrefix, KeepsPrefix}
use Rattle.ftl_tokens.proofs.reading.ChainPrefix.{ChainItemOf}
use Rattle.ftl_tokens.proofs.reading.Went.{got}
use Rattle.ftl_tokens.proofs.reading.Alike.{left, with_left, Alike, bind_alike, pure_alike}

-- at the end of the tokens there is no more, and each item that is found takes a token
pub record ChainItemTakesSome {A B : Type 0} (item : Reader (ChainItem A B)) : Type 0 where
  pub at_end : item [] ≡ got Stop []
  pub fewer : (ts rest : Tokens) (x : A) → item ts ≡ got (Next x) rest → length rest < length ts

module _ {A B C : Type 0} (add : C → A → C) {item : Reader (ChainItem A B)} (some : ChainItemTakesSome item) where
  -- where no token is left, each count of turns gives what is found
  none_left : (m : ℕ) (found : C) (ts : Tokens) → length ts ≤ 0 → got (found, None) ts ≡ until add item m found ts
  unfolding until
  none_left zero found ts few = refl
  none_left (suc m) found [] few =
      ap (λ o. and_then o (go_until found (λ x. until add item m (add found x)))) (sym some.at_end)
  none_left (suc m) found (t ∷ ts) few = absurd (omega arith)

  -- one turn of the same
  turn_enough : (n m : ℕ)
      → ((found : C) (ts : Tokens) → length ts ≤ n → length ts ≤ m → until add item n found ts
      ≡ until add item m found ts)
      → (found : C) (ts : Tokens) → length ts ≤ suc n → length ts ≤ suc m → (o : ReadResult (ChainItem A B)) → item ts ≡ o
      → and_then o (go_until found (λ x. until add item n (add found x))) ≡ and_then o
      (go_until found (λ x. until add item m (add found x)))
  turn_enough n m again found ts few many (Err rest) e = refl
  turn_enough n m again found ts few many (Ok (Stop, rest)) e = refl
  turn_enough n m again found ts few many (Ok (Last y, rest)) e = refl
  turn_enough n m again found ts few many (Ok (Next x, rest)) e =
      let fewer = some.fewer ts rest x e in
      again (add found x) rest (omega arith) (omega arith)

  -- all counts from the number of tokens on give one answer
  enough : (n m : ℕ) (found : C) (ts : Tokens) → length ts ≤ n → length ts ≤ m
      → until add item n found ts ≡ until add item m found ts
  unfolding until
  enough zero m found ts few many = none_left m found ts few
  enough (suc n) zero found ts few many = sym (none_left (suc n) found ts many)
  enough (suc n) (suc m) found ts few many = turn_enough n m (λ l us. enough n m l us) found ts few many (item ts) refl

-- a turn more, and those after it
go_until_alike : {A B C : Type 0} {peak : Tokens → ℕ} {n : ℕ} (found : C) {p q : A → Reader (C × Option B)}
    → ((x : A) → Alike peak n n (p x) (q x))
    → (x : ChainItem A B) → Alike peak n n (go_until found p x) (go_until found q x)
go_until_alike found each Stop = pure_alike
go_until_alike found each (Last y) = pure_alike
go_until_alike found each (Next x) = each x

module _ {A B C : Type 0} {peak : Tokens → ℕ} {n : ℕ} (add : C → A → C) {item other : Reader (ChainItem A B)}
    (each : Alike peak n n item other)
    (some : ChainItemTakesSome item) (others : ChainItemTakesSome other) where
  -- chains of one count of turns
  turns_alike : (turns : ℕ) (found : C) → Alike peak n n (until add item turns found) (until add other turns found)
  unfolding until
  turns_alike zero found = pure_alike
  turns_alike (suc turns) found = bind_alike each (go_until_alike found (λ x. turns_alike turns (add found x)))

  -- chains of as many turns as there are tokens
  pub until_alike : (found : C) → Alike peak n n (until_of add item found) (until_of add other found)
  until_alike found = record {
    ends = λ ts. (turns_alike (length ts) found).ends ts;
    falls = λ ts rest x e small. (turns_alike (length ts) found).falls ts rest x e small;
    alike = λ front r s same small back.
        let turns = length (front ++ r) + length (front ++ s) in
        let here = enough add some (length (front ++ r)) turns found (front ++ r) (omega arith) (omega arith) in
        let there = enough add others (length (front ++ s)) turns found (front ++ s) (omega arith) (omega arith) in
        there ∙ (turns_alike turns found).alike front r s same small (ap left (sym here) ∙ back) ∙ ap
        (λ o. with_left o s) (sym here);
  }

-- an item that keeps the prefix takes some tokens, where what it spells has some
pub step_takes_some : {A B : Type 0} {S : Tokens → A → Type 0} {T : Tokens → B → Type 0} {item : Reader (ChainItem A B)}
    → KeepsPrefix (ChainItemOf S T) item
    → ((a : Tokens) (x : A) → S a x → 0 < length a) → item [] ≡ got Stop [] → ChainItemTakesSome item
step_takes_some {A} {B} {S} {T} {item} told some at_end = record { at_end = at_end; fewer = fewer }
  where
    fewer : (ts rest : Tokens) (x : A) → item ts ≡ got (Next x) rest → length rest < length ts
    fewer ts rest x e =
        let taken : Taken (ChainItemOf S T) ts (Next x) rest = subst (λ o. HasPrefix (ChainItemOf S T) o ts) e (told.keeps ts) in
        omega (arith, some taken.front x taken.spells, ap length taken.split, length-append taken.front rest)
