-- Chains that another thing may end are read whole.
use Rattle.std.proofs.Common.{◌≡◌, ℕ, zero, suc, ◌<◌, ◌≤◌, ◌++◌, length, Option, Some, None, sym, subst, append_assoc}
use Rattle.std.proofs.Common.{length-append, arith}
use Rattle.ftl_tokens.specs.declared.reading.chain_item.ChainItem.{ChainItem}
use Rattle.ftl_tokens.specs.declared.reading.chain_item.ChainItem.TheVariants.{Stop, Next, Last}
use Rattle.ftl_tokens.specs.reading.Reader.{Tokens, Reader, go_until, until, until_of}
use Rattle.ftl_tokens.proofs.reading.ChainPrefix.{Until, stopped, ended, went_on}
use Rattle.ftl_tokens.proofs.reading.Went.{got, Went, went_bind, went_pure, went_at}

-- What the item has to be: what may follow an item is the next, the last thing, or what may follow the chain.
pub record CompleteChainItem {A B : Type 0} (peak : Tokens → ℕ) (n : ℕ) (Ends : Option B → Tokens → Type 0)
    (Follows : Tokens → Type 0)
    (S : Tokens → A → Type 0) (T : Tokens → B → Type 0) (item : Reader (ChainItem A B)) : Type 0 where
  pub found : {a : Tokens} {x : A} → S a x → (rest : Tokens) → Follows rest → peak (a ++ rest) < n
      → Went peak item (a ++ rest) (Next x) rest n
  pub last : {a : Tokens} {y : B} → T a y → (rest : Tokens) → Ends (Some y) rest → peak (a ++ rest) < n
      → Went peak item (a ++ rest) (Last y) rest n
  pub stops : (rest : Tokens) → Ends None rest → item rest ≡ got Stop rest
  pub begins : {a : Tokens} {x : A} → S a x → (rest : Tokens) → Follows (a ++ rest)
  pub begins_last : {a : Tokens} {y : B} → T a y → (rest : Tokens) → Follows (a ++ rest)
  pub ends : (rest : Tokens) → Ends None rest → Follows rest
  pub some : {a : Tokens} {x : A} → S a x → 0 < length a
  pub some_last : {a : Tokens} {y : B} → T a y → 0 < length a

module _ {A B C : Type 0} {peak : Tokens → ℕ} {n : ℕ} {Ends : Option B → Tokens → Type 0} {Follows : Tokens → Type 0}
    {S : Tokens → A → Type 0} {T : Tokens → B → Type 0} {item : Reader (ChainItem A B)}
    (complete : CompleteChainItem peak n Ends Follows S T item) where
  -- what may follow an item, where the chain goes on so
  until_follows : {add : C → A → C} {found : C} {end : C × Option B} {a : Tokens}
      → Until add S T found a end → (rest : Tokens) → Ends end.1 rest → Follows (a ++ rest)
  until_follows stopped rest e = complete.ends rest e
  until_follows (ended t) rest e = complete.begins_last t rest
  until_follows (went_on {a = a} {b = b} s items) rest e =
      subst Follows (sym (append_assoc a b rest)) (complete.begins s (b ++ rest))

  -- where the chain may stop, it stops
  until_stops : (turns : ℕ) (add : C → A → C) (found : C) (rest : Tokens) → Ends None rest → peak rest < n
      → Went peak (until add item turns found) rest (found, None) rest n
  unfolding until
  until_stops zero add found rest e small = went_pure small
  until_stops (suc turns) add found rest e small =
      went_bind (go_until found (λ x. until add item turns (add found x)))
      (record { reads = complete.stops rest e; small = small }) (λ small. went_pure small)

  -- a chain of enough turns
  until_turns_went : {add : C → A → C} {found : C} {end : C × Option B} {a : Tokens}
      → Until add S T found a end → (rest : Tokens) → Ends end.1 rest → peak (a ++ rest) < n
      → (turns : ℕ) → length (a ++ rest) ≤ turns → Went peak (until add item turns found) (a ++ rest) end rest n
  unfolding until
  until_turns_went {add} {found} stopped rest e small turns enough = until_stops turns add found rest e small
  until_turns_went {add} {found} (ended {a = a} t) rest e small zero enough =
      absurd (omega (arith, complete.some_last t, length-append a rest))
  until_turns_went {add} {found} (ended {a = a} t) rest e small (suc turns) enough =
      went_bind (go_until found (λ x. until add item turns (add found x)))
      (complete.last t rest e small) (λ small. went_pure small)
  until_turns_went {add} {found} (went_on {a = a} {b = b} s items) rest e small zero enough =
      absurd (omega (arith, complete.some s, length-append (a ++ b) rest, length-append a b))
  until_turns_went {add} {found} (went_on {a = a} {b = b} {x = x} s items) rest e small (suc turns) enough =
      let regroup = append_assoc a b rest in
      went_at regroup
      (went_bind (go_until found (λ y. until add item turns (add found y)))
      (complete.found s (b ++ rest) (until_follows items rest e) (subst (λ l. peak l < n) regroup small))
      (λ small. until_turns_went items rest e small turns
      (omega (arith, complete.some s, length-append (a ++ b) rest, length-append a b, length-append b rest))))

  -- a chain of as many turns as there are tokens
  pub until_went : {add : C → A → C} {found : C} {end : C × Option B} {a : Tokens}
      → Until add S T found a end → (rest : Tokens) → Ends end.1 rest → peak (a ++ rest) < n
      → Went peak (until_of add item found) (a ++ rest) end rest n
  until_went {a = a} items rest e small =
      let all = until_turns_went items rest e small (length (a ++ rest)) (omega arith) in
      record { reads = all.reads; small = all.small }
