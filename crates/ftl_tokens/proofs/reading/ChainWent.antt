-- Chains of items are read whole.
use Rattle.std.proofs.Common.{◌≡◌, ℕ, zero, suc, ◌<◌, ◌≤◌, ◌++◌, length, Option, Some, None, sym, subst, append_assoc}
use Rattle.std.proofs.Common.{length-append, arith}
use Rattle.ftl_tokens.specs.reading.Reader.{Tokens, Reader, go_on, chain, chain_of}
use Rattle.ftl_tokens.proofs.reading.ChainPrefix.{Chain, none, more}
use Rattle.ftl_tokens.proofs.reading.Went.{got, Went, went_bind, went_pure, went_at}

-- What the item of a chain has to be: what may follow an item is the next, or what may follow the chain.
pub record CompleteItem {A : Type 0} (peak : Tokens → ℕ) (n : ℕ) (Ends Follows : Tokens → Type 0)
    (S : Tokens → A → Type 0)
    (item : Reader (Option A)) : Type 0 where
  pub found : {a : Tokens} {x : A} → S a x → (rest : Tokens) → Follows rest → peak (a ++ rest) < n
      → Went peak item (a ++ rest) (Some x) rest n
  pub stops : (rest : Tokens) → Ends rest → item rest ≡ got None rest
  pub begins : {a : Tokens} {x : A} → S a x → (rest : Tokens) → Follows (a ++ rest)
  pub ends : (rest : Tokens) → Ends rest → Follows rest
  pub some : {a : Tokens} {x : A} → S a x → 0 < length a

module _ {A B : Type 0} {peak : Tokens → ℕ} {n : ℕ} {Ends Follows : Tokens → Type 0} {S : Tokens → A → Type 0}
    {item : Reader (Option A)}
    (complete : CompleteItem peak n Ends Follows S item) where
  -- what may follow an item, where the chain goes on so
  pub chain_follows : {add : B → A → B} {found end : B} {a : Tokens} → Chain add S found a end → (rest : Tokens)
      → Ends rest → Follows (a ++ rest)
  chain_follows none rest e = complete.ends rest e
  chain_follows (more {a = a} {b = b} s chain) rest e =
      subst Follows (sym (append_assoc a b rest)) (complete.begins s (b ++ rest))

  -- where the chain may end, it ends
  stop_turn : (turns : ℕ) (add : B → A → B) (found : B) (rest : Tokens) → Ends rest → peak rest < n
      → Went peak (chain add item turns found) rest found rest n
  unfolding chain
  stop_turn zero add found rest e small = went_pure small
  stop_turn (suc turns) add found rest e small =
      went_bind (go_on found (λ x. chain add item turns (add found x)))
      (record { reads = complete.stops rest e; small = small }) (λ small. went_pure small)

  -- a chain of enough turns
  pub chain_turns_went : {add : B → A → B} {found end : B} {a : Tokens} → Chain add S found a end → (rest : Tokens)
      → Ends rest
      → peak (a ++ rest) < n → (turns : ℕ) → length (a ++ rest) ≤ turns
      → Went peak (chain add item turns found) (a ++ rest) end rest n
  unfolding chain
  chain_turns_went {add} {found} none rest e small turns enough = stop_turn turns add found rest e small
  chain_turns_went {add} {found} (more {a = a} {b = b} s chain) rest e small zero enough =
      absurd (omega (arith, complete.some s, length-append (a ++ b) rest, length-append a b))
  chain_turns_went {add} {found} (more {a = a} {b = b} {x = x} s items) rest e small (suc turns) enough =
      let regroup = append_assoc a b rest in
      went_at regroup
      (went_bind (go_on found (λ y. chain add item turns (add found y)))
      (complete.found s (b ++ rest) (chain_follows items rest e) (subst (λ l. peak l < n) regroup small))
      (λ small. chain_turns_went items rest e small turns
      (omega (arith, complete.some s, length-append (a ++ b) rest, length-append a b, length-append b rest))))

  -- a chain of as many turns as there are tokens
  pub chain_went : {add : B → A → B} {found end : B} {a : Tokens} → Chain add S found a end → (rest : Tokens)
      → Ends rest
      → peak (a ++ rest) < n → Went peak (chain_of add item found) (a ++ rest) end rest n
  chain_went {a = a} items rest e small =
      let all = chain_turns_went items rest e small (length (a ++ rest)) (omega arith) in
      record { reads = all.reads; small = all.small }
