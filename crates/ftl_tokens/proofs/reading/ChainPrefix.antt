-- Chains of items keep the correct prefix.
use Rattle.std.proofs.Common.{◌≡◌, ℕ, zero, suc, List, [], ◌∷◌, ◌++◌, length, Option, Some, None, sym, ◌∙◌, subst}
use Rattle.std.proofs.Common.{append_assoc, append-nil}
use Rattle.ftl_tokens.specs.declared.reading.chain_item.ChainItem.{ChainItem}
use Rattle.ftl_tokens.specs.declared.reading.chain_item.ChainItem.TheVariants.{Stop, Next, Last}
use Rattle.ftl_tokens.specs.reading.Reader.{Tokens, Reader, push, go_on, go_until, chain, chain_of, until, until_of}
use Rattle.ftl_tokens.proofs.reading.KeptPrefix.{Example, After, KeepsPrefix, bind_prefix, pure_prefix, wider_prefix}

-- tokens that spell items one after another, each of which is added to what is found
pub data Chain {A B : Type 0} (add : B → A → B) (S : Tokens → A → Type 0) : B → Tokens → B → Type 0 where
  none : {found : B} → Chain add S found [] found
  more : {found end : B} {a b : Tokens} {x : A} → S a x → Chain add S (add found x) b end
      → Chain add S found (a ++ b) end

-- what is added to the items that were found, and is spelled by these tokens
pub record Added {A : Type 0} (F : Tokens → List A → Type 0) (found : List A) (tokens : Tokens)
    (end : List A) : Type 0 where
  pub items : List A
  pub all : end ≡ found ++ items
  pub spells : F tokens items

-- no item after what is found
pub chain_none : {A : Type 0} {S : Tokens → A → Type 0} (found : List A) → Chain push S found [] (found ++ [])
chain_none {S = S} found = subst (λ l. Chain push S found [] l) (sym (append-nil found)) none

-- one item more, and those after it
pub chain_more : {A : Type 0} {S : Tokens → A → Type 0} {found : List A} (a b : Tokens) (x : A) (xs : List A)
    → S a x → Chain push S (push found x) b (push found x ++ xs) → Chain push S found (a ++ b) (found ++ (x ∷ xs))
chain_more {S = S} {found = found} a b x xs s items =
    more s (subst (λ l. Chain push S (push found x) b l) (append_assoc found (x ∷ []) xs) items)

-- a relation on lists that holds of no item, and of one more
module _ {A : Type 0} {S : Tokens → A → Type 0} (F : Tokens → List A → Type 0) (no : F [] [])
    (one_more : (a b : Tokens) (x : A) (xs : List A) → S a x → F b xs → F (a ++ b) (x ∷ xs)) where
  -- a chain adds the items of a list that is spelled
  pub chain_added : {found end : List A} {b : Tokens} → Chain push S found b end → Added F found b end
  chain_added {found} none = record { items = []; all = sym (append-nil found); spells = no }
  chain_added {found} (more {a = a} {b = b} {x = x} s chain) =
      let rest = chain_added chain in
      record {
        items = x ∷ rest.items;
        all = rest.all ∙ append_assoc found (x ∷ []) rest.items;
        spells = one_more a b x rest.items s rest.spells;
      }

  -- from nothing on, the chain is that list
  pub chain_spells : {end : List A} {b : Tokens} → Chain push S [] b end → F b end
  chain_spells {end} {b} chain = let added = chain_added chain in subst (λ l. F b l) (sym added.all) added.spells

-- an item, or no token where there is no more
abbrev pub OrNone : {A : Type 0} → (Tokens → A → Type 0) → Tokens → Option A → Type 0
OrNone S a None = a ≡ []
OrNone S a (Some x) = S a x

module _ {A B : Type 0} {add : B → A → B} {S : Tokens → A → Type 0} {item : Reader (Option A)}
    (told : KeepsPrefix (OrNone S) item) where
  -- a chain may end behind an item that took nothing
  empty_after : (a : Tokens) (found : B) → a ≡ [] → Chain add S found (a ++ []) found
  empty_after a found e = subst (λ l. Chain add S found (l ++ []) found) (sym e) none

  -- a chain may end behind each item
  example_after : (found : B) (a : Tokens) (x : Option A) → OrNone S a x → Example (After a (Chain add S found))
  example_after found a None e = record { tokens = []; value = found; spells = empty_after a found e }
  example_after found a (Some x) s = record { tokens = []; value = add found x; spells = more s none }

  -- one turn more
  next_prefix : (n : ℕ) → ((found : B) → KeepsPrefix (Chain add S found) (chain add item n found))
      → (found : B) (a : Tokens) (x : Option A) → OrNone S a x
      → KeepsPrefix (After a (Chain add S found)) (go_on found (λ y. chain add item n (add found y)) x)
  next_prefix n again found a None e = pure_prefix (empty_after a found e)
  next_prefix n again found a (Some x) s = wider_prefix (λ b end spells. more s spells) (again (add found x))

  -- a chain of a count of turns
  chain_turns_prefix : (n : ℕ) (found : B) → KeepsPrefix (Chain add S found) (chain add item n found)
  unfolding chain
  chain_turns_prefix zero found = pure_prefix none
  chain_turns_prefix (suc n) found =
      bind_prefix told (example_after found) (next_prefix n (λ l. chain_turns_prefix n l) found)

  -- a chain of as many turns as there are tokens
  pub chain_prefix : (found : B) → KeepsPrefix (Chain add S found) (chain_of add item found)
  chain_prefix found = record { keeps = λ ts. (chain_turns_prefix (length ts) found).keeps ts }

-- Items one after another, each of which is added to what is found, and perhaps another thing at the end.
pub data Until {A B C : Type 0} (add : C → A → C) (S : Tokens → A → Type 0)
    (T : Tokens → B → Type 0) : C → Tokens → C × Option B → Type 0 where
  stopped : {found : C} → Until add S T found [] (found, None)
  ended : {found : C} {a : Tokens} {y : B} → T a y → Until add S T found a (found, Some y)
  went_on : {found : C} {end : C × Option B} {a b : Tokens} {x : A} → S a x → Until add S T (add found x) b end
      → Until add S T found (a ++ b) end

-- an item, the last thing, or no token where neither comes
abbrev pub ChainItemOf : {A B : Type 0} → (Tokens → A → Type 0) → (Tokens → B → Type 0) → Tokens → ChainItem A B → Type 0
ChainItemOf S T a Stop = a ≡ []
ChainItemOf S T a (Next x) = S a x
ChainItemOf S T a (Last y) = T a y

module _ {A B C : Type 0} {add : C → A → C} {S : Tokens → A → Type 0} {T : Tokens → B → Type 0}
    {item : Reader (ChainItem A B)}
    (told : KeepsPrefix (ChainItemOf S T) item) where
  -- the chain may stop behind an item that took nothing
  stopped_after : (a : Tokens) (found : C) → a ≡ [] → Until add S T found (a ++ []) (found, None)
  stopped_after a found e = subst (λ l. Until add S T found (l ++ []) (found, None)) (sym e) stopped

  -- the chain ends behind the last thing
  ended_after : (a : Tokens) (found : C) (y : B) → T a y → Until add S T found (a ++ []) (found, Some y)
  ended_after a found y t = subst (λ l. Until add S T found l (found, Some y)) (sym (append-nil a)) (ended t)

  -- a chain may end behind each item
  step_example : (found : C) (a : Tokens) (x : ChainItem A B) → ChainItemOf S T a x → Example (After a (Until add S T found))
  step_example found a Stop e = record { tokens = []; value = (found, None); spells = stopped_after a found e }
  step_example found a (Next x) s = record { tokens = []; value = (add found x, None); spells = went_on s stopped }
  step_example found a (Last y) t = record { tokens = []; value = (found, Some y); spells = ended_after a found y t }

  -- one turn more
  step_prefix : (n : ℕ) → ((found : C) → KeepsPrefix (Until add S T found) (until add item n found))
      → (found : C) (a : Tokens) (x : ChainItem A B) → ChainItemOf S T a x
      → KeepsPrefix (After a (Until add S T found)) (go_until found (λ y. until add item n (add found y)) x)
  step_prefix n again found a Stop e = pure_prefix (stopped_after a found e)
  step_prefix n again found a (Next x) s = wider_prefix (λ b end spells. went_on s spells) (again (add found x))
  step_prefix n again found a (Last y) t = pure_prefix (ended_after a found y t)

  -- a chain of a count of turns
  until_turns_prefix : (n : ℕ) (found : C) → KeepsPrefix (Until add S T found) (until add item n found)
  unfolding until
  until_turns_prefix zero found = pure_prefix stopped
  until_turns_prefix (suc n) found =
      bind_prefix told (step_example found) (step_prefix n (λ l. until_turns_prefix n l) found)

  -- a chain of as many turns as there are tokens
  pub until_prefix : (found : C) → KeepsPrefix (Until add S T found) (until_of add item found)
  until_prefix found = record { keeps = λ ts. (until_turns_prefix (length ts) found).keeps ts }
