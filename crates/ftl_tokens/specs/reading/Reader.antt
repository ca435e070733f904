-- Readers of token lists: what they take from the front, and where they refuse.
use Rattle.std.specs.Prelude.{◌≡◌, ◌≢◌, ◌≤◌, ◌⊎◌, ℕ, zero, suc, Bool, false, List, [], ◌∷◌, ◌++◌, length, Option}
use Rattle.std.specs.Prelude.{Some, None, Result, Ok, Err, if◌then◌else◌}
use Rattle.std.specs.Str.{bytes_eq}
use denote.Enum.Bare.{sameb}
use Rattle.ftl_tokens.specs.contracts.scanner.kind.Kind.{the_type}
use Rattle.ftl_tokens.specs.declared.scanner.kind.Kind.{Kind}
use Rattle.ftl_tokens.specs.declared.scanner.kind.Kind.TheVariants.{Name, Number}
use Rattle.ftl_tokens.specs.scanner.Tokenized.{Symbol, name, number, fixed, kind_of_symbol}
use Rattle.ftl_tokens.specs.declared.reading.chain_item.ChainItem.{ChainItem}
use Rattle.ftl_tokens.specs.declared.reading.chain_item.ChainItem.TheVariants.{Stop, Next, Last}
use Rattle.ftl_tokens.specs.declared.reading.fault.ReadFault.{ReadFault}
use Rattle.ftl_tokens.specs.declared.reading.fault.ReadFault.TheVariants.{OutOfMemory}

-- what the tokens say, in order
abbrev pub Tokens : Type 0
Tokens = List Symbol

-- what was read and the tokens after it, or the tokens from the refused one on
abbrev pub ReadResult : Type 0 → Type 0
ReadResult A = Result (A × Tokens) Tokens

-- a reader takes tokens from the front of a list
abbrev pub Reader : Type 0 → Type 0
Reader A = Tokens → ReadResult A

-- ---- one step after another

-- the next reader goes on with what was read and with the tokens after it
abbrev pub and_then : {A B : Type 0} → ReadResult A → (A → Reader B) → ReadResult B
and_then (Ok p) f = f p.0 p.1
and_then (Err rest) f = Err rest

-- one reader, and then the one that what it read asks for
infixl 10 ◌>>=◌
abbrev pub ◌>>=◌ : {A B : Type 0} → Reader A → (A → Reader B) → Reader B
p >>= f = λ ts. and_then (p ts) f

-- one reader after the other; what the first read falls away
infixl 10 ◌>>◌
abbrev pub ◌>>◌ : {A B : Type 0} → Reader A → Reader B → Reader B
p >> q = p >>= (λ _. q)

-- takes no token
abbrev pub pure : {A : Type 0} → A → Reader A
pure a = λ ts. Ok (a, ts)

-- reads as the reader does, and makes another value of what was read
infixr 11 ◌<$>◌
abbrev pub ◌<$>◌ : {A B : Type 0} → (A → B) → Reader A → Reader B
f <$> p = p >>= (λ x. pure (f x))

-- refuses whatever comes
abbrev pub refuse : {A : Type 0} → Reader A
refuse = λ ts. Err ts

-- ---- the next token

-- the kind of the next token, if there is one
unfoldable pub next_kind : Tokens → Option Kind
next_kind [] = None
next_kind (t ∷ ts) = Some (kind_of_symbol t)

-- the tokens after the next one
unfoldable pub rest_of : Tokens → Tokens
rest_of [] = []
rest_of (t ∷ ts) = ts

-- takes the next token, whatever it is, if there is one
abbrev pub skip : Reader (Unit {0})
skip = λ ts. Ok (tt, rest_of ts)

-- whether two kinds are the same
unfoldable pub same_kind : Kind → Kind → Bool
same_kind = sameb the_type

-- the kind is that of a reserved word or a mark
abbrev pub IsFixed : Kind → Type 0
IsFixed Name = ⊥
IsFixed Number = ⊥
IsFixed _ = Unit {0}

-- whether the next token is the reserved word or the mark of this kind
unfoldable pub is_at : Kind → Tokens → Bool
is_at kind (fixed found ∷ ts) = same_kind found kind
is_at kind _ = false

-- takes a reserved word or a mark
unfoldable pub expect : Kind → Reader (Unit {0})
expect kind = λ ts. if is_at kind ts then Ok (tt, rest_of ts) else Err ts

-- takes a name
unfoldable pub take_name : Reader (List ℕ)
take_name (name text ∷ ts) = Ok (text, ts)
take_name ts = Err ts

-- whether the next token is a name of this text
unfoldable pub is_name : List ℕ → Tokens → Bool
is_name text (name found ∷ ts) = bytes_eq found text
is_name text _ = false

-- takes a number
unfoldable pub take_number : Reader ℕ
take_number (number value ∷ ts) = Ok (value, ts)
take_number ts = Err ts

-- takes a number that isn't 0
unfoldable pub take_positive : Reader ℕ
take_positive (number (suc value) ∷ ts) = Ok (suc value, ts)
take_positive ts = Err ts

-- all tokens were taken
unfoldable pub at_end : Reader (Unit {0})
at_end [] = Ok (tt, [])
at_end (t ∷ ts) = Err (t ∷ ts)

-- no token or the next one was taken
abbrev pub TakesAtMostOne : Tokens → Tokens → Type 0
TakesAtMostOne before after = (after ≡ before) ⊎ (after ≡ rest_of before)

-- no number of these tokens is above the greatest
abbrev pub AreAtMost : ℕ → Tokens → Type 0
AreAtMost greatest [] = Unit {0}
AreAtMost greatest (number value ∷ ts) = (value ≤ greatest) × AreAtMost greatest ts
AreAtMost greatest (_ ∷ ts) = AreAtMost greatest ts

-- ---- one after another, as long as they come

-- what is found with one more at its end
abbrev pub push : {A : Type 0} → List A → A → List A
push found x = found ++ x ∷ []

-- where one more was read: with it, again
abbrev pub go_on : {A B : Type 0} → B → (A → Reader B) → Option A → Reader B
go_on found again None = pure found
go_on found again (Some x) = again x

-- items as long as there is one more, each added to what is found; at most so many
unfoldable pub chain : {A B : Type 0} → (B → A → B) → Reader (Option A) → ℕ → B → Reader B
chain add item zero found = pure found
chain add item (suc n) found = item >>= go_on found (λ x. chain add item n (add found x))

-- each item takes a token where this is used, so there are at most as many items as tokens
abbrev pub chain_of : {A B : Type 0} → (B → A → B) → Reader (Option A) → B → Reader B
chain_of add item found = λ ts. chain add item (length ts) found ts

-- by the item: no more, or with it again, or another thing that ends the chain
abbrev pub go_until : {A B C : Type 0} → C → (A → Reader (C × Option B)) → ChainItem A B → Reader (C × Option B)
go_until found again Stop = pure (found, None)
go_until found again (Next x) = again x
go_until found again (Last y) = pure (found, Some y)

-- items as long as there is one more, each added to what is found, and perhaps another thing, which is the last
unfoldable pub until : {A B C : Type 0} → (C → A → C) → Reader (ChainItem A B) → ℕ → C → Reader (C × Option B)
until add item zero found = pure (found, None)
until add item (suc n) found = item >>= go_until found (λ x. until add item n (add found x))

-- each item takes a token where this is used, so there are at most as many items as tokens
abbrev pub until_of : {A B C : Type 0} → (C → A → C) → Reader (ChainItem A B) → C → Reader (C × Option B)
until_of add item found = λ ts. until add item (length ts) found ts

-- ---- what a function that reads ensures

-- the result is the reader's, and after a refusal the tokens from the refused one on are left, unless memory ran out
abbrev pub Reads : {A : Type 0} → ReadResult A → Result A ReadFault → Tokens → Type 0
Reads outcome (Ok x) left = outcome ≡ Ok (x, left)
Reads outcome (Err e) left = e ≢ OutOfMemory → outcome ≡ Err left
