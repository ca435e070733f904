-- What a reader reads, step by step, while at most so many brackets are open.
use Rattle.std.proofs.Common.{◌≡◌, ℕ, zero, suc, ◌<◌, List, ◌∷◌, ◌++◌, Ok, Option, refl, ap, ◌∙◌, subst, arith}
use Rattle.ftl_tokens.specs.declared.scanner.kind.Kind.{Kind}
use Rattle.ftl_tokens.specs.scanner.Tokenized.{Symbol, name, number, fixed}
use Rattle.ftl_tokens.specs.reading.Reader.{Tokens, ReadResult, Reader, and_then, ◌>>=◌, ◌>>◌, pure, next_kind, rest_of}
use Rattle.ftl_tokens.specs.reading.Reader.{skip, expect, take_name, take_number, take_positive}
use Rattle.ftl_tokens.proofs.reading.TokenLemmas.{token_by, takes_fixed-same, expect_is_token}

-- the answer that this value was read
abbrev pub got : {A : Type 0} → A → Tokens → ReadResult A
got x rest = Ok (x, rest)

-- the value is read and these tokens are left, in which fewer than so many brackets are open at once
pub record Went {A : Type 0} (peak : Tokens → ℕ) (p : Reader A) (ts : Tokens) (x : A) (rest : Tokens)
    (n : ℕ) : Type 0 where
  pub reads : p ts ≡ got x rest
  pub small : peak rest < n

-- Whatever is spelled is read, where what follows may follow and fewer than n brackets are open; fewer than m are then.
pub record Complete {A : Type 0} (peak : Tokens → ℕ) (n m : ℕ) (Follows : Tokens → Type 0)
    (Spells : Tokens → A → Type 0) (p : Reader A) : Type 0 where
  pub went : {a : Tokens} {x : A} → Spells a x → (rest : Tokens) → Follows rest → peak (a ++ rest) < n
      → Went peak p (a ++ rest) x rest m

-- one step after another
pub went_bind : {A B : Type 0} {peak : Tokens → ℕ} {p : Reader A} {ts r s : Tokens} {x : A} {y : B} {m n : ℕ}
    (f : A → Reader B) → Went peak p ts x r m → (peak r < m → Went peak (f x) r y s n) → Went peak (p >>= f) ts y s n
went_bind f went next =
    let after = next went.small in
    record { reads = ap (λ o. and_then o f) went.reads ∙ after.reads; small = after.small }

-- a reader that takes nothing
pub went_pure : {A : Type 0} {peak : Tokens → ℕ} {x : A} {ts : Tokens} {n : ℕ} → peak ts < n
    → Went peak (pure x) ts x ts n
went_pure small = record { reads = refl; small = small }

-- `expect` takes the word or the mark
pub expect_at : (kind : Kind) (ts : Tokens) → expect kind (fixed kind ∷ ts) ≡ got tt ts
expect_at kind ts =
    (expect_is_token kind).reads (fixed kind ∷ ts) ∙ ap (λ o. token_by o (fixed kind) ts) (takes_fixed-same kind)

-- past a reserved word or a mark
pub went_past : {B : Type 0} {peak : Tokens → ℕ} {q : Reader B} {r s : Tokens} {y : B} {n : ℕ} (kind : Kind)
    → Went peak q r y s n → Went peak (expect kind >> q) (fixed kind ∷ r) y s n
went_past {q = q} {r = r} kind went =
    record { reads = ap (λ o. and_then o (λ _. q)) (expect_at kind r) ∙ went.reads; small = went.small }

-- past a token that is seen there
pub went_skip : {B : Type 0} {peak : Tokens → ℕ} {q : Reader B} {t : Symbol} {r s : Tokens} {y : B} {n : ℕ}
    → Went peak q r y s n → Went peak (skip >> q) (t ∷ r) y s n
unfolding rest_of
went_skip went = record { reads = went.reads; small = went.small }

-- past a name
pub went_name : {B : Type 0} {peak : Tokens → ℕ} {text : List ℕ} {r s : Tokens} {y : B} {n : ℕ}
    (f : List ℕ → Reader B) → Went peak (f text) r y s n → Went peak (take_name >>= f) (name text ∷ r) y s n
unfolding take_name
went_name f went = record { reads = went.reads; small = went.small }

-- past a number
pub went_number : {B : Type 0} {peak : Tokens → ℕ} {value : ℕ} {r s : Tokens} {y : B} {n : ℕ}
    (f : ℕ → Reader B) → Went peak (f value) r y s n → Went peak (take_number >>= f) (number value ∷ r) y s n
unfolding take_number
went_number f went = record { reads = went.reads; small = went.small }

-- past a number that isn't 0
pub went_positive : {B : Type 0} {peak : Tokens → ℕ} {value : ℕ} {r s : Tokens} {y : B} {n : ℕ}
    (f : ℕ → Reader B) → 0 < value → Went peak (f value) r y s n → Went peak (take_positive >>= f)
    (number value ∷ r) y s n
unfolding take_positive
went_positive {value = zero} f some went = absurd (omega arith)
went_positive {value = suc value} f some went = record { reads = went.reads; small = went.small }

-- a step whose value is turned into another
pub went_map : {A B : Type 0} {peak : Tokens → ℕ} {p : Reader A} {ts r : Tokens} {x : A} {n : ℕ} (g : A → B)
    → Went peak p ts x r n → Went peak (p >>= (λ y. pure (g y))) ts (g x) r n
went_map g went = went_bind (λ y. pure (g y)) went (λ small. went_pure small)

-- a reader that the kind of the next token chooses
pub went_by : {A : Type 0} {peak : Tokens → ℕ}
    (p : Option Kind → Reader A) {q : Reader A} {ts rest : Tokens} {x : A} {n : ℕ}
    → p (next_kind ts) ≡ q → Went peak q ts x rest n → Went peak (λ l. p (next_kind l) l) ts x rest n
went_by p {ts = ts} e went = record { reads = ap (λ q. q ts) e ∙ went.reads; small = went.small }

-- the same tokens, grouped another way
pub went_at : {A : Type 0} {peak : Tokens → ℕ} {p : Reader A} {ts us rest : Tokens} {x : A} {n : ℕ}
    → us ≡ ts → Went peak p ts x rest n → Went peak p us x rest n
went_at {p = p} e went = record { reads = ap p e ∙ went.reads; small = went.small }

-- the same tokens, grouped another way, with the brackets that are open in them
pub went_grouped : {A : Type 0} {peak : Tokens → ℕ} {p : Reader A} {us rest : Tokens} {x : A} {m n : ℕ} (ts : Tokens)
    → us ≡ ts → peak us < m → (peak ts < m → Went peak p ts x rest n) → Went peak p us x rest n
went_grouped {peak = peak} {m = m} ts e small next = went_at e (next (subst (λ l. peak l < m) e small))
