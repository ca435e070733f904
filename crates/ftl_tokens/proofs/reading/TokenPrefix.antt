-- The readers of one token keep the correct prefix.
use Rattle.std.proofs.Common.{◌≡◌, ℕ, ◌<◌, List, [], ◌∷◌, Option, Some, None, Err, sym, refl, ap, ◌∙◌, subst}
use Rattle.ftl_tokens.specs.declared.scanner.kind.Kind.{Kind}
use Rattle.ftl_tokens.specs.scanner.Tokenized.{Symbol, name, number, fixed}
use Rattle.ftl_tokens.specs.reading.Reader.{Tokens, Reader, ◌>>=◌, ◌>>◌, rest_of, IsFixed, skip, expect, take_name}
use Rattle.ftl_tokens.specs.reading.Reader.{take_number, take_positive, at_end, pure}
use Rattle.ftl_tokens.proofs.reading.KeptPrefix.{Example, example, After, HasPrefix, KeepsPrefix, KeepsPrefixAt, bind_prefix, pure_prefix, wider_prefix}
use Rattle.ftl_tokens.proofs.reading.KeptPrefix.{prefix_after}
use Rattle.ftl_tokens.proofs.reading.TokenLemmas.{IsToken, token, token_by, expect_is_token, name_is_token}
use Rattle.ftl_tokens.proofs.reading.TokenLemmas.{number_is_token}
use Rattle.ftl_tokens.proofs.reading.TokenLemmas.{positive_is_token, from_fixed, takes_fixed-same, from_name}
use Rattle.ftl_tokens.proofs.reading.TokenLemmas.{from_number}
use Rattle.ftl_tokens.proofs.reading.TokenLemmas.{from_positive, some_positive, next_fixed}

-- one token, and what is taken of it
pub record IsOne {A : Type 0} (takes : Symbol → Option A) (a : Tokens) (x : A) : Type 0 where
  pub symbol : Symbol
  pub one : a ≡ symbol ∷ []
  pub value : takes symbol ≡ Some x

-- a token that is taken
one_token : {A : Type 0} {takes : Symbol → Option A} (t : Symbol) (x : A) → takes t ≡ Some x → Example (IsOne takes)
one_token t x e = record { tokens = t ∷ []; value = x; spells = record { symbol = t; one = refl; value = e } }

-- the reader of one token
token_prefix : {A : Type 0} {takes : Symbol → Option A} {p : Reader A}
    → IsToken takes p → Example (IsOne takes) → KeepsPrefix (IsOne takes) p
token_prefix {A} {takes} {p} is one =
    record { keeps = λ ts. subst (λ o. HasPrefix (IsOne takes) o ts) (sym (is.reads ts)) (go ts) }
  where
    refused : (ts : Tokens) → HasPrefix (IsOne takes) (Err ts) ts
    refused ts = record { front = []; more = one.tokens; value = one.value; spells = one.spells; split = refl }

    by_case : (o : Option A) (t : Symbol) (ts : Tokens) → takes t ≡ o
        → HasPrefix (IsOne takes) (token_by o t ts) (t ∷ ts)
    by_case None t ts e = refused (t ∷ ts)
    by_case (Some x) t ts e =
        record { front = t ∷ []; spells = record { symbol = t; one = refl; value = e }; split = refl }

    go : (ts : Tokens) → HasPrefix (IsOne takes) (token takes ts) ts
    go [] = refused []
    go (t ∷ ts) = by_case (takes t) t ts refl

-- past one token
step_prefix : {A B : Type 0} {takes : Symbol → Option A} {S : Tokens → B → Type 0} {p : Reader A} {f : A → Reader B}
    → IsToken takes p → Example (IsOne takes)
    → ((t : Symbol) (x : A) → takes t ≡ Some x → Example (After (t ∷ []) S))
    → ((t : Symbol) (x : A) → takes t ≡ Some x → KeepsPrefix (After (t ∷ []) S) (f x))
    → KeepsPrefix S (p >>= f)
step_prefix {S = S} {f = f} is one examples told =
    bind_prefix (token_prefix is one)
    (λ a x is_one. subst (λ l. Example (After l S)) (sym is_one.one) (examples is_one.symbol x is_one.value))
    (λ a x is_one. subst (λ l. KeepsPrefix (After l S) (f x)) (sym is_one.one) (told is_one.symbol x is_one.value))

-- past a reserved word or a mark
pub past_prefix : {B : Type 0} {S : Tokens → B → Type 0} {q : Reader B} (kind : Kind)
    → Example (After (fixed kind ∷ []) S) → KeepsPrefix (After (fixed kind ∷ []) S) q → KeepsPrefix S (expect kind >> q)
past_prefix {B} {S} {q} kind more told =
    step_prefix (expect_is_token kind) (one_token (fixed kind) tt (takes_fixed-same kind))
    (λ t x e. subst (λ u. Example (After (u ∷ []) S)) (sym (from_fixed kind t x e)) more)
    (λ t x e. subst (λ u. KeepsPrefix (After (u ∷ []) S) q) (sym (from_fixed kind t x e)) told)

-- past a name
pub name_prefix : {B : Type 0} {S : Tokens → B → Type 0} {f : List ℕ → Reader B}
    → ((text : List ℕ) → Example (After (name text ∷ []) S))
    → ((text : List ℕ) → KeepsPrefix (After (name text ∷ []) S) (f text))
    → KeepsPrefix S (take_name >>= f)
name_prefix {B} {S} {f} examples told =
    step_prefix name_is_token (one_token (name []) [] refl)
    (λ t x e. subst (λ u. Example (After (u ∷ []) S)) (sym (from_name t x e)) (examples x))
    (λ t x e. subst (λ u. KeepsPrefix (After (u ∷ []) S) (f x)) (sym (from_name t x e)) (told x))

-- past a number
pub number_prefix : {B : Type 0} {S : Tokens → B → Type 0} {f : ℕ → Reader B}
    → ((value : ℕ) → Example (After (number value ∷ []) S))
    → ((value : ℕ) → KeepsPrefix (After (number value ∷ []) S) (f value))
    → KeepsPrefix S (take_number >>= f)
number_prefix {B} {S} {f} examples told =
    step_prefix number_is_token (one_token (number 0) 0 refl)
    (λ t x e. subst (λ u. Example (After (u ∷ []) S)) (sym (from_number t x e)) (examples x))
    (λ t x e. subst (λ u. KeepsPrefix (After (u ∷ []) S) (f x)) (sym (from_number t x e)) (told x))

-- past a number that isn't 0
pub positive_prefix : {B : Type 0} {S : Tokens → B → Type 0} {f : ℕ → Reader B}
    → ((value : ℕ) → 0 < value → Example (After (number value ∷ []) S))
    → ((value : ℕ) → 0 < value → KeepsPrefix (After (number value ∷ []) S) (f value))
    → KeepsPrefix S (take_positive >>= f)
positive_prefix {B} {S} {f} examples told =
    step_prefix positive_is_token (one_token (number 1) 1 refl)
    (λ t x e. subst (λ u. Example (After (u ∷ []) S)) (sym (from_positive t x e)) (examples x (some_positive t x e)))
    (λ t x e. subst (λ u. KeepsPrefix (After (u ∷ []) S) (f x)) (sym (from_positive t x e)) (told x (some_positive t x e)))

-- a name, and the end
pub last_name_prefix : {S : Tokens → List ℕ → Type 0} → ((text : List ℕ) → S (name text ∷ []) text) → KeepsPrefix S take_name
last_name_prefix {S} spells =
    wider_prefix
    (λ a x is_one. subst (λ l. S l x) (sym (is_one.one ∙ ap (λ t. t ∷ []) (from_name is_one.symbol x is_one.value))) (spells x))
    (token_prefix name_is_token (one_token (name []) [] refl))

-- one more reserved word or mark, and the end
pub end_prefix : {B : Type 0} {S : Tokens → B → Type 0} (kind : Kind) (x : B) → S (fixed kind ∷ []) x
    → KeepsPrefix S (expect kind >> pure x)
end_prefix kind x spells = past_prefix kind (example [] x spells) (pure_prefix spells)

-- nothing more
pub at_end_prefix : {B : Type 0} {S : Tokens → B → Type 0} (x : B) → S [] x → KeepsPrefix S (at_end >> pure x)
unfolding at_end
at_end_prefix {B} {S} x spells = record { keeps = go }
  where
    go : (ts : Tokens) → HasPrefix S ((at_end >> pure x) ts) ts
    go [] = record { front = []; spells = spells; split = refl }
    go (t ∷ ts) = record { front = []; more = []; value = x; spells = spells; split = refl }

-- past a reserved word or a mark that is seen there
pub skip_prefix : {B : Type 0} {S : Tokens → B → Type 0} {q : Reader B} (kind : Kind) → IsFixed kind
    → KeepsPrefix (After (fixed kind ∷ []) S) q → KeepsPrefixAt (Some kind) S (skip >> q)
skip_prefix {B} {S} {q} kind plain told =
    record {
      keeps = λ ts e.
          prefix_after S (fixed kind ∷ []) (rest_of ts) ts (q (rest_of ts)) (next_fixed kind ts plain e)
          (told.keeps (rest_of ts));
    }
