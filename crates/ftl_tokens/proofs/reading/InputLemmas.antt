-- The list of symbols from a place on, by the token that stands there.
use Rattle.std.proofs.Common.{◌≡◌, ℕ, zero, suc, ◌+◌, ◌-◌, ◌<◌, ◌≤◌, List, [], ◌∷◌, length, drop, slice_get}
use Rattle.std.proofs.Common.{IsSomeAnd, IfSome, option_map, Option, Some, None, refl, sym, ap, ◌∙◌, arith, add-one}
use Rattle.std.proofs.Common.{suc-add, inl, inr, get_or, drop-cons}
use Rattle.ftl_tokens.proofs.scanner.TokenLemmas.{symbols_of-get}
use Rattle.std.proofs.lemmas.Bool.{cases_lt}
use Rattle.std.proofs.Math.Seq.{drop-nil}
use Rattle.std.proofs.lemmas.Option.{slice_get_past, slice_get-map, slice_get-get_or, get_or_from_slice_get}
use Rattle.std.proofs.lemmas.Option.{slice_get_within}
use Rattle.ftl_tokens.specs.declared.scanner.kind.Kind.{Kind}
use Rattle.ftl_tokens.specs.declared.scanner.kind.Kind.TheVariants.{Name, Number}
use Rattle.ftl_tokens.specs.declared.scanner.kind.Kind.TheVariants as kinds
use Rattle.ftl_tokens.specs.declared.scanner.kind.Token.{Token}
use Rattle.ftl_tokens.specs.scanner.Tokenized.{Tokenized, symbol, symbol_of, symbols_of, token_text, name, number}
use Rattle.ftl_tokens.specs.scanner.Tokenized.{kind_of_symbol}
use Rattle.ftl_tokens.specs.reading.Place.{place_of, byte_at}
use Rattle.ftl_tokens.specs.reading.Reader.{Tokens, next_kind, rest_of}

-- from a place on there is its element, and then the rest
pub drop-get : {A : Type 0} (xs : List A) (k : ℕ) (x : A) → slice_get xs k ≡ Some x → drop k xs ≡ x ∷ drop (k + 1) xs
drop-get xs k x here =
    drop-cons xs k x (slice_get_within xs k x here) ∙ ap (λ y. y ∷ drop (suc k) xs) (get_or_from_slice_get xs k x x here) ∙ ap (λ j. x ∷ drop j xs) (sym (add-one k))

-- a token of a kind says what is of that kind
pub kind-symbol : (kind : Kind) (text : List ℕ) → kind_of_symbol (symbol kind text) ≡ kind
kind-symbol Name text = refl
kind-symbol Number text = refl
kind-symbol _ text = refl

-- nor anything past the last token
pub drop-none : {A : Type 0} (xs : List A) (k : ℕ) → slice_get xs k ≡ None → drop k xs ≡ []
drop-none [] k none = drop-nil k
drop-none (x ∷ xs) zero none = cc
drop-none (x ∷ xs) (suc k) none = drop-none xs k none

-- the symbols from a token on
pub symbols-get : (s : Tokenized) (k : ℕ) (t : Token) → slice_get s.tokens k ≡ Some t
    → drop k (symbols_of s) ≡ symbol_of s.text t ∷ drop (k + 1) (symbols_of s)
symbols-get s k t here = drop-get (symbols_of s) k (symbol_of s.text t) (symbols_of-get s k t here)

pub symbols-none : (s : Tokenized) (k : ℕ) → slice_get s.tokens k ≡ None → drop k (symbols_of s) ≡ []
symbols-none s k none = drop-none (symbols_of s) k (slice_get-map (symbol_of s.text) s.tokens k ∙ ap (option_map (symbol_of s.text)) none)

-- the kind of the next token, at a token and past the last one
pub next_kind-there : (s : Tokenized) (k : ℕ) (d : Token) → k < length s.tokens
    → next_kind (drop k (symbols_of s)) ≡ Some (get_or s.tokens k d).kind
unfolding next_kind
next_kind-there s k d within =
    let t = get_or s.tokens k d in
    ap next_kind (symbols-get s k t (slice_get-get_or s.tokens k d within)) ∙ ap Some (kind-symbol t.kind (token_text s.text t))

pub next_kind-past : (s : Tokenized) (k : ℕ) → length s.tokens ≤ k → next_kind (drop k (symbols_of s)) ≡ None
unfolding next_kind
next_kind-past s k past = ap next_kind (symbols-none s k (slice_get_past s.tokens k past))

-- the tokens after the next one, at a token and past the last one
pub rest_of-drop : (xs : Tokens) (k : ℕ) → rest_of (drop k xs) ≡ drop (k + 1) xs
unfolding rest_of
rest_of-drop [] k = ap rest_of (drop-nil k) ∙ sym (drop-nil (k + 1))
rest_of-drop (x ∷ xs) zero = refl
rest_of-drop (x ∷ xs) (suc k) = rest_of-drop xs k ∙ ap (λ j. drop j (x ∷ xs)) (sym (suc-add k 1))

pub rest_of-past : (s : Tokenized) (k : ℕ) → length s.tokens ≤ k → rest_of (drop k (symbols_of s)) ≡ drop k (symbols_of s)
unfolding rest_of
rest_of-past s k past = let none = symbols-none s k (slice_get_past s.tokens k past) in ap rest_of none ∙ sym none

-- a place with a next token is at a token
pub within-some : (s : Tokenized) (k : ℕ) (kind : Kind) → next_kind (drop k (symbols_of s)) ≡ Some kind → k < length s.tokens
within-some s k kind some = elim (cases_lt k (length s.tokens)) [ inl within ↦ within | inr past ↦ absurd (let e : Some kind ≡ None = sym some ∙ next_kind-past s k past in cc) ]

-- the kind of a token, by the kind of what it says
pub kind-there : (s : Tokenized) (k : ℕ) (t : Token) (kind : Kind) → slice_get s.tokens k ≡ Some t
    → next_kind (drop k (symbols_of s)) ≡ Some kind → t.kind ≡ kind
unfolding next_kind
kind-there s k t kind here some =
    let e : Some (kind_of_symbol (symbol_of s.text t)) ≡ Some kind = sym (ap next_kind (symbols-get s k t here)) ∙ some in
    cc (kind-symbol t.kind (token_text s.text t))

token-there_by : (s : Tokenized) (k : ℕ) (kind : Kind) (o : Option Token) → slice_get s.tokens k ≡ o
    → next_kind (drop k (symbols_of s)) ≡ Some kind → IsSomeAnd o (λ t. t.kind ≡ kind)
unfolding next_kind
token-there_by s k kind (Some t) here some = kind-there s k t kind here some
token-there_by s k kind None none some = absurd (let e : None ≡ Some kind = sym (ap next_kind (symbols-none s k none)) ∙ some in cc)

text-there_by : (s : Tokenized) (k : ℕ) (text : List ℕ) (o : Option Token) → slice_get s.tokens k ≡ o
    → next_kind (drop k (symbols_of s)) ≡ Some kinds.Name
    → IfSome o (λ t. slice_get (symbols_of s) k ≡ Some (symbol t.kind text))
    → drop k (symbols_of s) ≡ name text ∷ rest_of (drop k (symbols_of s))
unfolding next_kind
text-there_by s k text (Some t) here some said =
    let e = said ∙ ap (λ j. Some (symbol j text)) (kind-there s k t kinds.Name here some) in
    drop-get (symbols_of s) k (name text) e ∙ ap (λ r. name text ∷ r) (sym (rest_of-drop (symbols_of s) k))
text-there_by s k text None none some said = absurd (let e : None ≡ Some kinds.Name = sym (ap next_kind (symbols-none s k none)) ∙ some in cc)

-- there is a token, and it is of this kind
pub token-there : (s : Tokenized) (k : ℕ) (kind : Kind) → next_kind (drop k (symbols_of s)) ≡ Some kind
    → IsSomeAnd (slice_get s.tokens k) (λ t. t.kind ≡ kind)
token-there s k kind some = token-there_by s k kind (slice_get s.tokens k) refl some

-- the next token is this name
pub text-there : (s : Tokenized) (k : ℕ) (text : List ℕ) → next_kind (drop k (symbols_of s)) ≡ Some kinds.Name
    → IfSome (slice_get s.tokens k) (λ t. slice_get (symbols_of s) k ≡ Some (symbol t.kind text))
    → drop k (symbols_of s) ≡ name text ∷ rest_of (drop k (symbols_of s))
text-there s k text some said = text-there_by s k text (slice_get s.tokens k) refl some said

-- the next token is this number
pub number-there : (s : Tokenized) (k : ℕ) (value : ℕ) → slice_get (symbols_of s) k ≡ Some (number value)
    → drop k (symbols_of s) ≡ number value ∷ rest_of (drop k (symbols_of s))
number-there s k value said = drop-get (symbols_of s) k (number value) said ∙ ap (λ r. number value ∷ r) (sym (rest_of-drop (symbols_of s) k))

-- the place of a token, of the end of the last one, and of no token
pub place_of-there : (tokens : List Token) (k : ℕ) (d : Token) → k < length tokens → place_of tokens k ≡ (get_or tokens k d).start
unfolding place_of
place_of-there tokens k d within = ap (λ o. byte_at o (slice_get tokens (length tokens - 1))) (slice_get-get_or tokens k d within)

pub place_of-end : (tokens : List Token) (k : ℕ) (d : Token) → length tokens ≤ k → 0 < length tokens
    → place_of tokens k ≡ (get_or tokens (length tokens - 1) d).end
unfolding place_of
place_of-end tokens k d past some =
    let within : length tokens - 1 < length tokens = omega arith in
    ap (λ o. byte_at o (slice_get tokens (length tokens - 1))) (slice_get_past tokens k past)
    ∙ ap (byte_at None) (slice_get-get_or tokens (length tokens - 1) d within)

pub place_of-none : (tokens : List Token) (k : ℕ) → length tokens ≡ 0 → place_of tokens k ≡ 0
unfolding place_of
place_of-none [] k none = refl
place_of-none (t ∷ tokens) k none = absurd (omega arith)
