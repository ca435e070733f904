-- What the readers of one token give, by the kind of the next token.
use Rattle.std.proofs.Common.{◌≡◌, ◌≢◌, ℕ, zero, suc, true, false, List, [], ◌∷◌, Some, None, Ok, Err, refl, sym, ap}
use Rattle.std.proofs.Common.{◌∙◌}
use Rattle.std.specs.Str.{bytes_eq}
use Rattle.ftl_tokens.specs.declared.scanner.kind.Kind.{Kind}
use Rattle.ftl_tokens.specs.declared.scanner.kind.Kind.TheVariants as kinds
use Rattle.ftl_tokens.specs.scanner.Tokenized.{name, number, fixed}
use Rattle.ftl_tokens.specs.reading.Reader.{Tokens, next_kind, rest_of, same_kind, is_at, IsFixed, expect, take_name}
use Rattle.ftl_tokens.specs.reading.Reader.{is_name, take_number, take_positive, at_end}

-- at a name
pub take_name-name : (ts : Tokens) (text : List ℕ) → ts ≡ name text ∷ rest_of ts → take_name ts ≡ Ok (text, rest_of ts)
unfolding take_name
take_name-name ts text e = ap take_name e

-- at anything else
pub take_name-other : (ts : Tokens) → next_kind ts ≢ Some kinds.Name → take_name ts ≡ Err ts
unfolding take_name next_kind
take_name-other [] other = refl
take_name-other (name text ∷ ts) other = absurd (other refl)
take_name-other (number value ∷ ts) other = refl
take_name-other (fixed kind ∷ ts) other = refl

pub is_name-name : (ts : Tokens) (text found : List ℕ) → ts ≡ name found ∷ rest_of ts
    → is_name text ts ≡ bytes_eq found text
unfolding is_name
is_name-name ts text found e = ap (is_name text) e

pub is_name-other : (ts : Tokens) (text : List ℕ) → next_kind ts ≢ Some kinds.Name → is_name text ts ≡ false
unfolding is_name next_kind
is_name-other [] text other = refl
is_name-other (name found ∷ ts) text other = absurd (other refl)
is_name-other (number value ∷ ts) text other = refl
is_name-other (fixed kind ∷ ts) text other = refl

-- at a number
pub take_number-number : (ts : Tokens) (value : ℕ) → ts ≡ number value ∷ rest_of ts → take_number ts ≡ Ok (value, rest_of ts)
unfolding take_number
take_number-number ts value e = ap take_number e

pub take_number-other : (ts : Tokens) → next_kind ts ≢ Some kinds.Number → take_number ts ≡ Err ts
unfolding take_number next_kind
take_number-other [] other = refl
take_number-other (name text ∷ ts) other = refl
take_number-other (number value ∷ ts) other = absurd (other refl)
take_number-other (fixed kind ∷ ts) other = refl

-- at a number that isn't 0
pub take_positive-some : (ts : Tokens) (value : ℕ) → ts ≡ number value ∷ rest_of ts → value ≢ 0 → take_positive ts ≡ Ok (value, rest_of ts)
unfolding take_positive
take_positive-some ts zero e some = absurd (some refl)
take_positive-some ts (suc value) e some = ap take_positive e

-- at 0
pub take_positive-zero : (ts : Tokens) (value : ℕ) → ts ≡ number value ∷ rest_of ts → value ≡ 0 → take_positive ts ≡ Err ts
unfolding take_positive
take_positive-zero ts value e none =
    let at_zero : ts ≡ number 0 ∷ rest_of ts = cc in
    ap take_positive at_zero ∙ ap Err (sym at_zero)

pub take_positive-other : (ts : Tokens) → next_kind ts ≢ Some kinds.Number → take_positive ts ≡ Err ts
unfolding take_positive next_kind
take_positive-other [] other = refl
take_positive-other (name text ∷ ts) other = refl
take_positive-other (number value ∷ ts) other = absurd (other refl)
take_positive-other (fixed kind ∷ ts) other = refl

-- where no token is left
pub at_end-none : (ts : Tokens) → next_kind ts ≡ None → at_end ts ≡ Ok (tt, ts)
unfolding at_end next_kind
at_end-none [] none = refl
at_end-none (t ∷ ts) none = cc

-- where one is
pub at_end-some : (ts : Tokens) (kind : Kind) → next_kind ts ≡ Some kind → at_end ts ≡ Err ts
unfolding at_end next_kind
at_end-some [] kind some = cc
at_end-some (t ∷ ts) kind some = refl

-- neither a name nor a number is of the kind of a reserved word or a mark
name-is_fixed : (kind : Kind) → IsFixed kind → same_kind kinds.Name kind ≡ false
unfolding same_kind
name-is_fixed kinds.Name never = absurd never
name-is_fixed kinds.Number never = absurd never
name-is_fixed _ fix = refl

number-is_fixed : (kind : Kind) → IsFixed kind → same_kind kinds.Number kind ≡ false
unfolding same_kind
number-is_fixed kinds.Name never = absurd never
number-is_fixed kinds.Number never = absurd never
number-is_fixed _ fix = refl

some_is : (a b : Kind) → Some a ≡ Some b → a ≡ b
some_is a b e = cc

-- by the kind of the next token
pub is_at-some : (ts : Tokens) (found kind : Kind) → IsFixed kind → next_kind ts ≡ Some found → is_at kind ts ≡ same_kind found kind
unfolding is_at next_kind
is_at-some [] found kind fix some = cc
is_at-some (name text ∷ ts) found kind fix some =
    sym (name-is_fixed kind fix) ∙ ap (λ k. same_kind k kind) (some_is _ _ some)
is_at-some (number value ∷ ts) found kind fix some =
    sym (number-is_fixed kind fix) ∙ ap (λ k. same_kind k kind) (some_is _ _ some)
is_at-some (fixed k ∷ ts) found kind fix some = ap (λ k. same_kind k kind) (some_is _ _ some)

pub is_at-none : (ts : Tokens) (kind : Kind) → next_kind ts ≡ None → is_at kind ts ≡ false
unfolding is_at next_kind
is_at-none [] kind none = refl
is_at-none (t ∷ ts) kind none = cc

-- where the token is there
pub expect-there : (kind : Kind) (ts : Tokens) → is_at kind ts ≡ true → expect kind ts ≡ Ok (tt, rest_of ts)
unfolding expect
expect-there kind ts there = rw there refl

pub expect-other : (kind : Kind) (ts : Tokens) → is_at kind ts ≡ false → expect kind ts ≡ Err ts
unfolding expect
expect-other kind ts other = rw other refl

pub ruleset steps = (take_name-name, take_name-other, is_name-name, is_name-other, take_number-number, take_number-other, take_positive-some, take_positive-zero, take_positive-other, at_end-none, at_end-some, is_at-some, is_at-none, expect-there, expect-other)
