-- The readers of one token.
use Rattle.std.proofs.Common.{◌≡◌, ℕ, zero, suc, ◌<◌, Bool, true, false, if◌then◌else◌, List, [], ◌∷◌, Option, Some}
use Rattle.std.proofs.Common.{None, Ok, Err, refl, ap, subst, arith}
use denote.Enum.Bare.{same_true, true_same}
use Rattle.ftl_tokens.specs.declared.scanner.kind.Kind.{Kind}
use Rattle.ftl_tokens.specs.declared.scanner.kind.Kind.TheVariants as k
use Rattle.ftl_tokens.specs.contracts.scanner.kind.Kind.{the_type}
use Rattle.ftl_tokens.specs.scanner.Tokenized.{Symbol, name, number, fixed}
use Rattle.ftl_tokens.specs.reading.Reader.{Tokens, ReadResult, Reader, same_kind, rest_of, next_kind, IsFixed, is_at}
use Rattle.ftl_tokens.specs.reading.Reader.{expect, take_name, take_number, take_positive}

-- the answer, by what is taken of the next token
abbrev pub token_by : {A : Type 0} → Option A → Symbol → Tokens → ReadResult A
token_by None t ts = Err (t ∷ ts)
token_by (Some x) t ts = Ok (x, ts)

-- the reader that takes the next token where this gives a value
abbrev pub token : {A : Type 0} → (Symbol → Option A) → Reader A
token takes [] = Err []
token takes (t ∷ ts) = token_by (takes t) t ts

-- the reader takes the next token where this gives a value
pub record IsToken {A : Type 0} (takes : Symbol → Option A) (p : Reader A) : Type 0 where
  pub reads : (ts : Tokens) → p ts ≡ token takes ts

-- nothing is known of a word or a mark but that it is there
abbrev pub unit_if : Bool → Option (Unit {0})
unit_if true = Some tt
unit_if false = None

-- what `expect` takes
abbrev pub takes_fixed : Kind → Symbol → Option (Unit {0})
takes_fixed kind (fixed found) = unit_if (same_kind found kind)
takes_fixed kind _ = None

-- what `take_name` takes
abbrev pub takes_name : Symbol → Option (List ℕ)
takes_name (name text) = Some text
takes_name _ = None

-- what `take_number` takes
abbrev pub takes_number : Symbol → Option ℕ
takes_number (number value) = Some value
takes_number _ = None

-- what `take_positive` takes
abbrev pub takes_positive : Symbol → Option ℕ
takes_positive (number (suc value)) = Some (suc value)
takes_positive _ = None

-- the answer, by a test
abbrev taken_if : Bool → Symbol → Tokens → ReadResult (Unit {0})
taken_if test t ts = if test then Ok (tt, ts) else Err (t ∷ ts)

-- both ways to say it
taken_if-token : (test : Bool) (t : Symbol) (ts : Tokens) → taken_if test t ts ≡ token_by (unit_if test) t ts
taken_if-token true t ts = refl
taken_if-token false t ts = refl

-- `expect` reads one token
pub expect_is_token : (kind : Kind) → IsToken (takes_fixed kind) (expect kind)
unfolding expect is_at rest_of
expect_is_token kind = record { reads = go }
  where
    go : (ts : Tokens) → expect kind ts ≡ token (takes_fixed kind) ts
    go [] = refl
    go (name text ∷ ts) = refl
    go (number value ∷ ts) = refl
    go (fixed found ∷ ts) = taken_if-token (same_kind found kind) (fixed found) ts

-- `take_name` reads one token
pub name_is_token : IsToken takes_name take_name
unfolding take_name
name_is_token = record { reads = go }
  where
    go : (ts : Tokens) → take_name ts ≡ token takes_name ts
    go [] = refl
    go (name text ∷ ts) = refl
    go (number value ∷ ts) = refl
    go (fixed kind ∷ ts) = refl

-- `take_number` reads one token
pub number_is_token : IsToken takes_number take_number
unfolding take_number
number_is_token = record { reads = go }
  where
    go : (ts : Tokens) → take_number ts ≡ token takes_number ts
    go [] = refl
    go (name text ∷ ts) = refl
    go (number value ∷ ts) = refl
    go (fixed kind ∷ ts) = refl

-- `take_positive` reads one token
pub positive_is_token : IsToken takes_positive take_positive
unfolding take_positive
positive_is_token = record { reads = go }
  where
    go : (ts : Tokens) → take_positive ts ≡ token takes_positive ts
    go [] = refl
    go (name text ∷ ts) = refl
    go (number zero ∷ ts) = refl
    go (number (suc value) ∷ ts) = refl
    go (fixed kind ∷ ts) = refl

-- what is taken passed the test
unit_if_true : (test : Bool) (x : Unit {0}) → unit_if test ≡ Some x → test ≡ true
unit_if_true true x e = refl
unit_if_true false x e = cc

-- the token that is taken is the word or the mark
pub from_fixed : (kind : Kind) (t : Symbol) (x : Unit {0}) → takes_fixed kind t ≡ Some x → t ≡ fixed kind
unfolding same_kind
from_fixed kind (name text) x e = cc
from_fixed kind (number value) x e = cc
from_fixed kind (fixed found) x e =
    ap fixed (same_true the_type tt found kind (unit_if_true (same_kind found kind) x e))

-- the word or the mark is taken
pub takes_fixed-same : (kind : Kind) → takes_fixed kind (fixed kind) ≡ Some tt
unfolding same_kind
takes_fixed-same kind = ap unit_if (true_same the_type kind kind refl)

-- the token that is taken is the name
pub from_name : (t : Symbol) (x : List ℕ) → takes_name t ≡ Some x → t ≡ name x
from_name (name text) x e = cc
from_name (number value) x e = cc
from_name (fixed found) x e = cc

-- the token that is taken is the number
pub from_number : (t : Symbol) (x : ℕ) → takes_number t ≡ Some x → t ≡ number x
from_number (name text) x e = cc
from_number (number value) x e = cc
from_number (fixed found) x e = cc

-- the token that is taken is the number
pub from_positive : (t : Symbol) (x : ℕ) → takes_positive t ≡ Some x → t ≡ number x
from_positive (name text) x e = cc
from_positive (number zero) x e = cc
from_positive (number (suc value)) x e = let same : suc value ≡ x = cc in ap number same
from_positive (fixed found) x e = cc

-- which isn't 0
pub some_positive : (t : Symbol) (x : ℕ) → takes_positive t ≡ Some x → 0 < x
some_positive (name text) x e = cc
some_positive (number zero) x e = cc
some_positive (number (suc value)) x e = let same : suc value ≡ x = cc in omega arith
some_positive (fixed found) x e = cc

-- where the next token is a reserved word or a mark, it is that one
pub next_fixed : (kind : Kind) (ts : Tokens) → IsFixed kind → next_kind ts ≡ Some kind → ts ≡ fixed kind ∷ rest_of ts
unfolding next_kind rest_of
next_fixed kind [] plain e = cc
next_fixed kind (name text ∷ ts) plain e = let same : kind ≡ k.Name = cc in absurd (subst IsFixed same plain)
next_fixed kind (number value ∷ ts) plain e = let same : kind ≡ k.Number = cc in absurd (subst IsFixed same plain)
next_fixed kind (fixed found ∷ ts) plain e = let same : found ≡ kind = cc in ap (λ l. fixed l ∷ ts) same
