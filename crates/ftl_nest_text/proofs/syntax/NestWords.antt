-- The word that a nest begins with is one token.
use Rattle.std.proofs.Common.{◌≡◌, Bool, true, false, if◌then◌else◌, [], ◌∷◌, Option, Some, None, Ok, Err, refl, ap}
use Rattle.std.specs.Str.{bytes_eq}
use Rattle.ftl_tokens.specs.scanner.Tokenized.{Symbol, name, number, fixed}
use Rattle.ftl_tokens.specs.reading.Reader.{Tokens, ReadResult, is_name, rest_of}
use Rattle.ftl_tokens.proofs.reading.TokenLemmas.{IsToken, token, token_by, unit_if}
use Rattle.ftl_schedule.proofs.syntax.KindWords.{same_text}
use Rattle.ftl_nest_text.specs.syntax.NestTrees.{nest_word}
use Rattle.ftl_nest_text.specs.syntax.NestReading.{take_nest_word}

-- what `take_nest_word` takes
abbrev pub takes_nest : Symbol → Option (Unit {0})
takes_nest (name text) = unit_if (bytes_eq text nest_word)
takes_nest _ = None

-- the answer, by a test
abbrev taken_if : Bool → Symbol → Tokens → ReadResult (Unit {0})
taken_if test t ts = if test then Ok (tt, ts) else Err (t ∷ ts)

-- both ways to say it
taken_if-token : (test : Bool) (t : Symbol) (ts : Tokens) → taken_if test t ts ≡ token_by (unit_if test) t ts
taken_if-token true t ts = refl
taken_if-token false t ts = refl

-- `take_nest_word` reads one token
pub nest_is_token : IsToken takes_nest take_nest_word
unfolding take_nest_word is_name rest_of
nest_is_token = record { reads = go }
  where
    go : (ts : Tokens) → take_nest_word ts ≡ token takes_nest ts
    go [] = refl
    go (name text ∷ ts) = taken_if-token (bytes_eq text nest_word) (name text) ts
    go (number value ∷ ts) = refl
    go (fixed found ∷ ts) = refl

-- what is taken passed the test
passed : (test : Bool) (x : Unit {0}) → unit_if test ≡ Some x → test ≡ true
passed true x e = refl
passed false x e = cc

-- the token that is taken is the word
pub from_nest : (t : Symbol) (x : Unit {0}) → takes_nest t ≡ Some x → t ≡ name nest_word
from_nest (name text) x e = ap name (same_text text nest_word (passed (bytes_eq text nest_word) x e))
from_nest (number value) x e = cc
from_nest (fixed found) x e = cc
