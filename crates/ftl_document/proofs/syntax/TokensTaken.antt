-- How many tokens readers leave.
use Rattle.std.proofs.Common.{◌≡◌, ℕ, ◌<◌, ◌≤◌, [], ◌∷◌, List, length, Ok, Err, Bool, true, false, refl, sym, ap, ◌∙◌, arith, if◌then◌else◌}
use Rattle.ftl_tokens.specs.declared.scanner.kind.Kind.{Kind}
use Rattle.ftl_tokens.specs.scanner.Tokenized.{name, number, fixed}
use Rattle.ftl_tokens.specs.reading.Reader.{Tokens, ReadResult, is_at, expect, rest_of, take_name, take_number}

-- the tokens that are left
abbrev left_of : {A : Type 0} → ReadResult A → Tokens → Tokens
left_of (Ok p) other = p.1
left_of _ other = other

pub rest_takes : (ts : Tokens) → length (rest_of ts) ≤ length ts
unfolding rest_of
rest_takes [] = omega arith
rest_takes (t ∷ ts) = omega arith

-- the next token is taken or refused
abbrev taken : Bool → Tokens → Tokens → ReadResult (Unit {0})
taken b ts us = if b then Ok (tt, ts) else Err us

pub expect_takes : (k : Kind) (ts us : Tokens) → expect k ts ≡ Ok (tt, us) → length us < length ts
unfolding expect is_at rest_of
expect_takes k [] us e = absurd (cc)
expect_takes k (t ∷ ts) us e = by (is_at k (t ∷ ts)) e
  where
    by : (b : Bool) → taken b ts (t ∷ ts) ≡ Ok (tt, us) → length us < length (t ∷ ts)
    by true e = let same : us ≡ ts = sym (ap (λ o. left_of o us) e) in omega (arith, ap length same)
    by false e = absurd (cc)

pub name_takes : (ts : Tokens) (x : List ℕ) (us : Tokens) → take_name ts ≡ Ok (x, us) → length us < length ts
unfolding take_name
name_takes (name text ∷ ts) x us e = let same : us ≡ ts = sym (ap (λ o. left_of o us) e) in omega (arith, ap length same)
name_takes _ x us e = absurd (cc)

pub number_takes : (ts : Tokens) (n : ℕ) (us : Tokens) → take_number ts ≡ Ok (n, us) → length us < length ts
unfolding take_number
number_takes (number value ∷ ts) n us e = let same : us ≡ ts = sym (ap (λ o. left_of o us) e) in omega (arith, ap length same)
number_takes _ n us e = absurd (cc)
