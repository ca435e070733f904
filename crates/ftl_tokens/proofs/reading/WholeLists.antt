-- Readers of whole lists, and the one value that a reader answers.
use Rattle.std.proofs.Common.{◌≡◌, [], ◌∷◌, Option, Some, None, Ok, Err, sym, refl, ap, ◌∙◌}
use Rattle.ftl_tokens.specs.reading.Reader.{Tokens, ReadResult, Reader, and_then, ◌>>=◌, ◌>>◌, pure, at_end}
use Rattle.ftl_tokens.proofs.reading.Went.{got}
use Rattle.ftl_tokens.proofs.reading.Alike.{left}

-- what is read is read to the end
pub record ReadsAll {A : Type 0} (p : Reader A) : Type 0 where
  pub none_left : (ts rest : Tokens) (x : A) → p ts ≡ got x rest → rest ≡ []

-- a step before a reader of whole lists
pub bind_reads_all : {A B : Type 0} {f : A → Reader B} (p : Reader A) → ((x : A) → ReadsAll (f x)) → ReadsAll (p >>= f)
bind_reads_all {A} {B} {f} p each = record { none_left = λ ts rest y e. go (p ts) rest y e }
  where
    go : (o : ReadResult A) (rest : Tokens) (y : B) → and_then o f ≡ got y rest → rest ≡ []
    go (Err old) rest y e = cc
    go (Ok q) rest y e = (each q.0).none_left q.1 rest y e

-- nothing more, and a value
pub end_reads_all : {A : Type 0} (x : A) → ReadsAll (at_end >> pure x)
unfolding at_end
end_reads_all {A} x = record { none_left = go }
  where
    go : (ts rest : Tokens) (y : A) → (at_end >> pure x) ts ≡ got y rest → rest ≡ []
    go [] rest y e = sym (ap left e)
    go (t ∷ ts) rest y e = cc

-- the value of an answer
abbrev value : {A : Type 0} → ReadResult A → Option A
value (Ok p) = Some p.0
value (Err rest) = None

-- the value of an answer is one
pub same_value : {A : Type 0} {o : ReadResult A} {x y : A} {rest more : Tokens} → o ≡ got x rest → o ≡ got y more → x ≡ y
same_value {A} {o} {x} {y} {rest} {more} e f = value_of (got x rest) (got y more) (sym e ∙ f) x y refl refl
  where
    value_of : (o p : ReadResult A) → o ≡ p → (x y : A) → value o ≡ Some x → value p ≡ Some y → x ≡ y
    value_of o p e x y f g = cc (ap value e)
