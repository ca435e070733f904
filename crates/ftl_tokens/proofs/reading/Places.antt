-- Where tokens go wrong: the reader's refused token stands behind the longest front that begins tokens which spell a
-- value.
use Rattle.std.proofs.Common.{◌≡◌, ℕ, suc, ◌-◌, ◌<◌, [], ◌∷◌, ◌++◌, length, Err, sym, refl, ap, ◌∙◌, subst}
use Rattle.std.proofs.Common.{append_assoc, length-append, arith}
use Rattle.std.proofs.lemmas.List.{length-map}
use Rattle.ftl_tokens.specs.scanner.Tokenized.{Tokenized, symbol_of, symbols_of}
use Rattle.ftl_tokens.specs.reading.Reader.{Tokens, Reader}
use Rattle.ftl_tokens.specs.reading.Place.{Begins, LongestFront, IsFaultPlace, place_of}
use Rattle.ftl_tokens.proofs.reading.KeptPrefix.{Grown}
use Rattle.ftl_tokens.proofs.reading.Went.{got}
use Rattle.ftl_tokens.proofs.reading.Alike.{first_of, left, with_left, Alike}

-- what begins a spelled list has only fronts that begin one too
pub begins_shorter : {A : Type 0} {S : Tokens → A → Type 0} {front : Tokens} (more : Tokens)
    → Begins S (front ++ more) → Begins S front
begins_shorter {S = S} {front = front} more begins = record {
  more = more ++ begins.more;
  value = begins.value;
  spells = subst (λ l. S l begins.value) (append_assoc front more begins.more) begins.spells;
}

-- what a reader of whole lists at the limit and readers at all depths say of places
pub record Placed {A : Type 0} (S : Tokens → A → Type 0) (peak : Tokens → ℕ) (n m : ℕ) (p : Reader A)
    (deep : ℕ → Reader A) : Type 0 where
  pub alike : (k : ℕ) → Alike peak n m p (deep k)
  pub reads : {ts : Tokens} {x : A} → S ts x → (k : ℕ) → peak ts < k → deep k ts ≡ got x []

module _ {A : Type 0} {S : Tokens → A → Type 0} {peak : Tokens → ℕ} {n m : ℕ} {p : Reader A} {deep : ℕ → Reader A}
    (placed : Placed S peak n m p deep) where
  -- Where a list goes on behind the same front with the same token, the reader would refuse it there too.
  refused : (front rest s : Tokens) (x : A) → peak (front ++ rest) < n → p (front ++ rest) ≡ Err rest
      → first_of rest ≡ first_of s
      → S (front ++ s) x → ⊥
  refused front rest s x small e same spells =
      let k = suc (peak (front ++ s)) in
      let read : deep k (front ++ s) ≡ got x [] = placed.reads spells k (omega arith) in
      let wrong : deep k (front ++ s) ≡ Err s =
      (placed.alike k).alike front rest s same small (ap left e) ∙ ap (λ o. with_left o s) e in
      cc

  -- no value is spelled by tokens that the reader refuses
  pub none_spelled : (ts rest : Tokens) (x : A) → peak ts < n → p ts ≡ Err rest → Grown S ts rest → S ts x → ⊥
  none_spelled ts rest x small e grown spells =
      let whole = grown.split in
      refused grown.front rest rest x (subst (λ l. peak l < n) whole small) (ap p (sym whole) ∙ e) refl
      (subst (λ l. S l x) whole spells)

  pub longest_front : (ts rest : Tokens) → peak ts < n → p ts ≡ Err rest → Grown S ts rest → LongestFront S ts rest
  longest_front ts rest small e grown = record {
    front = grown.front;
    split = grown.split;
    begins = record { more = grown.more; value = grown.value; spells = grown.spells };
    longest = λ t more is begins.
        let whole = grown.split in
        refused grown.front rest (t ∷ begins.more) begins.value (subst (λ l. peak l < n) whole small)
        (ap p (sym whole) ∙ e) (ap first_of is)
        (subst (λ l. S l begins.value) (append_assoc grown.front (t ∷ []) begins.more) begins.spells);
  }

-- the front is as long as the tokens are without the rest
pub front-length : {A : Type 0} {S : Tokens → A → Type 0} {ts rest : Tokens} (wrong : LongestFront S ts rest)
    → length wrong.front ≡ length ts - length rest
front-length {rest = rest} wrong = omega (arith, ap length wrong.split, length-append wrong.front rest)

-- to the byte, from the number of tokens that are left
pub is_place : {A : Type 0} {S : Tokens → A → Type 0} {scanned : Tokenized} {at : ℕ} (rest : Tokens)
    → LongestFront S (symbols_of scanned) rest
    → (kept : ℕ) → kept ≡ length rest → at ≡ place_of scanned.tokens (length scanned.tokens - kept)
    → IsFaultPlace S scanned at
is_place {scanned = scanned} rest wrong kept count place = record {
  rest = rest;
  wrong = wrong;
  place =
      place
      ∙ ap (place_of scanned.tokens)
      (omega (arith, count, front-length wrong, length-map scanned.tokens (symbol_of scanned.text)));
}
