-- The readers of one token look at that token alone.
use Rattle.std.proofs.Common.{◌≡◌, ℕ, ◌<◌, List, [], ◌∷◌, ◌++◌, length, Option, Some, None, sym, refl, ap, ◌∙◌, subst}
use Rattle.std.proofs.Common.{length-append, arith}
use Rattle.std.proofs.lemmas.List.{append_cancel_right}
use Rattle.ftl_tokens.specs.declared.scanner.kind.Kind.{Kind}
use Rattle.ftl_tokens.specs.scanner.Tokenized.{Symbol, name, number, fixed}
use Rattle.ftl_tokens.specs.reading.Reader.{Tokens, Reader, and_then, ◌>>=◌, ◌>>◌, next_kind, IsFixed, rest_of, skip, expect}
use Rattle.ftl_tokens.specs.reading.Reader.{take_name, take_number, take_positive, at_end}
use Rattle.ftl_tokens.proofs.reading.TokenLemmas.{IsToken, token, token_by, from_fixed, from_name, from_number}
use Rattle.ftl_tokens.proofs.reading.TokenLemmas.{from_positive, expect_is_token, name_is_token, number_is_token}
use Rattle.ftl_tokens.proofs.reading.TokenLemmas.{positive_is_token, next_fixed}
use Rattle.ftl_tokens.proofs.reading.Went.{got, expect_at}
use Rattle.ftl_tokens.proofs.reading.Alike.{first_of, same_first, kind_by_first, left, with_left, Ends, Alike, AlikeAt}
use Rattle.ftl_tokens.proofs.reading.Alike.{bind_alike}

not_longer : {X : Type 0} (t : X) (front rest : List X) → front ++ rest ≡ rest → front ≡ []
not_longer t front rest e = append_cancel_right front [] rest e

module _ {A : Type 0} {peak : Tokens → ℕ} {n m : ℕ} {takes : Symbol → Option A} {p : Reader A} (is : IsToken takes p)
    (step : (t : Symbol) (ts : Tokens) (x : A) → takes t ≡ Some x → peak (t ∷ ts) < n → peak ts < m) where
  -- what is left is an end, by what is taken of the next token
  ends_by : (o : Option A) (t : Symbol) (ts : Tokens) → Ends (t ∷ ts) (left (token_by o t ts))
  ends_by None t ts = record { front = []; split = refl }
  ends_by (Some x) t ts = record { front = t ∷ []; split = refl }

  -- what is left is an end
  token_ends : (ts : Tokens) → Ends ts (left (token takes ts))
  token_ends [] = record { front = []; split = refl }
  token_ends (t ∷ ts) = ends_by (takes t) t ts

  -- few brackets are open past the token, by what is taken of it
  falls_by : (o : Option A) (t : Symbol) (ts rest : Tokens) (x : A) → takes t ≡ o → token_by o t ts ≡ got x rest
      → peak (t ∷ ts) < n → peak rest < m
  falls_by None t ts rest x e f small = cc
  falls_by (Some y) t ts rest x e f small =
      let same : ts ≡ rest = ap left f in subst (λ l. peak l < m) same (step t ts y e small)

  -- few brackets are open past the token
  token_falls : (ts rest : Tokens) (x : A) → token takes ts ≡ got x rest → peak ts < n → peak rest < m
  token_falls [] rest x e small = cc
  token_falls (t ∷ ts) rest x e small = falls_by (takes t) t ts rest x refl e small

  -- a token that is refused is refused before all tokens
  refused_by : (o : Option A) (t : Symbol) (r s : Tokens) → left (token_by o t r) ≡ t ∷ r
      → token_by o t s ≡ with_left (token_by o t r) (t ∷ s)
  refused_by None t r s back = refl
  refused_by (Some x) t r s back = absurd (omega (arith, ap length back))

  -- a token that is taken is taken before all tokens
  same_by : (o : Option A) (t : Symbol) (front r s : Tokens) → left (token_by o t (front ++ r)) ≡ r
      → token_by o t (front ++ s) ≡ with_left (token_by o t (front ++ r)) s
  same_by None t front r s back = absurd (omega (arith, ap length back, length-append front r))
  same_by (Some x) t front r s back = ap (λ l. got x (l ++ s)) (append_cancel_right front [] r back)

  -- the same is read whatever comes behind the token
  token_same : (front r s : Tokens) → first_of r ≡ first_of s → left (token takes (front ++ r)) ≡ r
      → token takes (front ++ s) ≡ with_left (token takes (front ++ r)) s
  token_same [] [] [] same back = refl
  token_same [] [] (u ∷ s) same back = cc
  token_same [] (t ∷ r) [] same back = cc
  token_same [] (t ∷ r) (u ∷ s) same back =
      let one : t ≡ u = cc in
      subst (λ l. token takes (l ∷ s) ≡ with_left (token takes (t ∷ r)) (l ∷ s)) one (refused_by (takes t) t r s back)
  token_same (t ∷ front) r s same back = same_by (takes t) t front r s back

  -- the reader of one token
  pub token_alike : Alike peak n m p p
  token_alike = record {
    ends = λ ts. subst (λ o. Ends ts (left o)) (sym (is.reads ts)) (token_ends ts);
    falls = λ ts rest x e small. token_falls ts rest x (sym (is.reads ts) ∙ e) small;
    alike = λ front r s same small back.
        is.reads (front ++ s) ∙ token_same front r s same (ap left (sym (is.reads (front ++ r))) ∙ back)
        ∙ ap (λ o. with_left o s) (sym (is.reads (front ++ r)));
  }

-- past a reserved word or a mark
pub past_alike : {B : Type 0} {peak : Tokens → ℕ} {n m l : ℕ} {p q : Reader B} (kind : Kind)
    → ((ts : Tokens) → peak (fixed kind ∷ ts) < n → peak ts < m) → Alike peak m l p q
    → Alike peak n l (expect kind >> p) (expect kind >> q)
past_alike {peak = peak} {n = n} kind step after =
    bind_alike
    (token_alike (expect_is_token kind)
    (λ t ts x e small. step ts (subst (λ u. peak (u ∷ ts) < n) (from_fixed kind t x e) small)))
    (λ x. after)

-- past a name
pub name_alike : {B : Type 0} {peak : Tokens → ℕ} {n m l : ℕ} {f g : List ℕ → Reader B}
    → ((text : List ℕ) (ts : Tokens) → peak (name text ∷ ts) < n → peak ts < m)
    → ((x : List ℕ) → Alike peak m l (f x) (g x))
    → Alike peak n l (take_name >>= f) (take_name >>= g)
name_alike {peak = peak} {n = n} step after =
    bind_alike
    (token_alike name_is_token (λ t ts x e small. step x ts (subst (λ u. peak (u ∷ ts) < n) (from_name t x e) small)))
    after

-- past a number
pub number_alike : {B : Type 0} {peak : Tokens → ℕ} {n m l : ℕ} {f g : ℕ → Reader B}
    → ((value : ℕ) (ts : Tokens) → peak (number value ∷ ts) < n → peak ts < m) → ((x : ℕ) → Alike peak m l (f x) (g x))
    → Alike peak n l (take_number >>= f) (take_number >>= g)
number_alike {peak = peak} {n = n} step after =
    bind_alike
    (token_alike number_is_token
    (λ t ts x e small. step x ts (subst (λ u. peak (u ∷ ts) < n) (from_number t x e) small)))
    after

-- past a number that isn't 0
pub positive_alike : {B : Type 0} {peak : Tokens → ℕ} {n m l : ℕ} {f g : ℕ → Reader B}
    → ((value : ℕ) (ts : Tokens) → peak (number value ∷ ts) < n → peak ts < m) → ((x : ℕ) → Alike peak m l (f x) (g x))
    → Alike peak n l (take_positive >>= f) (take_positive >>= g)
positive_alike {peak = peak} {n = n} step after =
    bind_alike
    (token_alike positive_is_token
    (λ t ts x e small. step x ts (subst (λ u. peak (u ∷ ts) < n) (from_positive t x e) small)))
    after

-- a name, and the end
pub last_name_alike : {peak : Tokens → ℕ} {n m : ℕ}
    → ((text : List ℕ) (ts : Tokens) → peak (name text ∷ ts) < n → peak ts < m)
    → Alike peak n m take_name take_name
last_name_alike {peak = peak} {n = n} step =
    token_alike name_is_token (λ t ts x e small. step x ts (subst (λ u. peak (u ∷ ts) < n) (from_name t x e) small))

-- A reader that takes the next token, which is of this kind, goes on as it would past the reserved word or the mark.
skip_past : {B : Type 0} (kind : Kind) (p : Reader B) (ts : Tokens) → IsFixed kind
    → next_kind ts ≡ Some kind
    → (skip >> p) ts ≡ (expect kind >> p) ts
skip_past kind p ts plain e =
    let whole = next_fixed kind ts plain e in
    ap (λ o. and_then o (λ _. p)) (sym (ap (expect kind) whole ∙ expect_at kind (rest_of ts)))

-- past a reserved word or a mark that is seen there
pub skip_alike : {B : Type 0} {peak : Tokens → ℕ} {n m l : ℕ} {p q : Reader B} (kind : Kind) → IsFixed kind
    → ((ts : Tokens) → peak (fixed kind ∷ ts) < n → peak ts < m) → Alike peak m l p q
    → AlikeAt peak n l (Some kind) (skip >> p) (skip >> q)
skip_alike {B} {peak} {n} {m} {l} {p} {q} kind plain step after =
    let past : Alike peak n l (expect kind >> p) (expect kind >> q) = past_alike kind step after in
    record {
      ends = λ ts e. subst (λ o. Ends ts (left o)) (sym (skip_past kind p ts plain e)) (past.ends ts);
      falls = λ ts rest x e f small. past.falls ts rest x (sym (skip_past kind p ts plain e) ∙ f) small;
      alike = λ front r s e same small back.
          let there = sym (kind_by_first (front ++ r) (front ++ s) (same_first front r s same)) ∙ e in
          let here = skip_past kind p (front ++ r) plain e in
          skip_past kind q (front ++ s) plain there
          ∙ past.alike front r s same small (ap left (sym here) ∙ back) ∙ ap (λ o. with_left o s) (sym here);
    }

-- nothing more
pub at_end_alike : {peak : Tokens → ℕ} {n : ℕ} → Alike peak n n at_end at_end
unfolding at_end
at_end_alike {peak} {n} =
    record
    { ends = at_end_ends; falls = at_end_falls; alike = λ front r s same small back. at_end_same front r s same back }
  where
    at_end_ends : (ts : Tokens) → Ends ts (left (at_end ts))
    at_end_ends [] = record { front = []; split = refl }
    at_end_ends (t ∷ ts) = record { front = []; split = refl }

    at_end_falls : (ts rest : Tokens) (x : Unit {0}) → at_end ts ≡ got x rest → peak ts < n → peak rest < n
    at_end_falls [] rest x e small = let same : [] ≡ rest = ap left e in subst (λ l. peak l < n) same small
    at_end_falls (t ∷ ts) rest x e small = cc

    at_end_same : (front r s : Tokens) → first_of r ≡ first_of s → left (at_end (front ++ r)) ≡ r
        → at_end (front ++ s) ≡ with_left (at_end (front ++ r)) s
    at_end_same [] [] [] same back = refl
    at_end_same [] [] (u ∷ s) same back = cc
    at_end_same [] (t ∷ r) [] same back = cc
    at_end_same [] (t ∷ r) (u ∷ s) same back = refl
    at_end_same (t ∷ front) r s same back = absurd (omega (arith, ap length back, length-append front r))
