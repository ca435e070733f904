-- How many tokens plain bytes have, and how large their numbers are.
use Rattle.std.proofs.Common.{◌≡◌, ◌≢◌, ℕ, zero, suc, ◌+◌, ◌-◌, ◌≤◌, None, false, List, [], ◌∷◌, length, refl, sym, ap, subst, ⊎_elim, arith}
use Rattle.std.proofs.lemmas.Bool.{cases_Bool, cond-true, cond-false, ltb-false}
use Rattle.ftl_tokens.specs.declared.scanner.kind.Kind.{Kind}
use Rattle.ftl_tokens.specs.declared.scanner.kind.Kind.TheVariants.{Name, Number}
use Rattle.ftl_tokens.specs.scanner.Scan.{Front, gap, token, nothing, is_too_large}
use Rattle.ftl_tokens.specs.scanner.Tokenized.{symbol}
use Rattle.ftl_tokens.specs.reading.Reader.{Tokens, AreAtMost, next_kind, rest_of}
use Rattle.std.proofs.Common.{take}
use Rattle.ftl_document.specs.declared.plain.next.Next.{Next}
use Rattle.ftl_document.specs.declared.plain.next.Next.TheVariants as next
use Rattle.ftl_document.specs.plain.Found.{with_next}
use Rattle.ftl_document.specs.plain.Plain.{plain_by, plain_front, plain_from, stopped}

-- no more than bytes
pub plain_short : (greatest read : ℕ) (bs : List ℕ) → length (plain_from greatest read bs) ≤ length bs
unfolding plain_from
plain_short greatest read [] = omega arith
plain_short greatest (suc read) (b ∷ bs) = let few = plain_short greatest read bs in omega (arith, few)
plain_short greatest zero (b ∷ bs) = by (plain_front (b ∷ bs)) (λ n. plain_short greatest (n - 1) bs)
  where
    by : (f : Front) → ((n : ℕ) → length (plain_from greatest (n - 1) bs) ≤ length bs)
        → length (plain_by greatest (b ∷ bs) f (λ n. plain_from greatest (n - 1) bs)) ≤ suc (length bs)
    by (gap n) few = omega (arith, few n)
    by nothing few = omega arith
    by (token kind n) few =
        ⊎_elim
        (λ large.
        omega (arith, ap length (cond-true (is_too_large greatest kind (take n (b ∷ bs))) stopped (symbol kind (take n (b ∷ bs)) ∷ plain_from greatest (n - 1) bs) large)))
        (λ small.
        omega (arith, few n, ap length (cond-false (is_too_large greatest kind (take n (b ∷ bs))) stopped (symbol kind (take n (b ∷ bs)) ∷ plain_from greatest (n - 1) bs) small)))
        (cases_Bool (is_too_large greatest kind (take n (b ∷ bs))))

-- one more token
symbol-at_most : (greatest : ℕ) (kind : Kind) (text : List ℕ) (ts : Tokens) → is_too_large greatest kind text ≡ false
    → AreAtMost greatest ts → AreAtMost greatest (symbol kind text ∷ ts)
symbol-at_most greatest Name text ts small all = all
symbol-at_most greatest Number text ts small all = (ltb-false greatest _ small, all)
symbol-at_most greatest _ text ts small all = all

-- none above the greatest
pub plain_at_most : (greatest read : ℕ) (bs : List ℕ) → AreAtMost greatest (plain_from greatest read bs)
unfolding plain_from
plain_at_most greatest read [] = tt
plain_at_most greatest (suc read) (b ∷ bs) = plain_at_most greatest read bs
plain_at_most greatest zero (b ∷ bs) = by (plain_front (b ∷ bs)) (λ n. plain_at_most greatest (n - 1) bs)
  where
    by : (f : Front) → ((n : ℕ) → AreAtMost greatest (plain_from greatest (n - 1) bs))
        → AreAtMost greatest (plain_by greatest (b ∷ bs) f (λ n. plain_from greatest (n - 1) bs))
    by (gap n) all = all n
    by nothing all = tt
    by (token kind n) all =
        ⊎_elim
        (λ large. subst (AreAtMost greatest) (sym (cond-true _ _ _ large)) tt)
        (λ small. subst (AreAtMost greatest) (sym (cond-false _ _ _ small)) (symbol-at_most greatest kind (take n (b ∷ bs)) (plain_from greatest (n - 1) bs) small (all n)))
        (cases_Bool (is_too_large greatest kind (take n (b ∷ bs))))

-- the next token is one
pub length-next : (n : Next) (ts : Tokens) → n ≢ next.End → length (with_next n ts) ≡ suc (length ts)
length-next next.End ts some = absurd (some refl)
length-next (next.Name text) ts some = refl
length-next (next.Number value) ts some = refl
length-next (next.Mark kind) ts some = refl

-- past a token
pub length-rest_of : (ts : Tokens) → next_kind ts ≢ None → length ts ≡ length (rest_of ts) + 1
unfolding next_kind rest_of
length-rest_of [] some = absurd (some refl)
length-rest_of (t ∷ ts) some = omega arith

-- no token
pub length-none : (ts : Tokens) → next_kind ts ≡ None → length ts ≡ 0
unfolding next_kind
length-none [] none = refl
length-none (t ∷ ts) none = absurd (cc)
