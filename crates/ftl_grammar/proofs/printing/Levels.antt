-- Brackets in tokens that come one after another: how many are open at each token.
use Rattle.std.proofs.Common.{◌≡◌, ℕ, ◌+◌, Bool, true, false, List, [], ◌∷◌, ◌++◌, refl, sym, ap, ◌∙◌, subst, arith, cond}
use Rattle.std.proofs.Common.{append_assoc, zero-le}
use Rattle.std.proofs.lemmas.List.Sums.{sum_by-cons, sum_by-append}
use Rattle.ftl_tokens.specs.declared.scanner.kind.Kind.{Kind}
use Rattle.ftl_tokens.specs.declared.scanner.kind.Kind.TheVariants as kind
use Rattle.ftl_tokens.specs.scanner.Tokenized.{Symbol, fixed}
use Rattle.ftl_tokens.specs.reading.Reader.{Tokens, same_kind}
use Rattle.ftl_tokens.specs.reading.Depth.{is_among, count_of, OpensAtMost, IsShallow}
use Rattle.ftl_grammar.specs.syntax.Brackets.{brackets, limit}

-- each of these
abbrev pub Each : {X : Type 0} → (X → Type 0) → List X → Type 0
Each P [] = Unit {0}
Each P (x ∷ xs) = P x × Each P xs

pub each-append : {X : Type 0} (P : X → Type 0) (xs ys : List X) → Each P xs → Each P ys → Each P (xs ++ ys)
each-append P [] ys p q = q
each-append P (x ∷ xs) ys p q = (p.0, each-append P xs ys p.1 q)

pub each-left : {X : Type 0} (P : X → Type 0) (xs ys : List X) → Each P (xs ++ ys) → Each P xs
each-left P [] ys p = tt
each-left P (x ∷ xs) ys p = (p.0, each-left P xs ys p.1)

pub each-right : {X : Type 0} (P : X → Type 0) (xs ys : List X) → Each P (xs ++ ys) → Each P ys
each-right P [] ys p = p
each-right P (x ∷ xs) ys p = each-right P xs ys p.1

-- a token that is no bracket
pub record IsPlain (t : Symbol) : Type 0 where
  pub opens : is_among brackets.opening t ≡ false
  pub closes : is_among brackets.closing t ≡ false

count-cons : (kinds : List Kind) (t : Symbol) (ts : Tokens) (is : Bool) → is_among kinds t ≡ is
    → count_of kinds (t ∷ ts) ≡ cond is 1 0 + count_of kinds ts
count-cons kinds t ts is e =
    sum_by-cons (λ u. cond (is_among kinds u) 1 0) t ts ∙ ap {B = ℕ} (λ b. cond b 1 0 + count_of kinds ts) e

count-append : (kinds : List Kind) (a b : Tokens) → count_of kinds (a ++ b) ≡ count_of kinds a + count_of kinds b
count-append kinds a b = sum_by-append (λ t. cond (is_among kinds t) 1 0) a b

-- as many brackets are closed as are opened
pub record IsLevel (ts : Tokens) : Type 0 where
  pub same : count_of brackets.opening ts ≡ count_of brackets.closing ts

pub level-nil : IsLevel []
level-nil = record { same = refl }

pub level-append : {a b : Tokens} → IsLevel a → IsLevel b → IsLevel (a ++ b)
level-append {a} {b} l m = record {
  same = omega (arith, count-append brackets.opening a b, count-append brackets.closing a b, l.same, m.same);
}

pub level-plain : {t : Symbol} {ts : Tokens} → IsPlain t → IsLevel ts → IsLevel (t ∷ ts)
level-plain {t} {ts} p l = record {
  same = omega (arith, count-cons brackets.opening t ts false p.opens, count-cons brackets.closing t ts false p.closes, l.same);
}

-- a pair of brackets
pub record IsPair (o c : Symbol) : Type 0 where
  pub opens : is_among brackets.opening o ≡ true
  pub no_close : is_among brackets.closing o ≡ false
  pub no_open : is_among brackets.opening c ≡ false
  pub closes : is_among brackets.closing c ≡ true

pub round : IsPair (fixed kind.LeftParen) (fixed kind.RightParen)
unfolding same_kind
round = record { opens = refl; no_close = refl; no_open = refl; closes = refl }

pub square : IsPair (fixed kind.LeftBracket) (fixed kind.RightBracket)
unfolding same_kind
square = record { opens = refl; no_close = refl; no_open = refl; closes = refl }

pub level-pair : {o c : Symbol} {a : Tokens} → IsPair o c → IsLevel a → IsLevel (o ∷ (a ++ (c ∷ [])))
level-pair {o} {c} {a} p l = record {
  same = omega (
    arith,
    count-cons brackets.opening o (a ++ (c ∷ [])) true p.opens,
    count-cons brackets.closing o (a ++ (c ∷ [])) false p.no_close,
    count-append brackets.opening a (c ∷ []),
    count-append brackets.closing a (c ∷ []),
    count-cons brackets.opening c [] false p.no_open,
    count-cons brackets.closing c [] true p.closes,
    l.same,
  );
}

pub level-each : (ts : Tokens) → Each IsPlain ts → IsLevel ts
level-each [] p = level-nil
level-each (t ∷ ts) p = level-plain p.0 (level-each ts p.1)

-- ---- at each token few are open

pub shallow-left : {a : Tokens} (b : Tokens) → IsShallow brackets limit (a ++ b) → IsShallow brackets limit a
shallow-left {a} b s = record {
  within = λ front rest e. s.within front (rest ++ b) (ap (λ l. l ++ b) e ∙ append_assoc front rest b);
}

pub shallow-right : {a b : Tokens} → IsLevel a → IsShallow brackets limit (a ++ b) → IsShallow brackets limit b
shallow-right {a} {b} l s = record { within = at_front }
  where
    at_front : (front rest : Tokens) → b ≡ front ++ rest → OpensAtMost brackets limit front
    at_front front rest e =
        let few = s.within (a ++ front) rest (ap (λ m. a ++ m) e ∙ sym (append_assoc a front rest)) in
        omega (arith, few, count-append brackets.opening a front, count-append brackets.closing a front, l.same)

-- a front of the second part, behind the first
beyond : {a b front : Tokens} (rest more : Tokens) → IsLevel a → IsShallow brackets limit b → front ≡ a ++ more
    → b ≡ more ++ rest → OpensAtMost brackets limit front
beyond {a} {b} {front} rest more l t front_is b_is =
    let few = t.within more rest b_is in
    subst (OpensAtMost brackets limit) (sym front_is)
    (omega (arith, few, count-append brackets.opening a more, count-append brackets.closing a more, l.same))

-- a front of two parts is one of the first, or goes on in the second
data FrontOfTwo (a b front rest : Tokens) : Type 0 where
  first : (more : Tokens) → a ≡ front ++ more → FrontOfTwo a b front rest
  second : (more : Tokens) → front ≡ a ++ more → b ≡ more ++ rest → FrontOfTwo a b front rest

front_of_two : (a b front rest : Tokens) → a ++ b ≡ front ++ rest → FrontOfTwo a b front rest
front_of_two [] b front rest e = second front refl e
front_of_two (t ∷ a) b [] rest e = first (t ∷ a) refl
front_of_two (t ∷ a) b (u ∷ front) rest e = by (front_of_two a b front rest (cc))
  where
    same : t ≡ u
    same = cc

    by : FrontOfTwo a b front rest → FrontOfTwo (t ∷ a) b (u ∷ front) rest
    by (first more f) = first more (ap (λ l. t ∷ l) f ∙ ap (λ (x : Symbol). x ∷ (front ++ more)) same)
    by (second more f g) = second more (ap (λ (x : Symbol). x ∷ front) (sym same) ∙ ap (λ l. t ∷ l) f) g

pub shallow-join : {a b : Tokens} → IsLevel a → IsShallow brackets limit a → IsShallow brackets limit b
    → IsShallow brackets limit (a ++ b)
shallow-join {a} {b} l s t = record { within = λ front rest e. by front rest (front_of_two a b front rest e) }
  where
    by : (front rest : Tokens) → FrontOfTwo a b front rest → OpensAtMost brackets limit front
    by front rest (first more f) = s.within front more f
    by front rest (second more f g) = beyond rest more l t f g

pub shallow-plain : {t : Symbol} {ts : Tokens} → IsPlain t → IsShallow brackets limit ts → IsShallow brackets limit (t ∷ ts)
shallow-plain {t} {ts} p s = record { within = at_front }
  where
    at_front : (front rest : Tokens) → t ∷ ts ≡ front ++ rest → OpensAtMost brackets limit front
    at_front [] rest e = zero-le
    at_front (u ∷ front) rest e =
        let same : t ≡ u = cc in
        let tail : ts ≡ front ++ rest = cc in
        let few = s.within front rest tail in
        let opens = ap (is_among brackets.opening) (sym same) ∙ p.opens in
        let closes = ap (is_among brackets.closing) (sym same) ∙ p.closes in
        omega (arith, few, count-cons brackets.opening u front false opens, count-cons brackets.closing u front false closes)

pub shallow-each : (a : Tokens) {b : Tokens} → Each IsPlain a → IsShallow brackets limit b
    → IsShallow brackets limit (a ++ b)
shallow-each [] p s = s
shallow-each (t ∷ a) p s = shallow-plain p.0 (shallow-each a p.1 s)

pub shallow-nil : IsShallow brackets limit []
shallow-nil = record { within = at_front }
  where
    at_front : (front rest : Tokens) → [] ≡ front ++ rest → OpensAtMost brackets limit front
    at_front [] rest e = zero-le
    at_front (t ∷ front) rest e = absurd (let two : [] ≡ t ∷ (front ++ rest) = e in cc)
