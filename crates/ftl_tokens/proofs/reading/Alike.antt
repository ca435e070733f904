-- A reader looks one token ahead and no further, and one that may go deeper reads the same while few brackets are open.
use Rattle.std.proofs.Common.{◌≡◌, ℕ, ◌<◌, [], ◌∷◌, ◌++◌, Option, Some, None, Ok, Err, sym, refl, ap, ◌∙◌, subst}
use Rattle.std.proofs.Common.{append_assoc, arith}
use Rattle.std.proofs.lemmas.List.{append_cancel_right}
use Rattle.ftl_tokens.specs.declared.scanner.kind.Kind.{Kind}
use Rattle.ftl_tokens.specs.scanner.Tokenized.{Symbol}
use Rattle.ftl_tokens.specs.reading.Reader.{Tokens, ReadResult, Reader, and_then, ◌>>=◌, pure, refuse, next_kind}
use Rattle.ftl_tokens.proofs.reading.Went.{got}

-- the first token, if there is one
abbrev pub first_of : Tokens → Option Symbol
first_of [] = None
first_of (t ∷ ts) = Some t

-- the tokens that the answer leaves
abbrev pub left : {A : Type 0} → ReadResult A → Tokens
left (Ok p) = p.1
left (Err rest) = rest

-- the answer with other tokens left
abbrev pub with_left : {A : Type 0} → ReadResult A → Tokens → ReadResult A
with_left (Ok p) rest = Ok (p.0, rest)
with_left (Err old) rest = Err rest

-- the tokens end so
pub record Ends (ts rest : Tokens) : Type 0 where
  pub front : Tokens
  pub split : ts ≡ front ++ rest

-- At tokens in which fewer than n brackets are open at once, q reads what p reads whatever comes behind the token that
-- p looks at; fewer than m are open at once in what p leaves.
pub record AlikeAt {A : Type 0} (peak : Tokens → ℕ) (n m : ℕ) (kind : Option Kind) (p q : Reader A) : Type 0 where
  pub ends : (ts : Tokens) → next_kind ts ≡ kind → Ends ts (left (p ts))
  pub falls : (ts rest : Tokens) (x : A) → next_kind ts ≡ kind → p ts ≡ got x rest → peak ts < n → peak rest < m
  pub alike : (front r s : Tokens) → next_kind (front ++ r) ≡ kind → first_of r ≡ first_of s → peak (front ++ r) < n
      → left (p (front ++ r)) ≡ r → q (front ++ s) ≡ with_left (p (front ++ r)) s

-- the same at all tokens
pub record Alike {A : Type 0} (peak : Tokens → ℕ) (n m : ℕ) (p q : Reader A) : Type 0 where
  pub ends : (ts : Tokens) → Ends ts (left (p ts))
  pub falls : (ts rest : Tokens) (x : A) → p ts ≡ got x rest → peak ts < n → peak rest < m
  pub alike : (front r s : Tokens) → first_of r ≡ first_of s → peak (front ++ r) < n
      → left (p (front ++ r)) ≡ r → q (front ++ s) ≡ with_left (p (front ++ r)) s

-- behind one front the first tokens stay the same
pub same_first : (front r s : Tokens) → first_of r ≡ first_of s → first_of (front ++ r) ≡ first_of (front ++ s)
same_first [] r s e = e
same_first (t ∷ front) r s e = refl

-- the first token tells its kind
pub kind_by_first : (r s : Tokens) → first_of r ≡ first_of s → next_kind r ≡ next_kind s
unfolding next_kind
kind_by_first [] [] e = refl
kind_by_first [] (t ∷ s) e = cc
kind_by_first (t ∷ r) [] e = cc
kind_by_first (t ∷ r) (u ∷ s) e = cc

-- a reader that takes nothing
pub pure_alike : {A : Type 0} {peak : Tokens → ℕ} {n : ℕ} {x : A} → Alike peak n n (pure x) (pure x)
pure_alike {peak = peak} {n = n} {x = x} = record {
  ends = λ ts. record { front = []; split = refl };
  falls = λ ts rest y e small. let same : ts ≡ rest = ap left e in subst (λ l. peak l < n) same small;
  alike =
      λ front r s e small back. let none : front ≡ [] =
      append_cancel_right front [] r back in ap (λ l. got x (l ++ s)) none;
}

-- a reader that refuses
pub refuse_alike : {A : Type 0} {peak : Tokens → ℕ} {n m : ℕ} → Alike {A = A} peak n m refuse refuse
refuse_alike = record {
  ends = λ ts. record { front = []; split = refl };
  falls = λ ts rest y e small. cc;
  alike =
      λ front r s e small back. let none : front ≡ [] =
      append_cancel_right front [] r back in ap (λ l. Err (l ++ s)) none;
}

-- by the kind of the next token
pub look_alike : {A : Type 0} {peak : Tokens → ℕ} {n m : ℕ} (p q : Option Kind → Reader A)
    → ((kind : Option Kind) → AlikeAt peak n m kind (p kind) (q kind))
    → Alike peak n m (λ ts. p (next_kind ts) ts) (λ ts. q (next_kind ts) ts)
look_alike p q each = record {
  ends = λ ts. (each (next_kind ts)).ends ts refl;
  falls = λ ts rest x e small. (each (next_kind ts)).falls ts rest x refl e small;
  alike = λ front r s e small back.
      let same = kind_by_first (front ++ r) (front ++ s) (same_first front r s e) in
      ap (λ k. q k (front ++ s)) (sym same) ∙ (each (next_kind (front ++ r))).alike front r s refl e small back;
}

-- what holds at all tokens holds at those of a kind
pub alike_at_any : {A : Type 0} {peak : Tokens → ℕ} {n m : ℕ} {kind : Option Kind} {p q : Reader A}
    → Alike peak n m p q → AlikeAt peak n m kind p q
alike_at_any alike = record {
  ends = λ ts k. alike.ends ts;
  falls = λ ts rest x k e small. alike.falls ts rest x e small;
  alike = λ front r s k e small back. alike.alike front r s e small back;
}

-- what is left by two steps is left by the second
module _ {A B : Type 0} {peak : Tokens → ℕ} {n m l : ℕ} {p q : Reader A} {f g : A → Reader B}
    (first : Alike peak n m p q) (second : (x : A) → Alike peak m l (f x) (g x)) where
  -- what two steps leave is an end
  bind_ends : (ts : Tokens) (o : ReadResult A) → Ends ts (left o) → Ends ts (left (and_then o f))
  bind_ends ts (Err rest) e = e
  bind_ends ts (Ok x) e =
      let after = (second x.0).ends x.1 in
      record {
        front = e.front ++ after.front;
        split =
            e.split ∙ ap (λ k. e.front ++ k) after.split ∙ sym (append_assoc e.front after.front (left (f x.0 x.1)));
      }

  -- few brackets are open in what two steps leave
  bind_falls : (ts rest : Tokens) (y : B) (o : ReadResult A) → p ts ≡ o → and_then o f ≡ got y rest → peak ts < n
      → peak rest < l
  bind_falls ts rest y (Err left) e f small = cc
  bind_falls ts rest y (Ok x) e f small = (second x.0).falls x.1 rest y f (first.falls ts x.1 x.0 e small)

  -- two steps read the same
  bind_same : (front r s : Tokens) (o : ReadResult A) → p (front ++ r) ≡ o → first_of r ≡ first_of s
      → peak (front ++ r) < n
      → left (and_then o f) ≡ r → and_then (q (front ++ s)) g ≡ with_left (and_then o f) s
  bind_same front r s (Err rest) e same small back =
      ap (λ o. and_then o g) (first.alike front r s same small (ap left e ∙ back) ∙ ap (λ o. with_left o s) e)
  bind_same front r s (Ok x) e same small back =
      let a = first.ends (front ++ r) in
      let b = (second x.0).ends x.1 in
      let after : x.1 ≡ b.front ++ r = b.split ∙ ap (λ k. b.front ++ k) back in
      let whole : front ++ r ≡ a.front ++ (b.front ++ r) =
      a.split ∙ ap (λ o. a.front ++ left o) e ∙ ap (λ k. a.front ++ k) after in
      let parts : front ≡ a.front ++ b.front =
      append_cancel_right front (a.front ++ b.front) r (whole ∙ sym (append_assoc a.front b.front r)) in
      let other : front ++ s ≡ a.front ++ (b.front ++ s) = ap (λ k. k ++ s) parts ∙ append_assoc a.front b.front s in
      let read : p (a.front ++ (b.front ++ r)) ≡ got x.0 (b.front ++ r) = ap p (sym whole) ∙ e ∙ ap (got x.0) after in
      let small_whole : peak (a.front ++ (b.front ++ r)) < n = subst (λ k. peak k < n) whole small in
      let step : q (a.front ++ (b.front ++ s)) ≡ got x.0 (b.front ++ s) =
      first.alike a.front (b.front ++ r) (b.front ++ s) (same_first b.front r s same) small_whole (ap left read) ∙ ap
      (λ o. with_left o (b.front ++ s)) read in
      let small_after = first.falls (a.front ++ (b.front ++ r)) (b.front ++ r) x.0 read small_whole in
      let here : f x.0 x.1 ≡ f x.0 (b.front ++ r) = ap (f x.0) after in
      ap (λ o. and_then o g) (ap q other ∙ step)
      ∙ (second x.0).alike b.front r s same small_after (ap left (sym here) ∙ back)
      ∙ ap (λ o. with_left o s) (sym here)

  -- one step after another
  pub bind_alike : Alike peak n l (p >>= f) (q >>= g)
  bind_alike = record {
    ends = λ ts. bind_ends ts (p ts) (first.ends ts);
    falls = λ ts rest y e small. bind_falls ts rest y (p ts) refl e small;
    alike = λ front r s e small back. bind_same front r s (p (front ++ r)) refl e small back;
  }

-- a step whose value is turned into another
pub map_alike : {A B : Type 0} {peak : Tokens → ℕ} {n m : ℕ} {p q : Reader A} (g : A → B) → Alike peak n m p q
    → Alike peak n m (p >>= (λ x. pure (g x))) (q >>= (λ x. pure (g x)))
map_alike g alike = bind_alike alike (λ x. pure_alike)

-- where no bracket may be open, not even none, nothing is asked of the other reader
pub none_alike : {A : Type 0} {peak : Tokens → ℕ} (q : Reader A) → Alike peak 0 0 refuse q
none_alike {peak = peak} q = record {
  ends = λ ts. record { front = []; split = refl };
  falls = λ ts rest x e small. absurd (omega arith);
  alike = λ front r s e small back. absurd (omega arith);
}
