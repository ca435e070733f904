-- Fronts of tokens at whose ends few brackets are open.
use Rattle.std.proofs.Common.{◌≡◌, ℕ, suc, ◌+◌, ◌-◌, ◌<◌, ◌≤◌, Bool, true, false, if◌then◌else◌, List, [], ◌∷◌, ◌++◌}
use Rattle.std.proofs.Common.{length, map, take, drop, get_or, refl, sym, ap, ◌∙◌, subst, arith, add-one, add-zero}
use Rattle.std.proofs.Common.{zero-le, cond, take-suc, drop-cons, append-nil, take-append-drop, take_all}
use Rattle.std.specs.List.{list_any}
use Rattle.std.proofs.lemmas.List.{map_push}
use Rattle.std.proofs.lemmas.List.Sums.{sum_by-append}
use Rattle.ftl_tokens.specs.declared.scanner.kind.Kind.{Kind}
use Rattle.ftl_tokens.specs.declared.scanner.kind.Token.{Token}
use Rattle.ftl_tokens.specs.scanner.Tokenized.{Tokenized, Symbol, symbol_of, symbols_of, token_text}
use Rattle.ftl_tokens.specs.reading.Reader.{Tokens, same_kind}
use Rattle.ftl_tokens.specs.reading.Depth.{Brackets, brackets_of, is_among, count_of, OpensAtMost, IsShallow, IsTooDeepAt}
use Rattle.ftl_tokens.proofs.reading.InputLemmas.{kind-symbol}

-- what the first tokens say
abbrev pub said : Tokenized → ℕ → Tokens
said s k = map (symbol_of s.text) (take k s.tokens)

-- so many brackets were opened and closed by the first tokens, and nowhere too many were open
pub record Counted (brackets : Brackets) (limit : ℕ) (s : Tokenized) (k opened closed : ℕ) : Type 0 where
  pub opened_are : opened ≡ count_of brackets.opening (said s k)
  pub closed_are : closed ≡ count_of brackets.closing (said s k)
  pub opened_few : opened ≤ k
  pub closed_few : closed ≤ k
  pub shallow : IsShallow brackets limit (said s k)

-- one more token
said-more : (s : Tokenized) (k : ℕ) (d : Token) → k < length s.tokens
    → said s (k + 1) ≡ said s k ++ (symbol_of s.text (get_or s.tokens k d) ∷ [])
said-more s k d within =
    ap (λ j. said s j) (add-one k) ∙ ap (map (symbol_of s.text)) (take-suc s.tokens k d within)
    ∙ map_push (symbol_of s.text) (take k s.tokens) (get_or s.tokens k d)

-- a count with one more, where a test holds
one-more : (n : ℕ) (b : Bool) → n + (0 + cond b 1 0) ≡ (if b then n + 1 else n)
one-more n true = refl
one-more n false = add-zero n

count_of-push : (kinds : List Kind) (xs : Tokens) (x : Symbol)
    → count_of kinds (xs ++ (x ∷ [])) ≡ (if is_among kinds x then count_of kinds xs + 1 else count_of kinds xs)
count_of-push kinds xs x =
    sum_by-append (λ t. cond (is_among kinds t) 1 0) xs (x ∷ []) ∙ one-more (count_of kinds xs) (is_among kinds x)

-- the count after one more token, by the kind of the token
count_of-more : (kinds : List Kind) (s : Tokenized) (k : ℕ) (d : Token) → k < length s.tokens
    → (if list_any (same_kind (get_or s.tokens k d).kind) kinds then count_of kinds (said s k) + 1 else count_of kinds (said s k))
    ≡ count_of kinds (said s (k + 1))
count_of-more kinds s k d within =
    let t = get_or s.tokens k d in
    ap (λ kind. if list_any (same_kind kind) kinds then count_of kinds (said s k) + 1 else count_of kinds (said s k))
    (sym (kind-symbol t.kind (token_text s.text t)))
    ∙ sym (count_of-push kinds (said s k) (symbol_of s.text t))
    ∙ ap (count_of kinds) (sym (said-more s k d within))

-- a part that ends before the last element is a front of what stands before that
pub record FrontOf (xs front : Tokens) : Type 0 where
  pub more : Tokens
  pub split : xs ≡ front ++ more

shorter : (xs front rest : Tokens) (x r : Symbol) → xs ++ (x ∷ []) ≡ front ++ (r ∷ rest) → FrontOf xs front
shorter xs [] rest x r e = record { more = xs; split = refl }
shorter [] (f ∷ []) rest x r e = absurd (let two : x ∷ [] ≡ f ∷ r ∷ rest = e in cc)
shorter [] (f ∷ g ∷ front) rest x r e = absurd (let two : x ∷ [] ≡ f ∷ g ∷ (front ++ (r ∷ rest)) = e in cc)
shorter (y ∷ xs) (f ∷ front) rest x r e =
    let below = shorter xs front rest x r (cc) in
    record { more = below.more; split = let tail : xs ≡ front ++ below.more = below.split in cc }

-- few are open at the end of no token
pub shallow-nil : (brackets : Brackets) (limit : ℕ) → IsShallow brackets limit []
shallow-nil brackets limit = record { within = at_front }
  where
    at_front : (front rest : Tokens) → [] ≡ front ++ rest → OpensAtMost brackets limit front
    at_front [] rest e = zero-le
    at_front (t ∷ front) rest e = absurd (let two : [] ≡ t ∷ (front ++ rest) = e in cc)

-- nor after one more token, where few are open after it
pub shallow-push : (brackets : Brackets) (limit : ℕ) (xs : Tokens) (x : Symbol) → IsShallow brackets limit xs
    → OpensAtMost brackets limit (xs ++ (x ∷ [])) → IsShallow brackets limit (xs ++ (x ∷ []))
shallow-push brackets limit xs x shallow last = record { within = at_front }
  where
    at_front : (front rest : Tokens) → xs ++ (x ∷ []) ≡ front ++ rest → OpensAtMost brackets limit front
    at_front front [] e = subst (OpensAtMost brackets limit) (e ∙ append-nil front) last
    at_front front (r ∷ rest) e = let f = shorter xs front rest x r e in shallow.within front f.more f.split

-- at the start
pub counted-start : (brackets : Brackets) (limit : ℕ) (s : Tokenized) → Counted brackets limit s 0 0 0
counted-start brackets limit s = record {
  opened_are = refl;
  closed_are = refl;
  opened_few = zero-le;
  closed_few = zero-le;
  shallow = shallow-nil brackets limit;
}

module _ (opening closing : List Kind) (limit : ℕ) (s : Tokenized) (list : List Token) (list_is : list ≡ s.tokens)
    (k opened closed : ℕ) (d : Token) (before : Counted (brackets_of opening closing) limit s k opened closed)
    (within_list : k < length list) (opened' closed' : ℕ)
    (opened_now : opened' ≡ (if list_any (same_kind (get_or list k d).kind) opening then opened + 1 else opened))
    (closed_now : closed' ≡ (if list_any (same_kind (get_or list k d).kind) closing then closed + 1 else closed)) where
  within : k < length s.tokens
  within = subst (λ (l : List Token). k < length l) list_is within_list

  opened_then : opened' ≡ count_of opening (said s (k + 1))
  opened_then =
      opened_now ∙ ap (λ (l : List Token). if list_any (same_kind (get_or l k d).kind) opening then opened + 1 else opened) list_is
      ∙ ap (λ n. if list_any (same_kind (get_or s.tokens k d).kind) opening then n + 1 else n) before.opened_are ∙ count_of-more opening s k d within

  closed_then : closed' ≡ count_of closing (said s (k + 1))
  closed_then =
      closed_now ∙ ap (λ (l : List Token). if list_any (same_kind (get_or l k d).kind) closing then closed + 1 else closed) list_is
      ∙ ap (λ n. if list_any (same_kind (get_or s.tokens k d).kind) closing then n + 1 else n) before.closed_are ∙ count_of-more closing s k d within

  at_most_one : (b : Bool) (n : ℕ) → (if b then n + 1 else n) ≤ n + 1
  at_most_one true n = omega arith
  at_most_one false n = omega arith

  -- where few are open after one more token
  pub counted-more : opened' - closed' ≤ limit → Counted (brackets_of opening closing) limit s (k + 1) opened' closed'
  counted-more few =
      let more = said-more s k d within in
      let few_there : OpensAtMost (brackets_of opening closing) limit (said s (k + 1)) = omega (arith, opened_then, closed_then) in
      record {
        opened_are = opened_then;
        closed_are = closed_then;
        opened_few = omega (arith, before.opened_few, opened_now, at_most_one (list_any (same_kind (get_or list k d).kind) opening) opened);
        closed_few = omega (arith, before.closed_few, closed_now, at_most_one (list_any (same_kind (get_or list k d).kind) closing) closed);
        shallow = subst (IsShallow (brackets_of opening closing) limit) (sym more)
            (shallow-push (brackets_of opening closing) limit (said s k) _ before.shallow (subst (OpensAtMost (brackets_of opening closing) limit) more few_there));
      }

  -- where many are
  pub too_deep-here : limit < opened' - closed' → IsTooDeepAt (brackets_of opening closing) limit s (get_or list k d).start
  too_deep-here many = record {
    before = take k s.tokens;
    token = get_or s.tokens k d;
    after = drop (suc k) s.tokens;
    split = sym (take-append-drop k s.tokens) ∙ ap (λ l. take k s.tokens ++ l) (drop-cons s.tokens k d within);
    first = before.shallow;
    deep = λ few.
        let there = subst (OpensAtMost (brackets_of opening closing) limit) (map_push (symbol_of s.text) (take k s.tokens) (get_or s.tokens k d) ∙ sym (said-more s k d within)) few in
        omega (arith, opened_then, closed_then);
    place = ap (λ (l : List Token). (get_or l k d).start) list_is;
  }

-- at the end
pub shallow-all : (brackets : Brackets) (limit : ℕ) (s : Tokenized) (k opened closed : ℕ) → length s.tokens ≤ k
    → Counted brackets limit s k opened closed → IsShallow brackets limit (symbols_of s)
shallow-all brackets limit s k opened closed past counted =
    subst (λ ts. IsShallow brackets limit (map (symbol_of s.text) ts)) (take_all k s.tokens past) counted.shallow
