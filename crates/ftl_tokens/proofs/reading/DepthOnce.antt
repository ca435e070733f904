-- Either too many brackets are open at some token, and then there is one first such token, or at none.
use Rattle.std.proofs.Common.{◌≡◌, ℕ, ◌+◌, ◌<◌, ◌≤◌, List, [], ◌∷◌, ◌++◌, map, ◌⊎◌, inl, inr, refl, sym, ap, ◌∙◌}
use Rattle.std.proofs.Common.{subst, append_assoc, append-nil, arith}
use Rattle.std.proofs.lemmas.Bool.{cases_lt}
use Rattle.std.proofs.lemmas.List.{map_push, map-append}
use Rattle.ftl_tokens.specs.declared.scanner.kind.Token.{Token}
use Rattle.ftl_tokens.specs.scanner.Tokenized.{Tokenized, symbol_of, symbols_of}
use Rattle.ftl_tokens.specs.reading.Reader.{Tokens}
use Rattle.ftl_tokens.specs.reading.Depth.{Brackets, count_of, OpensAtMost, IsShallow, IsTooDeepAt}
use Rattle.ftl_tokens.proofs.reading.Fronts.{Parting, together, sooner, later, parting}
use Rattle.ftl_tokens.proofs.reading.ShallowLemmas.{shallow-nil, shallow-push}

module _ (brackets : Brackets) (limit : ℕ) (s : Tokenized) where
  -- what tokens of the text say
  abbrev said_by : List Token → Tokens
  said_by ts = map (symbol_of s.text) ts

  -- at a token within these too few are open
  within_front : (front : List Token) (t : Token) (more : List Token) → IsShallow brackets limit (said_by (front ++ (t ∷ more)))
      → OpensAtMost brackets limit (said_by (front ++ (t ∷ [])))
  within_front front t more shallow =
      shallow.within (said_by (front ++ (t ∷ []))) (said_by more)
      (ap said_by (sym (append_assoc front (t ∷ []) more)) ∙ map-append (symbol_of s.text) (front ++ (t ∷ [])) more)

  -- where too many are open at a token, it isn't so that at each token few are
  pub not_shallow : {at : ℕ} → IsTooDeepAt brackets limit s at → IsShallow brackets limit (symbols_of s) → ⊥
  not_shallow deep shallow =
      deep.deep (within_front deep.before deep.token deep.after (subst (λ ts. IsShallow brackets limit (said_by ts)) deep.split shallow))

  -- there is one first token at which too many are open
  pub one_too_deep : {at other : ℕ} → IsTooDeepAt brackets limit s at → IsTooDeepAt brackets limit s other → at ≡ other
  one_too_deep {at} {other} a b = by (parting a.before b.before (a.token ∷ a.after) (b.token ∷ b.after) (sym a.split ∙ b.split))
    where
      starts : a.token ≡ b.token → at ≡ other
      starts e = a.place ∙ ap (λ (t : Token). t.start) e ∙ sym b.place

      by : Parting a.before b.before (a.token ∷ a.after) (b.token ∷ b.after) → at ≡ other
      by (together e) = starts (cc)
      by (sooner t more rest front) =
          absurd (a.deep (subst (λ u. OpensAtMost brackets limit (said_by (a.before ++ (u ∷ [])))) (let same : t ≡ a.token = cc in same)
          (within_front a.before t more (subst (λ ts. IsShallow brackets limit (said_by ts)) front b.first))))
      by (later t more rest front) =
          absurd (b.deep (subst (λ u. OpensAtMost brackets limit (said_by (b.before ++ (u ∷ [])))) (let same : t ≡ b.token = cc in same)
          (within_front b.before t more (subst (λ ts. IsShallow brackets limit (said_by ts)) front a.first))))

  -- a first token at which too many are open, or none
  abbrev Searched : Type 0
  Searched = ((at : ℕ) × IsTooDeepAt brackets limit s at) ⊎ IsShallow brackets limit (symbols_of s)

  -- the first token, from some place on, at which too many are open, if there is one
  from_here : (before after : List Token) → s.tokens ≡ before ++ after → IsShallow brackets limit (said_by before) → Searched
  from_here before [] split first =
      inr (subst (λ ts. IsShallow brackets limit (said_by ts)) (sym (split ∙ append-nil before)) first)
  from_here before (t ∷ after) split first =
      by (cases_lt (count_of brackets.closing there + limit) (count_of brackets.opening there)) (λ more shallow. from_here (before ++ (t ∷ [])) after more shallow)
    where
      there : Tokens
      there = said_by (before ++ (t ∷ []))

      pushed : there ≡ said_by before ++ (symbol_of s.text t ∷ [])
      pushed = map_push (symbol_of s.text) before t

      by : (count_of brackets.closing there + limit < count_of brackets.opening there) ⊎ (count_of brackets.opening there ≤ count_of brackets.closing there + limit)
          → (s.tokens ≡ (before ++ (t ∷ [])) ++ after → IsShallow brackets limit there → Searched)
          → Searched
      by (inl many) further =
          inl (
            t.start,
            record {
              before = before;
              token = t;
              after = after;
              split = split;
              first = first;
              deep = λ few. omega (arith, many, few);
              place = refl;
            },
          )
      by (inr few) further =
          further (split ∙ sym (append_assoc before (t ∷ []) after))
          (subst (IsShallow brackets limit) (sym pushed)
          (shallow-push brackets limit (said_by before) (symbol_of s.text t) first (subst (OpensAtMost brackets limit) pushed few)))

  -- too many are open at a first token, or at none
  pub too_deep_or_shallow : ((at : ℕ) × IsTooDeepAt brackets limit s at) ⊎ IsShallow brackets limit (symbols_of s)
  too_deep_or_shallow = from_here [] s.tokens refl (shallow-nil brackets limit)
