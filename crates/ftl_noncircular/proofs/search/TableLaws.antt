-- Tables that are filled entry by entry.
use Rattle.std.proofs.Common.{◌≡◌, ℕ, ◌+◌, ◌<◌, List, [], ◌∷◌, ◌++◌, length, get_or, refl, sym, ap, ◌∙◌, subst, inl}
use Rattle.std.proofs.Common.{inr, arith, length-append, Contains}
use Rattle.ftl_model.specs.layout.AttributeGrammar.{AttributeGrammar, Sort}
use Rattle.std.proofs.lemmas.Bool.{cases_lt}
use Rattle.std.proofs.lemmas.List.{get_or_append_left, get_or_push}
use Rattle.ftl_noncircular.specs.search.Tables.{IsTable}

pub table_none : {X : Type 0} (P : ℕ → X → Type 0) (none : X) (xs : List X) → xs ≡ [] → IsTable P none 0 xs
table_none P none xs is = record { size = ap length is; each = λ k below. absurd (omega (arith, below)) }

pub table_more : {X : Type 0} (P : ℕ → X → Type 0) (none : X) (n : ℕ) (xs new : List X) (x : X) → IsTable P none n xs
    → new ≡ xs ++ x ∷ [] → P n x → IsTable P none (n + 1) new
table_more P none n xs new x has is here = record {
  size = (let e = length-append xs (x ∷ []) in let f = ap length is in let s = has.size in omega (arith, e, f, s));
  each = λ k below. elim (cases_lt k n) [
    | inl less ↦
        subst (P k)
        (sym (ap (λ ys. get_or ys k none) is
        ∙ get_or_append_left xs (x ∷ []) none k (let s = has.size in omega (arith, s, less))))
        (has.each k less)
    | inr above ↦
        let at : n ≡ k = omega (arith, below, above) in
        subst (λ j. P j (get_or new j none)) at
        (subst (P n) (sym (ap (λ ys. get_or ys n none) is ∙ get_or_push xs x none n has.size)) here)
  ];
}

-- the ports among the attributes below a number
pub record ArePortsBelow (g : AttributeGrammar) (i : ℕ) (sort : Sort) (count : ℕ) (ports : List ℕ) : Type 0 where
  pub are : (j : ℕ) → j < length ports → Contains (g.shared i) (get_or ports j 0) × (g.sort (get_or ports j 0) ≡ sort)
  pub have :
      (a : ℕ) → a < count → Contains (g.shared i) a → g.sort a ≡ sort
      → (j : ℕ) × (j < length ports) × (get_or ports j 0 ≡ a)

pub ports_none : (g : AttributeGrammar) (i : ℕ) (sort : Sort) (ports : List ℕ) → ports ≡ []
    → ArePortsBelow g i sort 0 ports
ports_none g i sort ports is = record {
  are = λ j below. absurd (let e = ap length is in omega (arith, e, below));
  have = λ a below. absurd (omega (arith, below));
}

pub ports_more : (g : AttributeGrammar) (i : ℕ) (sort : Sort) (n : ℕ) (ports new : List ℕ)
    → ArePortsBelow g i sort n ports
    → new ≡ ports ++ n ∷ [] → Contains (g.shared i) n × (g.sort n ≡ sort) → ArePortsBelow g i sort (n + 1) new
ports_more g i sort n ports new has is here = record {
  are = λ j below. elim (cases_lt j (length ports)) [
    | inl less ↦
        subst (λ a. Contains (g.shared i) a × (g.sort a ≡ sort)) (sym (old j less)) (has.are j less)
    | inr above ↦
        let at : length ports ≡ j = (let l = long in omega (arith, l, below, above)) in
        subst (λ m. Contains (g.shared i) (get_or new m 0) × (g.sort (get_or new m 0) ≡ sort)) at
        (subst (λ a. Contains (g.shared i) a × (g.sort a ≡ sort)) (sym last) here)
  ];
  have = λ a below in_it is_sort. elim (cases_lt a n) [
    | inl less ↦
        let h = has.have a less in_it is_sort in
        (h.0, (let l = long in let w = h.1 in omega (arith, l, w)), old h.0 h.1 ∙ h.2)
    | inr above ↦
        (length ports, (let l = long in omega (arith, l)), last ∙ (let z : n ≡ a = omega (arith, below, above) in z))
  ];
}
  where
    long : length new ≡ length ports + 1
    long = let e = length-append ports (n ∷ []) in let f = ap length is in omega (arith, e, f)

    old : (j : ℕ) → j < length ports → get_or new j 0 ≡ get_or ports j 0
    old j less = ap (λ ys. get_or ys j 0) is ∙ get_or_append_left ports (n ∷ []) 0 j less

    last : get_or new (length ports) 0 ≡ n
    last = ap (λ ys. get_or ys (length ports) 0) is ∙ get_or_push ports n 0 (length ports) refl

pub ports_same : (g : AttributeGrammar) (i : ℕ) (sort : Sort) (n : ℕ) (ports : List ℕ) → ArePortsBelow g i sort n ports
    → (Contains (g.shared i) n × (g.sort n ≡ sort) → ⊥) → ArePortsBelow g i sort (n + 1) ports
ports_same g i sort n ports has none = record {
  are = has.are;
  have = λ a below in_it is_sort. elim (cases_lt a n) [
    | inl less ↦ has.have a less in_it is_sort
    | inr above ↦
        let at : a ≡ n = omega (arith, below, above) in
        absurd (none (subst (Contains (g.shared i)) at in_it, subst (λ x. g.sort x ≡ sort) at is_sort))
  ];
}
