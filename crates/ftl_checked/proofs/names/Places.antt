-- The first place of a name in a list with one more name.
use Rattle.std.proofs.Common.{◌≡◌, ℕ, Bool, true, false, not, cond, List, [], ◌∷◌, ◌++◌, length, Option, Some, None, refl, sym, ◌∙◌, ap, arith}
use Rattle.std.specs.List.{position}
use Rattle.std.specs.Str.{bytes_eq}
use Rattle.std.specs.Option.{is_some}
use Rattle.std.proofs.lemmas.Bool.{false≢true}
use Rattle.std.proofs.lemmas.Bool.Decides.{nat_tests}
use Rattle.std.proofs.lemmas.Grind.{common_steps}
use Rattle.std.proofs.lemmas.Slice.Eq.{bytes_eq-Decides}
use Rattle.std.proofs.lemmas.List.Folds.{position_or_len_push}
use Rattle.std.proofs.lemmas.List.Sums.{prefix_len-le-length}

-- what stands before keeps its place
pub position-kept : {X : Type 0} (p : X → Bool) (xs : List X) (y : X) (n : ℕ)
    → position p xs ≡ Some n → position p (xs ++ y ∷ []) ≡ Some n
position-kept p xs y n e = let h = position_or_len_push p xs y in grind (arith, nat_tests, common_steps)

-- what does not stand before is the new one, or not there
pub position-new : {X : Type 0} (p : X → Bool) (xs : List X) (y : X)
    → position p xs ≡ None → position p (xs ++ y ∷ []) ≡ cond (p y) (Some (length xs)) None
position-new p xs y e =
    let h = position_or_len_push p xs y in
    let within = prefix_len-le-length (λ x. not (p x)) xs in
    grind (arith, nat_tests, common_steps)

-- two texts that test as one are one
pub same-text : (xs ys : List ℕ) → bytes_eq xs ys ≡ true → xs ≡ ys
same-text xs ys e = (bytes_eq-Decides xs ys).0 e

-- a text is itself
pub text-itself : (xs : List ℕ) → bytes_eq xs xs ≡ true
text-itself xs = (bytes_eq-Decides xs xs).1 refl

-- the test goes both ways
pub bytes_eq-flips : (xs ys : List ℕ) → bytes_eq xs ys ≡ bytes_eq ys xs
bytes_eq-flips xs ys =
    let l = bytes_eq-Decides xs ys in
    let r = bytes_eq-Decides ys xs in
    decided _ _ l.0 l.1 (λ e. sym (r.0 e)) (λ e. r.1 (sym e))
  where
    decided : (a b : Bool) {P : Type 0} → (a ≡ true → P) → (P → a ≡ true) → (b ≡ true → P) → (P → b ≡ true) → a ≡ b
    decided true b f g h k = sym (k (f refl))
    decided false true f g h k = g (h refl)
    decided false false f g h k = refl

-- a name that has a place already changes none
pub adds-nothing : (look : List ℕ → Option ℕ) (before : List (List ℕ)) (name : List ℕ)
    → ((q : List ℕ) → look q ≡ position (bytes_eq q) before) → is_some (look name) ≡ true
    → (q : List ℕ) → look q ≡ position (bytes_eq q) (before ++ name ∷ [])
adds-nothing look before name finds found q = at_place (position (bytes_eq q) before) refl
  where
    at_none : (b : Bool) → bytes_eq q name ≡ b → position (bytes_eq q) before ≡ None
        → None ≡ cond b (Some (length before)) None
    at_none true same none =
        let e : look name ≡ None = ap look (sym (same-text q name same)) ∙ finds q ∙ none in
        absurd (false≢true (ap is_some (sym e) ∙ found))
    at_none false other none = refl

    at_place : (o : Option ℕ) → position (bytes_eq q) before ≡ o → look q ≡ position (bytes_eq q) (before ++ name ∷ [])
    at_place (Some m) e = finds q ∙ e ∙ sym (position-kept (bytes_eq q) before name m e)
    at_place None e = finds q ∙ e ∙ at_none (bytes_eq q name) refl e ∙ sym (position-new (bytes_eq q) before name e)

-- a new name has the place after all others
pub adds-one : (look new : List ℕ → Option ℕ) (before : List (List ℕ)) (name : List ℕ) (place : ℕ)
    → ((q : List ℕ) → look q ≡ position (bytes_eq q) before) → is_some (look name) ≡ false → length before ≡ place
    → ((q : List ℕ) → new q ≡ cond (bytes_eq name q) (Some place) (look q))
    → (q : List ℕ) → new q ≡ position (bytes_eq q) (before ++ name ∷ [])
adds-one look new before name place finds absent same_length updated q =
    updated q ∙ at_name (bytes_eq name q) refl
  where
    gone_by : (o : Option ℕ) → is_some o ≡ false → o ≡ None
    gone_by (Some m) e = absurd (false≢true (sym e))
    gone_by None e = refl

    other : (o : Option ℕ) → position (bytes_eq q) before ≡ o → bytes_eq name q ≡ false
        → o ≡ position (bytes_eq q) (before ++ name ∷ [])
    other (Some m) e differs = sym (position-kept (bytes_eq q) before name m e)
    other None e differs =
        ap (λ b. cond b (Some (length before)) None) (sym differs ∙ bytes_eq-flips name q)
        ∙ sym (position-new (bytes_eq q) before name e)

    at_name : (b : Bool) → bytes_eq name q ≡ b
        → cond b (Some place) (look q) ≡ position (bytes_eq q) (before ++ name ∷ [])
    at_name true same =
        let gone : position (bytes_eq q) before ≡ None =
        sym (finds q) ∙ ap look (sym (same-text name q same)) ∙ gone_by (look name) absent in
        ap Some (sym same_length) ∙ ap (λ b. cond b (Some (length before)) None) (sym same ∙ bytes_eq-flips name q)
        ∙ sym (position-new (bytes_eq q) before name gone)
    at_name false differs = finds q ∙ other (position (bytes_eq q) before) refl differs
