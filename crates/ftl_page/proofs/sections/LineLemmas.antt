-- Lines, one after another.
use Rattle.std.proofs.Common.{◌≡◌, ℕ, zero, suc, ◌+◌, ◌-◌, ◌<◌, ◌≤◌, true, false, eqb, List, [], ◌∷◌, length, take, drop}
use Rattle.std.proofs.Common.{get_or, sym, refl, ap, ◌∙◌, subst, ⊎_elim, inl, inr, arith}
use Rattle.std.specs.Prelude.{◌⊎◌}
use Rattle.std.specs.Str.{IsUtf8, IsCharBoundary}
use Rattle.std.proofs.lemmas.Bool.{cond-true, cond-false, cases_Bool, eqb-true}
use Rattle.std.proofs.lemmas.Str.{IsCharBoundary-end, IsCharBoundary-after_ascii}
use Rattle.ftl_page.specs.sections.Lines.{longer_first, lines_of}
use Rattle.ftl_page.proofs.sections.LineLength.{line_length}

pub line_length-feed : (b : ℕ) (bs : List ℕ) → eqb b 10 ≡ true → line_length (b ∷ bs) ≡ 1
line_length-feed b bs feed = cond-true (eqb b 10) 1 (1 + line_length bs) feed

pub line_length-other : (b : ℕ) (bs : List ℕ) → eqb b 10 ≡ false → line_length (b ∷ bs) ≡ suc (line_length bs)
line_length-other b bs other = omega (arith, cond-false (eqb b 10) 1 (1 + line_length bs) other)

pub line_length-le : (bs : List ℕ) → line_length bs ≤ length bs
line_length-le [] = omega arith
line_length-le (b ∷ bs) =
    ⊎_elim
    (λ feed. omega (arith, line_length-feed b bs feed))
    (λ other. omega (arith, line_length-other b bs other, line_length-le bs))
    (cases_Bool (eqb b 10))

pub line_length-some : (bs : List ℕ) → 0 < length bs → 0 < line_length bs
line_length-some [] some = absurd (omega arith)
line_length-some (b ∷ bs) some =
    ⊎_elim
    (λ feed. omega (arith, line_length-feed b bs feed))
    (λ other. omega (arith, line_length-other b bs other))
    (cases_Bool (eqb b 10))

-- a text without a line feed is one line
pub line_length-none : (bs : List ℕ) → ((k : ℕ) → 0 ≤ k → k < length bs → eqb (get_or bs k 0) 10 ≡ true → ⊥)
    → line_length bs ≡ length bs
line_length-none [] none = refl
line_length-none (b ∷ bs) none =
    ⊎_elim
    (λ feed. absurd (none 0 (omega arith) (omega arith) feed))
    (λ other.
    omega (
      arith,
      line_length-other b bs other,
      line_length-none bs (λ k low below. none (suc k) (omega arith) (omega (arith, below))),
    ))
    (cases_Bool (eqb b 10))

-- and one with a line feed ends with the first
pub line_length-first : (k : ℕ) (bs : List ℕ) → ((j : ℕ) → 0 ≤ j → j < k → eqb (get_or bs j 0) 10 ≡ true → ⊥)
    → k < length bs → eqb (get_or bs k 0) 10 ≡ true → line_length bs ≡ k + 1
line_length-first k [] none below feed = absurd (omega (arith, below))
line_length-first zero (b ∷ bs) none below feed = omega (arith, line_length-feed b bs feed)
line_length-first (suc k) (b ∷ bs) none below feed =
    ⊎_elim
    (λ first. absurd (none 0 (omega arith) (omega arith) first))
    (λ other.
    let later = line_length-first k bs (λ j low less. none (suc j) (omega arith) (omega (arith, less)))
    (omega (arith, below)) feed in
    omega (arith, line_length-other b bs other, later))
    (cases_Bool (eqb b 10))

-- a line ends with the text or with a line feed
pub line_end : (bs : List ℕ)
    → (line_length bs ≡ length bs) ⊎ ((0 < line_length bs) × (get_or bs (line_length bs - 1) 0 ≡ 10))
line_end [] = inl refl
line_end (b ∷ bs) =
    ⊎_elim
    (λ feed.
    let one = line_length-feed b bs feed in
    let first : line_length (b ∷ bs) - 1 ≡ 0 = omega (arith, one) in
    inr (omega (arith, one), ap (λ k. get_or (b ∷ bs) k 0) first ∙ eqb-true b 10 feed))
    (λ other.
    let more = line_length-other b bs other in
    ⊎_elim
    (λ all. inl (omega (arith, more, all)))
    (λ ends.
    let place : line_length (b ∷ bs) - 1 ≡ suc (line_length bs - 1) = omega (arith, more, ends.0) in
    inr (omega (arith, more), ap (λ k. get_or (b ∷ bs) k 0) place ∙ ends.1))
    (line_end bs))
    (cases_Bool (eqb b 10))

-- so it ends between characters
pub line_boundary : (text : List ℕ) (n : ℕ) → IsUtf8 text → n ≤ length text
    → (n ≡ length text) ⊎ ((0 < n) × (get_or text (n - 1) 0 ≡ 10)) → IsCharBoundary text n
line_boundary text n utf8 fits end =
    ⊎_elim
    (λ all. subst (IsCharBoundary text) (sym all) (IsCharBoundary-end text))
    (λ ends.
    let back : n - 1 + 1 ≡ n = omega (arith, ends.0) in
    subst (IsCharBoundary text) back
    (IsCharBoundary-after_ascii text (n - 1) utf8 (omega (arith, ends.0)) (omega (arith, ends.1))))
    end

-- the first line, and the lines of what follows it
pub lines_of-first : (text : List ℕ) → 0 < length text
    → lines_of text ≡ take (line_length text) text ∷ lines_of (drop (line_length text) text)
unfolding lines_of
lines_of-first [] some = absurd (omega arith)
lines_of-first (b ∷ []) some =
    ⊎_elim
    (λ feed. cond-true _ _ _ feed
    ∙ ap (λ n. take n (b ∷ []) ∷ lines_of (drop n (b ∷ []))) (sym (line_length-feed b [] feed)))
    (λ other. cond-false _ _ _ other
    ∙ ap (λ n. take n (b ∷ []) ∷ lines_of (drop n (b ∷ []))) (sym (line_length-other b [] other)))
    (cases_Bool (eqb b 10))
lines_of-first (b ∷ c ∷ bs) some =
    let all = b ∷ c ∷ bs in
    let rest = c ∷ bs in
    ⊎_elim
    (λ feed. cond-true _ _ _ feed ∙ ap (λ n. take n all ∷ lines_of (drop n all)) (sym (line_length-feed b rest feed)))
    (λ other.
    cond-false _ _ _ other
    ∙ ap (longer_first b) (lines_of-first (c ∷ bs) (omega arith))
    ∙ ap (λ n. take n all ∷ lines_of (drop n all)) (sym (line_length-other b rest other)))
    (cases_Bool (eqb b 10))

pub lines_of-nil : (text : List ℕ) → length text ≡ 0 → lines_of text ≡ []
unfolding lines_of
lines_of-nil [] none = refl
lines_of-nil (b ∷ bs) none = absurd (omega arith)
