-- The words of a line, one after another.
use Rattle.std.proofs.Common.{◌≡◌, ℕ, suc, ◌+◌, ◌<◌, false, not, List, [], ◌∷◌, length, take, drop, sym, refl, ap, ◌∙◌}
use Rattle.std.proofs.Common.{subst, ⊎_elim, arith}
use Rattle.std.specs.List.{prefix_len, position_or_len}
use Rattle.std.proofs.lemmas.Bool.{cond-true, cond-false, cases_Bool, not_from_true, not_from_false}
use Rattle.ftl_tokens.specs.scanner.Scan.{is_white_space}
use Rattle.ftl_page.specs.sections.Lines.{longer_first, words_of}

-- white space before the words
pub words_of-white : (line : List ℕ) → words_of line ≡ words_of (drop (prefix_len is_white_space line) line)
unfolding words_of
words_of-white [] = refl
words_of-white (b ∷ bs) =
    ⊎_elim
    (λ white.
    let more : prefix_len is_white_space (b ∷ bs) ≡ suc (prefix_len is_white_space bs) = omega
    (arith, cond-true (is_white_space b) (1 + prefix_len is_white_space bs) 0 white) in
    cond-true _ _ _ white ∙ words_of-white bs ∙ ap (λ n. words_of (drop n (b ∷ bs))) (sym more))
    (λ black.
    let none = cond-false (is_white_space b) (1 + prefix_len is_white_space bs) 0 black in
    ap (λ n. words_of (drop n (b ∷ bs))) (sym none))
    (cases_Bool (is_white_space b))

-- the first byte is none of white space
abbrev StartsBlack : List ℕ → Type 0
StartsBlack [] = Unit {0}
StartsBlack (b ∷ bs) = is_white_space b ≡ false

pub starts_black : (line : List ℕ) → StartsBlack (drop (prefix_len is_white_space line) line)
starts_black [] = tt
starts_black (b ∷ bs) =
    ⊎_elim
    (λ white.
    let more : prefix_len is_white_space (b ∷ bs) ≡ suc (prefix_len is_white_space bs) = omega
    (arith, cond-true (is_white_space b) (1 + prefix_len is_white_space bs) 0 white) in
    subst (λ n. StartsBlack (drop n (b ∷ bs))) (sym more) (starts_black bs))
    (λ black. subst (λ n. StartsBlack (drop n (b ∷ bs)))
    (sym (cond-false (is_white_space b) (1 + prefix_len is_white_space bs) 0 black)) black)
    (cases_Bool (is_white_space b))

word_length-more : (b : ℕ) (bs : List ℕ) → is_white_space b ≡ false
    → position_or_len is_white_space (b ∷ bs) ≡ suc (position_or_len is_white_space bs)
word_length-more b bs black = omega (
  arith,
  cond-true (not (is_white_space b)) (1 + position_or_len is_white_space bs) 0
      (not_from_false (is_white_space b) black),
)

-- the first word
pub words_of-word : (b : ℕ) (bs : List ℕ) → is_white_space b ≡ false
    → words_of (b ∷ bs) ≡ take (position_or_len is_white_space (b ∷ bs)) (b ∷ bs) ∷ words_of
    (drop (position_or_len is_white_space (b ∷ bs)) (b ∷ bs))
unfolding words_of
words_of-word b [] black =
    cond-false _ _ _ black ∙ ap (λ n. take n (b ∷ []) ∷ words_of (drop n (b ∷ []))) (sym (word_length-more b [] black))
words_of-word b (c ∷ bs) black =
    let all = b ∷ c ∷ bs in
    cond-false _ _ _ black
    ∙ ⊎_elim
    (λ white.
    let none = cond-false (not (is_white_space c)) (1 + position_or_len is_white_space bs) 0
    (not_from_true (is_white_space c) white) in
    let one = word_length-more b (c ∷ bs) black ∙ ap (λ n. suc n) none in
    cond-true _ _ _ white ∙ ap (λ n. take n all ∷ words_of (drop n all)) (sym one))
    (λ goes_on.
    cond-false _ _ _ goes_on ∙ ap (longer_first b) (words_of-word c bs goes_on)
    ∙ ap (λ n. take n all ∷ words_of (drop n all)) (sym (word_length-more b (c ∷ bs) black)))
    (cases_Bool (is_white_space c))

-- what is cut off as the first word is empty only where there is none
pub next_word_none : (line : List ℕ) (start : List ℕ) → start ≡ drop (prefix_len is_white_space line) line
    → length (take (position_or_len is_white_space start) start) ≡ 0 → words_of line ≡ []
unfolding words_of
next_word_none line [] start_is none = words_of-white line ∙ ap words_of (sym start_is)
next_word_none line (b ∷ bs) start_is none =
    let black : is_white_space b ≡ false = subst StartsBlack (sym start_is) (starts_black line) in
    let more = word_length-more b bs black in
    absurd (omega (arith, ap (λ n. length (take n (b ∷ bs))) (sym more) ∙ none))

pub next_word_some : (line : List ℕ) (start : List ℕ) → start ≡ drop (prefix_len is_white_space line) line
    → 0 < length (take (position_or_len is_white_space start) start)
    → words_of line ≡ take (position_or_len is_white_space start) start ∷ words_of
    (drop (position_or_len is_white_space start) start)
next_word_some line [] start_is some = absurd (omega arith)
next_word_some line (b ∷ bs) start_is some =
    let black : is_white_space b ≡ false = subst StartsBlack (sym start_is) (starts_black line) in
    words_of-white line ∙ ap words_of (sym start_is) ∙ words_of-word b bs black
