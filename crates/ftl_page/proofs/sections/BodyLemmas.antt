-- The lines before a heading, line by line.
use Rattle.std.proofs.Common.{◌≡◌, ℕ, suc, ◌+◌, ◌-◌, ◌<◌, ◌≤◌, Bool, true, eqb, List, [], ◌∷◌, ◌++◌, length, take, drop}
use Rattle.std.proofs.Common.{get_or, sym, refl, ap, ◌∙◌, subst, ⊎_elim, arith, append_assoc, length-append}
use Rattle.std.specs.Prelude.{◌⊎◌}
use Rattle.std.specs.List.{flat_map, list_all}
use Rattle.std.proofs.lemmas.Bool.{cond-true, cond-false, cases_Bool, cases_lt, eqb-false, and_from, and_parts}
use Rattle.std.proofs.lemmas.List.{take_all, take_at, drop_at, append-nil, length-drop, nil_from_length}
use Rattle.ftl_page.specs.sections.Lines.{longer_first, lines_of, is_heading, is_body_line}
use Rattle.ftl_page.proofs.sections.LineLength.{line_length}
use Rattle.ftl_page.specs.sections.Body.{IsBody}
use Rattle.ftl_page.proofs.sections.LineLemmas.{line_end, line_length-feed, line_length-other, lines_of-first, lines_of-nil}

-- the lines, one after another
abbrev pub joined : List (List ℕ) → List ℕ
joined lines = flat_map (λ line. line) lines

-- a line that a line feed ends is a line before anything
closed_line : (text after : List ℕ) → 0 < line_length text → get_or text (line_length text - 1) 0 ≡ 10
    → lines_of (take (line_length text) text ++ after) ≡ take (line_length text) text ∷ lines_of after
unfolding lines_of
closed_line [] after some feed = absurd (omega arith)
closed_line (b ∷ bs) after some feed =
    ⊎_elim
    (λ is_feed.
    subst (λ n. lines_of (take n (b ∷ bs) ++ after) ≡ take n (b ∷ bs) ∷ lines_of after)
    (sym (line_length-feed b bs is_feed)) (cond-true _ _ _ is_feed))
    (λ other.
    let more = line_length-other b bs other in
    let inside : 0 < line_length bs =
    ⊎_elim
    (λ some. some)
    (λ none.
    let place : line_length (b ∷ bs) - 1 ≡ 0 = omega (arith, more) in
    absurd (eqb-false b 10 other (ap (λ k. get_or (b ∷ bs) k 0) (sym place) ∙ feed)))
    (cases_lt 0 (line_length bs)) in
    let place : line_length (b ∷ bs) - 1 ≡ suc (line_length bs - 1) = omega (arith, more) in
    let rest = closed_line bs after inside (ap (λ k. get_or (b ∷ bs) k 0) (sym place) ∙ feed) in
    subst (λ n. lines_of (take n (b ∷ bs) ++ after) ≡ take n (b ∷ bs) ∷ lines_of after) (sym more)
    (cond-false _ _ _ other ∙ ap (longer_first b) rest))
    (cases_Bool (eqb b 10))

abbrev head_or : List (List ℕ) → List ℕ
head_or [] = []
head_or (l ∷ ls) = l

abbrev tail_of : List (List ℕ) → List (List ℕ)
tail_of [] = []
tail_of (l ∷ ls) = ls

-- lines at the front of a text are the lines of what they make
pub lines_of-joined : (front : List (List ℕ)) (text : List ℕ) (more : List (List ℕ)) → lines_of text ≡ front ++ more
    → lines_of (joined front) ≡ front
unfolding lines_of
lines_of-joined [] text more split = refl
lines_of-joined (line ∷ lines) [] more split = absurd (cc split)
lines_of-joined (line ∷ lines) (b ∷ bs) more split =
    let text = b ∷ bs in
    let first = lines_of-first text (omega arith) in
    let both : take (line_length text) text ∷ lines_of (drop (line_length text) text) ≡ line ∷
    (lines ++ more) = sym first ∙ split in
    let line_is : take (line_length text) text ≡ line = ap head_or both in
    let rest_is : lines_of (drop (line_length text) text) ≡ lines ++ more = ap tail_of both in
    let rest = lines_of-joined lines (drop (line_length text) text) more rest_is in
    ⊎_elim
    (λ all.
    let none : lines ++ more ≡ [] = sym rest_is
    ∙ lines_of-nil (drop (line_length text) text) (omega (arith, all, length-drop (line_length text) text)) in
    let no_lines : lines ≡ [] = nil_from_length lines (omega (arith, ap length none, length-append lines more)) in
    let whole : line ≡ text = sym line_is ∙ take_all (line_length text) text (omega (arith, all)) in
    subst (λ ls. lines_of (line ++ joined ls) ≡ line ∷ ls) (sym no_lines)
    (ap lines_of (append-nil line ∙ whole) ∙ split ∙ ap (λ ls. line ∷ ls) none))
    (λ ends.
    subst (λ l. lines_of (l ++ joined lines) ≡ l ∷ lines) line_is
    (closed_line text (joined lines) ends.0 ends.1 ∙ ap (λ ls. take (line_length text) text ∷ ls) rest))
    (line_end text)

joined-push : (lines : List (List ℕ)) (line : List ℕ) → joined (lines ++ line ∷ []) ≡ joined lines ++ line
joined-push [] line = append-nil line
joined-push (l ∷ ls) line = ap (λ bs. l ++ bs) (joined-push ls line) ∙ sym (append_assoc l (joined ls) line)

list_all-push : (p : List ℕ → Bool) (lines : List (List ℕ)) (line : List ℕ) → list_all p lines ≡ true → p line ≡ true
    → list_all p (lines ++ line ∷ []) ≡ true
list_all-push p [] line all one = and_from (p line) true one refl
list_all-push p (l ∷ ls) line all one =
    let parts = and_parts (p l) (list_all p ls) all in
    and_from (p l) _ parts.0 (list_all-push p ls line parts.1 one)

-- so many lines without a heading were read, and rest is left
pub record BodySoFar (text : List ℕ) (lines : ℕ) (rest : List ℕ) : Type 0 where
  pub front : List (List ℕ)
  pub all_lines : lines_of text ≡ front ++ lines_of rest
  pub no_heading : list_all is_body_line front ≡ true
  pub count : lines ≡ length front
  pub whole : text ≡ joined front ++ rest
  pub short : lines ≤ length (joined front)

pub body_start : (text : List ℕ) → BodySoFar text 0 text
body_start text = record {
  front = [];
  all_lines = refl;
  no_heading = refl;
  count = refl;
  whole = refl;
  short = omega
      arith;
}

module _ {text : List ℕ} {lines : ℕ} {rest : List ℕ} (so_far : BodySoFar text lines rest) where
  pub body_more : (line after : List ℕ) → lines_of rest ≡ line ∷ lines_of after → rest ≡ line ++ after → 0 < length line
      → is_body_line line ≡ true → BodySoFar text (lines + 1) after
  body_more line after lines_are rest_is some plain =
      let front = so_far.front in
      let bytes = joined-push front line in
      record {
        front = front ++ line ∷ [];
        all_lines = so_far.all_lines ∙ ap (λ ls. front ++ ls) lines_are
            ∙ sym (append_assoc front (line ∷ []) (lines_of after));
        no_heading = list_all-push is_body_line front line so_far.no_heading plain;
        count = omega (arith, so_far.count, length-append front (line ∷ []));
        whole = so_far.whole ∙ ap (λ bs. joined front ++ bs) rest_is ∙ sym (append_assoc (joined front) line after)
            ∙ ap (λ bs. bs ++ after) (sym bytes);
        short = omega (arith, so_far.short, ap length bytes, length-append (joined front) line);
      }

  pub body_left : lines + length rest ≤ length text
  body_left = omega (arith, so_far.short, ap length so_far.whole, length-append (joined so_far.front) rest)

  pub body_all : (front_text rest_text : List ℕ) → front_text ≡ take (length text - length rest) text
      → rest_text ≡ drop (length text - length rest) text → ((length rest ≡ 0) ⊎ (is_heading rest ≡ true))
      → IsBody text front_text lines rest_text
  body_all front_text rest_text front_is rest_is next =
      let front = so_far.front in
      let bytes = joined front in
      let place : length text - length rest ≡ length bytes = omega
      (arith, ap length so_far.whole, length-append bytes rest) in
      let front_same : front_text ≡ bytes = front_is ∙ ap (λ n. take n text) place
      ∙ ap (take (length bytes)) so_far.whole ∙ take_at bytes rest (length bytes) refl in
      let rest_same : rest_text ≡ rest = rest_is ∙ ap (λ n. drop n text) place ∙ ap (drop (length bytes)) so_far.whole
      ∙ drop_at bytes rest (length bytes) refl in
      let lines_same : lines_of front_text ≡ front = ap lines_of front_same
      ∙ lines_of-joined front text (lines_of rest) so_far.all_lines in
      record {
        all_lines = so_far.all_lines ∙ ap (λ ls. ls ++ lines_of rest) (sym lines_same)
            ∙ ap (λ bs. lines_of front_text ++ lines_of bs) (sym rest_same);
        no_heading = ap (list_all is_body_line) lines_same ∙ so_far.no_heading;
        count = so_far.count ∙ ap length (sym lines_same);
        whole = so_far.whole ∙ ap (λ bs. bs ++ rest) (sym front_same) ∙ ap (λ bs. front_text ++ bs) (sym rest_same);
        short = omega (arith, so_far.short, ap length front_same);
        next = subst (λ bs. (length bs ≡ 0) ⊎ (is_heading bs ≡ true)) (sym rest_same) next;
      }

-- a line that a text begins with is a heading where the text is
pub is_heading-front : (line after : List ℕ) → 0 < length line → is_heading (line ++ after) ≡ is_heading line
is_heading-front [] after some = absurd (omega arith)
is_heading-front (b ∷ bs) after some = refl

joined-longer_first : (b : ℕ) (lines : List (List ℕ)) → joined (longer_first b lines) ≡ b ∷ joined lines
joined-longer_first b [] = refl
joined-longer_first b (line ∷ lines) = refl

-- the lines of a text make the text
pub joined-lines_of : (text : List ℕ) → joined (lines_of text) ≡ text
unfolding lines_of
joined-lines_of [] = refl
joined-lines_of (b ∷ bs) =
    ⊎_elim
    (λ feed. ap joined (cond-true _ _ _ feed) ∙ ap (λ l. b ∷ l) (joined-lines_of bs))
    (λ other. ap joined (cond-false _ _ _ other) ∙ joined-longer_first b (lines_of bs)
    ∙ ap (λ l. b ∷ l) (joined-lines_of bs))
    (cases_Bool (eqb b 10))
