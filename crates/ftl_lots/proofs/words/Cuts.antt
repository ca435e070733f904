-- Words in parts: where the word of a place lies, and parts beside parts.
use Rattle.std.proofs.Common.{zero, suc, ◌≡◌, ℕ, ◌+◌, ◌*◌, ◌<◌, ◌≤◌, ◌⊎◌, inl, inr, ⊎_elim, List, [], ◌∷◌, ◌++◌, length, get_or, min, set, ◌-◌, refl, sym, ap, subst, ◌∙◌, arith, length-append}
use Rattle.std.proofs.Math.Nat.{mul-zero, suc-mul, zero-mul}
use Rattle.std.proofs.lemmas.List.{append_assoc, get_or_append_left, get_or-append-add, length-set, set-append_left, set-append_right}
use Rattle.std.specs.Vec.{vec_capacity}
use Rattle.ftl_lots.specs.words.Parts.{HaveRoom, IsCut, IsCutInto, Part, all_words}

-- so many parts have no more words than this
pub at_most : (size : ℕ) (ps : List Part) → IsCut size ps → length (all_words ps) ≤ length ps * size
at_most size [] cut = omega arith
at_most size (p ∷ ps) cut =
    omega (
      arith,
      length-append p.items (all_words ps),
      cut.0,
      at_most size ps cut.2,
      suc-mul (length ps) size,
    )

-- where more words come, a part is full
full_before : (size : ℕ) (p : Part) (ps : List Part) → IsCut size (p ∷ ps) → length p.items < length (all_words (p ∷ ps))
    → length p.items ≡ size
full_before size p ps cut more =
    ⊎_elim (λ full. full)
    (λ (none : length (all_words ps) ≡ 0). absurd (omega (arith, none, more, length-append p.items (all_words ps)))) cut.1

-- a word within the size of a part lies in it
inside_first : (size d : ℕ) (p : Part) (ps : List Part) → IsCut size (p ∷ ps) → d < size
    → d < length (all_words (p ∷ ps)) → d < length p.items
inside_first size d p ps cut less near =
    ⊎_elim (λ (full : length p.items ≡ size). omega (arith, full, less))
    (λ (none : length (all_words ps) ≡ 0). omega (arith, none, near, length-append p.items (all_words ps))) cut.1

-- the place of a word behind the first part
behind_first : (size k d : ℕ) (p : Part) (ps : List Part) → IsCut size (p ∷ ps)
    → suc k * size + d < length (all_words (p ∷ ps)) → suc k * size + d ≡ length p.items + (k * size + d)
behind_first size k d p ps cut near =
    let full = full_before size p ps cut (omega (arith, cut.0, near, suc-mul k size)) in
    omega (arith, full, suc-mul k size)

-- where words are, parts have a size
pub sized : (size place : ℕ) (ps : List Part) → IsCut size ps → place < length (all_words ps) → 0 < size
sized zero place ps cut near = absurd (omega (arith, near, at_most zero ps cut, mul-zero (length ps)))
sized (suc n) place ps cut near = omega arith

-- the part of a word is there
pub part_there : (size k d : ℕ) (ps : List Part) → IsCut size ps → k * size + d < length (all_words ps)
    → k < length ps
part_there size k d [] cut near = absurd (omega (arith, near))
part_there size zero d (p ∷ ps) cut near = omega arith
part_there size (suc k) d (p ∷ ps) cut near =
    let at = behind_first size k d p ps cut near in
    let rest = part_there size k d ps cut.2 (omega (arith, at, near, length-append p.items (all_words ps))) in
    omega (arith, rest)

-- and the word lies in it
pub in_part : (size k d : ℕ) (ps : List Part) (q : Part) → IsCut size ps → d < size
    → k * size + d < length (all_words ps) → (d < length (get_or ps k q).items)
    × (get_or (all_words ps) (k * size + d) 0 ≡ get_or (get_or ps k q).items d 0)
in_part size k d [] q cut less near = absurd (omega (arith, near))
in_part size zero d (p ∷ ps) q cut less near =
    let at : d ≡ 0 * size + d = omega arith in
    let inside = inside_first size d p ps cut less (omega (arith, near)) in (
      inside,
      subst (λ y. get_or (p.items ++ all_words ps) y 0 ≡ get_or p.items d 0) at
          (get_or_append_left p.items (all_words ps) 0 d inside),
    )
in_part size (suc k) d (p ∷ ps) q cut less near =
    let at = behind_first size k d p ps cut near in
    let rest = in_part size k d ps q cut.2 less (omega (arith, at, near, length-append p.items (all_words ps))) in (
      rest.0,
      subst (λ y. get_or (p.items ++ all_words ps) y 0 ≡ get_or (get_or ps k q).items d 0) (sym at)
          (get_or-append-add p.items (all_words ps) (k * size + d) 0 ∙ rest.1),
    )

-- a word set anew in its part
pub set_in_part : (size k d w : ℕ) (ps : List Part) (q new : Part) → IsCut size ps → d < size
    → k * size + d < length (all_words ps) → new.items ≡ set (get_or ps k q).items d w
    → (all_words (set ps k new) ≡ set (all_words ps) (k * size + d) w) × IsCut size (set ps k new)
set_in_part size k d w [] q new cut less near is = absurd (omega (arith, near))
set_in_part size zero d w (p ∷ ps) q new cut less near is =
    let at : d ≡ 0 * size + d = omega arith in
    let inside = inside_first size d p ps cut less (omega (arith, near)) in
    let same : length new.items ≡ length p.items = ap length is ∙ length-set p.items d w in (
      subst (λ y. new.items ++ all_words ps ≡ set (p.items ++ all_words ps) y w) at
          (ap (λ xs. xs ++ all_words ps) is ∙ sym (set-append_left p.items (all_words ps) d w inside)),
      (
        omega (arith, same, cut.0),
        ⊎_elim (λ (full : length p.items ≡ size). inl (same ∙ full)) (λ none. inr none) cut.1,
        cut.2,
      ),
    )
set_in_part size (suc k) d w (p ∷ ps) q new cut less near is =
    let at = behind_first size k d p ps cut near in
    let rest = set_in_part size k d w ps q new cut.2 less
    (omega (arith, at, near, length-append p.items (all_words ps))) is in
    let past : (length p.items + (k * size + d)) - length p.items ≡ k * size + d = omega arith in
    let count : length (all_words (set ps k new)) ≡ length (all_words ps) =
    ap length rest.0 ∙ length-set (all_words ps) (k * size + d) w in (
      subst (λ y. p.items ++ all_words (set ps k new) ≡ set (p.items ++ all_words ps) y w) (sym at)
          (ap (λ xs. p.items ++ xs) rest.0
          ∙ sym (set-append_right p.items (all_words ps) (length p.items) (length p.items + (k * size + d)) w refl
          (omega arith) ∙ ap (λ y. p.items ++ set (all_words ps) y w) past)),
      (
        cut.0,
        ⊎_elim (λ full. inl full) (λ (none : length (all_words ps) ≡ 0). inr (count ∙ none)) cut.1,
        rest.1,
      ),
    )

-- ---- parts beside parts

pub words-append : (ps qs : List Part) → all_words (ps ++ qs) ≡ all_words ps ++ all_words qs
words-append [] qs = refl
words-append (p ∷ ps) qs =
    ap (λ xs. p.items ++ xs) (words-append ps qs) ∙ sym (append_assoc p.items (all_words ps) (all_words qs))

pub cut-append : (size : ℕ) (ps qs : List Part) → IsCut size ps → IsCut size qs
    → (length (all_words ps) ≡ length ps * size) ⊎ (length (all_words qs) ≡ 0) → IsCut size (ps ++ qs)
cut-append size [] qs cut after or = after
cut-append size (p ∷ ps) qs cut after or =
    let n = length-append p.items (all_words ps) in
    let both : length (all_words (ps ++ qs)) ≡ length (all_words ps) + length (all_words qs) =
    ap length (words-append ps qs) ∙ length-append (all_words ps) (all_words qs) in (
      cut.0,
      ⊎_elim
          (λ (all : length (all_words (p ∷ ps)) ≡ length (p ∷ ps) * size).
          inl (omega (arith, n, all, cut.0, at_most size ps cut.2, suc-mul (length ps) size)))
          (λ (none : length (all_words qs) ≡ 0). ⊎_elim (λ full. inl full)
          (λ (last : length (all_words ps) ≡ 0). inr (omega (arith, both, none, last))) cut.1) or,
      cut-append size ps qs cut.2 after (⊎_elim
          (λ (all : length (all_words (p ∷ ps)) ≡ length (p ∷ ps) * size).
          inl (omega (arith, n, all, cut.0, at_most size ps cut.2, suc-mul (length ps) size)))
          (λ none. inr none) or),
    )

-- the words of both
pub both_words : (xs ps qs : List Part) → xs ≡ ps ++ qs → all_words xs ≡ all_words ps ++ all_words qs
both_words xs ps qs is = ap all_words is ∙ words-append ps qs

pub both_count : (xs ps qs : List Part) → xs ≡ ps ++ qs
    → length (all_words xs) ≡ length (all_words ps) + length (all_words qs)
both_count xs ps qs is = ap length (both_words xs ps qs is) ∙ length-append (all_words ps) (all_words qs)

-- where all have room, those of each half have
pub room_left : (size : ℕ) (xs ps qs : List Part) → xs ≡ ps ++ qs → HaveRoom size xs → HaveRoom size ps
room_left size xs ps qs is room k d l =
    subst (λ (p : Part). size ≤ vec_capacity p) (get_or_append_left ps qs d k l)
    ((subst (HaveRoom size) is room) k d (omega (arith, l, length-append ps qs)))

pub room_right : (size : ℕ) (xs ps qs : List Part) → xs ≡ ps ++ qs → HaveRoom size xs → HaveRoom size qs
room_right size xs ps qs is room k d l =
    subst (λ (p : Part). size ≤ vec_capacity p) (get_or-append-add ps qs k d)
    ((subst (HaveRoom size) is room) (length ps + k) d (omega (arith, l, length-append ps qs)))

-- words that are cut in two, each cut into parts
pub both_cut : (size : ℕ) (words xs ys : List ℕ) (n k : ℕ) (ps qs : List Part) → words ≡ xs ++ ys
    → (length xs ≡ n * size) ⊎ (length ys ≡ 0) → IsCutInto size xs n ps → IsCutInto size ys k qs
    → IsCutInto size words (n + k) (ps ++ qs)
both_cut size words xs ys n k ps qs is or left right = record {
  count_is = omega (arith, length-append ps qs, left.count_is, right.count_is);
  words_are = words-append ps qs ∙ ap (λ zs. zs ++ all_words qs) left.words_are
      ∙ ap (λ zs. xs ++ zs) right.words_are ∙ sym is;
  cut = cut-append size ps qs left.cut right.cut (⊎_elim
      (λ (full : length xs ≡ n * size). inl (ap length left.words_are ∙ full ∙ ap (λ m. m * size) (sym left.count_is)))
      (λ (none : length ys ≡ 0). inr (ap length right.words_are ∙ none)) or);
}

-- ---- where words are cut in two

pub plus_mul : (a b c : ℕ) → (a + b) * c ≡ a * c + b * c
plus_mul zero b c =
    let same : zero + b ≡ b = omega arith in
    omega (arith, ap (λ n. n * c) same, zero-mul c)
plus_mul (suc a) b c =
    let same : suc a + b ≡ suc (a + b) = omega arith in
    omega (arith, ap (λ n. n * c) same, suc-mul (a + b) c, suc-mul a c, plus_mul a b c)

below_or : (i j : ℕ) → (i ≤ j) ⊎ (j ≤ i)
below_or zero j = inl (omega arith)
below_or (suc i) zero = inr (omega arith)
below_or (suc i) (suc j) =
    ⊎_elim (λ (less : i ≤ j). inl (omega (arith, less))) (λ (more : j ≤ i). inr (omega (arith, more))) (below_or i j)

-- the least of two is one of them
pub least_is : (a b c m : ℕ) → m ≡ min (min a b) c → c ≤ b → (m ≡ a) ⊎ (m ≡ c)
least_is a b c m is within =
    ⊎_elim (λ (less : a ≤ c). inl (omega (arith, is, less, within)))
    (λ (more : c ≤ a). inr (omega (arith, is, more, within))) (below_or a c)
