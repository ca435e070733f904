-- A name before a dot, and a dot before a name, are read as they were written.
use Rattle.std.proofs.Common.{◌≡◌, ℕ, zero, suc, arith, if◌then◌else◌, Bool, true, false, not, ◌&&◌, List, [], ◌∷◌, ◌++◌, Option, Some, None, refl, sym, ◌∙◌, ap, subst, lit<, ⊎_elim}
use Rattle.std.specs.List.{list_all}
use Rattle.std.specs.Str.{bytes_eq, chars, IsAscii, IsUtf8}
use Rattle.std.proofs.lemmas.Bool.{and_left, and_parts, and_right, cases_Bool}
use Rattle.std.proofs.lemmas.Str.{chars-append, chars-IsAscii, IsUtf8-from_ascii}
use Rattle.unicode_ident.specs.Ident.{is_xid_continue}
use Rattle.unicode_ident.proofs.IdentLemmas.{is_xid_continue-ascii}
use Rattle.ftl_tokens.specs.declared.scanner.kind.Kind.{Kind}
use Rattle.ftl_tokens.specs.declared.scanner.kind.Kind.TheVariants.{Name}
use Rattle.ftl_tokens.specs.scanner.Kinds.{begins_word, is_number, is_word, kind_of, kind_of_mark, look_up, marks}
use Rattle.ftl_tokens.proofs.scanner.FrontLemmas.{kind_of-mark, kind_of-nil, kind_of-number, kind_of-word}
use Rattle.ftl_tokens.proofs.scanner.KindLemmas.{begins_text-word, begins_word-ascii, kind_of_mark-text, word_begins_no_number}
use Rattle.ftl_tokens.specs.writing.Written.{StandsApart}

-- whether a kind is another one than that of names
abbrev pub is_other : Kind → Bool
is_other Name = false
is_other _ = true

-- whether all of a table are
abbrev pub are_other : List (List ℕ × Kind) → Bool
are_other [] = true
are_other (entry ∷ entries) = is_other entry.1 && are_other entries

pub look_up-other : (text : List ℕ) (entries : List (List ℕ × Kind)) → are_other entries ≡ true → look_up text entries ≡ Some Name → ⊥
look_up-other text [] other found = cc
look_up-other text (entry ∷ entries) other found =
    by (look_up-other text entries (and_parts (is_other entry.1) (are_other entries) other).1)
    (bytes_eq text entry.0) found
  where
    none : (k : Kind) → is_other k ≡ true → Some k ≡ Some Name → ⊥
    none k e f = (let same : k ≡ Name = cc in let wrong : is_other Name ≡ true = subst (λ x. is_other x ≡ true) same e in cc)

    by : (look_up text entries ≡ Some Name → ⊥) → (b : Bool)
        → (if b then Some entry.1 else look_up text entries) ≡ Some Name → ⊥
    by again true e = none entry.1 (and_parts (is_other entry.1) (are_other entries) other).0 e
    by again false e = again e

-- a name begins as words do
pub name_begins : (d : ℕ) (ds : List ℕ) → kind_of (d ∷ ds) ≡ Some Name → begins_word d ≡ true
unfolding kind_of_mark
name_begins d ds is =
    ⊎_elim (λ word. (and_parts (begins_word d) (list_all is_xid_continue ds) word).0)
    (λ no_word.
    ⊎_elim
    (λ digits. absurd (let wrong = sym (kind_of-number (d ∷ ds) no_word digits) ∙ is in cc))
    (λ no_number.
    absurd (look_up-other (d ∷ ds) marks refl (sym (kind_of-mark (d ∷ ds) no_word no_number) ∙ is)))
    (cases_Bool (is_number (d ∷ ds))))
    (cases_Bool (is_word (d ∷ ds)))

-- a test that fails at the end of a list does not hold of each
pub fails_last : (p : ℕ → Bool) (xs : List ℕ) (c : ℕ) → p c ≡ false → list_all p (xs ++ (c ∷ [])) ≡ false
fails_last p [] c stops = and_left (p c) true stops
fails_last p (x ∷ xs) c stops = and_right (p x) (list_all p (xs ++ (c ∷ []))) (fails_last p xs c stops)

-- a dot does not go on a name; 46 is `.`
pub name_then_dot : (text : List ℕ) → kind_of text ≡ Some Name → kind_of (text ++ (46 ∷ [])) ≡ None
name_then_dot [] is = absurd (let wrong = sym kind_of-nil ∙ is in cc)
name_then_dot (d ∷ ds) is =
    let begins = name_begins d ds is in
    kind_of-mark (d ∷ (ds ++ (46 ∷ [])))
    (and_right (begins_word d) (list_all is_xid_continue (ds ++ (46 ∷ []))) (fails_last is_xid_continue ds 46 (is_xid_continue-ascii 46 (lit< tt))))
    (and_left _ _ (word_begins_no_number d begins))
    ∙ kind_of_mark-text d (ds ++ (46 ∷ [])) (begins_text-word d begins)

-- no character goes on a dot
pub dot_then : (c : ℕ) → kind_of (46 ∷ c ∷ []) ≡ None
unfolding kind_of_mark
dot_then c = kind_of-mark (46 ∷ c ∷ []) (and_left _ _ (begins_word-ascii 46 (lit< tt))) refl

pub dot_is_ascii : IsAscii (46 ∷ [])
dot_is_ascii zero = lit< tt
dot_is_ascii (suc i) = omega arith

-- the characters of a text that begins with a dot
pub dot_first : (rest : List ℕ) → chars (46 ∷ rest) ≡ 46 ∷ chars rest
dot_first rest =
    chars-append (46 ∷ []) rest (IsUtf8-from_ascii (46 ∷ []) dot_is_ascii)
    ∙ ap (λ l. l ++ chars rest) (chars-IsAscii (46 ∷ []) dot_is_ascii)

-- the name stands apart from the dot behind it
pub name_apart : (text rest : List ℕ) → kind_of (chars text) ≡ Some Name → StandsApart (chars text) (chars (46 ∷ rest))
name_apart text rest is = subst (StandsApart (chars text)) (sym (dot_first rest)) (name_then_dot (chars text) is)

-- the dot stands apart from the name behind it
pub dot_apart : (text rest : List ℕ) → IsUtf8 text → StandsApart (chars (46 ∷ [])) (chars (text ++ rest))
dot_apart text rest utf8 =
    subst (λ l. StandsApart l (chars (text ++ rest))) (sym (chars-IsAscii (46 ∷ []) dot_is_ascii)) (by (chars (text ++ rest)))
  where
    by : (cs : List ℕ) → StandsApart (46 ∷ []) cs
    by [] = tt
    by (c ∷ cs) = dot_then c
