-- All reserved words begin with small letters; 97 is the first of these.
use Rattle.std.proofs.Common.{◌≡◌, ℕ, ◌<◌, true, false, ◌&&◌, nat_lt, if◌then◌else◌, refl, ◌∙◌, ap, arith, List, [], ◌∷◌, get_or, Some, None, ltb-true, ne_eqb}
use Rattle.std.specs.List.{list_all}
use Rattle.std.specs.Option.{unwrap_or}
use Rattle.std.specs.Str.{bytes_eq}
use Rattle.std.proofs.lemmas.Bool.{and_parts}
use Rattle.ftl_tokens.specs.declared.scanner.kind.Kind.{Kind}
use Rattle.ftl_tokens.specs.declared.scanner.kind.Kind.TheVariants.{Name}
use Rattle.ftl_tokens.specs.scanner.Kinds.{kind_of_word, look_up, reserved_words}
use Rattle.ftl_document.specs.plain.Plain.{is_name_kind}

module _ (c : ℕ) (cs : List ℕ) (large : c < 97) where
  -- another word than one that begins with a small letter
  no_small : (text : List ℕ) → nat_lt 96 (get_or text 0 0) ≡ true → bytes_eq (c ∷ cs) text ≡ false
  no_small [] small = refl
  no_small (d ∷ ds) small =
      let above : 96 < d = ltb-true 96 d small in
      ap (λ b. b && bytes_eq cs ds) (ne_eqb c d (λ same. omega (arith, same, large, above)))

  unlisted : (table : List (List ℕ × Kind)) → list_all (λ e. nat_lt 96 (get_or e.0 0 0)) table ≡ true
      → look_up (c ∷ cs) table ≡ None
  unlisted [] small = refl
  unlisted (entry ∷ table) small =
      let parts = and_parts _ _ small in
      ap (λ b. if b then Some entry.1 else look_up (c ∷ cs) table) (no_small entry.0 parts.0)
      ∙ unlisted table parts.1

  free : kind_of_word (c ∷ cs) ≡ Name
  unfolding kind_of_word
  free = ap (λ o. unwrap_or o Name) (unlisted reserved_words refl)

empty : kind_of_word [] ≡ Name
unfolding kind_of_word
empty = refl

-- so a word that begins otherwise is a name
pub name_by_first : (word : List ℕ) → get_or word 0 0 < 97 → is_name_kind (kind_of_word word) ≡ true
name_by_first [] large = ap is_name_kind empty
name_by_first (c ∷ cs) large = ap is_name_kind (free c cs large)
