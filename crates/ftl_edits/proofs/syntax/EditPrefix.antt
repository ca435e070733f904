-- The readers of edits keep the correct prefix: `x_prefix` of the reader `x`.
use Rattle.std.proofs.Common.{ℕ, pos, neg_ℤ, List, [], ◌∷◌, ◌++◌, Option, Some, refl, sym, subst, append-nil}
use Rattle.ftl_tokens.specs.declared.scanner.kind.Kind.{Kind}
use Rattle.ftl_tokens.specs.declared.scanner.kind.Kind.TheVariants as kind
use Rattle.ftl_tokens.specs.scanner.Tokenized.{name, number, fixed}
use Rattle.ftl_tokens.specs.reading.Reader.{Tokens, push}
use Rattle.ftl_tokens.proofs.reading.KeptPrefix.{KeepsPrefix, KeepsPrefixAt, After, example, bind_prefix, map_prefix}
use Rattle.ftl_tokens.proofs.reading.KeptPrefix.{pure_prefix}
use Rattle.ftl_tokens.proofs.reading.KeptPrefix.{look_prefix, at_any}
use Rattle.ftl_tokens.proofs.reading.TokenPrefix.{past_prefix, name_prefix, number_prefix, end_prefix, at_end_prefix}
use Rattle.ftl_tokens.proofs.reading.TokenPrefix.{skip_prefix}
use Rattle.ftl_tokens.proofs.reading.ChainPrefix.{OrNone, Chain, chain_prefix, chain_spells}
use Rattle.ftl_document.specs.syntax.Spelling.{SpellsNumber, plain, negative}
use Rattle.ftl_edits.specs.declared.syntax.written.WrittenEdit.{WrittenEdit}
use Rattle.ftl_edits.specs.syntax.Written.{NameText, written_edit}
use Rattle.ftl_edits.specs.syntax.Spelling.{SpellsEdit, SpellsEdits, edit_of, no_edits, more_edits}
use Rattle.ftl_edits.specs.syntax.Reading.{value_by, value, edit, more_edit_by, more_edit, edits}

value_prefix : KeepsPrefix SpellsNumber value
unfolding value
value_prefix = look_prefix value_by each
  where
    each : (k : Option Kind) → KeepsPrefixAt k SpellsNumber (value_by k)
    each (Some kind.Minus) =
        skip_prefix kind.Minus tt
        (number_prefix (λ n. example [] (neg_ℤ (pos n)) negative) (λ n. pure_prefix negative))
    each _ = at_any (number_prefix (λ n. example [] (pos n) plain) (λ n. pure_prefix plain))

-- what stands after the `=` of an edit
abbrev AfterName : ℕ → NameText → Tokens → WrittenEdit → Type 0
AfterName node x = After (number node ∷ fixed kind.Dot ∷ name x ∷ fixed kind.Equals ∷ []) SpellsEdit

edit_prefix : KeepsPrefix SpellsEdit edit
unfolding edit
edit_prefix =
    number_prefix
    (λ node. example (fixed kind.Dot ∷ name [] ∷ fixed kind.Equals ∷ number 0 ∷ fixed kind.Semicolon ∷ [])
    (written_edit node [] (pos 0)) (edit_of plain))
    (λ node. past_prefix kind.Dot
    (example (name [] ∷ fixed kind.Equals ∷ number 0 ∷ fixed kind.Semicolon ∷ []) (written_edit node [] (pos 0))
    (edit_of plain))
    (name_prefix
    (λ x. example (fixed kind.Equals ∷ number 0 ∷ fixed kind.Semicolon ∷ []) (written_edit node x (pos 0))
    (edit_of plain))
    (λ x. past_prefix kind.Equals
    (example (number 0 ∷ fixed kind.Semicolon ∷ []) (written_edit node x (pos 0)) (edit_of plain))
    (bind_prefix value_prefix
    (λ a n s. example (fixed kind.Semicolon ∷ []) (written_edit node x n) (edit_of s))
    (λ a n s. end_prefix kind.Semicolon (written_edit node x n) (edit_of s))))))

pub more_edit_prefix : KeepsPrefix (OrNone SpellsEdit) more_edit
unfolding more_edit
more_edit_prefix = look_prefix more_edit_by each
  where
    each : (k : Option Kind) → KeepsPrefixAt k (OrNone SpellsEdit) (more_edit_by k)
    each (Some kind.Number) = at_any (map_prefix Some edit_prefix (λ a x s. s))
    each _ = at_any (pure_prefix refl)

-- edits and nothing more
whole : (a : Tokens) (xs : List WrittenEdit) → Chain push SpellsEdit [] a xs → SpellsEdits (a ++ []) xs
whole a xs all =
    subst (λ l. SpellsEdits l xs) (sym (append-nil a))
    (chain_spells SpellsEdits no_edits (λ a b x xs s t. more_edits s t) all)

pub edits_prefix : KeepsPrefix SpellsEdits edits
unfolding edits
edits_prefix =
    bind_prefix (chain_prefix more_edit_prefix [])
    (λ a xs all. example [] xs (whole a xs all))
    (λ a xs all. at_end_prefix xs (whole a xs all))
