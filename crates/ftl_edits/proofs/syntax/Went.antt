-- What spells edits is read whole: `x_went` by the reader `x`. No brackets nest here, so none are counted.
use Rattle.std.proofs.Common.{◌≡◌, ℕ, ℤ, pos, neg_ℤ, ◌<◌, List, [], ◌∷◌, ◌++◌, length, Option, Some, None, refl, sym}
use Rattle.std.proofs.Common.{ap}
use Rattle.std.proofs.Common.{append_assoc, append-nil, arith}
use Rattle.ftl_tokens.specs.declared.scanner.kind.Kind.{Kind}
use Rattle.ftl_tokens.specs.declared.scanner.kind.Kind.TheVariants as kind
use Rattle.ftl_tokens.specs.scanner.Tokenized.{fixed}
use Rattle.ftl_tokens.specs.reading.Reader.{Tokens, Reader, ◌>>=◌, ◌>>◌, pure, next_kind, expect, take_name, at_end}
use Rattle.ftl_tokens.specs.reading.Reader.{push}
use Rattle.ftl_tokens.proofs.reading.ChainPrefix.{Chain, chain_none, chain_more}
use Rattle.ftl_tokens.proofs.reading.Went.{got, Went, went_bind, went_map, went_pure, went_past, went_skip, went_name}
use Rattle.ftl_tokens.proofs.reading.Went.{went_by}
use Rattle.ftl_tokens.proofs.reading.Went.{went_at, went_number}
use Rattle.ftl_tokens.proofs.reading.ChainWent.{CompleteItem, chain_went}
use Rattle.ftl_document.specs.syntax.Spelling.{SpellsNumber, plain, negative}
use Rattle.ftl_edits.specs.declared.syntax.written.WrittenEdit.{WrittenEdit}
use Rattle.ftl_edits.specs.syntax.Written.{written_edit}
use Rattle.ftl_edits.specs.syntax.Spelling.{SpellsEdit, SpellsEdits, edit_of, no_edits, more_edits}
use Rattle.ftl_edits.specs.syntax.Reading.{value_by, value, edit, more_edit_by, more_edit, edits}

-- no bracket is counted
abbrev pub no_peak : Tokens → ℕ
no_peak ts = 0

-- what is read whole, with these tokens left
abbrev pub Whole : {A : Type 0} → Reader A → Tokens → A → Tokens → Type 0
Whole p ts x rest = Went no_peak p ts x rest 1

small : (ts : Tokens) → no_peak ts < 1
small ts = omega arith

-- whether the next token goes on with one more edit
abbrev pub part : Option Kind → ℕ
part (Some kind.Number) = 1
part _ = 0

-- it doesn't
abbrev pub Ends : Tokens → Type 0
Ends rest = part (next_kind rest) < 1

more_other : (k : Option Kind) → part k < 1 → more_edit_by k ≡ pure None
more_other (Some kind.Number) e = absurd (omega arith)
more_other _ e = refl

value_went : {a : Tokens} {n : ℤ} → SpellsNumber a n → (rest : Tokens) → Whole value (a ++ rest) n rest
unfolding value next_kind
value_went (plain {n = m}) rest = went_by value_by refl (went_number (λ l. pure (pos l)) (went_pure (small rest)))
value_went (negative {n = m}) rest =
    went_by value_by refl (went_skip (went_number (λ l. pure (neg_ℤ (pos l))) (went_pure (small rest))))

-- an edit, by what stands after its `=`
edit_went : {a : Tokens} {x : WrittenEdit} → SpellsEdit a x → (rest : Tokens) → Whole edit (a ++ rest) x rest
unfolding edit
edit_went (edit_of {node = node} {x = x} {a = a} {n = n} s) rest =
    went_number
    (λ m. expect kind.Dot >> (take_name >>= (λ y. expect kind.Equals >> (value >>= (λ k. expect kind.Semicolon
    >> pure (written_edit m y k))))))
    (went_past kind.Dot
    (went_name
    (λ y. expect kind.Equals >> (value >>= (λ k. expect kind.Semicolon >> pure (written_edit node y k))))
    (went_past kind.Equals
    (went_at (append_assoc a (fixed kind.Semicolon ∷ []) rest)
    (went_bind (λ k. expect kind.Semicolon >> pure (written_edit node x k))
    (value_went s (fixed kind.Semicolon ∷ rest))
    (λ few. went_past kind.Semicolon (went_pure (small rest))))))))

more_edit_went : {a : Tokens} {x : WrittenEdit} → SpellsEdit a x → (rest : Tokens)
    → Whole more_edit (a ++ rest) (Some x) rest
unfolding more_edit next_kind
more_edit_went (edit_of s) rest = went_by more_edit_by refl (went_map Some (edit_went (edit_of s) rest))

more_edit_stops : (rest : Tokens) → Ends rest → more_edit rest ≡ got None rest
unfolding more_edit
more_edit_stops rest e = ap (λ p. p rest) (more_other (next_kind rest) e)

pub some_edit : {a : Tokens} {x : WrittenEdit} → SpellsEdit a x → 0 < length a
some_edit (edit_of s) = omega arith

list_went : CompleteItem no_peak 1 Ends (λ rest. Unit {0}) SpellsEdit more_edit
list_went = record {
  found = λ s rest follows few. more_edit_went s rest;
  stops = more_edit_stops;
  begins = λ s rest. tt;
  ends = λ rest e. tt;
  some = some_edit;
}

edits_chain : (found : List WrittenEdit) {a : Tokens} {xs : List WrittenEdit} → SpellsEdits a xs
    → Chain push SpellsEdit found a (found ++ xs)
edits_chain found no_edits = chain_none found
edits_chain found (more_edits {a = a} {b = b} {x = x} {xs = xs} s t) =
    chain_more a b x xs s (edits_chain (push found x) t)

-- edits are read to their end
pub edits_went : {a : Tokens} {xs : List WrittenEdit} → SpellsEdits a xs → Whole edits a xs []
unfolding edits next_kind at_end
edits_went {a} {xs} s =
    went_at (sym (append-nil a))
    (went_bind (λ ys. at_end >> pure ys)
    (chain_went list_went (edits_chain [] s) [] (omega arith) (small (a ++ [])))
    (λ few. record { reads = refl; small = small [] }))
