-- Each text has one answer at a tree.
use Rattle.std.proofs.Common.{◌≡◌, ◌≢◌, ◌-◌, List, length, Result, Ok, Err, refl, sym, ap, ◌∙◌, subst}
use Rattle.std.specs.Prelude.{IfOk}
use Rattle.ftl_model.specs.layout.Outcome.{Gives}
use Rattle.ftl_tokens.specs.scanner.Tokenized.{WideTokenized, symbols_of}
use Rattle.ftl_tokens.specs.reading.Place.{place_of}
use Rattle.ftl_tokens.specs.reading.Reader.{ReadResult}
use Rattle.ftl_tokens.proofs.reading.PlacesOnce.{one_place}
use Rattle.ftl_tree.specs.trees.CheckedTree.{CheckedTree}
use Rattle.ftl_edits.specs.declared.syntax.written.WrittenEdit.{WrittenEdit}
use Rattle.ftl_edits.specs.syntax.Spelling.{SpellsEdits}
use Rattle.ftl_edits.specs.syntax.Reading.{edits}
use Rattle.ftl_edits.proofs.syntax.Edits.{is_no_edits, is_spelled, one_written_list}
use Rattle.ftl_edits.specs.declared.meaning.types.Edit.{Edit}
use Rattle.ftl_edits.specs.declared.meaning.fault.EditFault.{EditFault}
use Rattle.ftl_edits.specs.declared.meaning.fault.EditFault.TheVariants as fault
use Rattle.ftl_edits.specs.meaning.Meaning.{edits_of}
use Rattle.ftl_edits.proofs.meaning.Faults.{IfErr, of_edits}
use Rattle.ftl_edits.specs.reading.Read.{AreRead, ReadsEdits}

-- an answer that is not want of memory
abbrev pub Answer : CheckedTree → WideTokenized → Type 0
Answer t s = (answer : Result (List Edit) EditFault) × (answer ≢ Err fault.OutOfMemory) × ReadsEdits t s answer

-- ---- some answer

-- what edits that are spelled stand for is the answer
answered : (t : CheckedTree) (s : WideTokenized) (r : Result (List Edit) EditFault) → IfErr r → AreRead t s r
    → (r ≢ Err fault.OutOfMemory) × ReadsEdits t s r
answered t s (Ok found) of read = ((λ memory. cc), read)
answered t s (Err (fault.Syntax at)) of read = absurd of
answered t s (Err (fault.TooMany count)) of read = ((λ memory. cc), read)
answered t s (Err (fault.UnknownNode edit)) of read = ((λ memory. cc), read)
answered t s (Err (fault.UnknownInput edit)) of read = ((λ memory. cc), read)
answered t s (Err fault.OutOfMemory) of read = absurd of

-- the same, unless memory runs out
pub given_answer : (t : CheckedTree) (s : WideTokenized) (written : List WrittenEdit) (r : Result (List Edit) EditFault)
    → SpellsEdits (symbols_of s.tokenized) written → Gives fault.OutOfMemory (λ found. found) r (edits_of t written)
    → ReadsEdits t s r
given_answer t s written r spells exact = go r exact
  where
    read : {r : Result (List Edit) EditFault} → edits_of t written ≡ r → AreRead t s r
    read e = record { written = written; spells = spells; is = sym e }

    go : (r : Result (List Edit) EditFault) → Gives fault.OutOfMemory (λ found. found) r (edits_of t written)
        → ReadsEdits t s r
    go (Ok found) exact = read exact
    go (Err (fault.Syntax at)) exact = absurd (subst IfErr (exact (λ memory. cc)) (of_edits t written))
    go (Err (fault.TooMany count)) exact = read (exact (λ memory. cc))
    go (Err (fault.UnknownNode edit)) exact = read (exact (λ memory. cc))
    go (Err (fault.UnknownInput edit)) exact = read (exact (λ memory. cc))
    go (Err fault.OutOfMemory) exact = tt

-- what holds of the edits that are given holds of the answer
pub if_given : (t : CheckedTree) (written : List WrittenEdit) (P : List Edit → Type 0)
    → ((found : List Edit) → edits_of t written ≡ Ok found → P found) → (r : Result (List Edit) EditFault)
    → Gives fault.OutOfMemory (λ found. found) r (edits_of t written) → IfOk r P
if_given t written P holds (Ok found) exact = holds found exact
if_given t written P holds (Err x) exact = tt

pub some_answer : (t : CheckedTree) (s : WideTokenized) → Answer t s
some_answer t s = by (edits (symbols_of s.tokenized)) refl
  where
    by : (given : ReadResult (List WrittenEdit)) → edits (symbols_of s.tokenized) ≡ given → Answer t s
    by (Ok (written, left)) e =
        let both =
        answered t s (edits_of t written) (of_edits t written)
        (record { written = written; spells = is_spelled (symbols_of s.tokenized) left written e; is = refl }) in
        (edits_of t written, both.0, both.1)
    by (Err rest) e =
        let at = place_of s.tokenized.tokens (length s.tokenized.tokens - length rest) in
        (Err (fault.Syntax at), (λ memory. cc), is_no_edits s.tokenized rest (length rest) at e refl refl)

-- ---- and no other

-- two lists of edits that are spelled are one
same_read : (t : CheckedTree) (s : WideTokenized) {a b : Result (List Edit) EditFault} → AreRead t s a → AreRead t s b
    → a ≡ b
same_read t s x y =
    x.is
    ∙ ap (edits_of t) (one_written_list (symbols_of s.tokenized) x.written y.written x.spells y.spells)
    ∙ sym y.is

-- a fault of the text against any other answer
against_syntax : (t : CheckedTree) (s : WideTokenized) (at : _) (b : Result (List Edit) EditFault)
    → b ≢ Err fault.OutOfMemory → ReadsEdits t s (Err (fault.Syntax at)) → ReadsEdits t s b → Err (fault.Syntax at) ≡ b
against_syntax t s at (Ok found) told x y = absurd (x.none y.written y.spells)
against_syntax t s at (Err (fault.Syntax other)) told x y = ap (λ k. Err (fault.Syntax k)) (one_place x.place y.place)
against_syntax t s at (Err (fault.TooMany count)) told x y = absurd (x.none y.written y.spells)
against_syntax t s at (Err (fault.UnknownNode edit)) told x y = absurd (x.none y.written y.spells)
against_syntax t s at (Err (fault.UnknownInput edit)) told x y = absurd (x.none y.written y.spells)
against_syntax t s at (Err fault.OutOfMemory) told x y = absurd (told refl)

-- what edits that are spelled stand for against any other answer
against_read : (t : CheckedTree) (s : WideTokenized) {a : Result (List Edit) EditFault}
    (b : Result (List Edit) EditFault) → b ≢ Err fault.OutOfMemory → AreRead t s a → ReadsEdits t s b → a ≡ b
against_read t s (Ok found) told x y = same_read t s x y
against_read t s (Err (fault.Syntax at)) told x y = absurd (y.none x.written x.spells)
against_read t s (Err (fault.TooMany count)) told x y = same_read t s x y
against_read t s (Err (fault.UnknownNode edit)) told x y = same_read t s x y
against_read t s (Err (fault.UnknownInput edit)) told x y = same_read t s x y
against_read t s (Err fault.OutOfMemory) told x y = absurd (told refl)

pub any_two_answers : (t : CheckedTree) (s : WideTokenized) (a b : Result (List Edit) EditFault)
    → a ≢ Err fault.OutOfMemory → b ≢ Err fault.OutOfMemory → ReadsEdits t s a → ReadsEdits t s b → a ≡ b
any_two_answers t s (Ok found) b ta tb x y = against_read t s b tb x y
any_two_answers t s (Err (fault.Syntax at)) b ta tb x y = against_syntax t s at b tb x y
any_two_answers t s (Err (fault.TooMany count)) b ta tb x y = against_read t s b tb x y
any_two_answers t s (Err (fault.UnknownNode edit)) b ta tb x y = against_read t s b tb x y
any_two_answers t s (Err (fault.UnknownInput edit)) b ta tb x y = against_read t s b tb x y
any_two_answers t s (Err fault.OutOfMemory) b ta tb x y = absurd (ta refl)
