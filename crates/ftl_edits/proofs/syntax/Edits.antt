-- What the reader of edits answers, in the words of the syntax.
use Rattle.std.proofs.Common.{◌≡◌, ℕ, ◌-◌, ◌<◌, List, [], ◌++◌, length, Ok, Err, sym}
use Rattle.std.proofs.Common.{ap, ◌∙◌, subst, append-nil, arith}
use Rattle.ftl_tokens.specs.scanner.Tokenized.{Tokenized, symbols_of}
use Rattle.ftl_tokens.specs.reading.Reader.{Tokens, chain_of, push}
use Rattle.ftl_tokens.specs.reading.Place.{place_of}
use Rattle.ftl_tokens.proofs.reading.KeptPrefix.{Taken, HasPrefix, Grown}
use Rattle.ftl_tokens.proofs.reading.Places.{Placed, none_spelled, longest_front, is_place}
use Rattle.ftl_tokens.proofs.reading.WholeLists.{ReadsAll, bind_reads_all, end_reads_all, same_value}
use Rattle.ftl_edits.specs.declared.syntax.written.WrittenEdit.{WrittenEdit}
use Rattle.ftl_edits.specs.syntax.Spelling.{SpellsEdits}
use Rattle.ftl_edits.specs.syntax.Reading.{more_edit, edits}
use Rattle.ftl_edits.specs.syntax.Read.{IsNoEdits}
use Rattle.ftl_edits.proofs.syntax.EditPrefix.{edits_prefix}
use Rattle.ftl_edits.proofs.syntax.Went.{no_peak, edits_went}
use Rattle.ftl_edits.proofs.syntax.OneAhead.{edits_alike}

-- no tokens spell two lists of edits
pub one_written_list : (tokens : Tokens) (xs ys : List WrittenEdit) → SpellsEdits tokens xs → SpellsEdits tokens ys
    → xs ≡ ys
one_written_list tokens xs ys a b = same_value (edits_went a).reads (edits_went b).reads

-- ---- what the reader answers

edits_read_all : ReadsAll edits
unfolding edits
edits_read_all = bind_reads_all (chain_of push more_edit []) (λ (xs : List WrittenEdit). end_reads_all xs)

-- what is read is spelled
pub is_spelled : (tokens left : Tokens) (xs : List WrittenEdit) → edits tokens ≡ Ok (xs, left) → SpellsEdits tokens xs
is_spelled tokens left xs e =
    let none_left = edits_read_all.none_left tokens left xs e in
    let taken : Taken SpellsEdits tokens xs left =
    subst (λ o. HasPrefix SpellsEdits o tokens) e (edits_prefix.keeps tokens) in
    let whole : tokens ≡ taken.front = taken.split ∙ ap (λ l. taken.front ++ l) none_left ∙ append-nil taken.front in
    subst (λ l. SpellsEdits l xs) (sym whole) taken.spells

-- the reader looks one token ahead, and reads all that is spelled
placed : Placed SpellsEdits no_peak 1 1 edits (λ k. edits)
placed = record { alike = λ k. edits_alike; reads = λ spells k few. (edits_went spells).reads }

few : (ts : Tokens) → no_peak ts < 1
few ts = omega arith

-- where the reader refuses a token, no edits are spelled, and the tokens go wrong there
pub is_no_edits : (scanned : Tokenized) (rest : Tokens) (left at : ℕ) → edits (symbols_of scanned) ≡ Err rest
    → left ≡ length rest → at ≡ place_of scanned.tokens (length scanned.tokens - left) → IsNoEdits scanned at
is_no_edits scanned rest left at e count place =
    let tokens = symbols_of scanned in
    let grown : Grown SpellsEdits tokens rest =
    subst (λ o. HasPrefix SpellsEdits o tokens) e (edits_prefix.keeps tokens) in
    record {
      none = λ xs spells. none_spelled placed tokens rest xs (few tokens) e grown spells;
      place = is_place rest (longest_front placed tokens rest (few tokens) e grown) left count place;
    }
