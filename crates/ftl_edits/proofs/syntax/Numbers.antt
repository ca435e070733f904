-- The values of edits are as large as the tokens allow, and there are no more edits than tokens.
use Rattle.std.proofs.Common.{ℕ, ◌≤◌, ℤ, List, [], ◌∷◌, ◌++◌, length, length-append, arith}
use Rattle.std.proofs.lemmas.Int.{ints}
use Rattle.std.proofs.lemmas.List.{length-map}
use Rattle.std.proofs.lemmas.List.Elements.{All-nil, All-cons}
use Rattle.ftl_model.specs.layout.TreeOf.{IsInput}
use Rattle.ftl_tokens.specs.declared.scanner.kind.Kind.TheVariants as kind
use Rattle.ftl_tokens.specs.scanner.Tokenized.{Tokenized, AreTokensOf, symbol_of, symbols_of, name, number, fixed}
use Rattle.ftl_tokens.specs.reading.Place.{place_of}
use Rattle.ftl_tokens.specs.reading.Reader.{Tokens, AreAtMost}
use Rattle.ftl_tokens.proofs.reading.TokenCounts.{tokens-le-place}
use Rattle.ftl_document.specs.syntax.Spelling.{SpellsNumber, plain, negative}
use Rattle.ftl_edits.specs.declared.syntax.written.WrittenEdit.{WrittenEdit}
use Rattle.ftl_edits.specs.syntax.Spelling.{SpellsEdit, SpellsEdits, edit_of, no_edits, more_edits}
use Rattle.ftl_edits.specs.syntax.Read.{AreWithin}
use Rattle.ftl_edits.proofs.syntax.Went.{some_edit}

-- ---- how large the values are

-- what holds of all tokens holds of those in front, and of those behind
at_most-front : (greatest : ℕ) (a b : Tokens) → AreAtMost greatest (a ++ b) → AreAtMost greatest a
at_most-front greatest [] b all = tt
at_most-front greatest (name x ∷ a) b all = at_most-front greatest a b all
at_most-front greatest (number n ∷ a) b all = (all.0, at_most-front greatest a b all.1)
at_most-front greatest (fixed k ∷ a) b all = at_most-front greatest a b all

at_most-back : (greatest : ℕ) (a b : Tokens) → AreAtMost greatest (a ++ b) → AreAtMost greatest b
at_most-back greatest [] b all = all
at_most-back greatest (name x ∷ a) b all = at_most-back greatest a b all
at_most-back greatest (number n ∷ a) b all = at_most-back greatest a b all.1
at_most-back greatest (fixed k ∷ a) b all = at_most-back greatest a b all

number-within : (greatest : ℕ) {a : Tokens} {n : ℤ} → SpellsNumber a n → AreAtMost greatest a → IsInput greatest n
number-within greatest (plain {n = n}) all = let few = all.0 in (omega (arith, ints, few), omega (arith, ints, few))
number-within greatest (negative {n = n}) all = let few = all.0 in (omega (arith, ints, few), omega (arith, ints, few))

edit-within : (greatest : ℕ) {a : Tokens} {x : WrittenEdit} → SpellsEdit a x → AreAtMost greatest a
    → IsInput greatest x.value
edit-within greatest (edit_of {a = a} s) all =
    number-within greatest s (at_most-front greatest a (fixed kind.Semicolon ∷ []) all.1)

pub edits-within : (greatest : ℕ) {a : Tokens} {xs : List WrittenEdit} → SpellsEdits a xs → AreAtMost greatest a
    → AreWithin greatest xs
edits-within greatest no_edits all = All-nil (λ (e : WrittenEdit). IsInput greatest e.value)
edits-within greatest (more_edits {a = a} {b = b} {x = x} {xs = xs} s t) all =
    All-cons (λ (e : WrittenEdit). IsInput greatest e.value) x xs
    (edit-within greatest s (at_most-front greatest a b all))
    (edits-within greatest t (at_most-back greatest a b all))

-- ---- how many edits there are

-- no more than tokens
edits-le-tokens : {a : Tokens} {xs : List WrittenEdit} → SpellsEdits a xs → length xs ≤ length a
edits-le-tokens no_edits = omega arith
edits-le-tokens (more_edits {a = a} {b = b} s t) =
    let some = some_edit s in
    let later = edits-le-tokens t in
    omega (arith, some, later, length-append a b)

-- and so no more than bytes up to the end of the last token
pub edits-le-end : (greatest : ℕ) (s : Tokenized) {xs : List WrittenEdit} → SpellsEdits (symbols_of s) xs
    → AreTokensOf greatest s.text 0 s.tokens → length xs ≤ place_of s.tokens (length s.tokens)
edits-le-end greatest s spells are =
    let few = edits-le-tokens spells in
    let same = length-map s.tokens (symbol_of s.text) in
    let end = tokens-le-place greatest s.text s.tokens are in
    omega (arith, few, same, end)
