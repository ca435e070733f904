-- The texts of reserved words and marks: ASCII, and of their own kind.
use Rattle.std.proofs.Common.{◌≡◌, ℕ, zero, suc, ◌<◌, Bool, true, false, List, [], ◌∷◌, Some, refl, ap, ◌∙◌, arith, lit<, eqb}
use Rattle.std.specs.Prelude.{nat_lt}
use Rattle.std.specs.List.{list_all}
use Rattle.std.specs.Char.{is_ascii_alphabetic, is_ascii_alphanumeric, is_ascii_digit}
use Rattle.std.specs.Str.{IsAscii}
use Rattle.std.proofs.lemmas.Bool.{and_parts, and_from, and_left, or_left, ltb-true}
use Rattle.std.proofs.lemmas.Bool.Decides.{nat_tests}
use Rattle.unicode_ident.specs.Ident.{is_xid_continue}
use Rattle.unicode_ident.proofs.IdentLemmas.{is_xid_continue-ascii}
use Rattle.ftl_tokens.specs.declared.scanner.kind.Kind.{Kind}
use Rattle.ftl_tokens.specs.declared.scanner.kind.Kind.TheVariants as kind
use Rattle.ftl_tokens.specs.scanner.Kinds.{begins_word, kind_of, kind_of_word, kind_of_mark}
use Rattle.ftl_tokens.proofs.scanner.FrontLemmas.{kind_of-word, kind_of-mark}
use Rattle.ftl_tokens.proofs.scanner.KindLemmas.{begins_word-ascii}
use Rattle.ftl_tokens.specs.reading.Reader.{IsFixed}
use Rattle.ftl_tokens.specs.writing.Written.{fixed_text}

-- each is an ASCII letter
abbrev are_letters : List ℕ → Bool
are_letters cs = list_all is_ascii_alphabetic cs

-- each is ASCII
abbrev are_ascii : List ℕ → Bool
are_ascii cs = list_all (λ c. nat_lt c 128) cs

-- the bytes are ASCII
pub ascii_from : (cs : List ℕ) → are_ascii cs ≡ true → IsAscii cs
ascii_from [] all i = omega arith
ascii_from (c ∷ cs) all zero = let first = ltb-true c 128 (and_parts _ _ all).0 in omega arith
ascii_from (c ∷ cs) all (suc i) = ascii_from cs (and_parts _ _ all).1 i

letter_begins : (c : ℕ) → is_ascii_alphabetic c ≡ true → begins_word c ≡ true
letter_begins c letter =
    let ascii : c < 128 = grind (arith, nat_tests) in
    begins_word-ascii c ascii ∙ or_left _ _ letter

letter_continues : (c : ℕ) → is_ascii_alphabetic c ≡ true → is_xid_continue c ≡ true
letter_continues c letter =
    let ascii : c < 128 = grind (arith, nat_tests) in
    let either : is_ascii_alphanumeric c ≡ true = grind (arith, nat_tests) in
    is_xid_continue-ascii c ascii ∙ or_left (is_ascii_alphanumeric c) (eqb c 95) either

letters_continue : (cs : List ℕ) → are_letters cs ≡ true → list_all is_xid_continue cs ≡ true
letters_continue [] all = refl
letters_continue (c ∷ cs) all =
    let parts = and_parts (is_ascii_alphabetic c) (are_letters cs) all in
    and_from _ _ (letter_continues c parts.0) (letters_continue cs parts.1)

-- letters are a word of the kind that they have
letters_kind : (c : ℕ) (cs : List ℕ) (kind : Kind) → are_letters (c ∷ cs) ≡ true → kind_of_word (c ∷ cs) ≡ kind
    → kind_of (c ∷ cs) ≡ Some kind
letters_kind c cs kind letters is =
    let parts = and_parts _ _ letters in
    kind_of-word (c ∷ cs) (and_from _ _ (letter_begins c parts.0) (letters_continue cs parts.1)) ∙ ap (λ k. Some k) is

-- what begins with neither a letter nor a digit is a mark of the kind that it has
mark_kind : (c : ℕ) (cs : List ℕ) (kind : Kind) → c < 128 → begins_word c ≡ false → is_ascii_digit c ≡ false
    → kind_of_mark (c ∷ cs) ≡ Some kind → kind_of (c ∷ cs) ≡ Some kind
mark_kind c cs kind ascii no_word no_digit is =
    kind_of-mark (c ∷ cs) (and_left _ _ no_word) (and_left _ _ no_digit) ∙ is

-- what is said of the text of a reserved word or a mark
pub record FixedText (kind : Kind) : Type 0 where
  pub ascii : are_ascii (fixed_text kind) ≡ true
  pub is : kind_of (fixed_text kind) ≡ Some kind

pub fixed_texts : (kind : Kind) → IsFixed kind → FixedText kind
unfolding kind_of_word kind_of_mark
fixed_texts kind.Name fixed = absurd fixed
fixed_texts kind.Number fixed = absurd fixed
fixed_texts kind.Root fixed = record { ascii = refl; is = letters_kind _ _ _ refl refl }
fixed_texts kind.Interface fixed = record { ascii = refl; is = letters_kind _ _ _ refl refl }
fixed_texts kind.Class fixed = record { ascii = refl; is = letters_kind _ _ _ refl refl }
fixed_texts kind.Inh fixed = record { ascii = refl; is = letters_kind _ _ _ refl refl }
fixed_texts kind.Syn fixed = record { ascii = refl; is = letters_kind _ _ _ refl refl }
fixed_texts kind.Input fixed = record { ascii = refl; is = letters_kind _ _ _ refl refl }
fixed_texts kind.Local fixed = record { ascii = refl; is = letters_kind _ _ _ refl refl }
fixed_texts kind.Show fixed = record { ascii = refl; is = letters_kind _ _ _ refl refl }
fixed_texts kind.SelfWord fixed = record { ascii = refl; is = letters_kind _ _ _ refl refl }
fixed_texts kind.This fixed = record { ascii = refl; is = letters_kind _ _ _ refl refl }
fixed_texts kind.Prev fixed = record { ascii = refl; is = letters_kind _ _ _ refl refl }
fixed_texts kind.Last fixed = record { ascii = refl; is = letters_kind _ _ _ refl refl }
fixed_texts kind.First fixed = record { ascii = refl; is = letters_kind _ _ _ refl refl }
fixed_texts kind.Then fixed = record { ascii = refl; is = letters_kind _ _ _ refl refl }
fixed_texts kind.Fold fixed = record { ascii = refl; is = letters_kind _ _ _ refl refl }
fixed_texts kind.From fixed = record { ascii = refl; is = letters_kind _ _ _ refl refl }
fixed_texts kind.With fixed = record { ascii = refl; is = letters_kind _ _ _ refl refl }
fixed_texts kind.Acc fixed = record { ascii = refl; is = letters_kind _ _ _ refl refl }
fixed_texts kind.If fixed = record { ascii = refl; is = letters_kind _ _ _ refl refl }
fixed_texts kind.Else fixed = record { ascii = refl; is = letters_kind _ _ _ refl refl }
fixed_texts kind.Or fixed = record { ascii = refl; is = letters_kind _ _ _ refl refl }
fixed_texts kind.Min fixed = record { ascii = refl; is = letters_kind _ _ _ refl refl }
fixed_texts kind.Max fixed = record { ascii = refl; is = letters_kind _ _ _ refl refl }
fixed_texts kind.LeftBrace fixed = record { ascii = refl; is = mark_kind _ _ _ (lit< tt) (begins_word-ascii _ (lit< tt)) refl refl }
fixed_texts kind.RightBrace fixed = record { ascii = refl; is = mark_kind _ _ _ (lit< tt) (begins_word-ascii _ (lit< tt)) refl refl }
fixed_texts kind.LeftParen fixed = record { ascii = refl; is = mark_kind _ _ _ (lit< tt) (begins_word-ascii _ (lit< tt)) refl refl }
fixed_texts kind.RightParen fixed = record { ascii = refl; is = mark_kind _ _ _ (lit< tt) (begins_word-ascii _ (lit< tt)) refl refl }
fixed_texts kind.LeftBracket fixed = record { ascii = refl; is = mark_kind _ _ _ (lit< tt) (begins_word-ascii _ (lit< tt)) refl refl }
fixed_texts kind.RightBracket fixed = record { ascii = refl; is = mark_kind _ _ _ (lit< tt) (begins_word-ascii _ (lit< tt)) refl refl }
fixed_texts kind.Semicolon fixed = record { ascii = refl; is = mark_kind _ _ _ (lit< tt) (begins_word-ascii _ (lit< tt)) refl refl }
fixed_texts kind.Colon fixed = record { ascii = refl; is = mark_kind _ _ _ (lit< tt) (begins_word-ascii _ (lit< tt)) refl refl }
fixed_texts kind.Comma fixed = record { ascii = refl; is = mark_kind _ _ _ (lit< tt) (begins_word-ascii _ (lit< tt)) refl refl }
fixed_texts kind.Dot fixed = record { ascii = refl; is = mark_kind _ _ _ (lit< tt) (begins_word-ascii _ (lit< tt)) refl refl }
fixed_texts kind.Assign fixed = record { ascii = refl; is = mark_kind _ _ _ (lit< tt) (begins_word-ascii _ (lit< tt)) refl refl }
fixed_texts kind.Equals fixed = record { ascii = refl; is = mark_kind _ _ _ (lit< tt) (begins_word-ascii _ (lit< tt)) refl refl }
fixed_texts kind.Plus fixed = record { ascii = refl; is = mark_kind _ _ _ (lit< tt) (begins_word-ascii _ (lit< tt)) refl refl }
fixed_texts kind.Minus fixed = record { ascii = refl; is = mark_kind _ _ _ (lit< tt) (begins_word-ascii _ (lit< tt)) refl refl }
fixed_texts kind.Star fixed = record { ascii = refl; is = mark_kind _ _ _ (lit< tt) (begins_word-ascii _ (lit< tt)) refl refl }
fixed_texts kind.Slash fixed = record { ascii = refl; is = mark_kind _ _ _ (lit< tt) (begins_word-ascii _ (lit< tt)) refl refl }
fixed_texts kind.Less fixed = record { ascii = refl; is = mark_kind _ _ _ (lit< tt) (begins_word-ascii _ (lit< tt)) refl refl }
fixed_texts kind.LessEq fixed = record { ascii = refl; is = mark_kind _ _ _ (lit< tt) (begins_word-ascii _ (lit< tt)) refl refl }
fixed_texts kind.More fixed = record { ascii = refl; is = mark_kind _ _ _ (lit< tt) (begins_word-ascii _ (lit< tt)) refl refl }
fixed_texts kind.MoreEq fixed = record { ascii = refl; is = mark_kind _ _ _ (lit< tt) (begins_word-ascii _ (lit< tt)) refl refl }
fixed_texts kind.EqualEqual fixed = record { ascii = refl; is = mark_kind _ _ _ (lit< tt) (begins_word-ascii _ (lit< tt)) refl refl }
fixed_texts kind.Unequal fixed = record { ascii = refl; is = mark_kind _ _ _ (lit< tt) (begins_word-ascii _ (lit< tt)) refl refl }
fixed_texts kind.AndAnd fixed = record { ascii = refl; is = mark_kind _ _ _ (lit< tt) (begins_word-ascii _ (lit< tt)) refl refl }
fixed_texts kind.OrOr fixed = record { ascii = refl; is = mark_kind _ _ _ (lit< tt) (begins_word-ascii _ (lit< tt)) refl refl }
fixed_texts kind.Bang fixed = record { ascii = refl; is = mark_kind _ _ _ (lit< tt) (begins_word-ascii _ (lit< tt)) refl refl }
