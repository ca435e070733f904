-- A scan of a written text, token by token.
use Rattle.std.proofs.Common.{◌≡◌, ℕ, zero, suc, ◌+◌, ◌-◌, ◌<◌, ◌≤◌, Bool, true, false, eqb, List, [], ◌∷◌, ◌++◌, length}
use Rattle.std.proofs.Common.{take, drop, map, Some, None, Ok, sym, refl, ap, ◌∙◌, ⊎_elim, arith}
use Rattle.std.proofs.Common.{length-append, append_assoc}
use Rattle.std.specs.Fmt.{decimal}
use Rattle.std.specs.Option.{is_some}
use Rattle.std.specs.List.{list_all, prefix_len, slice_range}
use Rattle.std.specs.Char.{is_ascii_digit, len_utf8}
use Rattle.std.specs.Str.{chars, IsUtf8, IsAscii}
use Rattle.std.specs.Str.Parse.{digits_value}
use Rattle.std.proofs.lemmas.Bool.{cond-true, cond-false, cases_Bool, cases_lt, false_from_ne_true, eqb-true, and_parts}
use Rattle.std.proofs.lemmas.Bool.{le-ltb, and_left, false≢true}
use Rattle.std.proofs.lemmas.Fmt.{decimal_is_IsNumeral, IsAscii-decimal, decimal_nonempty}
use Rattle.std.proofs.lemmas.List.{take_at, drop_at}
use Rattle.std.proofs.lemmas.Str.{chars-append, chars-IsAscii, encodes-chars, IsUtf8-from_ascii}
use Rattle.ftl_tokens.specs.declared.scanner.kind.Kind.{Kind}
use Rattle.ftl_tokens.specs.declared.scanner.kind.Kind.TheVariants.{Name, Number}
use Rattle.ftl_tokens.specs.declared.scanner.kind.Token.{Token}
use Rattle.ftl_tokens.specs.scanner.Kinds.{is_number, kind_of}
use Rattle.ftl_tokens.specs.scanner.Scan.{is_white_space, byte_length, last_passing, longest_token, gap, token}
use Rattle.ftl_tokens.specs.scanner.Scan.{token_if, token_front, front_of, is_too_large, followed_by, scan_front, scan_from, scan}
use Rattle.ftl_tokens.specs.scanner.Tokenized.{Symbol, name, number, fixed, symbol, symbol_of, kind_of_symbol}
use Rattle.ftl_tokens.specs.scanner.Piece.{Spans}
use Rattle.ftl_tokens.proofs.scanner.FrontLemmas.{kind_of-nil, kind_of-number}
use Rattle.ftl_tokens.proofs.scanner.KindLemmas.{digit_begins_no_word}
use Rattle.ftl_tokens.proofs.scanner.NumberLemmas.{numerals}
use Rattle.ftl_tokens.proofs.scanner.ScanLemmas.{scan_after}
use Rattle.ftl_tokens.proofs.scanner.TextLemmas.{byte_length-cons}
use Rattle.ftl_tokens.specs.reading.Reader.{IsFixed}
use Rattle.ftl_tokens.specs.writing.Written.{Written, symbol_text, text_of, CanBeSaid, StandsApart}
use Rattle.ftl_tokens.specs.writing.Written.{AreReadable, Says, said_by}
use Rattle.ftl_tokens.proofs.writing.ApartLemmas.{white_is_ascii, kind_of-white, kind_of-hash, stays}
use Rattle.ftl_tokens.proofs.writing.FixedTexts.{fixed_texts, ascii_from}

-- where nothing above m passes the test, the last is at most m
last_passing-at : (test : ℕ → Bool) (n m : ℕ) → suc m ≤ n → ((k : ℕ) → suc m < k → k ≤ n → test k ≡ false)
    → test (suc m) ≡ true → last_passing test n ≡ suc m
unfolding last_passing
last_passing-at test zero m within above passes = absurd (omega arith)
last_passing-at test (suc n) m within above passes =
    ⊎_elim
    (λ below. cond-false (test (suc n)) (suc n) (last_passing test n) (above (suc n) below (omega arith)) ∙ last_passing-at test n m (omega arith) (λ k low high. above k low (omega arith)) passes)
    (λ at. let same : suc n ≡ suc m = omega arith in cond-true (test (suc n)) (suc n) (last_passing test n) (ap test same ∙ passes) ∙ same)
    (cases_lt (suc m) (suc n))

-- a front that is longer than a token that stands apart is no token
longer_front : (text rest : List ℕ) (kind : Kind) (k : ℕ) → kind_of text ≡ Some kind → StandsApart text rest
    → length text < k → k ≤ length (text ++ rest) → kind_of (take k (text ++ rest)) ≡ None
longer_front text [] kind k is apart past within = absurd (omega (arith, length-append text []))
longer_front text (c ∷ cs) kind k is apart past within =
    ap kind_of (front_is text (c ∷ cs) k (omega arith)) ∙ by (k - length text) (omega arith)
  where
    front_is : (xs ys : List ℕ) (n : ℕ) → length xs ≤ n → take n (xs ++ ys) ≡ xs ++ take (n - length xs) ys
    front_is [] ys n le = let same : n ≡ n - 0 = omega arith in ap (λ m. take m ys) same
    front_is (x ∷ xs) ys zero le = absurd (omega arith)
    front_is (x ∷ xs) ys (suc n) le =
        ap (λ l. x ∷ l) (front_is xs ys n (omega arith))
        ∙ (let same : n - length xs ≡ suc n - suc (length xs) = omega arith in ap (λ m. x ∷ (xs ++ take m ys)) same)

    by : (n : ℕ) → 0 < n → kind_of (text ++ take n (c ∷ cs)) ≡ None
    by zero some = absurd (omega arith)
    by (suc n) some = stays text kind c (take n cs) is apart

-- the front of a text that begins with a token that stands apart
pub token_in_front : (c : ℕ) (cs rest : List ℕ) (kind : Kind) → kind_of (c ∷ cs) ≡ Some kind → StandsApart (c ∷ cs) rest
    → front_of (c ∷ (cs ++ rest)) ≡ token kind (suc (length cs))
unfolding front_of longest_token
token_in_front c cs rest kind is apart =
    let all = c ∷ (cs ++ rest) in
    let test : ℕ → Bool = λ n. is_some (kind_of (take n all)) in
    let whole : take (suc (length cs)) all ≡ c ∷ cs = take_at (c ∷ cs) rest (suc (length cs)) refl in
    let no_white : is_white_space c ≡ false = false_from_ne_true _ (λ white. absurd (cc (kind_of-white c cs white, is))) in
    let no_hash : eqb c 35 ≡ false =
    false_from_ne_true _ (λ hash. absurd (cc (kind_of-hash cs, ap (λ d. kind_of (d ∷ cs)) (sym (eqb-true c 35 hash)) ∙ is))) in
    let longest : longest_token all ≡ suc (length cs) =
    last_passing-at test (length all) (length cs) (omega (arith, length-append cs rest))
    (λ k past within. ap is_some (longer_front (c ∷ cs) rest kind k is apart past within))
    (ap (λ l. is_some (kind_of l)) whole ∙ ap is_some is) in
    cond-false _ _ _ no_white ∙ cond-false _ _ _ no_hash ∙ ap (token_front all) longest
    ∙ ap (λ found. token_if found (suc (length cs))) (ap kind_of whole ∙ is)

-- a scan past a token that stands apart
pub past_token : (greatest at : ℕ) (text rest : List ℕ) (kind : Kind) → kind_of text ≡ Some kind → StandsApart text rest
    → is_too_large greatest kind text ≡ false
    → scan_from greatest at 0 (text ++ rest)
    ≡ followed_by (record { kind = kind; start = at; end = at + byte_length text } ∷ []) (scan_from greatest (at + byte_length text) 0 rest)
unfolding scan_from
past_token greatest at [] rest kind is apart small = absurd (cc (kind_of-nil, is))
past_token greatest at (c ∷ cs) rest kind is apart small =
    let all = c ∷ (cs ++ rest) in
    let n = suc (length cs) in
    let whole : take n all ≡ c ∷ cs = take_at (c ∷ cs) rest n refl in
    let left : drop n all ≡ rest = drop_at (c ∷ cs) rest n refl in
    let spans : Spans all n (byte_length (c ∷ cs)) = record {
      some = omega arith;
      within = omega (arith, length-append cs rest);
      bytes = ap byte_length (sym whole);
    } in
    ap (λ f. scan_front greatest at all f (λ k. scan_from greatest (at + len_utf8 c) (k - 1) (cs ++ rest))) (token_in_front c cs rest kind is apart)
    ∙ cond-false _ _ _ (ap (is_too_large greatest kind) whole ∙ small)
    ∙ ap (λ l. followed_by (record { kind = kind; start = at; end = at + byte_length l } ∷ []) (scan_from greatest (at + len_utf8 c) (n - 1) (cs ++ rest))) whole
    ∙ ap (followed_by (record { kind = kind; start = at; end = at + byte_length (c ∷ cs) } ∷ []))
    (scan_after greatest at c n (byte_length (c ∷ cs)) (cs ++ rest) spans ∙ ap (scan_from greatest (at + byte_length (c ∷ cs)) 0) left)

first_white : (greatest at c : ℕ) (cs : List ℕ) → is_white_space c ≡ true
    → scan_from greatest at 0 (c ∷ cs) ≡ scan_from greatest (at + len_utf8 c) (prefix_len is_white_space cs) cs
unfolding scan_from front_of
first_white greatest at c cs white =
    let more : prefix_len is_white_space (c ∷ cs) ≡ suc (prefix_len is_white_space cs) = omega (arith, cond-true (is_white_space c) (1 + prefix_len is_white_space cs) 0 white) in
    let one : suc (prefix_len is_white_space cs) - 1 ≡ prefix_len is_white_space cs = omega arith in
    ap (λ f. scan_front greatest at (c ∷ cs) f (λ k. scan_from greatest (at + len_utf8 c) (k - 1) cs)) (cond-true _ _ _ white ∙ ap gap more)
    ∙ ap (λ k. scan_from greatest (at + len_utf8 c) k cs) one

-- it goes on in the white space that follows as at its own start
white_again : (greatest at : ℕ) (cs : List ℕ) → scan_from greatest at (prefix_len is_white_space cs) cs ≡ scan_from greatest at 0 cs
unfolding scan_from
white_again greatest at [] = refl
white_again greatest at (d ∷ ds) =
    ⊎_elim
    (λ white.
    let more : prefix_len is_white_space (d ∷ ds) ≡ suc (prefix_len is_white_space ds) = omega (arith, cond-true (is_white_space d) (1 + prefix_len is_white_space ds) 0 white) in
    ap (λ k. scan_from greatest at k (d ∷ ds)) more ∙ sym (first_white greatest at d ds white))
    (λ stops. ap (λ k. scan_from greatest at k (d ∷ ds)) (cond-false (is_white_space d) (1 + prefix_len is_white_space ds) 0 stops))
    (cases_Bool (is_white_space d))

-- a scan past one character of white space
past_white : (greatest at c : ℕ) (cs : List ℕ) → is_white_space c ≡ true
    → scan_from greatest at 0 (c ∷ cs) ≡ scan_from greatest (at + len_utf8 c) 0 cs
past_white greatest at c cs white = first_white greatest at c cs white ∙ white_again greatest (at + len_utf8 c) cs

-- a scan past white space
pub past_gap : (greatest at : ℕ) (gap rest : List ℕ) → list_all is_white_space gap ≡ true
    → scan_from greatest at 0 (gap ++ rest) ≡ scan_from greatest (at + byte_length gap) 0 rest
past_gap greatest at [] rest white = (let same : at ≡ at + 0 = omega arith in ap (λ n. scan_from greatest n 0 rest) same)
past_gap greatest at (c ∷ cs) rest white =
    let parts = and_parts (is_white_space c) (list_all is_white_space cs) white in
    let place : at + len_utf8 c + byte_length cs ≡ at + byte_length (c ∷ cs) = omega (arith, byte_length-cons c cs) in
    past_white greatest at c (cs ++ rest) parts.0 ∙ past_gap greatest (at + len_utf8 c) cs rest parts.1
    ∙ ap (λ n. scan_from greatest n 0 rest) place

-- white space is ASCII
pub white_ascii : (gap : List ℕ) → list_all is_white_space gap ≡ true → IsAscii gap
white_ascii [] white i = omega arith
white_ascii (c ∷ cs) white zero = white_is_ascii c (and_parts _ _ white).0
white_ascii (c ∷ cs) white (suc i) = white_ascii cs (and_parts _ _ white).1 i

-- what is said of the bytes of a token
record IsTokenText (greatest : ℕ) (says : Symbol) (text : List ℕ) : Type 0 where
  utf8 : IsUtf8 text
  kind : kind_of (chars text) ≡ Some (kind_of_symbol says)
  small : is_too_large greatest (kind_of_symbol says) (chars text) ≡ false
  reads_back : symbol (kind_of_symbol says) text ≡ says

-- a number in decimal is a number
decimal_kind : (ds : List ℕ) → is_number ds ≡ true → kind_of ds ≡ Some Number
decimal_kind [] digits = absurd (false≢true digits)
decimal_kind (d ∷ ds) digits =
    kind_of-number (d ∷ ds) (and_left _ _ (digit_begins_no_word d (and_parts (is_ascii_digit d) (list_all is_ascii_digit ds) digits).0)) digits

fixed_small : (greatest : ℕ) (kind : Kind) (text : List ℕ) → IsFixed kind → is_too_large greatest kind text ≡ false
fixed_small greatest Name text is = absurd is
fixed_small greatest Number text is = absurd is
fixed_small greatest _ text is = refl

fixed_symbol : (kind : Kind) (text : List ℕ) → IsFixed kind → symbol kind text ≡ fixed kind
fixed_symbol Name text is = absurd is
fixed_symbol Number text is = absurd is
fixed_symbol _ text is = refl

token_texts : (greatest : ℕ) (says : Symbol) → greatest ≤ 140737488355327 → CanBeSaid greatest says
    → IsTokenText greatest says (symbol_text says)
token_texts greatest (name text) most can = record { utf8 = can.0; kind = can.1; small = refl; reads_back = refl }
token_texts greatest (number value) most can =
    let ascii : IsAscii (decimal value) = IsAscii-decimal value (omega arith) in
    let same = chars-IsAscii (decimal value) ascii in
    let worth : digits_value 10 (decimal value) ≡ value = (decimal_is_IsNumeral value (omega arith)).1 in
    record {
      utf8 = IsUtf8-from_ascii (decimal value) ascii;
      kind = ap kind_of same ∙ decimal_kind (decimal value) (number_from (decimal value) (decimal_nonempty value (omega arith)) (numerals.from (decimal value) (decimal_is_IsNumeral value (omega arith)).0.1));
      small = ap (is_too_large greatest Number) same ∙ le-ltb _ _ (omega (arith, worth));
      reads_back = ap number worth;
    }
  where
    number_from : (ds : List ℕ) → 0 < length ds → list_all is_ascii_digit ds ≡ true → is_number ds ≡ true
    number_from [] some digits = absurd (omega arith)
    number_from (d ∷ ds) some digits = digits
token_texts greatest (fixed kind) most can =
    let is = fixed_texts kind can in
    let ascii = ascii_from _ is.ascii in
    let same = chars-IsAscii _ ascii in
    record {
      utf8 = IsUtf8-from_ascii _ ascii;
      kind = ap kind_of same ∙ is.is;
      small = fixed_small greatest kind _ can;
      reads_back = fixed_symbol kind _ can;
    }

-- what a scan of the rest of a text finds
record Finds (greatest : ℕ) (text front : List ℕ) (tokens : List Written) : Type 0 where
  found : List Token
  scanned : scan_from greatest (length front) 0 (chars (text_of tokens)) ≡ Ok found
  said : map (symbol_of text) found ≡ said_by tokens

seam_text : (text front word rest : List ℕ) → text ≡ front ++ (word ++ rest)
    → slice_range text (length front) (length front + length word) ≡ word
seam_text text front word rest split =
    let count : length front + length word - length front ≡ length word = omega arith in
    ap (λ n. take n (drop (length front) text)) count
    ∙ ap (λ l. take (length word) l) (ap (drop (length front)) split ∙ drop_at front (word ++ rest) (length front) refl)
    ∙ take_at word rest (length word) refl

bytes_of : (text : List ℕ) → IsUtf8 text → byte_length (chars text) ≡ length text
bytes_of text utf8 = ap length (encodes-chars text utf8)

-- the tokens from a place on
finds : (greatest : ℕ) (text front : List ℕ) (tokens : List Written) → greatest ≤ 140737488355327
    → text ≡ front ++ text_of tokens → AreReadable greatest tokens → Finds greatest text front tokens
unfolding scan_from chars
finds greatest text front [] most split are = record { found = []; scanned = refl; said = refl }
finds greatest text front (t ∷ ts) most split are =
    let word = symbol_text t.says in
    let rest = text_of ts in
    let is = token_texts greatest t.says most are.0.says in
    let white = white_ascii t.gap are.0.gap in
    let gap_same = chars-IsAscii t.gap white in
    let cut : text ≡ front ++ (word ++ (t.gap ++ rest)) = split ∙ ap (λ l. front ++ l) (append_assoc word t.gap rest) in
    let further : text ≡ (front ++ (word ++ t.gap)) ++ rest = split ∙ sym (append_assoc front (word ++ t.gap) rest) in
    let more = finds greatest text (front ++ (word ++ t.gap)) ts most further are.1 in
    let this : Token = record { kind = kind_of_symbol t.says; start = length front; end = length front + length word } in
    let letters : chars (text_of (t ∷ ts)) ≡ chars word ++ chars (t.gap ++ rest) =
    ap chars (append_assoc word t.gap rest) ∙ chars-append word (t.gap ++ rest) is.utf8 in
    let place : length front + length word + length t.gap ≡ length (front ++ (word ++ t.gap)) =
    omega (arith, length-append front (word ++ t.gap), length-append word t.gap) in
    let after : scan_from greatest (length front + length word) 0 (chars (t.gap ++ rest)) ≡ Ok more.found =
    ap (scan_from greatest (length front + length word) 0) (chars-append t.gap rest (IsUtf8-from_ascii t.gap white))
    ∙ past_gap greatest (length front + length word) (chars t.gap) (chars rest) (ap (list_all is_white_space) gap_same ∙ are.0.gap)
    ∙ ap (λ n. scan_from greatest (length front + length word + n) 0 (chars rest)) (bytes_of t.gap (IsUtf8-from_ascii t.gap white))
    ∙ ap (λ n. scan_from greatest n 0 (chars rest)) place
    ∙ more.scanned in
    record {
      found = this ∷ more.found;
      scanned =
          ap (scan_from greatest (length front) 0) letters
          ∙ past_token greatest (length front) (chars word) (chars (t.gap ++ rest)) (kind_of_symbol t.says) is.kind are.0.apart is.small
          ∙ ap (λ n. followed_by (record { kind = kind_of_symbol t.says; start = length front; end = length front + n } ∷ []) (scan_from greatest (length front + n) 0 (chars (t.gap ++ rest)))) (bytes_of word is.utf8)
          ∙ ap (followed_by (this ∷ [])) after;
      said =
          let reads_back : symbol_of text this ≡ t.says =
          ap (symbol (kind_of_symbol t.says)) (seam_text text front word (t.gap ++ rest) cut) ∙ is.reads_back in
          ap (λ s. s ∷ map (symbol_of text) more.found) reads_back ∙ ap (λ l. t.says ∷ l) more.said;
    }

-- a scan of a written text finds the tokens that were written
pub says_written : (greatest : ℕ) → greatest ≤ 140737488355327 → (tokens : List Written) → AreReadable greatest tokens
    → Says greatest (text_of tokens) (said_by tokens)
unfolding scan
says_written greatest most tokens are =
    let f = finds greatest (text_of tokens) [] tokens most refl are in
    record { tokens = f.found; scanned = f.scanned; said = f.said }
