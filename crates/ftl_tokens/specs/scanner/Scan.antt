-- The tokens of a text: the longest from the left, or the first fault from the left.
use Rattle.std.specs.Prelude.{ℕ, zero, suc, ◌+◌, ◌-◌, Bool, false, not, ◌||◌, ◌==◌, nat_lt, List, [], ◌∷◌, ◌++◌}
use Rattle.std.specs.Prelude.{length, take, Option, Some, None, is_some, Result, Ok, Err, if◌then◌else◌}
use Rattle.std.specs.Prelude.{encode_utf8_all}
use Rattle.std.specs.List.{prefix_len}
use Rattle.std.specs.Char.{len_utf8}
use Rattle.std.specs.Str.{chars}
use Rattle.std.specs.Str.Parse.{digits_value}
use Rattle.ftl_tokens.specs.declared.scanner.kind.Kind.{Kind}
use Rattle.ftl_tokens.specs.declared.scanner.kind.Kind.TheVariants.{Number}
use Rattle.ftl_tokens.specs.declared.scanner.kind.Token.{Token}
use Rattle.ftl_tokens.specs.declared.scanner.fault.TokenFault.{TokenFault}
use Rattle.ftl_tokens.specs.declared.scanner.fault.TokenFault.TheVariants.{BadChar, NumberTooLarge}
use Rattle.ftl_tokens.specs.scanner.Kinds.{kind_of}

-- space, tab, carriage return and line feed
abbrev pub is_white_space : ℕ → Bool
is_white_space c = c == 32 || c == 9 || c == 13 || c == 10

-- a comment goes on up to a line feed
abbrev pub stays_in_line : ℕ → Bool
stays_in_line c = not (c == 10)

-- how many bytes these characters take
abbrev pub byte_length : List ℕ → ℕ
byte_length cs = length (encode_utf8_all cs)

-- the last of the numbers from 1 to n that passes the test, or 0
unfoldable pub last_passing : (ℕ → Bool) → ℕ → ℕ
last_passing test zero = 0
last_passing test (suc n) = if test (suc n) then suc n else last_passing test n

-- how many characters the longest token at the front has, or 0 where none begins there
unfoldable pub longest_token : List ℕ → ℕ
longest_token cs = last_passing (λ n. is_some (kind_of (take n cs))) (length cs)

-- what stands at the front of some characters, and how many of them it has
pub data Front : Type 0 where
  -- white space as far as it goes, or a comment
  gap : ℕ → Front
  -- the longest token there
  token : Kind → ℕ → Front
  -- neither
  nothing : Front

-- a token of n characters, where they are one
abbrev pub token_if : Option Kind → ℕ → Front
token_if None n = nothing
token_if (Some kind) n = token kind n

-- the token of the first n characters, where they are one
abbrev pub token_front : List ℕ → ℕ → Front
token_front cs n = token_if (kind_of (take n cs)) n

-- white space, a comment from `#` (35) on, or a token
unfoldable pub front_of : List ℕ → Front
front_of [] = nothing
front_of (c ∷ cs) =
    if is_white_space c then gap (prefix_len is_white_space (c ∷ cs))
    else (if c == 35 then gap (prefix_len stays_in_line (c ∷ cs))
    else token_front (c ∷ cs) (longest_token (c ∷ cs)))

-- whether this is a number above the greatest
abbrev pub is_too_large : ℕ → Kind → List ℕ → Bool
is_too_large greatest Number digits = nat_lt greatest (digits_value 10 digits)
is_too_large greatest _ text = false

-- the tokens in order, or the first fault
abbrev pub Scanning : Type 0
Scanning = Result (List Token) TokenFault

-- the tokens of what was read, then those of the rest or its fault
abbrev pub followed_by : List Token → Scanning → Scanning
followed_by tokens (Ok more) = Ok (tokens ++ more)
followed_by tokens (Err fault) = Err fault

-- what a front at byte `at` gives with this greatest number, and the scan of what stands after so many characters
abbrev pub scan_front : ℕ → ℕ → List ℕ → Front → (ℕ → Scanning) → Scanning
scan_front greatest at cs (gap n) after = after n
scan_front greatest at cs (token kind n) after =
    if is_too_large greatest kind (take n cs) then Err (NumberTooLarge at)
    else followed_by (record { kind = kind; start = at; end = at + byte_length (take n cs) } ∷ []) (after n)
scan_front greatest at cs nothing after = Err (BadChar at)

-- the scan of the characters from byte `at` on, of which the first `read` belong to what stands before
unfoldable pub scan_from : ℕ → ℕ → ℕ → List ℕ → Scanning
scan_from greatest at read [] = Ok []
scan_from greatest at (suc read) (c ∷ cs) = scan_from greatest (at + len_utf8 c) read cs
scan_from greatest at zero (c ∷ cs) =
    scan_front greatest at (c ∷ cs) (front_of (c ∷ cs)) (λ n. scan_from greatest (at + len_utf8 c) (n - 1) cs)

-- the tokens of a text, given by its bytes, whose numbers are at most `greatest`
unfoldable pub scan : ℕ → List ℕ → Scanning
scan greatest text = scan_from greatest 0 0 (chars text)
