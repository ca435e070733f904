-- What white space, a word, a number or a comment goes on with.
use Rattle.std.specs.Prelude.{ℕ, Bool, ◌&&◌, nat_lt}
use Rattle.std.specs.Char.{is_ascii_digit}
use Rattle.unicode_ident.specs.Ident.{is_xid_continue}
use Rattle.ftl_tokens.specs.declared.scanner.run.Run.{Run}
use Rattle.ftl_tokens.specs.declared.scanner.run.Run.TheVariants.{White, Word, Digits, Comment}
use Rattle.ftl_tokens.specs.scanner.Kinds.{begins_word}
use Rattle.ftl_tokens.specs.scanner.Scan.{is_white_space, stays_in_line}

-- whether the character goes on what runs
abbrev pub goes_on : Run → ℕ → Bool
goes_on White = is_white_space
goes_on Word = is_xid_continue
goes_on Digits = is_ascii_digit
goes_on Comment = stays_in_line

-- whether the byte is an ASCII character that goes on what runs
abbrev pub byte_goes_on : Run → ℕ → Bool
byte_goes_on run byte = nat_lt byte 128 && goes_on run byte

-- whether the byte is an ASCII character that begins a word
abbrev pub byte_begins_word : ℕ → Bool
byte_begins_word byte = nat_lt byte 128 && begins_word byte
