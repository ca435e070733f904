-- Worked schedules with nests and worked texts that go wrong, typed by hand, to hold the definitions against.
use Rattle.std.specs.Prelude.{ℕ, [], ◌∷◌, ◌++◌, codes, Some, None}
use Rattle.ftl_tokens.specs.declared.scanner.kind.Kind.{Kind}
use Rattle.ftl_tokens.specs.declared.scanner.kind.Kind.TheVariants as kind
use Rattle.ftl_tokens.specs.declared.scanner.kind.Token.{Token}
use Rattle.ftl_tokens.specs.scanner.Tokenized.{Tokenized, name, fixed}
use Rattle.ftl_tokens.specs.reading.Reader.{Tokens}
use Rattle.ftl_schedule.specs.declared.syntax.kind.PassKind.{PassKind}
use Rattle.ftl_schedule.specs.declared.syntax.kind.PassKind.TheVariants.{TopDown, BottomUp, InOrder}
use Rattle.ftl_schedule.specs.declared.syntax.types.WrittenPass.{WrittenPass}
use Rattle.ftl_schedule.specs.syntax.Trees.{NameText, attribute_name, word_of, written_pass, written_stage}
use Rattle.ftl_nest_text.specs.declared.syntax.types.WrittenNestingSchedule.{WrittenNestingSchedule}
use Rattle.ftl_nest_text.specs.syntax.NestTrees.{nesting_pass, nesting_schedule, nesting_stage, written_nest}

-- a pass over one attribute
abbrev pub over : PassKind → NameText → NameText → WrittenPass
over kind owner attr = written_pass kind (attribute_name owner attr ∷ [])

-- ---- schedules

-- bottomup { Page.h } nest Row { topdown { A.b } ; bottomup { C.d } || topdown { } } ;
-- topdown { } nest Row { }
abbrev pub two_nests : WrittenNestingSchedule
two_nests =
    nesting_schedule
    (nesting_stage
    (nesting_pass (over BottomUp (codes "Page") (codes "h"))
    (Some (written_nest (codes "Row")
    (written_stage (over TopDown (codes "A") (codes "b") ∷ [])
    ∷ written_stage (over BottomUp (codes "C") (codes "d") ∷ written_pass TopDown [] ∷ []) ∷ []))) ∷ [])
    ∷ nesting_stage (nesting_pass (written_pass TopDown []) (Some (written_nest (codes "Row") [])) ∷ []) ∷ [])

-- topdown { Box.x } nest Row { inorder { Cell.y } } || inorder { }
abbrev pub nest_beside : WrittenNestingSchedule
nest_beside =
    nesting_schedule
    (nesting_stage
    (nesting_pass (over TopDown (codes "Box") (codes "x"))
    (Some (written_nest (codes "Row") (written_stage (over InOrder (codes "Cell") (codes "y") ∷ []) ∷ [])))
    ∷ nesting_pass (written_pass InOrder []) None ∷ []) ∷ [])

-- bottomup { } nest nest { }
abbrev pub nest_of_none : WrittenNestingSchedule
nest_of_none =
    nesting_schedule
    (nesting_stage (nesting_pass (written_pass BottomUp []) (Some (written_nest (codes "nest") [])) ∷ []) ∷ [])

-- ---- tokens

-- a pass over no attribute
abbrev pub empty_list : PassKind → Tokens
empty_list k = name (word_of k) ∷ fixed kind.LeftBrace ∷ fixed kind.RightBrace ∷ []

-- a pass over one attribute
abbrev pub one_in_list : PassKind → NameText → NameText → Tokens
one_in_list k owner attr =
    name (word_of k) ∷ fixed kind.LeftBrace ∷ name owner ∷ fixed kind.Dot ∷ name attr ∷ fixed kind.RightBrace ∷ []

-- `nest`, a host and `{`
abbrev pub nest_in : NameText → Tokens
nest_in host = name (codes "nest") ∷ name host ∷ fixed kind.LeftBrace ∷ []

abbrev pub two_nests_tokens : Tokens
two_nests_tokens =
    one_in_list BottomUp (codes "Page") (codes "h") ++ nest_in (codes "Row")
    ++ one_in_list TopDown (codes "A") (codes "b") ++ fixed kind.Semicolon
    ∷ one_in_list BottomUp (codes "C") (codes "d") ++ fixed kind.OrOr ∷ empty_list TopDown
    ++ fixed kind.RightBrace ∷ fixed kind.Semicolon
    ∷ empty_list TopDown ++ nest_in (codes "Row") ++ fixed kind.RightBrace ∷ []

abbrev pub nest_beside_tokens : Tokens
nest_beside_tokens =
    one_in_list TopDown (codes "Box") (codes "x") ++ nest_in (codes "Row")
    ++ one_in_list InOrder (codes "Cell") (codes "y") ++ fixed kind.RightBrace ∷ fixed kind.OrOr
    ∷ empty_list InOrder

abbrev pub nest_of_none_tokens : Tokens
nest_of_none_tokens = empty_list BottomUp ++ nest_in (codes "nest") ++ fixed kind.RightBrace ∷ []

-- ---- tokens that spell no schedule

-- inorder { } nest Row { }
abbrev pub nest_behind_inorder : Tokens
nest_behind_inorder = empty_list InOrder ++ nest_in (codes "Row") ++ fixed kind.RightBrace ∷ []

-- topdown { } nest Row { topdown { } nest Row { } }
abbrev pub nest_in_a_nest : Tokens
nest_in_a_nest =
    empty_list TopDown ++ nest_in (codes "Row") ++ empty_list TopDown ++ nest_in (codes "Row")
    ++ fixed kind.RightBrace ∷ fixed kind.RightBrace ∷ []

-- topdown { } nest Row { topdown { }
abbrev pub nest_without_end : Tokens
nest_without_end = empty_list TopDown ++ nest_in (codes "Row") ++ empty_list TopDown

-- topdown { } nest { }
abbrev pub nest_without_host : Tokens
nest_without_host = empty_list TopDown ++ name (codes "nest") ∷ fixed kind.LeftBrace ∷ fixed kind.RightBrace ∷ []

-- topdown { } nest Row { ; }
abbrev pub nest_of_a_semicolon : Tokens
nest_of_a_semicolon =
    empty_list TopDown ++ nest_in (codes "Row") ++ fixed kind.Semicolon ∷ fixed kind.RightBrace ∷ []

-- a token of this kind at these bytes
abbrev pub token_at : Kind → ℕ → ℕ → Token
token_at kind start end = record { kind = kind; start = start; end = end }

-- the same behind an inorder pass as a text: `nest` begins at byte 12
abbrev pub text_behind_inorder : Tokenized
text_behind_inorder = record {
  text = codes "inorder { } nest Row { }";
  tokens =
      token_at kind.Name 0 7 ∷ token_at kind.LeftBrace 8 9 ∷ token_at kind.RightBrace 10 11
      ∷ token_at kind.Name 12 16 ∷ token_at kind.Name 17 20 ∷ token_at kind.LeftBrace 21 22
      ∷ token_at kind.RightBrace 23 24 ∷ [];
}
