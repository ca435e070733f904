-- Which tokens spell which schedule with nests: a line of the syntax after the other. The stages of a nest are spelled
-- as those of a schedule without nests.
use Rattle.std.specs.Prelude.{List, [], ◌∷◌, ◌++◌, Some, None}
use Rattle.ftl_tokens.specs.declared.scanner.kind.Kind.TheVariants as kind
use Rattle.ftl_tokens.specs.scanner.Tokenized.{name, fixed}
use Rattle.ftl_tokens.specs.reading.Reader.{Tokens}
use Rattle.ftl_schedule.specs.declared.syntax.types.WrittenPass.{WrittenPass}
use Rattle.ftl_schedule.specs.declared.syntax.types.WrittenStage.{WrittenStage}
use Rattle.ftl_schedule.specs.syntax.Trees.{NameText}
use Rattle.ftl_schedule.specs.syntax.Spelling.{SpellsPass, SpellsStages}
use Rattle.ftl_nest_text.specs.declared.syntax.types.WrittenNest.{WrittenNest}
use Rattle.ftl_nest_text.specs.declared.syntax.types.WrittenNestingPass.{WrittenNestingPass}
use Rattle.ftl_nest_text.specs.declared.syntax.types.WrittenNestingStage.{WrittenNestingStage}
use Rattle.ftl_nest_text.specs.declared.syntax.types.WrittenNestingSchedule.{WrittenNestingSchedule}
use Rattle.ftl_nest_text.specs.syntax.NestTrees.{MayNest, nest_word, written_nest, nesting_pass, nesting_stage}
use Rattle.ftl_nest_text.specs.syntax.NestTrees.{nesting_schedule}

-- inner = [ istage { ";" istage } ]
pub data SpellsInner : Tokens → List WrittenStage → Type 0 where
  no_inner : SpellsInner [] []
  inner_of : {a : Tokens} {xs : List WrittenStage} → SpellsStages a xs → SpellsInner a xs

-- "nest" NAME "{" inner "}"
pub data SpellsNest : Tokens → WrittenNest → Type 0 where
  nest_of : {host : NameText} {a : Tokens} {xs : List WrittenStage} → SpellsInner a xs
      → SpellsNest
      (name nest_word ∷ name host ∷ fixed kind.LeftBrace ∷ (a ++ (fixed kind.RightBrace ∷ [])))
      (written_nest host xs)

-- pass = ("topdown"|"bottomup") list [ "nest" NAME "{" inner "}" ] | "inorder" list
pub data SpellsNestingPass : Tokens → WrittenNestingPass → Type 0 where
  without_nest : {a : Tokens} {p : WrittenPass} → SpellsPass a p → SpellsNestingPass a (nesting_pass p None)
  with_nest : {a b : Tokens} {p : WrittenPass} {nest : WrittenNest} → MayNest p.kind → SpellsPass a p
      → SpellsNest b nest → SpellsNestingPass (a ++ b) (nesting_pass p (Some nest))

-- pass { "||" pass }
pub data SpellsNestingPasses : Tokens → List WrittenNestingPass → Type 0 where
  one_nesting_pass : {a : Tokens} {x : WrittenNestingPass} → SpellsNestingPass a x
      → SpellsNestingPasses a (x ∷ [])
  more_nesting_passes : {a b : Tokens} {x : WrittenNestingPass} {xs : List WrittenNestingPass}
      → SpellsNestingPass a x → SpellsNestingPasses b xs
      → SpellsNestingPasses (a ++ (fixed kind.OrOr ∷ b)) (x ∷ xs)

-- stage = pass { "||" pass }
pub data SpellsNestingStage : Tokens → WrittenNestingStage → Type 0 where
  nesting_stage_of : {a : Tokens} {xs : List WrittenNestingPass} → SpellsNestingPasses a xs
      → SpellsNestingStage a (nesting_stage xs)

-- stage { ";" stage }
pub data SpellsNestingStages : Tokens → List WrittenNestingStage → Type 0 where
  one_nesting_stage : {a : Tokens} {x : WrittenNestingStage} → SpellsNestingStage a x
      → SpellsNestingStages a (x ∷ [])
  more_nesting_stages : {a b : Tokens} {x : WrittenNestingStage} {xs : List WrittenNestingStage}
      → SpellsNestingStage a x → SpellsNestingStages b xs
      → SpellsNestingStages (a ++ (fixed kind.Semicolon ∷ b)) (x ∷ xs)

-- schedule = [ stage { ";" stage } ]
pub data SpellsNestingSchedule : Tokens → WrittenNestingSchedule → Type 0 where
  no_nesting_stages : SpellsNestingSchedule [] (nesting_schedule [])
  nesting_stages_of : {a : Tokens} {xs : List WrittenNestingStage} → SpellsNestingStages a xs
      → SpellsNestingSchedule a (nesting_schedule xs)
