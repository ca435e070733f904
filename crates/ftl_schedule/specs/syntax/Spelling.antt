-- Which tokens spell which schedule: a line of the syntax after the other.
use Rattle.std.specs.Prelude.{List, [], ◌∷◌, ◌++◌}
use Rattle.ftl_tokens.specs.declared.scanner.kind.Kind.TheVariants as kind
use Rattle.ftl_tokens.specs.scanner.Tokenized.{name, fixed}
use Rattle.ftl_tokens.specs.reading.Reader.{Tokens}
use Rattle.ftl_schedule.specs.declared.syntax.kind.PassKind.{PassKind}
use Rattle.ftl_schedule.specs.declared.syntax.types.AttributeName.{AttributeName}
use Rattle.ftl_schedule.specs.declared.syntax.types.WrittenPass.{WrittenPass}
use Rattle.ftl_schedule.specs.declared.syntax.types.WrittenStage.{WrittenStage}
use Rattle.ftl_schedule.specs.declared.syntax.types.WrittenSchedule.{WrittenSchedule}
use Rattle.ftl_schedule.specs.syntax.Trees.{NameText, word_of, attribute_name, written_pass, written_stage}
use Rattle.ftl_schedule.specs.syntax.Trees.{written_schedule}

-- NAME "." NAME
pub data SpellsAttribute : Tokens → AttributeName → Type 0 where
  attribute_of : {o a : NameText} → SpellsAttribute (name o ∷ fixed kind.Dot ∷ name a ∷ []) (attribute_name o a)

-- { NAME "." NAME }
pub data SpellsAttributes : Tokens → List AttributeName → Type 0 where
  no_attributes : SpellsAttributes [] []
  more_attributes : {a b : Tokens} {x : AttributeName} {xs : List AttributeName} → SpellsAttribute a x
      → SpellsAttributes b xs → SpellsAttributes (a ++ b) (x ∷ xs)

-- pass = ("topdown"|"bottomup"|"inorder") "{" { NAME "." NAME } "}"
pub data SpellsPass : Tokens → WrittenPass → Type 0 where
  pass_of : {k : PassKind} {a : Tokens} {xs : List AttributeName} → SpellsAttributes a xs
      → SpellsPass (name (word_of k) ∷ fixed kind.LeftBrace ∷ (a ++ (fixed kind.RightBrace ∷ []))) (written_pass k xs)

-- pass { "||" pass }
pub data SpellsPasses : Tokens → List WrittenPass → Type 0 where
  one_pass : {a : Tokens} {x : WrittenPass} → SpellsPass a x → SpellsPasses a (x ∷ [])
  more_passes : {a b : Tokens} {x : WrittenPass} {xs : List WrittenPass} → SpellsPass a x → SpellsPasses b xs
      → SpellsPasses (a ++ (fixed kind.OrOr ∷ b)) (x ∷ xs)

-- stage = pass { "||" pass }
pub data SpellsStage : Tokens → WrittenStage → Type 0 where
  stage_of : {a : Tokens} {xs : List WrittenPass} → SpellsPasses a xs → SpellsStage a (written_stage xs)

-- stage { ";" stage }
pub data SpellsStages : Tokens → List WrittenStage → Type 0 where
  one_stage : {a : Tokens} {x : WrittenStage} → SpellsStage a x → SpellsStages a (x ∷ [])
  more_stages : {a b : Tokens} {x : WrittenStage} {xs : List WrittenStage} → SpellsStage a x → SpellsStages b xs
      → SpellsStages (a ++ (fixed kind.Semicolon ∷ b)) (x ∷ xs)

-- schedule = [ stage { ";" stage } ]
pub data SpellsSchedule : Tokens → WrittenSchedule → Type 0 where
  no_stages : SpellsSchedule [] (written_schedule [])
  stages_of : {a : Tokens} {xs : List WrittenStage} → SpellsStages a xs → SpellsSchedule a (written_schedule xs)
