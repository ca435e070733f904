-- The names of a schedule with nests that can be written can be said, and so can the hosts of a grammar that was read.
use Rattle.std.proofs.Common.{ℕ, ◌<◌, [], length, map, flat_map, Option, Some, None, Ok, Contains, ⊎_elim}
use Rattle.std.specs.Option.{option_map}
use Rattle.std.proofs.lemmas.List.Elements.{All-contains, Contains-append_cases, Contains-get_or}
use Rattle.ftl_grammar.specs.syntax.Trees as trees
use Rattle.ftl_grammar.specs.declared.syntax.rules.Grammar.{Grammar}
use Rattle.ftl_grammar.specs.printing.GrammarTokens.{class_tokens, interface_tokens}
use Rattle.ftl_grammar.specs.reading.Printed.{IsScanned}
use Rattle.ftl_grammar.specs.reading.Read.{ReadsGrammar}
use Rattle.ftl_grammar.proofs.printing.CanonicalTexts.{tokens_said}
use Rattle.ftl_grammar.proofs.printing.Levels.{each-right}
use Rattle.ftl_grammar.proofs.printing.SpelledAttrs.{Said}
use Rattle.ftl_grammar.proofs.printing.SpelledGrammars.{grammar_canonical}
use Rattle.ftl_meaning.specs.faults.Numbering.{class_at}
use Rattle.ftl_model.proofs.lists.Elements.{nothing_in}
use Rattle.ftl_model.proofs.lists.Rising.{map_has}
use Rattle.ftl_tokens.specs.scanner.Tokenized.{Tokenized, name}
use Rattle.ftl_tokens.proofs.scanner.TokenLemmas.{are_tokens_of}
use Rattle.ftl_order.specs.orders.Schedule.{entries}
use Rattle.ftl_schedule.specs.declared.syntax.kind.PassKind.{PassKind}
use Rattle.ftl_schedule.specs.printing.WrittenOf.{name_of, pass_by_name, stage_by_name}
use Rattle.ftl_schedule.specs.text.ScheduleText.{HasNames}
use Rattle.ftl_schedule.proofs.printing.SaidNames.{each_of}
use Rattle.ftl_schedule.proofs.printing.SpelledNames.{PassNames, StageNames}
use Rattle.ftl_nests.specs.Nests.{inner_stages}
use Rattle.ftl_nest_check.specs.declared.stages.types.Nest.{Nest}
use Rattle.ftl_nest_check.specs.declared.stages.types.NestingSchedule.{NestingSchedule}
use Rattle.ftl_nest_check.specs.stages.Nested.{nest_of}
use Rattle.ftl_nest_text.specs.text.NestText.{CanBeNestWritten, CanNestBeWritten}
use Rattle.ftl_nest_text.specs.printing.NestWritten.{nest_by_name, nest_written_of, nesting_pass_by_name}
use Rattle.ftl_nest_text.specs.printing.NestWritten.{nesting_stage_by_name}
use Rattle.ftl_nest_text.proofs.printing.NestNamedAgain.{AreSaid}
use Rattle.ftl_nest_text.proofs.printing.NestSpelledNames.{NestSaid, OwnSaid, StageNests, StageOwn}
use Rattle.ftl_nest_text.proofs.reading.NestKept.{entry_in}

-- ---- attributes

module _ (g : Grammar) where
  -- those of a nest
  nest_said : (kind : PassKind) (o : Option Nest) → CanNestBeWritten kind (option_map (nest_by_name g) o) → (a : ℕ)
      → Contains (entries (inner_stages (option_map nest_of o))) a → HasNames (name_of g a)
  nest_said kind None can a there = absurd (nothing_in a there)
  nest_said kind (Some m) can a there =
      let at = entry_in m.inner a there in
      let stage =
      All-contains StageNames (map (stage_by_name g) m.inner.stages) (stage_by_name g at.0) can.2.names
      (map_has (stage_by_name g) m.inner.stages at.0 at.1) in
      let pass =
      All-contains PassNames (map (pass_by_name g) at.0.passes) (pass_by_name g at.2.0) stage
      (map_has (pass_by_name g) at.0.passes at.2.0 at.2.1) in
      All-contains HasNames (map (name_of g) at.2.0.attrs) (name_of g a) pass
      (map_has (name_of g) at.2.0.attrs a at.2.2)

  pub names_written : (s : NestingSchedule) → CanBeNestWritten (nest_written_of g s) → AreSaid g s
  names_written s can t stage p pass a there =
      let stages = map (nesting_stage_by_name g) s.stages in
      let passes = map (nesting_pass_by_name g) t.passes in
      let in_stages = map_has (nesting_stage_by_name g) s.stages t stage in
      let in_passes = map_has (nesting_pass_by_name g) t.passes p pass in
      let own =
      All-contains OwnSaid passes (nesting_pass_by_name g p)
      (All-contains StageOwn stages (nesting_stage_by_name g t) can.names in_stages) in_passes in
      let nest =
      All-contains NestSaid passes (nesting_pass_by_name g p)
      (All-contains StageNests stages (nesting_stage_by_name g t) can.nests in_stages) in_passes in
      ⊎_elim
      (λ here. All-contains HasNames (map (name_of g) p.attrs) (name_of g a) own (map_has (name_of g) p.attrs a here))
      (λ inner. nest_said p.kind p.nest nest a inner)
      (Contains-append_cases p.attrs (entries (inner_stages (option_map nest_of p.nest))) a there)

-- ---- hosts

-- the name of a class of a grammar that was read
pub class_said : (scanned : Tokenized) (g : Grammar) → IsScanned scanned → ReadsGrammar scanned (Ok g) → (k : ℕ)
    → k < length g.classes → Said (name (class_at g k).name)
class_said scanned g is read k within =
    let said =
    tokens_said scanned.text 0 scanned.tokens is.utf8
    (are_tokens_of 2147483647 scanned.text scanned.tokens is.utf8 is.tokens) in
    (each_of Said class_tokens g.classes
    (each-right Said (flat_map interface_tokens g.interfaces) (flat_map class_tokens g.classes)
    (grammar_canonical read.spells said read.shallow).said.1.1.1)
    (class_at g k) (Contains-get_or g.classes k (trees.class [] [] [] [] []) within)).1.0
