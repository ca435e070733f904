-- What texts that say the same come to.
use Rattle.std.proofs.Common.{◌≡◌, ◌≤◌, ℕ, List, Option, Some, Result, Ok, Err, refl, sym, ap, ◌∙◌, subst, ⊎_elim, inl, inr}
use Rattle.ftl_answer.specs.answers.Answer.{Answer}
use Rattle.ftl_answer.specs.answers.Stages.{Outcome, Stage, Is, Then, ends, hands_on}
use Rattle.ftl_answer.specs.answers.Texts as texts
use Rattle.ftl_answer.specs.answers.Texts.{scanned_as, tokenized, tokens, wide, lawful_grammar, spelled_grammar}
use Rattle.ftl_answer.specs.answers.Texts.{spelled_schedule, ordered_schedule, spelled_tree, spelled_edits}
use Rattle.ftl_base.specs.declared.width.Width.{Width}
use Rattle.ftl_base.specs.Widths.{greatest_of_width}
use Rattle.ftl_document.specs.reading.ReadTree.{IsTreeRead}
use Rattle.ftl_document.specs.syntax.Braces.{braces, deepest}
use Rattle.ftl_document.specs.syntax.Spelling.{SpellsNode}
use Rattle.ftl_edits.specs.declared.meaning.types.Edit.{Edit}
use Rattle.ftl_edits.specs.syntax.Spelling.{SpellsEdits}
use Rattle.ftl_grammar.specs.declared.syntax.rules.Grammar.{Grammar}
use Rattle.ftl_grammar.specs.syntax.Brackets.{brackets, limit}
use Rattle.ftl_grammar.specs.syntax.GrammarSpelling.{SpellsGrammar}
use Rattle.ftl_meaning.specs.faults.Checked.{CheckedGrammar}
use Rattle.ftl_model.specs.layout.Limits.{most_nodes}
use Rattle.ftl_model.specs.layout.Tree.{Forest}
use Rattle.ftl_nest_check.specs.declared.stages.types.NestingSchedule.{NestingSchedule}
use Rattle.ftl_nest_text.specs.syntax.NestSpelling.{SpellsNestingSchedule}
use Rattle.ftl_page.specs.declared.sections.fault.Section.{Section}
use Rattle.ftl_page.specs.declared.sections.fault.Section.TheVariants as section
use Rattle.ftl_page_printing.specs.pages.Alike.{SaysSame}
use Rattle.ftl_tokens.specs.reading.Depth.{IsShallow, count_of}
use Rattle.ftl_tokens.specs.scanner.Scan.{scan}
use Rattle.ftl_tokens.specs.scanner.Tokenized.{Symbol, Tokenized, symbols_of}
use Rattle.ftl_tree.specs.trees.CheckedTree.{CheckedTree}

-- what a text with its tokens hands on depends on what these say alone
abbrev SeesSymbols : {Y : Type 0} → (Tokenized → Stage Y) → Y → Type 0
SeesSymbols stage y = (a b : Tokenized) → symbols_of a ≡ symbols_of b → stage b (hands_on y) → stage a (hands_on y)

-- so it does where a stage follows
sees_then : {X Y : Type 0} (first : Tokenized → Stage X) (next : X → Stage Y) (y : Y)
    → ((x : X) → SeesSymbols first x) → SeesSymbols (λ s. Then (first s) next) y
sees_then first next y sees a b alike stage =
    ⊎_elim
    (λ stops. absurd (cc stops.2))
    (λ goes. inr (goes.0, sees goes.0 a b alike goes.1, goes.2))
    stage

same_value : {Y : Type 0} (x y : Y) → hands_on x ≡ hands_on y → x ≡ y
same_value x y is = cc is

-- what the text of a section comes to
same_stage : {Y : Type 0} (which : Section) (greatest : ℕ) (stage : Tokenized → Stage Y) (y : Y) (text other : List ℕ)
    → SeesSymbols stage y → SaysSame greatest text other → Then (tokens which greatest other) stage (hands_on y)
    → Then (tokens which greatest text) stage (hands_on y)
same_stage which greatest stage y text other sees same comes =
    ⊎_elim
    (λ stops. absurd (cc stops.2))
    (λ goes.
    let here = tokenized text same.tokens in
    let there = tokenized other same.others in
    let scanned : goes.0 ≡ there =
    same_value goes.0 there (goes.1 ∙ ap (scanned_as which other) same.others_scanned) in
    inr (
      here,
      sym (ap (scanned_as which text) same.scanned),
      sees here there same.alike (subst (λ x. stage x (hands_on y)) scanned goes.2),
    ))
    comes

sees_grammar : (g : Grammar) → SeesSymbols spelled_grammar g
sees_grammar g a b alike is = record {
  shallow = subst (λ (ss : List Symbol). IsShallow brackets limit ss) (sym alike) is.shallow;
  spells = subst (λ (ss : List Symbol). SpellsGrammar ss g) (sym alike) is.spells;
}

sees_schedule : (c : CheckedGrammar) (s : NestingSchedule) → SeesSymbols (spelled_schedule c) s
sees_schedule c s a b alike is =
    ⊎_elim
    (λ refused. absurd (cc refused.answer))
    (λ more.
    ⊎_elim
    (λ read.
    inr
    (inl
    (record {
      written = read.written;
      spells = subst (λ (ss : List Symbol). SpellsNestingSchedule ss read.written) (sym alike) read.spells;
      answer = read.answer;
    })))
    (λ memory. absurd (cc memory))
    more)
    is

sees_tree : (c : CheckedGrammar) (greatest : ℕ) (t : CheckedTree) → SeesSymbols (λ s. spelled_tree c (wide greatest s)) t
sees_tree c greatest t a b alike is = record {
  node = is.node;
  spelled = record {
    spells = subst (λ (ss : List Symbol). SpellsNode ss is.node) (sym alike) is.spelled.spells;
    shallow = subst (λ (ss : List Symbol). IsShallow braces deepest ss) (sym alike) is.spelled.shallow;
    few = subst (λ (ss : List Symbol). count_of braces.opening ss ≤ most_nodes) (sym alike) is.spelled.few;
  };
  none = is.none;
  is = is.is;
}

sees_edits : (c : CheckedGrammar) (t : Forest) (greatest : ℕ) (es : List Edit)
    → SeesSymbols (λ s. spelled_edits c t (wide greatest s)) es
sees_edits c t greatest es a b alike is = record {
  written = is.written;
  spells = subst (λ (ss : List Symbol). SpellsEdits ss is.written) (sym alike) is.spells;
  is = is.is;
}

pub same_grammar : (width : Width) (c : CheckedGrammar) (text other : List ℕ) → SaysSame 2147483647 text other
    → texts.grammar width other (hands_on c) → texts.grammar width text (hands_on c)
same_grammar width c text other =
    same_stage section.Grammar 2147483647 (λ s. Then (spelled_grammar s) (lawful_grammar width)) c text other
    (sees_then spelled_grammar (lawful_grammar width) c sees_grammar)

pub same_schedule : (c : CheckedGrammar) (s : NestingSchedule) (text other : List ℕ) → SaysSame 2147483647 text other
    → texts.schedule c (Some other) (hands_on s) → texts.schedule c (Some text) (hands_on s)
same_schedule c s text other =
    same_stage section.Schedule 2147483647 (λ x. Then (spelled_schedule c x) (ordered_schedule c)) s text other
    (sees_then (spelled_schedule c) (ordered_schedule c) s (sees_schedule c))

pub same_document : (c : CheckedGrammar) (t : Forest) (text other : List ℕ)
    → SaysSame (greatest_of_width c.width) text other → texts.grown_tree c other (hands_on t)
    → texts.grown_tree c text (hands_on t)
same_document c t text other =
    let greatest = greatest_of_width c.width in
    let tree_of : CheckedTree → Stage Forest = λ t. Is (hands_on t.tree) in
    same_stage section.Document greatest (λ s. Then (spelled_tree c (wide greatest s)) tree_of) t text other
    (sees_then (λ s. spelled_tree c (wide greatest s)) tree_of t (sees_tree c greatest))

pub same_edits : (c : CheckedGrammar) (t : Forest) (es : List Edit) (text other : List ℕ)
    → SaysSame (greatest_of_width c.width) text other → texts.edits c t other (hands_on es)
    → texts.edits c t text (hands_on es)
same_edits c t es text other =
    let greatest = greatest_of_width c.width in
    same_stage section.Edits greatest (λ s. spelled_edits c t (wide greatest s)) es text other (sees_edits c t greatest es)
