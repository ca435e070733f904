-- Pages whose tables are computed by demand.
use Rattle.std.specs.Prelude.{ℕ, List}
use Rattle.ftl_meaning.specs.faults.Checked.{CheckedGrammar}
use Rattle.ftl_page.specs.declared.sections.page.Page.{Page}
use Rattle.ftl_answer.specs.answers.Answers.{document_text, shown_by}
use Rattle.ftl_answer.specs.answers.Stages.{Stage, Then}
use Rattle.ftl_answer.specs.answers.Texts.{grammar, grown_tree, noncircular_grammar}
use Rattle.ftl_run.specs.calls.SolvedPages.{TableText}

-- the tree of a document, and its table shown
abbrev pub document_stage : CheckedGrammar → (document : List ℕ) → TableText → Stage ⊥
document_stage c document text = Then (grown_tree c document) (shown_by text c)

-- the same where the grammar is noncircular
abbrev pub grammar_stage : CheckedGrammar → (document : List ℕ) → TableText → Stage ⊥
grammar_stage c document text = Then (noncircular_grammar c) (λ _. document_stage c document text)

-- the grammar of a page, and the same of its document
abbrev pub page_stage : Page → TableText → Stage ⊥
page_stage p text = Then (grammar p.width p.grammar) (λ c. grammar_stage c (document_text p) text)
