-- Rules as people write them: the tokens that spell a rule, with spaces around operators and none around dots.
use Rattle.std.specs.Prelude.{ℕ, List, [], ◌∷◌, ◌++◌, codes, flat_map, map, slice_index_or}
use Rattle.std.specs.Fmt.{decimal}
use Rattle.ftl_grammar.specs.declared.syntax.rules.Grammar.{Grammar}
use Rattle.ftl_grammar.specs.declared.syntax.rules.Rule.{Rule}
use Rattle.ftl_grammar.specs.printing.GrammarTokens.{body_tokens, target_tokens}
use Rattle.ftl_meaning.specs.faults.Checked.{all_rules, rule_info_at}
use Rattle.ftl_meaning.specs.faults.Numbering.{class_at}
use Rattle.ftl_tokens.specs.declared.scanner.kind.Kind.{Kind}
use Rattle.ftl_tokens.specs.declared.scanner.kind.Kind.TheVariants as kind
use Rattle.ftl_tokens.specs.reading.Reader.{Tokens}
use Rattle.ftl_tokens.specs.scanner.Tokenized.{Symbol, fixed, name, number}
use Rattle.ftl_tokens.specs.writing.Written.{fixed_text}

-- the space before a reserved word or a mark: one before an operator and before a word between two expressions
abbrev pub space_before : Kind → List ℕ
space_before kind.Assign = codes " "
space_before kind.Then = codes " "
space_before kind.Else = codes " "
space_before kind.From = codes " "
space_before kind.With = codes " "
space_before kind.Or = codes " "
space_before kind.Plus = codes " "
space_before kind.Minus = codes " "
space_before kind.Star = codes " "
space_before kind.Slash = codes " "
space_before kind.Less = codes " "
space_before kind.LessEq = codes " "
space_before kind.More = codes " "
space_before kind.MoreEq = codes " "
space_before kind.EqualEqual = codes " "
space_before kind.Unequal = codes " "
space_before kind.AndAnd = codes " "
space_before kind.OrOr = codes " "
space_before _ = []

-- the space behind one: one behind these, too, and behind a comma and a word with which a form begins
abbrev pub space_after : Kind → List ℕ
space_after kind.If = codes " "
space_after kind.First = codes " "
space_after kind.Fold = codes " "
space_after kind.Last = codes " "
space_after kind.Comma = codes " "
space_after kind = space_before kind

-- a token, with the spaces around it
unfoldable pub spoken : Symbol → List ℕ
spoken (name text) = text
spoken (number value) = decimal value
spoken (fixed kind) = space_before kind ++ (fixed_text kind ++ space_after kind)

-- tokens, with the spaces around each
abbrev pub spoken_text : Tokens → List ℕ
spoken_text tokens = flat_map spoken tokens

-- a rule, without the `;` at its end
abbrev pub rule_text : Rule → List ℕ
rule_text x = spoken_text (target_tokens x.target ++ (fixed kind.Assign ∷ body_tokens x.body))

-- the name of the class that has the rule of this number
abbrev pub rule_class_at : Grammar → (rule : ℕ) → List ℕ
rule_class_at g r = (class_at g (rule_info_at g r).class).name

-- the text of the rule of this number, in the order of the grammar; none past the end
abbrev pub rule_text_at : Grammar → (rule : ℕ) → List ℕ
rule_text_at g r = slice_index_or (map (λ (x : ℕ × Rule). rule_text x.1) (all_rules g)) r []
