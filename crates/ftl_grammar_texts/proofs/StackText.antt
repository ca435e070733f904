-- The text `stack`, token by token, and the grammar that its tokens spell.
use Rattle.std.proofs.Common.{◌≡◌, ℕ, ◌+◌, ◌≤◌, true, cond, List, [], ◌∷◌, ◌++◌, refl, sym, ap, ◌∙◌, subst, arith}
use Rattle.std.specs.Prelude.{codes}
use Rattle.std.proofs.lemmas.List.Sums.{sum_by-append}
use Rattle.ftl_boxes.specs.Stack.{stack_text}
use Rattle.ftl_tokens.specs.declared.scanner.kind.Kind.TheVariants as kind
use Rattle.ftl_tokens.specs.reading.Depth.{IsShallow, count_of, is_among}
use Rattle.ftl_tokens.specs.reading.Reader.{Tokens, same_kind}
use Rattle.ftl_tokens.specs.scanner.Tokenized.{Symbol, fixed, name, number}
use Rattle.ftl_tokens.specs.writing.Written.{Says, Written, said_by, text_of, written}
use Rattle.ftl_tokens.proofs.writing.WrittenScan.{says_written}
use Rattle.ftl_grammar.specs.declared.syntax.expression.Atom.{Atom}
use Rattle.ftl_grammar.specs.declared.syntax.expression.Expr.TheVariants as exprs
use Rattle.ftl_grammar.specs.printing.TextOf.{IsTextOf}
use Rattle.ftl_grammar.specs.syntax.Brackets.{brackets, limit}
use Rattle.ftl_grammar.specs.syntax.GrammarSpelling.{SpellsClass, SpellsGrammar, SpellsInterface, child_plain, child_rule}
use Rattle.ftl_grammar.specs.syntax.GrammarSpelling.{class_declared, class_of, first_then, fold, grammar_of, inh_group}
use Rattle.ftl_grammar.specs.syntax.GrammarSpelling.{interface_declared, interface_of, list, more_attrs, more_children}
use Rattle.ftl_grammar.specs.syntax.GrammarSpelling.{more_names, more_own_attrs, more_rules, no_attrs, no_children}
use Rattle.ftl_grammar.specs.syntax.GrammarSpelling.{no_declarations, no_own_attrs, no_rules, one_name, own_input_group}
use Rattle.ftl_grammar.specs.syntax.GrammarSpelling.{own_plain, own_rule, single, some_shown, syn_group}
use Rattle.ftl_grammar.specs.syntax.Spelling.{SpellsAtom, SpellsExpr, SpellsSum, SpellsTerm, greatest, more_terms, no_factors}
use Rattle.ftl_grammar.specs.syntax.Spelling.{no_terms, of_child, own, plain_acc, plain_atom, plain_number, plain_read}
use Rattle.ftl_grammar.specs.syntax.Spelling.{plain_sum, plus, prev, sum_of, term_of, this, unsigned}
use Rattle.ftl_grammar.specs.syntax.Worked.{alone, lone}
use Rattle.ftl_meaning.specs.faults.Worked as worked
use Rattle.ftl_grammar_texts.proofs.PlainTexts.{are_plain, plain_are_readable, plain_is_text, plain_text_of}

-- ---- the tokens, each with what follows it

abbrev tight : Symbol → Written
tight s = written s []

abbrev spaced : Symbol → Written
spaced s = written s (codes " ")

abbrev at_end : Symbol → Written
at_end s = written s (codes "\n")

abbrev indented : Symbol → Written
indented s = written s (codes "\n  ")

-- the root
abbrev root : List Written
root =
    spaced (fixed kind.Root) ∷ tight (name (codes "Page")) ∷ at_end (fixed kind.Semicolon) ∷ []

-- the interface `Page`
abbrev page : List Written
page =
    spaced (fixed kind.Interface) ∷ spaced (name (codes "Page")) ∷ spaced (fixed kind.LeftBrace)
    ∷ spaced (fixed kind.Syn) ∷ tight (name (codes "h")) ∷ spaced (fixed kind.Semicolon)
    ∷ spaced (fixed kind.Show) ∷ tight (name (codes "h")) ∷ spaced (fixed kind.Semicolon)
    ∷ at_end (fixed kind.RightBrace) ∷ []

-- the interface `Box`
abbrev box : List Written
box =
    spaced (fixed kind.Interface) ∷ spaced (name (codes "Box")) ∷ spaced (fixed kind.LeftBrace)
    ∷ spaced (fixed kind.Inh) ∷ tight (name (codes "x")) ∷ spaced (fixed kind.Comma) ∷ tight (name (codes "y"))
    ∷ spaced (fixed kind.Semicolon) ∷ spaced (fixed kind.Syn) ∷ tight (name (codes "w"))
    ∷ spaced (fixed kind.Comma) ∷ tight (name (codes "h")) ∷ spaced (fixed kind.Semicolon)
    ∷ spaced (fixed kind.Show) ∷ tight (name (codes "x")) ∷ spaced (fixed kind.Comma)
    ∷ tight (name (codes "y")) ∷ spaced (fixed kind.Comma) ∷ tight (name (codes "w"))
    ∷ spaced (fixed kind.Comma) ∷ tight (name (codes "h")) ∷ spaced (fixed kind.Semicolon)
    ∷ at_end (fixed kind.RightBrace) ∷ []

-- the class `Sheet`
abbrev sheet : List Written
sheet =
    spaced (fixed kind.Class) ∷ spaced (name (codes "Sheet")) ∷ spaced (fixed kind.Colon)
    ∷ spaced (name (codes "Page")) ∷ spaced (fixed kind.LeftBrace) ∷ spaced (name (codes "body"))
    ∷ spaced (fixed kind.Colon) ∷ tight (name (codes "Box")) ∷ indented (fixed kind.Semicolon)
    ∷ tight (fixed kind.SelfWord) ∷ tight (fixed kind.Dot) ∷ spaced (name (codes "h"))
    ∷ spaced (fixed kind.Assign) ∷ tight (name (codes "body")) ∷ tight (fixed kind.Dot)
    ∷ tight (name (codes "h")) ∷ indented (fixed kind.Semicolon) ∷ tight (name (codes "body"))
    ∷ tight (fixed kind.Dot) ∷ spaced (name (codes "x")) ∷ spaced (fixed kind.Assign) ∷ tight (number 0)
    ∷ indented (fixed kind.Semicolon) ∷ tight (name (codes "body")) ∷ tight (fixed kind.Dot)
    ∷ spaced (name (codes "y")) ∷ spaced (fixed kind.Assign) ∷ tight (number 0) ∷ at_end (fixed kind.Semicolon)
    ∷ at_end (fixed kind.RightBrace) ∷ []

-- the class `Column`
abbrev column : List Written
column =
    spaced (fixed kind.Class) ∷ spaced (name (codes "Column")) ∷ spaced (fixed kind.Colon)
    ∷ spaced (name (codes "Box")) ∷ spaced (fixed kind.LeftBrace) ∷ spaced (name (codes "kids"))
    ∷ spaced (fixed kind.Colon) ∷ tight (fixed kind.LeftBracket) ∷ tight (name (codes "Box"))
    ∷ tight (fixed kind.RightBracket) ∷ indented (fixed kind.Semicolon) ∷ tight (fixed kind.SelfWord)
    ∷ tight (fixed kind.Dot) ∷ spaced (name (codes "w")) ∷ spaced (fixed kind.Assign)
    ∷ spaced (fixed kind.Fold) ∷ spaced (name (codes "kids")) ∷ spaced (fixed kind.From) ∷ spaced (number 0)
    ∷ spaced (fixed kind.With) ∷ tight (fixed kind.Max) ∷ tight (fixed kind.LeftParen) ∷ tight (fixed kind.Acc)
    ∷ spaced (fixed kind.Comma) ∷ tight (fixed kind.This) ∷ tight (fixed kind.Dot) ∷ tight (name (codes "w"))
    ∷ tight (fixed kind.RightParen) ∷ indented (fixed kind.Semicolon) ∷ tight (fixed kind.SelfWord)
    ∷ tight (fixed kind.Dot) ∷ spaced (name (codes "h")) ∷ spaced (fixed kind.Assign)
    ∷ spaced (fixed kind.Fold) ∷ spaced (name (codes "kids")) ∷ spaced (fixed kind.From) ∷ spaced (number 0)
    ∷ spaced (fixed kind.With) ∷ spaced (fixed kind.Acc) ∷ spaced (fixed kind.Plus) ∷ tight (fixed kind.This)
    ∷ tight (fixed kind.Dot) ∷ tight (name (codes "h")) ∷ indented (fixed kind.Semicolon)
    ∷ tight (name (codes "kids")) ∷ tight (fixed kind.Dot) ∷ spaced (name (codes "x"))
    ∷ spaced (fixed kind.Assign) ∷ tight (fixed kind.SelfWord) ∷ tight (fixed kind.Dot)
    ∷ tight (name (codes "x")) ∷ indented (fixed kind.Semicolon) ∷ tight (name (codes "kids"))
    ∷ tight (fixed kind.Dot) ∷ spaced (name (codes "y")) ∷ spaced (fixed kind.Assign)
    ∷ spaced (fixed kind.First) ∷ tight (fixed kind.SelfWord) ∷ tight (fixed kind.Dot)
    ∷ spaced (name (codes "y")) ∷ spaced (fixed kind.Then) ∷ tight (fixed kind.Prev) ∷ tight (fixed kind.Dot)
    ∷ spaced (name (codes "y")) ∷ spaced (fixed kind.Plus) ∷ tight (fixed kind.Prev) ∷ tight (fixed kind.Dot)
    ∷ tight (name (codes "h")) ∷ at_end (fixed kind.Semicolon) ∷ at_end (fixed kind.RightBrace) ∷ []

-- the class `Word`
abbrev word : List Written
word =
    spaced (fixed kind.Class) ∷ spaced (name (codes "Word")) ∷ spaced (fixed kind.Colon)
    ∷ spaced (name (codes "Box")) ∷ spaced (fixed kind.LeftBrace) ∷ spaced (fixed kind.Input)
    ∷ tight (name (codes "iw")) ∷ spaced (fixed kind.Comma) ∷ tight (name (codes "ih"))
    ∷ indented (fixed kind.Semicolon) ∷ tight (fixed kind.SelfWord) ∷ tight (fixed kind.Dot)
    ∷ spaced (name (codes "w")) ∷ spaced (fixed kind.Assign) ∷ tight (fixed kind.SelfWord)
    ∷ tight (fixed kind.Dot) ∷ tight (name (codes "iw")) ∷ indented (fixed kind.Semicolon)
    ∷ tight (fixed kind.SelfWord) ∷ tight (fixed kind.Dot) ∷ spaced (name (codes "h"))
    ∷ spaced (fixed kind.Assign) ∷ tight (fixed kind.SelfWord) ∷ tight (fixed kind.Dot)
    ∷ tight (name (codes "ih")) ∷ at_end (fixed kind.Semicolon) ∷ at_end (fixed kind.RightBrace) ∷ []

abbrev whole : List Written
whole = root ++ (page ++ (box ++ (sheet ++ (column ++ word))))

-- ---- they are the text

is_plain : are_plain whole ≡ true
is_plain = refl

is_text : text_of whole ≡ stack_text
unfolding stack_text
is_text = plain_is_text whole is_plain ∙ (let same : plain_text_of whole ≡ stack_text = refl in same)

says : Says 2147483647 stack_text (said_by whole)
says =
    subst (λ (text : List ℕ). Says 2147483647 text (said_by whole)) is_text
    (says_written 2147483647 (omega arith) whole (plain_are_readable whole refl is_plain))

-- ---- few brackets are open

opened : count_of brackets.opening (said_by whole) ≡ 2
unfolding same_kind
opened = refl

few_open : (n : ℕ) (ts : Tokens) → count_of brackets.opening ts ≤ n → IsShallow brackets n ts
few_open n ts few = record { within = go }
  where
    go : (front rest : Tokens) → ts ≡ front ++ rest
        → count_of brackets.opening front ≤ count_of brackets.closing front + n
    go front rest split =
        let both = sum_by-append (λ u. cond (is_among brackets.opening u) 1 0) front rest in
        let all = ap (count_of brackets.opening) split in
        omega (arith, few, both, all)

-- ---- they spell the grammar

a_term : {a : Tokens} {x : Atom} → SpellsAtom a x → SpellsTerm (a ++ []) (lone x)
a_term s = term_of (unsigned s) no_factors

a_sum : {a : Tokens} {x : Atom} → SpellsAtom a x → SpellsSum ((a ++ []) ++ []) (alone (lone x))
a_sum s = sum_of (a_term s) no_terms

an_expr : {a : Tokens} {x : Atom} → SpellsAtom a x → SpellsExpr ((a ++ []) ++ []) (exprs.Sum (alone (lone x)))
an_expr s = plain_sum (a_sum s)

page_spelled : SpellsInterface (said_by page) worked.page
page_spelled = interface_of (more_attrs (syn_group one_name) no_attrs) (some_shown one_name)

box_spelled : SpellsInterface (said_by box) worked.box
box_spelled =
    interface_of
    (more_attrs (inh_group (more_names one_name)) (more_attrs (syn_group (more_names one_name)) no_attrs))
    (some_shown (more_names (more_names (more_names one_name))))

sheet_spelled : SpellsClass (said_by sheet) worked.sheet
sheet_spelled =
    class_of no_own_attrs (more_children single no_children)
    (more_rules (own_rule (own_plain (an_expr (plain_atom (plain_read of_child)))))
    (more_rules (child_rule (child_plain (an_expr (plain_atom plain_number))))
    (more_rules (child_rule (child_plain (an_expr (plain_atom plain_number)))) no_rules)))

column_spelled : SpellsClass (said_by column) worked.column
column_spelled =
    class_of no_own_attrs (more_children list no_children)
    (more_rules
    (own_rule
    (fold (an_expr (plain_atom plain_number))
    (an_expr (greatest (an_expr (plain_atom plain_acc)) (an_expr (plain_atom (plain_read this)))))))
    (more_rules
    (own_rule
    (fold (an_expr (plain_atom plain_number))
    (plain_sum
    (sum_of (a_term (plain_atom plain_acc)) (more_terms (plus (a_term (plain_atom (plain_read this)))) no_terms)))))
    (more_rules (child_rule (child_plain (an_expr (plain_atom (plain_read own)))))
    (more_rules
    (child_rule
    (first_then (an_expr (plain_atom (plain_read own)))
    (plain_sum
    (sum_of (a_term (plain_atom (plain_read prev)))
    (more_terms (plus (a_term (plain_atom (plain_read prev)))) no_terms)))))
    no_rules))))

word_spelled : SpellsClass (said_by word) worked.word
word_spelled =
    class_of (more_own_attrs (own_input_group (more_names one_name)) no_own_attrs) no_children
    (more_rules (own_rule (own_plain (an_expr (plain_atom (plain_read own)))))
    (more_rules (own_rule (own_plain (an_expr (plain_atom (plain_read own))))) no_rules))

spelled : SpellsGrammar (said_by whole) worked.stack
spelled =
    grammar_of
    (interface_declared page_spelled
    (interface_declared box_spelled
    (class_declared sheet_spelled (class_declared column_spelled (class_declared word_spelled no_declarations)))))

pub stack_is_spelled : IsTextOf stack_text worked.stack
stack_is_spelled = record {
  tokens = says.tokens;
  scanned = says.scanned;
  shallow =
      subst (IsShallow brackets limit) (sym says.said)
      (few_open limit (said_by whole) (let two = opened in omega (arith, two)));
  spells = subst (λ (ts : Tokens). SpellsGrammar ts worked.stack) (sym says.said) spelled;
}
