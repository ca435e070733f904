-- What each form of a sum begins with, and what its chains of parts begin with.
use Rattle.std.proofs.Common.{ℕ, ◌≤◌, ◌++◌, sym, subst, append_assoc, arith}
use Rattle.ftl_tokens.specs.reading.Reader.{Tokens, next_kind}
use Rattle.ftl_grammar.specs.declared.syntax.expression.Read.{Read}
use Rattle.ftl_grammar.specs.declared.syntax.expression.Atom.{Atom}
use Rattle.ftl_grammar.specs.declared.syntax.expression.Unary.{Unary}
use Rattle.ftl_grammar.specs.declared.syntax.expression.Term.{Term}
use Rattle.ftl_grammar.specs.declared.syntax.expression.Sum.{Sum}
use Rattle.ftl_grammar.specs.syntax.Spelling.{SpellsRead, SpellsPlain, SpellsAtom, SpellsUnary, SpellsTerm, SpellsSum, own}
use Rattle.ftl_grammar.specs.syntax.Spelling.{this, prev, of_child, plain_number, plain_acc, plain_read, plain_group}
use Rattle.ftl_grammar.specs.syntax.Spelling.{plain_atom, least, greatest, last_or, unsigned, negative, term_of, sum_of}
use Rattle.ftl_grammar.proofs.syntax.Heads.{form}

-- the first token may begin this form, or one that it may be
abbrev pub BeginsWith : ℕ → Tokens → Type 0
BeginsWith n ts = form (next_kind ts) ≤ n

pub read_begins : {a : Tokens} {x : Read} → SpellsRead a x → (rest : Tokens) → BeginsWith 0 (a ++ rest)
unfolding next_kind
read_begins own rest = omega arith
read_begins this rest = omega arith
read_begins prev rest = omega arith
read_begins of_child rest = omega arith

pub plain_begins : {a : Tokens} {x : Atom} → SpellsPlain a x → (rest : Tokens) → BeginsWith 1 (a ++ rest)
unfolding next_kind
plain_begins plain_number rest = omega arith
plain_begins plain_acc rest = omega arith
plain_begins (plain_read s) rest = omega (arith, read_begins s rest)
plain_begins (plain_group s) rest = omega arith

pub atom_begins : {a : Tokens} {x : Atom} → SpellsAtom a x → (rest : Tokens) → BeginsWith 2 (a ++ rest)
unfolding next_kind
atom_begins (plain_atom s) rest = omega (arith, plain_begins s rest)
atom_begins (least s t) rest = omega arith
atom_begins (greatest s t) rest = omega arith
atom_begins (last_or s) rest = omega arith

pub unary_begins : {a : Tokens} {x : Unary} → SpellsUnary a x → (rest : Tokens) → BeginsWith 3 (a ++ rest)
unfolding next_kind
unary_begins (unsigned s) rest = omega (arith, atom_begins s rest)
unary_begins (negative s) rest = omega arith

pub term_begins : {a : Tokens} {x : Term} → SpellsTerm a x → (rest : Tokens) → BeginsWith 3 (a ++ rest)
term_begins (term_of {a = a} {b = b} s t) rest =
    subst (BeginsWith 3) (sym (append_assoc a b rest)) (unary_begins s (b ++ rest))

pub sum_begins : {a : Tokens} {x : Sum} → SpellsSum a x → (rest : Tokens) → BeginsWith 3 (a ++ rest)
sum_begins (sum_of {a = a} {b = b} s t) rest =
    subst (BeginsWith 3) (sym (append_assoc a b rest)) (term_begins s (b ++ rest))
