-- Attributes, each declared by itself, and the names that are shown.
use Rattle.std.proofs.Common.{◌≡◌, List, [], ◌∷◌, ◌++◌, map, flat_map, refl, sym, ap, subst}
use Rattle.std.proofs.lemmas.Grind.{flat_map-append}
use Rattle.ftl_tokens.specs.declared.scanner.kind.Kind.{Kind}
use Rattle.ftl_tokens.specs.declared.scanner.kind.Kind.TheVariants as kind
use Rattle.ftl_tokens.specs.scanner.Tokenized.{Symbol, name, fixed}
use Rattle.ftl_tokens.specs.reading.Reader.{Tokens}
use Rattle.ftl_grammar.specs.declared.syntax.rules.AttrKind.{AttrKind}
use Rattle.ftl_grammar.specs.declared.syntax.rules.AttrKind.TheVariants as attr
use Rattle.ftl_grammar.specs.declared.syntax.rules.AttrDecl.{AttrDecl}
use Rattle.ftl_grammar.specs.syntax.Trees.{NameText, attr_decl}
use Rattle.ftl_grammar.specs.syntax.GrammarSpelling.{SpellsNames, one_name, more_names, inh_group, syn_group}
use Rattle.ftl_grammar.specs.syntax.GrammarSpelling.{input_group, SpellsAttrs, no_attrs, more_attrs, SpellsShown, none_shown}
use Rattle.ftl_grammar.specs.syntax.GrammarSpelling.{some_shown, own_input_group, own_local_group}
use Rattle.ftl_grammar.specs.syntax.GrammarSpelling.{SpellsOwnAttrs, no_own_attrs, more_own_attrs}
use Rattle.ftl_tokens.specs.writing.Written.{CanBeSaid}
use Rattle.ftl_grammar.specs.printing.GrammarTokens.{attr_word, attr_tokens, next_name, shown_tokens}
use Rattle.ftl_grammar.proofs.printing.Levels.{Each, each-append, each-left, each-right, IsPlain}
use Rattle.ftl_grammar.proofs.printing.SpelledExpressions.{is_name, no_bracket}

-- what a token of a grammar's text can say
abbrev pub Said : Symbol → Type 0
Said t = CanBeSaid 2147483647 t

-- attributes of one kind
abbrev pub decls : AttrKind → List NameText → List AttrDecl
decls k ns = map (attr_decl k) ns

-- ---- names

names_plain : {a : Tokens} {ns : List NameText} → SpellsNames a ns → Each IsPlain a
names_plain one_name = (is_name, tt)
names_plain (more_names s) = (is_name, (no_bracket kind.Comma tt, names_plain s))

names_said : {a : Tokens} {ns : List NameText} → SpellsNames a ns → Each Said a → Each (λ n. Said (name n)) ns
names_said one_name said = said
names_said (more_names s) said = (said.0, names_said s said.1.1)

-- those of a group, which stand between a word and `;`
group_said : (w : Kind) {a : Tokens} {ns : List NameText} → SpellsNames a ns
    → Each Said (fixed w ∷ (a ++ (fixed kind.Semicolon ∷ []))) → Each (λ n. Said (name n)) ns
group_said w {a = a} s said = names_said s (each-left Said a (fixed kind.Semicolon ∷ []) said.1)

group_plain : {w : Kind} {a : Tokens} {ns : List NameText} → IsPlain (fixed w) → SpellsNames a ns
    → Each IsPlain (fixed w ∷ (a ++ (fixed kind.Semicolon ∷ [])))
group_plain {a = a} p s =
    (p, each-append IsPlain a (fixed kind.Semicolon ∷ []) (names_plain s) (no_bracket kind.Semicolon tt, tt))

-- ---- attributes by themselves

word_plain : (k : AttrKind) → IsPlain (fixed (attr_word k))
word_plain attr.Inh = no_bracket kind.Inh tt
word_plain attr.Syn = no_bracket kind.Syn tt
word_plain attr.Input = no_bracket kind.Input tt
word_plain attr.Local = no_bracket kind.Local tt

word_said : (k : AttrKind) → Said (fixed (attr_word k))
word_said attr.Inh = tt
word_said attr.Syn = tt
word_said attr.Input = tt
word_said attr.Local = tt

pub attrs_plain : (xs : List AttrDecl) → Each IsPlain (flat_map attr_tokens xs)
attrs_plain [] = tt
attrs_plain (x ∷ xs) = (word_plain x.kind, (is_name, (no_bracket kind.Semicolon tt, attrs_plain xs)))

decls_said : (k : AttrKind) (ns : List NameText) → Each (λ n. Said (name n)) ns → Each Said (flat_map attr_tokens (decls k ns))
decls_said k [] said = tt
decls_said k (n ∷ ns) said = (word_said k, (said.0, (tt, decls_said k ns said.1)))

-- what is said of attributes that some tokens spell
pub record Declared (S : Tokens → List AttrDecl → Type 0) (a : Tokens) (xs : List AttrDecl) : Type 0 where
  pub spells : S (flat_map attr_tokens xs) xs
  pub plain : Each IsPlain a
  pub said : Each Said a → Each Said (flat_map attr_tokens xs)

-- attributes of one kind in front of others
module _ (S : Tokens → List AttrDecl → Type 0) (k : AttrKind)
    (one : (n : NameText) (b : Tokens) (ys : List AttrDecl) → S b ys → S (attr_tokens (attr_decl k n) ++ b) (attr_decl k n ∷ ys)) where
  decls_first : (ns : List NameText) {b : Tokens} {ys : List AttrDecl} → S b ys
      → S (flat_map attr_tokens (decls k ns) ++ b) (decls k ns ++ ys)
  decls_first [] s = s
  decls_first (n ∷ ns) s = one n _ _ (decls_first ns s)

  declare : {w : Kind} {a b : Tokens} {ns : List NameText} {ys : List AttrDecl} → IsPlain (fixed w) → SpellsNames a ns
      → Declared S b ys → Declared S ((fixed w ∷ (a ++ (fixed kind.Semicolon ∷ []))) ++ b) (decls k ns ++ ys)
  declare {w} {a} {b} {ns} {ys} p s d =
      let group = fixed w ∷ (a ++ (fixed kind.Semicolon ∷ [])) in
      let apart : flat_map attr_tokens (decls k ns ++ ys) ≡ flat_map attr_tokens (decls k ns) ++ flat_map attr_tokens ys =
      flat_map-append attr_tokens (decls k ns) ys in
      record {
        spells = subst (λ l. S l (decls k ns ++ ys)) (sym apart) (decls_first ns d.spells);
        plain = each-append IsPlain group b (group_plain p s) d.plain;
        said = λ said.
            subst (Each Said) (sym apart)
            (each-append Said (flat_map attr_tokens (decls k ns)) (flat_map attr_tokens ys)
            (decls_said k ns (group_said w s (each-left Said group b said))) (d.said (each-right Said group b said)));
      }

pub attrs_declared : {a : Tokens} {xs : List AttrDecl} → SpellsAttrs a xs → Declared SpellsAttrs a xs
attrs_declared no_attrs = record { spells = no_attrs; plain = tt; said = λ said. tt }
attrs_declared (more_attrs (inh_group s) t) =
    declare SpellsAttrs attr.Inh (λ n b ys s. more_attrs (inh_group one_name) s) (no_bracket kind.Inh tt) s (attrs_declared t)
attrs_declared (more_attrs (syn_group s) t) =
    declare SpellsAttrs attr.Syn (λ n b ys s. more_attrs (syn_group one_name) s) (no_bracket kind.Syn tt) s (attrs_declared t)
attrs_declared (more_attrs (input_group s) t) =
    declare SpellsAttrs attr.Input (λ n b ys s. more_attrs (input_group one_name) s) (no_bracket kind.Input tt) s (attrs_declared t)

pub own_attrs_declared : {a : Tokens} {xs : List AttrDecl} → SpellsOwnAttrs a xs → Declared SpellsOwnAttrs a xs
own_attrs_declared no_own_attrs = record { spells = no_own_attrs; plain = tt; said = λ said. tt }
own_attrs_declared (more_own_attrs (own_input_group s) t) =
    declare SpellsOwnAttrs attr.Input (λ n b ys s. more_own_attrs (own_input_group one_name) s) (no_bracket kind.Input tt) s (own_attrs_declared t)
own_attrs_declared (more_own_attrs (own_local_group s) t) =
    declare SpellsOwnAttrs attr.Local (λ n b ys s. more_own_attrs (own_local_group one_name) s) (no_bracket kind.Local tt) s (own_attrs_declared t)

-- ---- what is shown

-- what is said of shown names
pub record Shows (a : Tokens) (ns : List NameText) : Type 0 where
  pub same : a ≡ shown_tokens ns
  pub plain : Each IsPlain a

shown_same : {a : Tokens} {ns : List NameText} → SpellsNames a ns
    → fixed kind.Show ∷ (a ++ (fixed kind.Semicolon ∷ [])) ≡ shown_tokens ns
shown_same one_name = refl
shown_same (more_names {n = n} s) = ap (λ l. fixed kind.Show ∷ name n ∷ l) (next_same s)
  where
    next_same : {b : Tokens} {ms : List NameText} → SpellsNames b ms
        → fixed kind.Comma ∷ (b ++ (fixed kind.Semicolon ∷ [])) ≡ flat_map next_name ms ++ (fixed kind.Semicolon ∷ [])
    next_same one_name = refl
    next_same (more_names {n = m} t) = ap (λ l. fixed kind.Comma ∷ name m ∷ l) (next_same t)

pub shown_shows : {a : Tokens} {ns : List NameText} → SpellsShown a ns → Shows a ns
shown_shows none_shown = record { same = refl; plain = tt }
shown_shows (some_shown s) = record { same = shown_same s; plain = group_plain (no_bracket kind.Show tt) s }
