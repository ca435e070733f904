-- The names of a grammar that can be read can be said.
use Rattle.std.proofs.Common.{ℕ, zero, suc, ◌<◌, Bool, true, false, if◌then◌else◌, List, [], ◌∷◌, ◌++◌, length, map, filter}
use Rattle.std.proofs.Common.{flat_map, arith}
use Rattle.std.specs.Prelude.{slice_index_or}
use Rattle.std.specs.List.{AllByRecursion}
use Rattle.ftl_model.proofs.lists.Each.{each-append}
use Rattle.ftl_tokens.specs.declared.scanner.kind.Kind.TheVariants as kind
use Rattle.ftl_tokens.specs.reading.Reader.{Tokens}
use Rattle.ftl_tokens.specs.scanner.Tokenized.{fixed, name}
use Rattle.ftl_tokens.specs.writing.Written.{CanBeSaid}
use Rattle.ftl_grammar.specs.declared.syntax.rules.AttrDecl.{AttrDecl}
use Rattle.ftl_grammar.specs.declared.syntax.rules.Child.{Child}
use Rattle.ftl_grammar.specs.declared.syntax.rules.Class.{Class}
use Rattle.ftl_grammar.specs.declared.syntax.rules.Grammar.{Grammar}
use Rattle.ftl_grammar.specs.declared.syntax.rules.Interface.{Interface}
use Rattle.ftl_grammar.specs.printing.GrammarTokens.{attr_tokens, child_tokens, class_tokens, grammar_tokens}
use Rattle.ftl_grammar.specs.printing.GrammarTokens.{interface_tokens, rule_tokens, shown_tokens}
use Rattle.ftl_grammar.specs.reading.Readable.{CanBeRead}
use Rattle.ftl_grammar.specs.syntax.Trees as trees
use Rattle.ftl_grammar.proofs.printing.CanonicalTexts.{each_said}
use Rattle.ftl_grammar.proofs.printing.Levels.{Each, each-left, each-right}
use Rattle.ftl_grammar.proofs.printing.SpelledAttrs.{Said}
use Rattle.ftl_grammar.proofs.printing.SpelledGrammars.{grammar_canonical}
use Rattle.ftl_meaning.specs.faults.Checked.{is_input}
use Rattle.ftl_meaning.specs.faults.Numbering.{class_at, class_attributes, interface_at, interface_of, numbered}
use Rattle.ftl_meaning.specs.faults.Numbering.{own_attributes, shared_attributes}
use Rattle.ftl_document.specs.faults.FirstFault.{input_names}
use Rattle.ftl_document_printing.specs.round_trip.ReadBack.{AreClassesSaid, IsClassSaid}
use Rattle.ftl_document_printing.specs.text.DocumentText.{IsSaid}

-- the names of these attributes can be said
abbrev AreSaid : List AttrDecl → Type 0
AreSaid xs = AllByRecursion (λ a. IsSaid a.name) xs

attrs_said : (xs : List AttrDecl) → Each Said (flat_map attr_tokens xs) → AreSaid xs
attrs_said [] said = tt
attrs_said (x ∷ xs) said = (said.1.0, attrs_said xs said.1.1.1)

child_said : (x : Child) → Each Said (child_tokens x) → IsSaid x.name
child_said x = go x.many
  where
    go : (many : Bool) → Each Said
        (if many then
        name x.name ∷ fixed kind.Colon ∷ fixed kind.LeftBracket ∷ name x.interface ∷ fixed kind.RightBracket
        ∷ fixed kind.Semicolon ∷ []
        else name x.name ∷ fixed kind.Colon ∷ name x.interface ∷ fixed kind.Semicolon ∷ []) → IsSaid x.name
    go true said = said.0
    go false said = said.0

children_said : (xs : List Child) → Each Said (flat_map child_tokens xs) → AllByRecursion (λ c. IsSaid c.name) xs
children_said [] said = tt
children_said (x ∷ xs) said = (
  child_said x (each-left Said (child_tokens x) (flat_map child_tokens xs) said),
  children_said xs (each-right Said (child_tokens x) (flat_map child_tokens xs) said),
)

-- what can be said of a class's own names
record ClassSaid (x : Class) : Type 0 where
  pub name : IsSaid x.name
  pub attrs : AreSaid x.attrs
  pub children : AllByRecursion (λ c. IsSaid c.name) x.children

class_said : (x : Class) → Each Said (class_tokens x) → ClassSaid x
class_said x said =
    let end : Tokens = fixed kind.RightBrace ∷ [] in
    let rules : Tokens = flat_map rule_tokens x.rules ++ end in
    let children : Tokens = flat_map child_tokens x.children in
    let attrs : Tokens = flat_map attr_tokens x.attrs in
    let inside = said.1.1.1.1.1 in
    let below = each-right Said attrs (children ++ rules) inside in
    record {
      name = said.1.0;
      attrs = attrs_said x.attrs (each-left Said attrs (children ++ rules) inside);
      children = children_said x.children (each-left Said children rules below);
    }

interface_said : (x : Interface) → Each Said (interface_tokens x) → AreSaid x.attrs
interface_said x said =
    attrs_said x.attrs
    (each-left Said (flat_map attr_tokens x.attrs) (shown_tokens x.shown ++ (fixed kind.RightBrace ∷ [])) said.1.1.1)

-- what holds of the tokens of each part
parts_said : {X : Type 0} (P : X → Type 0) (tokens : X → Tokens) → ((x : X) → Each Said (tokens x) → P x)
    → (xs : List X) → Each Said (flat_map tokens xs) → AllByRecursion P xs
parts_said P tokens each [] said = tt
parts_said P tokens each (x ∷ xs) said = (
  each x (each-left Said (tokens x) (flat_map tokens xs) said),
  parts_said P tokens each xs (each-right Said (tokens x) (flat_map tokens xs) said),
)

-- the entry of a number
entry_at : {X : Type 0} (P : X → Type 0) (xs : List X) (d : X) (n : ℕ) → n < length xs → AllByRecursion P xs
    → P (slice_index_or xs n d)
entry_at P [] d n within all = absurd (omega (arith, within))
entry_at P (x ∷ xs) d zero within all = all.0
entry_at P (x ∷ xs) d (suc n) within all = entry_at P xs d n (omega (arith, within)) all.1

-- or that which stands for those past the end
entry_or : {X : Type 0} (P : X → Type 0) (xs : List X) (d : X) (n : ℕ) → P d → AllByRecursion P xs
    → P (slice_index_or xs n d)
entry_or P [] d n past all = past
entry_or P (x ∷ xs) d zero past all = all.0
entry_or P (x ∷ xs) d (suc n) past all = entry_or P xs d n past all.1

numbered_said : (n : ℕ) (xs : List AttrDecl) → AreSaid xs → AllByRecursion (λ a. IsSaid a.1.name) (numbered n xs)
numbered_said n [] said = tt
numbered_said n (x ∷ xs) said = (said.0, numbered_said (suc n) xs said.1)

kept_said : (is : Bool) (x : ℕ × AttrDecl) (rest : List (ℕ × AttrDecl)) → IsSaid x.1.name
    → AllByRecursion IsSaid (map (λ a. a.1.name) rest)
    → AllByRecursion IsSaid (map (λ a. a.1.name) (if is then x ∷ rest else rest))
kept_said true x rest first said = (first, said)
kept_said false x rest first said = said

inputs_said : (xs : List (ℕ × AttrDecl)) → AllByRecursion (λ a. IsSaid a.1.name) xs
    → AllByRecursion IsSaid (map (λ a. a.1.name) (filter (λ a. is_input a.1.kind) xs))
inputs_said [] said = tt
inputs_said (x ∷ xs) said =
    kept_said (is_input x.1.kind) x (filter (λ a. is_input a.1.kind) xs) said.0 (inputs_said xs said.1)

pub names_are_said : (g : Grammar) → CanBeRead g → AreClassesSaid g
names_are_said g is k within =
    let canonical = grammar_canonical is.spells (each_said is.tokens is.said) is.shallow in
    let inside = canonical.said.1.1.1 in
    let shared = flat_map interface_tokens g.interfaces in
    let own = flat_map class_tokens g.classes in
    let interfaces = parts_said (λ x. AreSaid x.attrs) interface_tokens interface_said g.interfaces
    (each-left Said shared own inside) in
    let classes = parts_said ClassSaid class_tokens class_said g.classes (each-right Said shared own inside) in
    let class = entry_at ClassSaid g.classes (trees.class [] [] [] [] []) k within classes in
    let interface = entry_or (λ x. AreSaid x.attrs) g.interfaces (trees.interface [] [] []) (interface_of g k) tt
    interfaces in
    record {
      name = class.name;
      inputs =
          inputs_said (class_attributes g k)
          (each-append (λ a. IsSaid a.1.name) (shared_attributes g (interface_of g k)) (own_attributes g k)
          (numbered_said _ (interface_at g (interface_of g k)).attrs interface)
          (numbered_said _ (class_at g k).attrs class.attrs));
      children = class.children;
    }
