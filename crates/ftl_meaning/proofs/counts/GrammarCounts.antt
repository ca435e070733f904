-- A grammar has no more of anything than tokens spell it.
use Rattle.std.proofs.Common.{ℕ, ◌+◌, ◌≤◌, Bool, true, false, cond, List, [], ◌∷◌, ◌++◌, length, map, filter, flat_map, length-append, arith}
use Rattle.std.specs.List.{AllByRecursion}
use Rattle.std.proofs.lemmas.List.{length-map}
use Rattle.std.proofs.lemmas.List.Elements.{All-from_recursion}
use Rattle.ftl_tokens.specs.declared.scanner.kind.Kind.TheVariants as kind
use Rattle.ftl_tokens.specs.scanner.Tokenized.{fixed}
use Rattle.ftl_tokens.specs.reading.Reader.{Tokens}
use Rattle.ftl_grammar.specs.syntax.Trees.{NameText, attr_decl}
use Rattle.ftl_grammar.specs.declared.syntax.expression.Expr.{Expr}
use Rattle.ftl_grammar.specs.declared.syntax.rules.AttrDecl.{AttrDecl}
use Rattle.ftl_grammar.specs.declared.syntax.rules.AttrKind.{AttrKind}
use Rattle.ftl_grammar.specs.declared.syntax.rules.AttrKind.TheVariants as attr
use Rattle.ftl_grammar.specs.declared.syntax.rules.Body.{Body}
use Rattle.ftl_grammar.specs.declared.syntax.rules.Child.{Child}
use Rattle.ftl_grammar.specs.declared.syntax.rules.Class.{Class}
use Rattle.ftl_grammar.specs.declared.syntax.rules.Grammar.{Grammar}
use Rattle.ftl_grammar.specs.declared.syntax.rules.Interface.{Interface}
use Rattle.ftl_grammar.specs.declared.syntax.rules.Rule.{Rule}
use Rattle.ftl_grammar.specs.syntax.Spelling.{SpellsExpr}
use Rattle.ftl_grammar.specs.syntax.GrammarSpelling.{SpellsAttrGroup, SpellsAttrs, SpellsChild, SpellsChildBody, SpellsChildren, SpellsClass, SpellsDeclarations, SpellsGrammar, SpellsInterface, SpellsNames, SpellsOwnAttrGroup, SpellsOwnAttrs, SpellsOwnBody, SpellsRule, SpellsRules, SpellsShown}
use Rattle.ftl_grammar.specs.syntax.GrammarSpelling.{child_plain, child_rule, class_declared, class_of, first_then, fold, grammar_of, inh_group, input_group, interface_declared, interface_of, list, more_attrs, more_children, more_names, more_own_attrs, more_rules, no_attrs, no_children, no_declarations, no_own_attrs, no_rules, none_shown, one_name, own_input_group, own_local_group, own_plain, own_rule, single, some_shown, syn_group}
use Rattle.ftl_meaning.specs.formulas.Expressions.{formula_of}
use Rattle.ftl_meaning.specs.formulas.Formula.{reads_of}
use Rattle.ftl_meaning.specs.faults.Counts.{HasSmallClass, HasSmallCounts, HasSmallInterface, HasSmallRule, IsSmall}
use Rattle.ftl_meaning.specs.faults.FirstFault.{is_counted, read_count}
use Rattle.ftl_meaning.specs.faults.Numbering.{own_count, shared_count}
use Rattle.ftl_meaning.specs.faults.RuleForms.{expressions_of}
use Rattle.ftl_meaning.proofs.counts.ReadCounts.{expr_few}

-- what is no more than a small number is small
small : (n m : ℕ) → n ≤ m → IsSmall m → IsSmall n
small n m h k = omega (arith, h, k)

few_kept : {X : Type 0} (p : X → Bool) (xs : List X) → length (filter p xs) ≤ length xs
few_kept p [] = omega arith
few_kept p (x ∷ xs) =
    elim (p x) as (λ b. length (cond b (x ∷ filter p xs) (filter p xs)) ≤ length (x ∷ xs))
    [ true ↦ omega (arith, few_kept p xs) | false ↦ omega (arith, few_kept p xs) ]

-- ---- attributes and children

few_names : {a : Tokens} {ns : List NameText} → SpellsNames a ns → length ns ≤ length a
few_names one_name = omega arith
few_names (more_names s) = omega (arith, few_names s)

few_of_kind : (k : AttrKind) {a : Tokens} {ns : List NameText} → SpellsNames a ns
    → length (map (attr_decl k) ns) ≤ length (a ++ (fixed kind.Semicolon ∷ []))
few_of_kind k {a} {ns} s =
    omega (arith, few_names s, length-map ns (attr_decl k), length-append a (fixed kind.Semicolon ∷ []))

few_group : {a : Tokens} {xs : List AttrDecl} → SpellsAttrGroup a xs → length xs ≤ length a
few_group (inh_group s) = omega (arith, few_of_kind attr.Inh s)
few_group (syn_group s) = omega (arith, few_of_kind attr.Syn s)
few_group (input_group s) = omega (arith, few_of_kind attr.Input s)

few_attrs : {a : Tokens} {xs : List AttrDecl} → SpellsAttrs a xs → length xs ≤ length a
few_attrs no_attrs = omega arith
few_attrs (more_attrs {a = a} {b = b} {xs = xs} {ys = ys} s t) =
    omega (arith, few_group s, few_attrs t, length-append a b, length-append xs ys)

few_own_group : {a : Tokens} {xs : List AttrDecl} → SpellsOwnAttrGroup a xs → length xs ≤ length a
few_own_group (own_input_group s) = omega (arith, few_of_kind attr.Input s)
few_own_group (own_local_group s) = omega (arith, few_of_kind attr.Local s)

few_own_attrs : {a : Tokens} {xs : List AttrDecl} → SpellsOwnAttrs a xs → length xs ≤ length a
few_own_attrs no_own_attrs = omega arith
few_own_attrs (more_own_attrs {a = a} {b = b} {xs = xs} {ys = ys} s t) =
    omega (arith, few_own_group s, few_own_attrs t, length-append a b, length-append xs ys)

few_shown : {a : Tokens} {ns : List NameText} → SpellsShown a ns → length ns ≤ length a
few_shown none_shown = omega arith
few_shown (some_shown {a = a} s) = omega (arith, few_names s, length-append a (fixed kind.Semicolon ∷ []))

some_child : {a : Tokens} {x : Child} → SpellsChild a x → 1 ≤ length a
some_child single = omega arith
some_child list = omega arith

few_children : {a : Tokens} {xs : List Child} → SpellsChildren a xs → length xs ≤ length a
few_children no_children = omega arith
few_children (more_children {a = a} {b = b} s t) = omega (arith, some_child s, few_children t, length-append a b)

-- ---- rules

abbrev FewReads : ℕ → Rule → Type 0
FewReads n r = AllByRecursion (λ e. read_count e ≤ n) (expressions_of r.body)

abbrev FewIn : ℕ → Body → Type 0
FewIn n body = AllByRecursion (λ e. read_count e ≤ n) (expressions_of body)

few_reads : {a : Tokens} {x : Expr} → SpellsExpr a x → (n : ℕ) → length a ≤ n → read_count x ≤ n
few_reads {a} {x} s n h = omega (arith, expr_few s, few_kept is_counted (reads_of (formula_of x)), h)

few_in_own : {a : Tokens} {x : Body} → SpellsOwnBody a x → (n : ℕ) → length a ≤ n → FewIn n x
few_in_own (own_plain s) n h = (few_reads s n h, tt)
few_in_own (fold {a = a} {b = b} s t) n h =
    let all = length-append a (fixed kind.With ∷ b) in
    (few_reads s n (omega (arith, all, h)), (few_reads t n (omega (arith, all, h)), tt))

few_in_child : {a : Tokens} {x : Body} → SpellsChildBody a x → (n : ℕ) → length a ≤ n → FewIn n x
few_in_child (child_plain s) n h = (few_reads s n h, tt)
few_in_child (first_then {a = a} {b = b} s t) n h =
    let all = length-append a (fixed kind.Then ∷ b) in
    (few_reads s n (omega (arith, all, h)), (few_reads t n (omega (arith, all, h)), tt))

some_rule : {a : Tokens} {x : Rule} → SpellsRule a x → 1 ≤ length a
some_rule (own_rule s) = omega arith
some_rule (child_rule s) = omega arith

few_in_rule : {a : Tokens} {x : Rule} → SpellsRule a x → (n : ℕ) → length a ≤ n → FewReads n x
few_in_rule (own_rule {a = a} s) n h =
    few_in_own s n (omega (arith, h, length-append a (fixed kind.Semicolon ∷ [])))
few_in_rule (child_rule {a = a} s) n h =
    few_in_child s n (omega (arith, h, length-append a (fixed kind.Semicolon ∷ [])))

few_rules : {a : Tokens} {xs : List Rule} → SpellsRules a xs → length xs ≤ length a
few_rules no_rules = omega arith
few_rules (more_rules {a = a} {b = b} s t) = omega (arith, some_rule s, few_rules t, length-append a b)

small_each : (n : ℕ) → IsSmall n → (es : List Expr) → AllByRecursion (λ e. read_count e ≤ n) es
    → AllByRecursion (λ e. IsSmall (read_count e)) es
small_each n k [] h = tt
small_each n k (e ∷ es) h = (small (read_count e) n h.0 k, small_each n k es h.1)

small_rules : {a : Tokens} {xs : List Rule} → SpellsRules a xs → (n : ℕ) → length a ≤ n → IsSmall n
    → AllByRecursion HasSmallRule xs
small_rules no_rules n h k = tt
small_rules (more_rules {a = a} {b = b} {x = x} s t) n h k =
    let all = length-append a b in (
      All-from_recursion (λ e. IsSmall (read_count e)) (expressions_of x.body)
          (small_each n k (expressions_of x.body) (few_in_rule s n (omega (arith, all, h)))),
      small_rules t n (omega (arith, all, h)) k,
    )

-- ---- interfaces and classes

record InterfaceCounts (a : Tokens) (x : Interface) : Type 0 where
  pub attrs : 1 + length x.attrs ≤ length a
  pub shown : length x.shown ≤ length a

interface_counts : {a : Tokens} {x : Interface} → SpellsInterface a x → InterfaceCounts a x
interface_counts (interface_of {a = a} {b = b} s t) =
    let all = length-append a (b ++ (fixed kind.RightBrace ∷ [])) in
    let later = length-append b (fixed kind.RightBrace ∷ []) in
    record {
      attrs = omega (arith, all, later, few_attrs s);
      shown = omega (arith, all, later, few_shown t);
    }

record ClassCounts (a : Tokens) (x : Class) : Type 0 where
  pub attrs : 1 + length x.attrs ≤ length a
  pub children : length x.children ≤ length a
  pub rules : length x.rules ≤ length a
  pub each : (n : ℕ) → length a ≤ n → IsSmall n → AllByRecursion HasSmallRule x.rules

class_counts : {a : Tokens} {x : Class} → SpellsClass a x → ClassCounts a x
class_counts (class_of {a = a} {b = b} {c = c} s t u) =
    let all = length-append a (b ++ (c ++ (fixed kind.RightBrace ∷ []))) in
    let later = length-append b (c ++ (fixed kind.RightBrace ∷ [])) in
    let last = length-append c (fixed kind.RightBrace ∷ []) in
    record {
      attrs = omega (arith, all, later, last, few_own_attrs s);
      children = omega (arith, all, later, last, few_children t);
      rules = omega (arith, all, later, last, few_rules u);
      each = λ n h k. small_rules u n (omega (arith, all, later, last, h)) k;
    }

-- ---- declarations

record Counts (a : Tokens) (xs : List Interface) (ys : List Class) : Type 0 where
  pub interfaces : length xs ≤ length a
  pub classes : length ys ≤ length a
  pub attributes : shared_count xs + own_count ys ≤ length a
  pub rules : length (flat_map (λ (y : Class). y.rules) ys) ≤ length a
  pub each_interface : (n : ℕ) → length a ≤ n → IsSmall n → AllByRecursion HasSmallInterface xs
  pub each_class : (n : ℕ) → length a ≤ n → IsSmall n → AllByRecursion HasSmallClass ys

counts : {a : Tokens} {xs : List Interface} {ys : List Class} → SpellsDeclarations a xs ys → Counts a xs ys
counts no_declarations =
    record {
      interfaces = omega arith;
      classes = omega arith;
      attributes = omega arith;
      rules = omega arith;
      each_interface = λ n h k. tt;
      each_class = λ n h k. tt;
    }
counts (interface_declared {a = a} {b = b} {x = x} {xs = xs} {ys = ys} s t) =
    let here = interface_counts s in
    let more = counts t in
    let all = length-append a b in
    record {
      interfaces = omega (arith, here.attrs, more.interfaces, all);
      classes = omega (arith, more.classes, all);
      attributes =
          omega (arith, here.attrs, more.attributes, all, length-append x.attrs (flat_map (λ (x : Interface). x.attrs) xs));
      rules = omega (arith, more.rules, all);
      each_interface =
          λ n h k. (
            record {
              attrs = small (length x.attrs) n (omega (arith, here.attrs, all, h)) k;
              shown = small (length x.shown) n (omega (arith, here.shown, all, h)) k;
            },
            more.each_interface n (omega (arith, all, h)) k,
          );
      each_class = λ n h k. more.each_class n (omega (arith, all, h)) k;
    }
counts (class_declared {a = a} {b = b} {y = y} {xs = xs} {ys = ys} s t) =
    let here = class_counts s in
    let more = counts t in
    let all = length-append a b in
    record {
      interfaces = omega (arith, more.interfaces, all);
      classes = omega (arith, here.attrs, more.classes, all);
      attributes =
          omega (arith, here.attrs, more.attributes, all, length-append y.attrs (flat_map (λ (y : Class). y.attrs) ys));
      rules = omega (arith, here.rules, more.rules, all, length-append y.rules (flat_map (λ (y : Class). y.rules) ys));
      each_interface = λ n h k. more.each_interface n (omega (arith, all, h)) k;
      each_class =
          λ n h k. (
            record {
              attrs = small (length y.attrs) n (omega (arith, here.attrs, all, h)) k;
              children = small (length y.children) n (omega (arith, here.children, all, h)) k;
              rules = All-from_recursion HasSmallRule y.rules (here.each n (omega (arith, all, h)) k);
            },
            more.each_class n (omega (arith, all, h)) k,
          );
    }

pub small_counts : (tokens : Tokens) (g : Grammar) → SpellsGrammar tokens g → IsSmall (length tokens) → HasSmallCounts g
small_counts tokens g (grammar_of {a = a} {xs = xs} {ys = ys} s) h =
    let all = counts s in
    let k : IsSmall (length a) = omega (arith, h) in
    let same : length a ≤ length a = omega arith in
    record {
      interfaces = small (length xs) (length a) all.interfaces k;
      classes = small (length ys) (length a) all.classes k;
      attributes = small (shared_count xs + own_count ys) (length a) all.attributes k;
      rules = small (length (flat_map (λ (y : Class). y.rules) ys)) (length a) all.rules k;
      each_interface = All-from_recursion HasSmallInterface xs (all.each_interface (length a) same k);
      each_class = All-from_recursion HasSmallClass ys (all.each_class (length a) same k);
    }
