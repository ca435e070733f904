-- The attributes of an interface, and those that a class has of its own, as runs of numbers.
use Rattle.std.proofs.Common.{◌≡◌, ℕ, ◌+◌, ◌<◌, ◌^◌, List, [], get_or, length, map, take, refl, sym, ◌∙◌, ap, ap₂, arith}
use Rattle.std.specs.List.{range_with_len}
use Rattle.std.proofs.lemmas.List.{get_or_default}
use Rattle.ftl_grammar.specs.syntax.Trees as trees
use Rattle.ftl_grammar.specs.declared.syntax.rules.Class.{Class}
use Rattle.ftl_grammar.specs.declared.syntax.rules.Grammar.{Grammar}
use Rattle.ftl_grammar.specs.declared.syntax.rules.Interface.{Interface}
use Rattle.ftl_meaning.specs.faults.Checked.{all_attributes}
use Rattle.ftl_meaning.specs.faults.Numbering.{class_at, interface_at, own_attributes, own_count, shared_attributes, shared_count}
use Rattle.ftl_checked.proofs.lookup.AttrInfos.{attribute_count_is}
use Rattle.ftl_visit.proofs.rule_tables.AttributeRuns.{count_whole, numbers_of, run_within}

pub record SharedRun (g : Grammar) (xs : List Interface) (i first len : ℕ) (x : Interface) : Type 0 where
  pub all : xs ≡ g.interfaces
  pub known : i < length xs
  pub start : first ≡ shared_count (take i xs)
  pub long : len ≡ length (get_or xs i x).attrs

pub shared_fits : (g : Grammar) (xs : List Interface) (i first len count : ℕ) (x : Interface)
    → SharedRun g xs i first len x → count ≡ length (all_attributes g) → count < 2 ^ 32 → first + len < 2 ^ 32
shared_fits g xs i first len count x run is small =
    let w = run_within (λ (y : Interface). y.attrs) xs i x run.known in
    let start = run.start in
    let long = run.long in
    let whole = ap shared_count run.all in
    let e = attribute_count_is g in
    omega (arith, w, start, long, whole, e, is, small)

pub shared_is : (g : Grammar) (xs : List Interface) (i first len : ℕ) (x : Interface)
    → SharedRun g xs i first len x → range_with_len first len ≡ map (λ a. a.0) (shared_attributes g i)
shared_is g xs i first len x run =
    let none : Interface = trees.interface [] [] [] in
    let here : get_or xs i x ≡ interface_at g i =
    sym (get_or_default xs i none x run.known) ∙ ap (λ ys. get_or ys i none) run.all in
    ap₂ range_with_len (run.start ∙ ap (λ ys. shared_count (take i ys)) run.all)
    (run.long ∙ ap (λ (y : Interface). length y.attrs) here)
    ∙ sym (numbers_of (shared_count (take i g.interfaces)) (interface_at g i).attrs)

pub record OwnRun (g : Grammar) (xs : List Interface) (ks : List Class) (k shared own len : ℕ) (x : Class) : Type 0
  where
    pub interfaces : xs ≡ g.interfaces
    pub all : ks ≡ g.classes
    pub known : k < length ks
    pub before : shared ≡ shared_count (take (length xs) xs)
    pub start : own ≡ own_count (take k ks)
    pub long : len ≡ length (get_or ks k x).attrs

pub own_fits : (g : Grammar) (xs : List Interface) (ks : List Class) (k shared own len count : ℕ) (x : Class)
    → OwnRun g xs ks k shared own len x → count ≡ length (all_attributes g) → count < 2 ^ 32
    → shared + own + len < 2 ^ 32
own_fits g xs ks k shared own len count x run is small =
    let w = run_within (λ (y : Class). y.attrs) ks k x run.known in
    let before = run.before ∙ count_whole (λ (y : Interface). y.attrs) xs in
    let start = run.start in
    let long = run.long in
    let whole = ap shared_count run.interfaces in
    let all = ap own_count run.all in
    let e = attribute_count_is g in
    omega (arith, w, before, start, long, whole, all, e, is, small)

pub own_is : (g : Grammar) (xs : List Interface) (ks : List Class) (k shared own len : ℕ) (x : Class)
    → OwnRun g xs ks k shared own len x
    → range_with_len (shared + own) len ≡ map (λ a. a.0) (own_attributes g k)
own_is g xs ks k shared own len x run =
    let none : Class = trees.class [] [] [] [] [] in
    let here : get_or ks k x ≡ class_at g k =
    sym (get_or_default ks k none x run.known) ∙ ap (λ ys. get_or ys k none) run.all in
    ap₂ range_with_len
    (ap₂ (λ a b. a + b)
    (run.before ∙ count_whole (λ (y : Interface). y.attrs) xs ∙ ap shared_count run.interfaces)
    (run.start ∙ ap (λ ys. own_count (take k ys)) run.all))
    (run.long ∙ ap (λ (y : Class). length y.attrs) here)
    ∙ sym (numbers_of (shared_count g.interfaces + own_count (take k g.classes)) (class_at g k).attrs)

pub own_start_fits : (g : Grammar) (xs : List Interface) (ks : List Class) (k shared own count : ℕ)
    → xs ≡ g.interfaces → ks ≡ g.classes → k < length ks → shared ≡ shared_count (take (length xs) xs)
    → own ≡ own_count (take k ks) → count ≡ length (all_attributes g) → count < 2 ^ 32 → shared + own < 2 ^ 32
own_start_fits g xs ks k shared own count is all known before start same small =
    let none : Class = trees.class [] [] [] [] [] in
    let fits = own_fits g xs ks k shared own (length (get_or ks k none).attrs) count none
    (record { interfaces = is; all = all; known = known; before = before; start = start; long = refl }) same small in
    omega (arith, fits)
