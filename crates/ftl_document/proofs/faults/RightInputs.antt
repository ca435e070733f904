-- The inputs of a node's tree: as many as the class has, each within the width.
use Rattle.std.proofs.Common.{◌≡◌, ℕ, suc, Bool, true, false, cond, if◌then◌else◌, refl, sym, ◌∙◌, ap, ⊎_elim, arith, List, [], ◌∷◌, length, map, filter, Contains, pos}
use Rattle.std.specs.Str.{bytes_eq}
use Rattle.std.proofs.lemmas.Int.{ints}
use Rattle.std.proofs.lemmas.List.{length-map, map-append}
use Rattle.std.proofs.lemmas.List.Elements.{Contains-append_cases}
use Rattle.ftl_model.proofs.lists.Elements.{here_in, later_in}
use Rattle.ftl_model.specs.layout.AttributeGrammar as model
use Rattle.ftl_model.specs.layout.AttributeGrammar.{class_inputs}
use Rattle.ftl_model.specs.layout.TreeOf.{AreInputs, IsInput}
use Rattle.ftl_grammar.specs.declared.syntax.rules.AttrDecl.{AttrDecl}
use Rattle.ftl_grammar.specs.declared.syntax.rules.AttrKind.{AttrKind}
use Rattle.ftl_grammar.specs.declared.syntax.rules.AttrKind.TheVariants as kinds
use Rattle.ftl_grammar.specs.declared.syntax.rules.Grammar.{Grammar}
use Rattle.ftl_document.specs.syntax.Written.{NameText, WrittenFields, list_field, no_fields, node_field, number_field}
use Rattle.ftl_meaning.specs.faults.Checked.{is_input}
use Rattle.ftl_meaning.specs.faults.Numbering.{class_attributes, interface_of, own_attributes, shared_attributes}
use Rattle.ftl_meaning.specs.grammars.GrammarOf.{declaration_at, grammar_of, sort_of}
use Rattle.ftl_meaning.proofs.lawful.Numbers.{own_at, shared_at}
use Rattle.ftl_document.specs.faults.DocumentTree.{inputs_in, number_named}
use Rattle.ftl_document.specs.faults.FirstFault.{input_names}
use Rattle.ftl_document.specs.faults.Within.{AreWithin}

-- ---- within the width

zero_is_input : (greatest : ℕ) → IsInput greatest (pos 0)
zero_is_input greatest = (omega (arith, ints), omega (arith, ints))

-- the number in a field
named_within : (greatest : ℕ) (fields : WrittenFields) (name : NameText) → AreWithin greatest fields
    → IsInput greatest (number_named fields name)
named_within greatest no_fields name h = zero_is_input greatest
named_within greatest (number_field other n later) name h =
    elim (bytes_eq name other) as (λ b. IsInput greatest (if b then n else number_named later name))
    [ true ↦ h.0 | false ↦ named_within greatest later name h.1 ]
named_within greatest (node_field other class _ later) name h = named_within greatest later name h.1
named_within greatest (list_field other nodes later) name h = named_within greatest later name h.1

-- each of the inputs
pub inputs_within : (greatest : ℕ) (fields : WrittenFields) → AreWithin greatest fields → (names : List NameText)
    → AreInputs greatest (map (number_named fields) names)
inputs_within greatest _ h [] = tt
inputs_within greatest fields h (name ∷ names) =
    (named_within greatest fields name h, inputs_within greatest fields h names)

-- ---- how many

-- an input's kind is an input's sort
input_sort : (kind : AttrKind) → model.is_input (sort_of kind) ≡ is_input kind
input_sort kinds.Inh = refl
input_sort kinds.Syn = refl
input_sort kinds.Input = refl
input_sort kinds.Local = refl

same_lengths : {X Y : Type 0} (b c : Bool) (x : X) (xs : List X) (y : Y) (ys : List Y) → b ≡ c → length xs ≡ length ys
    → length (cond b (x ∷ xs) xs) ≡ length (cond c (y ∷ ys) ys)
same_lengths true true x xs y ys e same = ap suc same
same_lengths false false x xs y ys e same = same
same_lengths true false x xs y ys e same = absurd (let z : ⊥ = grind (arith, e) in z)
same_lengths false true x xs y ys e same = absurd (let z : ⊥ = grind (arith, e) in z)

-- as many attributes are inputs by number as by declaration
counts_inputs : (g : Grammar) (xs : List (ℕ × AttrDecl))
    → ((x : ℕ × AttrDecl) → Contains xs x → declaration_at g x.0 ≡ x.1)
    → length (filter (λ a. model.is_input (sort_of (declaration_at g a).kind)) (map (λ x. x.0) xs))
    ≡ length (filter (λ x. is_input x.1.kind) xs)
counts_inputs g [] at = refl
counts_inputs g (x ∷ xs) at =
    same_lengths (model.is_input (sort_of (declaration_at g x.0).kind)) (is_input x.1.kind) x.0
    (filter (λ a. model.is_input (sort_of (declaration_at g a).kind)) (map (λ x. x.0) xs)) x
    (filter (λ x. is_input x.1.kind) xs)
    (ap (λ (d : AttrDecl). model.is_input (sort_of d.kind)) (at x (here_in x xs)) ∙ input_sort x.1.kind)
    (counts_inputs g xs (λ y there. at y (later_in x y xs there)))

-- each attribute of a class is the one of its number
attributes_at : (g : Grammar) (k : ℕ) (x : ℕ × AttrDecl) → Contains (class_attributes g k) x → declaration_at g x.0 ≡ x.1
attributes_at g k x there =
    ⊎_elim (λ shared. (shared_at g (interface_of g k) x shared).1) (λ own. (own_at g k x own).1)
    (Contains-append_cases (shared_attributes g (interface_of g k)) (own_attributes g k) x there)

-- a node has as many inputs as its class
pub inputs_counted : (greatest : ℕ) (g : Grammar) (k : ℕ) (fields : WrittenFields)
    → length (inputs_in g k fields) ≡ length (class_inputs (grammar_of greatest g) k)
inputs_counted greatest g k fields =
    length-map (input_names g k) (number_named fields)
    ∙ length-map (filter (λ (x : ℕ × AttrDecl). is_input x.1.kind) (class_attributes g k)) (λ (x : ℕ × AttrDecl). x.1.name)
    ∙ sym (counts_inputs g (class_attributes g k) (attributes_at g k))
    ∙ ap (λ ns. length (filter (λ a. model.is_input (sort_of (declaration_at g a).kind)) ns))
    (map-append (λ (x : ℕ × AttrDecl). x.0) (shared_attributes g (interface_of g k)) (own_attributes g k))
