-- The fields of a node's inputs, attribute by attribute.
use Rattle.std.proofs.Common.{◌≡◌, ℕ, Bool, true, false, if◌then◌else◌, List, [], ◌∷◌, ◌++◌, length, map, filter}
use Rattle.std.proofs.Common.{flat_map, get_or, Contains, ℤ, pos, refl, sym, ◌∙◌, ap, ap₂, append_assoc, ⊎_elim, arith}
use Rattle.std.proofs.lemmas.List.{ext_get_or, get_or-map, length-map, map-append}
use Rattle.std.proofs.lemmas.List.Elements.{Contains-append_cases}
use Rattle.ftl_model.specs.lists.Lists.{AreDistinct, place_in}
use Rattle.ftl_model.proofs.lists.Elements.{here_in, later_in}
use Rattle.ftl_model.proofs.lists.Places.{place_of_entry}
use Rattle.ftl_grammar.specs.declared.syntax.rules.AttrDecl.{AttrDecl}
use Rattle.ftl_grammar.specs.declared.syntax.rules.AttrKind.{AttrKind}
use Rattle.ftl_grammar.specs.declared.syntax.rules.AttrKind.TheVariants as kinds
use Rattle.ftl_grammar.specs.declared.syntax.rules.Grammar.{Grammar}
use Rattle.ftl_meaning.specs.faults.Checked.{is_input}
use Rattle.ftl_meaning.specs.faults.Numbering.{class_attributes, interface_of, own_attributes, shared_attributes}
use Rattle.ftl_meaning.proofs.lawful.Numbers.{own_at, shared_at}
use Rattle.ftl_meaning.specs.grammars.GrammarOf.{declaration_at, grammar_of, sort_of}
use Rattle.ftl_model.specs.layout.AttributeGrammar as model
use Rattle.ftl_model.specs.layout.AttributeGrammar.{attributes_of, class_inputs}
use Rattle.ftl_document.specs.faults.FirstFault.{input_names}
use Rattle.ftl_document.specs.faults.WrittenOf.{input_fields}
use Rattle.ftl_document.specs.syntax.Written.{NameText, WrittenFields}
use Rattle.ftl_document_printing.specs.text.DocumentText.{field_opened, fields_written, number_written}
use Rattle.ftl_tokens.specs.writing.Written.{Written}

-- entries of those that pass a test, and of all
only_passing : (p : ℕ → Bool) (w : ℕ → List Written) (xs : List ℕ)
    → flat_map (λ a. if p a then w a else []) xs ≡ flat_map w (filter p xs)
only_passing p w [] = refl
only_passing p w (x ∷ xs) = by (p x) (only_passing p w xs)
  where
    by : (b : Bool) → flat_map (λ a. if p a then w a else []) xs ≡ flat_map w (filter p xs)
        → (if b then w x else []) ++ flat_map (λ a. if p a then w a else []) xs
        ≡ flat_map w (if b then x ∷ filter p xs else filter p xs)
    by true rest = ap (λ l. w x ++ l) rest
    by false rest = rest

-- fields of these names and numbers
fields_of : (name : ℕ → NameText) (value : ℕ → ℤ) (ns : List ℕ) (later : WrittenFields)
    → fields_written (input_fields (map name ns) (map value ns) later)
    ≡ flat_map (λ a. field_opened (name a) ++ number_written (value a)) ns ++ fields_written later
fields_of name value [] later = refl
fields_of name value (a ∷ ns) later =
    ap (λ l. field_opened (name a) ++ (number_written (value a) ++ l)) (fields_of name value ns later)
    ∙ sym (append_assoc (field_opened (name a)) (number_written (value a))
    (flat_map (λ a. field_opened (name a) ++ number_written (value a)) ns ++ fields_written later))
    ∙ sym (append_assoc (field_opened (name a) ++ number_written (value a))
    (flat_map (λ a. field_opened (name a) ++ number_written (value a)) ns) (fields_written later))

-- numbers by the places of entries
by_places : (ns : List ℕ) (numbers : List ℤ) → AreDistinct ns → length numbers ≡ length ns
    → numbers ≡ map (λ a. get_or numbers (place_in ns a) (pos 0)) ns
by_places ns numbers distinct long =
    ext_get_or (pos 0) numbers (map (λ a. get_or numbers (place_in ns a) (pos 0)) ns)
    (long ∙ sym (length-map ns (λ a. get_or numbers (place_in ns a) (pos 0))))
    (λ i within.
    sym (get_or-map (λ a. get_or numbers (place_in ns a) (pos 0)) ns i 0 (pos 0) (omega (arith, within, long))
    ∙ ap (λ j. get_or numbers j (pos 0)) (place_of_entry ns distinct i 0 (omega (arith, within, long)))))

input_sort : (k : AttrKind) → model.is_input (sort_of k) ≡ is_input k
input_sort kinds.Inh = refl
input_sort kinds.Syn = refl
input_sort kinds.Input = refl
input_sort kinds.Local = refl

-- the names of inputs by number and by declaration
names_by : (g : Grammar) (xs : List (ℕ × AttrDecl))
    → ((x : ℕ × AttrDecl) → Contains xs x → declaration_at g x.0 ≡ x.1)
    → map (λ (x : ℕ × AttrDecl). x.1.name) (filter (λ x. is_input x.1.kind) xs)
    ≡ map (λ a. (declaration_at g a).name) (filter (λ a. model.is_input (sort_of (declaration_at g a).kind)) (map
    (λ x. x.0) xs))
names_by g [] at = refl
names_by g (x ∷ xs) at =
    by (is_input x.1.kind) (model.is_input (sort_of (declaration_at g x.0).kind))
    (sym (input_sort x.1.kind) ∙ ap (λ (d : AttrDecl). model.is_input (sort_of d.kind)) (sym (at x (here_in x xs))))
    (ap (λ (d : AttrDecl). d.name) (sym (at x (here_in x xs))))
    (names_by g xs (λ y there. at y (later_in x y xs there)))
  where
    tests : List ℕ
    tests = filter (λ a. model.is_input (sort_of (declaration_at g a).kind)) (map (λ x. x.0) xs)

    by : (b b' : Bool) → b ≡ b' → x.1.name ≡ (declaration_at g x.0).name
        → map (λ (x : ℕ × AttrDecl). x.1.name) (filter (λ x. is_input x.1.kind) xs)
        ≡ map (λ a. (declaration_at g a).name) (filter (λ a. model.is_input (sort_of (declaration_at g a).kind)) (map
        (λ x. x.0) xs))
        → map (λ (x : ℕ × AttrDecl). x.1.name) (if b then x ∷ filter (λ x. is_input x.1.kind) xs else filter
        (λ x. is_input x.1.kind) xs)
        ≡ map (λ a. (declaration_at g a).name) (if b' then x.0 ∷ filter (λ a. model.is_input (sort_of
        (declaration_at g a).kind)) (map (λ x. x.0) xs) else filter (λ a. model.is_input (sort_of
        (declaration_at g a).kind)) (map (λ x. x.0) xs))
    by true true same name rest = ap₂ (λ (n : NameText) ns. n ∷ ns) name rest
    by true false same name rest = absurd cc
    by false true same name rest = absurd cc
    by false false same name rest = rest

attributes_at : (g : Grammar) (k : ℕ) (x : ℕ × AttrDecl) → Contains (class_attributes g k) x
    → declaration_at g x.0 ≡ x.1
attributes_at g k x there =
    ⊎_elim (λ shared. (shared_at g (interface_of g k) x shared).1) (λ own. (own_at g k x own).1)
    (Contains-append_cases (shared_attributes g (interface_of g k)) (own_attributes g k) x there)

pub names_are : (greatest : ℕ) (g : Grammar) (k : ℕ)
    → input_names g k ≡ map (λ a. (declaration_at g a).name) (class_inputs (grammar_of greatest g) k)
names_are greatest g k =
    names_by g (class_attributes g k) (attributes_at g k)
    ∙ ap (λ ns. map (λ a. (declaration_at g a).name) (filter (λ a. model.is_input (sort_of
    (declaration_at g a).kind)) ns))
    (map-append (λ (x : ℕ × AttrDecl). x.0) (shared_attributes g (interface_of g k)) (own_attributes g k))

-- the fields of a node's inputs, where it has ns many ns its class
pub inputs_are : (greatest : ℕ) (g : Grammar) (k : ℕ) (numbers : List ℤ) (later : WrittenFields)
    → AreDistinct (class_inputs (grammar_of greatest g) k)
    → length numbers ≡ length (class_inputs (grammar_of greatest g) k)
    → fields_written (input_fields (input_names g k) numbers later)
    ≡ flat_map (λ a. if model.is_input ((grammar_of greatest g).sort a)
    then field_opened (declaration_at g a).name ++ number_written (get_or numbers (place_in (class_inputs
    (grammar_of greatest g) k) a) (pos 0))
    else []) (attributes_of (grammar_of greatest g) k) ++ fields_written later
inputs_are greatest g k numbers later distinct long =
    let ns = class_inputs (grammar_of greatest g) k in
    let name : ℕ → NameText = λ a. (declaration_at g a).name in
    let value : ℕ → ℤ = λ a. get_or numbers (place_in ns a) (pos 0) in
    ap₂ (λ ns zs. fields_written (input_fields ns zs later)) (names_are greatest g k)
    (by_places ns numbers distinct long)
    ∙ fields_of name value ns later
    ∙ ap (λ l. l ++ fields_written later)
    (sym (only_passing (λ a. model.is_input ((grammar_of greatest g).sort a)) (λ a. field_opened
    (name a) ++ number_written (value a)) (attributes_of (grammar_of greatest g) k)))
