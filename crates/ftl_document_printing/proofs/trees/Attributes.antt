-- The attributes of a class by number, and the field of one of them.
use Rattle.std.proofs.Common.{◌≡◌, ℕ, suc, ◌+◌, ◌<◌, Bool, true, false, if◌then◌else◌, List, [], ◌∷◌, ◌++◌, length}
use Rattle.std.proofs.Common.{get_or, map, flat_map, Contains, ℤ, refl, sym, ◌∙◌, ap, ap₂, ⊎_elim, arith}
use Rattle.std.specs.Prelude.{Err, Ok, OnOk, Result}
use Rattle.std.specs.List.{range_with_len}
use Rattle.std.proofs.lemmas.List.{append-nil, get_or-map, length-map, map-append}
use Rattle.std.proofs.lemmas.List.FromFn.{get_or-range_with_len, length-range_with_len}
use Rattle.std.proofs.lemmas.List.Elements.{Contains-append_cases}
use Rattle.std.proofs.lemmas.Grind.{flat_map-append}
use Rattle.ftl_deps.specs.reads.Meant.{meant}
use Rattle.ftl_document.specs.syntax.Written.{NameText}
use Rattle.ftl_document_printing.specs.text.DocumentText.{field_opened, number_written}
use Rattle.ftl_meaning.specs.faults.Checked.{CheckedGrammar, Declared, all_attributes, attribute_at, attribute_info}
use Rattle.ftl_meaning.specs.faults.Checked.{declared}
use Rattle.ftl_meaning.specs.declared.faults.info.AttrInfo.{AttrInfo}
use Rattle.ftl_meaning.specs.faults.Numbering.{numbered}
use Rattle.ftl_checked.proofs.lookup.AttrInfos.{attribute_count_is}
use Rattle.ftl_meaning.specs.lawful.Faultless.{IsFaultless}
use Rattle.ftl_meaning.proofs.lawful.Lawfulness.{faultless_lawful}
use Rattle.ftl_meaning.specs.grammars.GrammarOf.{declaration_at}
use Rattle.ftl_model.specs.layout.AttributeGrammar.{attributes_of, is_input}
use Rattle.ftl_model.specs.layout.Path.{Path}
use Rattle.ftl_order.specs.orders.Lawful.{class_owner, interface_owner}
use Rattle.ftl_order.proofs.orders.Owners.{attribute_known}
use Rattle.ftl_grammar.specs.syntax.Trees as trees
use Rattle.ftl_grammar.specs.declared.syntax.rules.AttrDecl.{AttrDecl}
use Rattle.ftl_grammar.specs.declared.syntax.rules.AttrKind.TheVariants as kinds
use Rattle.ftl_grammar.specs.declared.syntax.rules.Class.{Class}
use Rattle.ftl_grammar.specs.declared.syntax.rules.Grammar.{Grammar}
use Rattle.ftl_grammar.specs.declared.syntax.rules.Interface.{Interface}
use Rattle.ftl_tree.specs.trees.CheckedTree.{CheckedTree}
use Rattle.ftl_tokens.specs.writing.Written.{Written, text_of, written_bytes}
use Rattle.ftl_document_printing.specs.trees.Left.{IsAttributeTable, attribute_written, input_written, number_in}
use Rattle.ftl_document_printing.proofs.trees.Turns.{two_texts}

-- ---- what is known of an attribute is how it is declared

abbrev decl_of : Declared → AttrDecl
decl_of a = a.decl

one_owner : (b : Bool) (n : ℕ) (attrs : List AttrDecl) → map decl_of (map (declared b n) attrs) ≡ attrs
one_owner b n [] = refl
one_owner b n (a ∷ attrs) = ap (λ rest. a ∷ rest) (one_owner b n attrs)

of_interfaces : (n : ℕ) (xs : List Interface)
    → map decl_of (flat_map (λ x. map (declared false x.0) x.1.attrs) (numbered n xs))
    ≡ flat_map (λ (x : Interface). x.attrs) xs
of_interfaces n [] = refl
of_interfaces n (x ∷ xs) =
    map-append decl_of (map (declared false n) x.attrs)
    (flat_map (λ x. map (declared false x.0) x.1.attrs) (numbered (suc n) xs))
    ∙ ap₂ (λ a b. a ++ b) (one_owner false n x.attrs) (of_interfaces (suc n) xs)

of_classes : (n : ℕ) (ks : List Class)
    → map decl_of (flat_map (λ k. map (declared true k.0) k.1.attrs) (numbered n ks))
    ≡ flat_map (λ (k : Class). k.attrs) ks
of_classes n [] = refl
of_classes n (k ∷ ks) =
    map-append decl_of (map (declared true n) k.attrs)
    (flat_map (λ k. map (declared true k.0) k.1.attrs) (numbered (suc n) ks))
    ∙ ap₂ (λ a b. a ++ b) (one_owner true n k.attrs) (of_classes (suc n) ks)

decls : (g : Grammar) → map decl_of (all_attributes g)
    ≡ flat_map (λ (x : Interface). x.attrs) g.interfaces ++ flat_map (λ (k : Class). k.attrs) g.classes
decls g =
    map-append decl_of (flat_map (λ x. map (declared false x.0) x.1.attrs) (numbered 0 g.interfaces))
    (flat_map (λ k. map (declared true k.0) k.1.attrs) (numbered 0 g.classes))
    ∙ ap₂ (λ a b. a ++ b) (of_interfaces 0 g.interfaces) (of_classes 0 g.classes)

pub declared_is : (g : Grammar) (a : ℕ) → a < length (all_attributes g) → (attribute_at g a).decl ≡ declaration_at g a
declared_is g a within =
    sym
    (get_or-map decl_of (all_attributes g) a (declared false 0 (trees.attr_decl kinds.Inh []))
    (trees.attr_decl kinds.Input []) within)
    ∙ ap (λ xs. get_or xs a (trees.attr_decl kinds.Input [])) (decls g)

-- an attribute of a class is one of the grammar
pub attribute_there : (c : CheckedGrammar) → IsFaultless c.grammar → (k a : ℕ) → k < length c.grammar.classes
    → Contains (attributes_of (meant c) k) a → a < length (all_attributes c.grammar)
attribute_there c faultless k a known has =
    let m = meant c in
    let law = faultless_lawful c.grammar c.width faultless in
    let below : a < m.attribute_count =
    ⊎_elim
    (λ shared. attribute_known m law (interface_owner (m.interface k)) a (law.interfaces_known k known, shared))
    (λ own. attribute_known m law (class_owner k) a (known, own))
    (Contains-append_cases (m.shared (m.interface k)) (m.private k) a has) in
    omega (arith, below, attribute_count_is c.grammar)

-- what is known of its kind
pub kind_is : (t : CheckedTree) (a : ℕ) (told : AttrInfo) (d : CheckedGrammar) → d ≡ t.checked
    → told ≡ attribute_info d.grammar (attribute_at d.grammar a) → a < length (all_attributes t.checked.grammar)
    → told.kind ≡ (declaration_at t.checked.grammar a).kind
kind_is t a told d same is within =
    ap (λ (i : AttrInfo). i.kind) is
    ∙ ap (λ (c : CheckedGrammar). (attribute_at c.grammar a).decl.kind) same
    ∙ ap (λ (x : AttrDecl). x.kind) (declared_is t.checked.grammar a within)

-- ---- its field

pub input_field : (t : CheckedTree) (p : Path) (a : ℕ) (name : NameText) (value : ℤ) (out mid new : List ℕ)
    → is_input ((meant t.checked).sort a) ≡ true
    → name ≡ (declaration_at t.checked.grammar a).name → value ≡ number_in t p a
    → mid ≡ out ++ text_of (field_opened name) → new ≡ mid ++ text_of (number_written value)
    → new ≡ out ++ text_of (attribute_written t p a)
input_field t p a name value out mid new passes named valued first later =
    two_texts out mid new (field_opened name) (number_written value) first later
    ∙ ap₂ (λ n v. out ++ text_of (field_opened n ++ number_written v)) named valued
    ∙ ap (λ b. out ++ text_of (if b then input_written t p a else [])) (sym passes)

pub input_field_ok : {T E : Type 0} (r : Result T E) (t : CheckedTree) (p : Path) (a : ℕ) (name : NameText) (value : ℤ)
    (out mid new : List ℕ) → is_input ((meant t.checked).sort a) ≡ true
    → name ≡ (declaration_at t.checked.grammar a).name → value ≡ number_in t p a
    → mid ≡ out ++ text_of (field_opened name) → OnOk r (new ≡ mid ++ text_of (number_written value))
    → OnOk r (new ≡ out ++ text_of (attribute_written t p a))
input_field_ok (Ok x) t p a name value out mid new passes named valued first later =
    input_field t p a name value out mid new passes named valued first later
input_field_ok (Err e) t p a name value out mid new passes named valued first later = later

pub no_field : (t : CheckedTree) (p : Path) (a : ℕ) (out : List ℕ)
    → is_input ((meant t.checked).sort a) ≡ false → out ≡ out ++ text_of (attribute_written t p a)
no_field t p a out fails =
    sym (append-nil out) ∙ ap (λ b. out ++ text_of (if b then input_written t p a else [])) (sym fails)

-- the text of what each of some numbers writes
pub texts_of : (f : ℕ → List Written) (xs : List ℕ) → flat_map (λ a. text_of (f a)) xs ≡ text_of (flat_map f xs)
texts_of f [] = refl
texts_of f (x ∷ xs) =
    ap (λ l. text_of (f x) ++ l) (texts_of f xs) ∙ sym (flat_map-append written_bytes (f x) (flat_map f xs))

-- ---- the table of attributes

pub attributes_at : (t : CheckedTree) (attrs : List (List ℕ)) (k : ℕ) (d : List ℕ) → IsAttributeTable t attrs
    → k < length t.checked.grammar.classes → get_or attrs k d ≡ attributes_of (meant t.checked) k
attributes_at t attrs k d are known =
    let m = meant t.checked in
    let within : k < length (range_with_len 0 m.class_count) = omega
    (arith, known, length-range_with_len 0 m.class_count) in
    ap (λ xs. get_or xs k d) are
    ∙ get_or-map (attributes_of m) (range_with_len 0 m.class_count) k 0 d within
    ∙ ap (attributes_of m) (get_or-range_with_len 0 m.class_count k 0 known ∙ (let z : 0 + k ≡ k = omega arith in z))

pub table_length : (t : CheckedTree) (attrs : List (List ℕ)) → IsAttributeTable t attrs
    → length attrs ≡ length t.checked.grammar.classes
table_length t attrs are =
    let m = meant t.checked in
    ap length are ∙ length-map (range_with_len 0 m.class_count) (attributes_of m)
    ∙ length-range_with_len 0 m.class_count
