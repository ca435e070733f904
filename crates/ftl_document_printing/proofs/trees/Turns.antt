-- What one turn of the printer leaves.
use Rattle.std.proofs.Common.{◌≡◌, ℕ, suc, ◌<◌, ◌≤◌, true, false, if◌then◌else◌, List, [], ◌∷◌, ◌++◌, length, refl, sym}
use Rattle.std.proofs.Common.{◌∙◌, ap, ap₂, append_assoc, length-append, subst, arith}
use Rattle.std.specs.Prelude.{Err, IfOk, None, Ok, Option, Result, Some, codes}
use Rattle.std.specs.Option.{option_map}
use Rattle.std.proofs.lemmas.List.{append-nil}
use Rattle.std.proofs.lemmas.Grind.{flat_map-append}
use Rattle.ftl_deps.specs.reads.Meant.{meant}
use Rattle.ftl_document.specs.syntax.Written.{NameText}
use Rattle.ftl_document_printing.specs.text.DocumentText.{field_opened, mark_written, node_opened}
use Rattle.ftl_meaning.specs.faults.Numbering.{child_at as child_in, class_at}
use Rattle.ftl_meaning.specs.lawful.Faultless.{IsFaultless}
use Rattle.ftl_model.specs.layout.Path.{Has, Path, child_at, down, kid_at, kids_at, number_of, parent_of, top}
use Rattle.ftl_model.specs.layout.Tree.{size}
use Rattle.ftl_model.specs.layout.TreeOf.{IsTreeOf}
use Rattle.ftl_model.proofs.layout.Standing.{has_parent}
use Rattle.ftl_tokens.specs.scanner.Tokenized.{fixed}
use Rattle.ftl_tokens.specs.declared.scanner.kind.Kind.TheVariants as kind
use Rattle.ftl_tree.specs.trees.CheckedTree.{CheckedTree}
use Rattle.ftl_tree.specs.rows.KidRuns.{IsChildOf}
use Rattle.ftl_tokens.specs.writing.Written.{Written, text_of, written, written_bytes}
use Rattle.ftl_document_printing.specs.declared.trees.writer_place.WriterPlace.{WriterPlace}
use Rattle.ftl_document_printing.specs.declared.trees.writer_place.WriterPlace.TheVariants as places
use Rattle.ftl_document_printing.specs.trees.Left.{Goes, HasParent, IsBehind, IsWriterPlace, after, class_in, entered}
use Rattle.ftl_document_printing.specs.trees.Left.{from_child}
use Rattle.ftl_document_printing.specs.trees.Left.{from_kid_on, inputs_written, is_many, left, left_from, node_of}
use Rattle.ftl_document_printing.proofs.trees.WriterPlaces.{child_known, fields_ended, has_node, kid_entered, kid_few}
use Rattle.ftl_document_printing.proofs.trees.WriterPlaces.{kid_there}
use Rattle.ftl_document_printing.proofs.trees.WriterPlaces.{list_ended, list_opened, node_again, number_within, one_kid}
use Rattle.ftl_document_printing.proofs.trees.WriterPlaces.{single_entered}

-- two texts, one after the other
pub two_texts : (out mid new : List ℕ) (xs ys : List Written) → mid ≡ out ++ text_of xs → new ≡ mid ++ text_of ys
    → new ≡ out ++ text_of (xs ++ ys)
two_texts out mid new xs ys first later =
    later ∙ ap (λ l. l ++ text_of ys) first ∙ append_assoc out (text_of xs) (text_of ys)
    ∙ ap (λ l. out ++ l) (sym (flat_map-append written_bytes xs ys))

-- tokens in front of a turn
pub in_front : (t : CheckedTree) (out mid new : List ℕ) (xs before rest : List Written) (next : Option WriterPlace)
    → mid ≡ out ++ text_of xs → before ≡ xs ++ rest → Goes t mid new rest next → Goes t out new before next
in_front t out mid new xs before rest next first split goes = record {
  tokens = xs ++ goes.tokens;
  some = omega (arith, goes.some, length-append xs goes.tokens);
  text = two_texts out mid new xs goes.tokens first goes.text;
  rest = split ∙ ap (λ l. xs ++ l) goes.rest ∙ sym (append_assoc xs goes.tokens (left t next));
  writer_place = goes.writer_place;
}

-- what is known behind a kid
pub record Facts (t : CheckedTree) (p q : Path) : Type 0 where
  pub known : child_at p < length (class_at t.checked.grammar (class_in t q)).children
  pub few : kid_at p < kids_at t.tree q (child_at p)
  pub many : is_many t q (child_at p) ≡ true → IsBehind t p (from_kid_on t q (child_at p) (suc (kid_at p)))
  pub single : is_many t q (child_at p) ≡ false → IsBehind t p (from_child t q (suc (child_at p)))

facts_down : (t : CheckedTree) → IsTreeOf (meant t.checked) t.tree → (c k : ℕ) (q : Path) → Has t.tree (down c k q)
    → Facts t (down c k q) q
facts_down t is c k q has = record {
  known = child_known t is q c k has;
  few = kid_few t is q c k has;
  many = λ e. ap (λ b. if b then from_kid_on t q c (suc k) else from_child t q (suc c)) e;
  single = λ e. ap (λ b. if b then from_kid_on t q c (suc k) else from_child t q (suc c)) e;
}

pub above_has : (t : CheckedTree) → IsTreeOf (meant t.checked) t.tree → (n parent : ℕ) → n < size t.tree
    → (h : HasParent t n parent) → Has t.tree (down h.child h.kid h.above)
above_has t is n parent small h = subst (λ p. Has t.tree p) h.is (has_node t is n small)

pub parent_within : (t : CheckedTree) → IsTreeOf (meant t.checked) t.tree → (n parent : ℕ) → n < size t.tree
    → HasParent t n parent → parent < size t.tree
parent_within t is n parent small h =
    omega (
      arith,
      h.number,
      number_within t is h.above (has_parent t.tree h.child h.kid h.above
          (above_has t is n parent small h)),
    )

pub facts : (t : CheckedTree) → IsTreeOf (meant t.checked) t.tree → (n parent : ℕ) → n < size t.tree
    → HasParent t n parent → Facts t (node_of t n) (node_of t parent)
facts t is n parent small h =
    let has = above_has t is n parent small h in
    let q : h.above ≡ node_of t parent =
    sym (ap (node_of t) h.number ∙ node_again t is h.above (has_parent t.tree h.child h.kid h.above has)) in
    subst (λ x. Facts t (node_of t n) x) q
    (subst (λ x. Facts t x h.above) (sym h.is) (facts_down t is h.child h.kid h.above has))

-- ---- turns

-- the class of a node, its inputs, and where its children begin
pub entering : (t : CheckedTree) (n : ℕ) (name : NameText) (out mid new : List ℕ) → n < size t.tree
    → name ≡ (class_at t.checked.grammar (class_in t (node_of t n))).name
    → mid ≡ out ++ text_of (node_opened name) → new ≡ mid ++ text_of (inputs_written t (node_of t n))
    → Goes t out new (entered t (node_of t n)) (Some (places.Field n 0))
entering t n name out mid new within named first later =
    let p = node_of t n in
    let opened = node_opened (class_at t.checked.grammar (class_in t p)).name in
    record {
      tokens = opened ++ inputs_written t p;
      some = omega arith;
      text = two_texts out mid new opened (inputs_written t p) (first
          ∙ ap (λ x. out ++ text_of (node_opened x)) named) later;
      rest = sym (append_assoc opened (inputs_written t p) (from_child t p 0));
      writer_place = within;
    }

-- the end of the root
pub root_closing : (t : CheckedTree) → IsTreeOf (meant t.checked) t.tree → IsFaultless t.checked.grammar
    → (n c : ℕ) (out new : List ℕ) → parent_of (node_of t n) ≡ None
    → length (class_at t.checked.grammar (class_in t (node_of t n))).children ≤ c
    → new ≡ out ++ written_bytes (written (fixed kind.RightBrace) (codes "\n"))
    → Goes t out new (from_child t (node_of t n) c) None
root_closing t is faultless n c out new none past text =
    let last = written (fixed kind.RightBrace) (codes "\n") in
    record {
      tokens = last ∷ [];
      some = omega arith;
      text = text ∙ ap (λ l. out ++ l) (sym (append-nil (written_bytes last)));
      rest = fields_ended t is faultless (node_of t n) c past ∙ at_top (node_of t n) none;
      writer_place = tt;
    }
  where
    at_top : (p : Path) → parent_of p ≡ None → after t p ≡ written (fixed kind.RightBrace) (codes "\n") ∷ []
    at_top top e = refl
    at_top (down d k q) e = absurd (let z : ⊥ = cc in z)

-- the end of another node
pub kid_closing : (t : CheckedTree) → IsTreeOf (meant t.checked) t.tree → IsFaultless t.checked.grammar
    → (n parent c : ℕ) (s : WriterPlace) (out new : List ℕ) → HasParent t n parent
    → length (class_at t.checked.grammar (class_in t (node_of t n))).children ≤ c
    → new ≡ out ++ text_of (mark_written kind.RightBrace ∷ [])
    → IsBehind t (node_of t n) (left_from t s) → IsWriterPlace t s
    → Goes t out new (from_child t (node_of t n) c) (Some s)
kid_closing t is faultless n parent c s out new h past text behind writer_place = record {
  tokens = mark_written kind.RightBrace ∷ [];
  some = omega arith;
  text = text;
  rest = fields_ended t is faultless (node_of t n) c past ∙ ap (after t) h.is
      ∙ ap (λ l. mark_written kind.RightBrace ∷ l) (subst (λ p. IsBehind t p (left_from t s)) h.is behind);
  writer_place = writer_place;
}

-- a node with a parent
pub parent_there : (t : CheckedTree) (n parent : ℕ)
    → Some parent ≡ option_map (number_of t.tree) (parent_of (node_of t n)) → HasParent t n parent
parent_there t n parent is = go (node_of t n) refl is
  where
    go : (p : Path) → node_of t n ≡ p → Some parent ≡ option_map (number_of t.tree) (parent_of p) → HasParent t n parent
    go top e is = absurd (let z : ⊥ = cc in z)
    go (down c k q) e is = record {
      child = c;
      kid = k;
      above = q;
      is = e;
      number = let z : parent ≡ number_of t.tree q = cc in z;
    }

-- a list that is opened
pub opening_list : (t : CheckedTree) → IsTreeOf (meant t.checked) t.tree → IsFaultless t.checked.grammar
    → (n c : ℕ) (name : NameText) (out mid new : List ℕ) → IsChildOf (meant t.checked) t.tree n c
    → is_many t (node_of t n) c ≡ true
    → name ≡ (child_in t.checked.grammar (class_in t (node_of t n)) c).name
    → mid ≡ out ++ text_of (field_opened name) → new ≡ mid ++ text_of (mark_written kind.LeftBracket ∷ [])
    → Goes t out new (from_child t (node_of t n) c) (Some (places.Kid n c 0))
opening_list t is faultless n c name out mid new at many named first later =
    let p = node_of t n in
    let opened = field_opened (child_in t.checked.grammar (class_in t p) c).name in
    record {
      tokens = opened ++ (mark_written kind.LeftBracket ∷ []);
      some = omega arith;
      text = two_texts out mid new opened (mark_written kind.LeftBracket ∷ [])
          (first ∙ ap (λ x. out ++ text_of (field_opened x)) named) later;
      rest = list_opened t is faultless p c at.declared many
          ∙ sym (append_assoc opened (mark_written kind.LeftBracket ∷ []) (from_kid_on t p c 0));
      writer_place = (at, many);
    }

-- a single child, whose kid is entered
pub opening_single : (t : CheckedTree) → IsTreeOf (meant t.checked) t.tree → IsFaultless t.checked.grammar
    → (n c kid : ℕ) (name : NameText) (out mid new : List ℕ) (next : Option WriterPlace)
    → IsChildOf (meant t.checked) t.tree n c
    → is_many t (node_of t n) c ≡ false
    → name ≡ (child_in t.checked.grammar (class_in t (node_of t n)) c).name
    → kid ≡ number_of t.tree (down c 0 (node_of t n))
    → mid ≡ out ++ text_of (field_opened name) → Goes t mid new (entered t (node_of t kid)) next
    → Goes t out new (from_child t (node_of t n) c) next
opening_single t is faultless n c kid name out mid new next at single named number first goes =
    let p = node_of t n in
    let has = has_node t is n at.known in
    let one = one_kid t is p c has at.declared single in
    let there = kid_there t is p c 0 (omega (arith, one)) in
    let same : node_of t kid ≡ down c 0 p = ap (node_of t) number ∙ node_again t is (down c 0 p) there in
    in_front t out mid new (field_opened name) (from_child t p c) (entered t (node_of t kid)) next first
    (single_entered t is faultless p c has at.declared single
    ∙ ap₂ (λ x q. field_opened x ++ entered t q) (sym named) (sym same))
    goes

-- a node of a list, which is entered
pub kid_entering : (t : CheckedTree) → IsTreeOf (meant t.checked) t.tree → IsFaultless t.checked.grammar
    → (n c k kid : ℕ) (out new : List ℕ) (next : Option WriterPlace) → is_many t (node_of t n) c ≡ true
    → k < kids_at t.tree (node_of t n) c → kid ≡ number_of t.tree (down c k (node_of t n))
    → Goes t out new (entered t (node_of t kid)) next → Goes t out new (from_kid_on t (node_of t n) c k) next
kid_entering t is faultless n c k kid out new next many few number goes =
    let p = node_of t n in
    let same : node_of t kid ≡ down c k p = ap (node_of t) number
    ∙ node_again t is (down c k p) (kid_there t is p c k few) in
    subst (λ l. Goes t out new l next)
    (ap (entered t) same ∙ sym (kid_entered t is faultless p c k many few)) goes

-- the end of a list
pub list_closing : (t : CheckedTree) → IsTreeOf (meant t.checked) t.tree → IsFaultless t.checked.grammar
    → (n c d k : ℕ) (out new : List ℕ) → n < size t.tree → d ≡ suc c → kids_at t.tree (node_of t n) c ≤ k
    → new ≡ out ++ text_of (mark_written kind.RightBracket ∷ [])
    → Goes t out new (from_kid_on t (node_of t n) c k) (Some (places.Field n d))
list_closing t is faultless n c d k out new within next past text = record {
  tokens = mark_written kind.RightBracket ∷ [];
  some = omega arith;
  text = text;
  rest = list_ended t is faultless (node_of t n) c k past
      ∙ ap (λ m. mark_written kind.RightBracket ∷ from_child t (node_of t n) m) (sym next);
  writer_place = within;
}

-- what was written and what is left are the whole
pub goes_on : (t : CheckedTree) (out new : List ℕ) (before : List Written) (next : Option WriterPlace)
    → Goes t out new before next → new ++ text_of (left t next) ≡ out ++ text_of before
goes_on t out new before next goes =
    two_texts out new (new ++ text_of (left t next)) goes.tokens (left t next) goes.text refl
    ∙ ap (λ l. out ++ text_of l) (sym goes.rest)

-- less is left than before
pub goes_down : (t : CheckedTree) (out new : List ℕ) (before : List Written) (next : Option WriterPlace)
    → Goes t out new before next → length (left t next) < length before
goes_down t out new before next goes =
    omega (arith, goes.some, ap length goes.rest, length-append goes.tokens (left t next))

-- what follows of a value, if there is one
pub on_ok : {T E : Type 0} (r : Result T E) (P Q : T → Type 0) → ((x : T) → P x → Q x) → IfOk r P → IfOk r Q
on_ok (Ok x) P Q f p = f x p
on_ok (Err e) P Q f p = p
