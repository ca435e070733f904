-- What the names in an expression stand for, as its code reads them.
use Rattle.std.proofs.Common.{◌≡◌, ℕ, true, false, Bool, cond, if◌then◌else◌, refl, sym, ◌∙◌, ap, ap₂, subst, arith, List, [], ◌∷◌, ◌++◌, map, flat_map, append_assoc, length, Contains, Option, Some, None}
use Rattle.std.specs.Option.{is_some, option_and_then, option_map, option_to_list}
use Rattle.std.proofs.lemmas.List.{length-map, map-append}
use Rattle.std.proofs.lemmas.List.Elements.{Contains-append_left, Contains-append_right}
use Rattle.std.proofs.lemmas.Grind.{flat_map-append}
use Rattle.ftl_model.proofs.lists.Elements.{here_in, later_in}
use Rattle.ftl_model.specs.layout.AttributeGrammar.{Read, occurrences, self_read, single_read, last_read}
use Rattle.ftl_model.specs.layout.Values.{Value}
use Rattle.ftl_grammar.specs.syntax.Trees.{NameText}
use Rattle.ftl_grammar.specs.declared.syntax.expression.Expr.{Expr}
use Rattle.ftl_grammar.specs.declared.syntax.rules.AttrDecl.{AttrDecl}
use Rattle.ftl_grammar.specs.declared.syntax.rules.Child.{Child}
use Rattle.ftl_grammar.specs.declared.syntax.rules.Grammar.{Grammar}
use Rattle.ftl_meaning.specs.formulas.Expressions.{formula_of}
use Rattle.ftl_meaning.specs.formulas.Formula as form
use Rattle.ftl_meaning.specs.formulas.Formula.{Formula, Question, reads_in, reads_of}
use Rattle.ftl_meaning.specs.declared.formulas.read_name.ReadName.{ReadName}
use Rattle.ftl_meaning.specs.declared.formulas.read_name.ReadName.TheVariants as names
use Rattle.ftl_meaning.specs.faults.Allowed.{Leaf, Position, accumulator, last_leaf, leaf_by, leaf_of, may_read_acc, may_read_last, of_read, prev_form, single_leaf, this_form}
use Rattle.ftl_meaning.specs.faults.Numbering.{child_at, child_attributes, class_attributes, find_attribute, find_child}
use Rattle.ftl_meaning.specs.grammars.Meaning.{Sight, expression_reads, expression_value, leaf_value, look_up, read_of, value_by, value_seen}
use Rattle.ftl_visit.specs.rule_code.Code.{taken_by, taken_in}
use Rattle.ftl_visit.specs.rule_code.Machine.{Computes}
use Rattle.ftl_visit.proofs.rule_code.RunLemmas.{formula_computes}
use Rattle.ftl_meaning.proofs.lawful.ValueOf.{value_same}
use Rattle.ftl_visit.specs.compiled.Compilable.{AsksLasts, HasLasts, IsCompilable}
use Rattle.ftl_visit.specs.compiled.RuleCode.{expression_code, is_accumulator, read_count}
use Rattle.ftl_visit.proofs.compiled.Counting.{takes}

-- what a name stands for is a read, if anything
abbrev IsRead : Option Leaf → Type 0
IsRead None = Unit {0}
IsRead (Some accumulator) = ⊥
IsRead (Some (of_read r)) = Unit {0}

by_name : (form : ℕ → Read) (o : Option (ℕ × AttrDecl)) → IsRead (option_map (λ a. of_read (form a.0)) o)
by_name form None = tt
by_name form (Some a) = tt

leaf_reads : (form : ℕ → Read) (n : NameText) (attrs : List (ℕ × AttrDecl)) → IsRead (leaf_by form n attrs)
leaf_reads form n attrs = by_name form (find_attribute n attrs)

single_reads : (g : Grammar) (n : NameText) (c : ℕ × Child) → IsRead (single_leaf g n c)
single_reads g n c = by_many c.1.many
  where
    by_many : (b : Bool) → IsRead (cond b None (leaf_by (single_read c.0) n (child_attributes g c.1)))
    by_many true = tt
    by_many false = leaf_reads (single_read c.0) n (child_attributes g c.1)

last_reads : (g : Grammar) (n : NameText) (c : ℕ × Child) → IsRead (last_leaf g n c)
last_reads g n c = by_many c.1.many
  where
    by_many : (b : Bool) → IsRead (cond b (leaf_by (last_read c.0) n (child_attributes g c.1)) None)
    by_many true = leaf_reads (last_read c.0) n (child_attributes g c.1)
    by_many false = tt

of_option : {X : Type 0} (f : X → Option Leaf) → ((x : X) → IsRead (f x)) → (o : Option X) → IsRead (option_and_then f o)
of_option f h None = tt
of_option f h (Some x) = h x

module _ (g : Grammar) (k : ℕ) (at : Position) where
  -- but for what a fold has so far, each name stands for a read
  names_read : (r : ReadName) → is_accumulator r ≡ false → IsRead (leaf_of g k at r)
  names_read (names.Own a) e = leaf_reads self_read a (class_attributes g k)
  names_read (names.Of c a) e = of_option (single_leaf g a) (single_reads g a) (find_child g k c)
  names_read (names.This a) e =
      of_option (λ (form : ℕ × (ℕ → ℕ → Read)). leaf_by (form.1 form.0) a (child_attributes g (child_at g k form.0)))
      (λ form. leaf_reads (form.1 form.0) a (child_attributes g (child_at g k form.0))) (this_form at)
  names_read (names.Prev a) e =
      of_option (λ (form : ℕ × (ℕ → ℕ → Read)). leaf_by (form.1 form.0) a (child_attributes g (child_at g k form.0)))
      (λ form. leaf_reads (form.1 form.0) a (child_attributes g (child_at g k form.0))) (prev_form at)
  names_read (names.Last c a) e = by_position (may_read_last at)
    where
      by_position : (b : Bool) → IsRead (cond b (option_and_then (last_leaf g a) (find_child g k c)) None)
      by_position true = of_option (last_leaf g a) (last_reads g a) (find_child g k c)
      by_position false = tt
  names_read names.Acc e = grind (arith, e)

  -- these names stand for something
  abbrev pub AreKnown : List ReadName → Type 0
  AreKnown rs = (r : ReadName) → Contains rs r → is_some (leaf_of g k at r) ≡ true

  known_left : (rs qs : List ReadName) → AreKnown (rs ++ qs) → AreKnown rs
  known_left rs qs h r c = h r (Contains-append_left rs qs r c)

  known_right : (rs qs : List ReadName) → AreKnown (rs ++ qs) → AreKnown qs
  known_right rs qs h r c = h r (Contains-append_right rs qs r c)

  -- the read that a name stands for
  abbrev named : ReadName → List Read
  named r = option_to_list (option_and_then read_of (leaf_of g k at r))

  module _ (x : Sight) where
    -- what a read gives
    abbrev gives : Read → Option Value
    gives r = value_seen x.values (occurrences x.kids x.at_hand r)

    -- what a name gives, as code reads it
    abbrev given : ReadName → Option Value
    given r = if is_accumulator r then Some x.so_far else look_up g k at x r

    -- code takes of these names what their reads give
    abbrev TakesReads : List ReadName → List ReadName → Type 0
    TakesReads taken all = map given taken ≡ map gives (flat_map named all)

    joined : (ts us rs qs : List ReadName) → TakesReads ts rs → TakesReads us qs → TakesReads (ts ++ us) (rs ++ qs)
    joined ts us rs qs p q =
        map-append given ts us
        ∙ ap₂ (λ a b. a ++ b) p q
        ∙ sym (map-append gives (flat_map named rs) (flat_map named qs))
        ∙ ap (map gives) (sym (flat_map-append named rs qs))

    -- a name that stands for a read
    by_leaf : (o : Option Leaf) → is_some o ≡ true → IsRead o
        → (option_and_then (leaf_value x) o ∷ []) ≡ map gives (option_to_list (option_and_then read_of o) ++ [])
    by_leaf None h is = grind (arith, h)
    by_leaf (Some accumulator) h is = absurd is
    by_leaf (Some (of_read r)) h is = refl

    by_accumulator : (o : Bool) → map gives (option_to_list (option_and_then read_of (cond o (Some accumulator) None)) ++ []) ≡ []
    by_accumulator true = refl
    by_accumulator false = refl

    one_read : (r : ReadName) → is_some (leaf_of g k at r) ≡ true → TakesReads (taken_by is_accumulator (form.read r)) (r ∷ [])
    one_read (names.Own a) h = by_leaf (leaf_of g k at (names.Own a)) h (names_read (names.Own a) refl)
    one_read (names.This a) h = by_leaf (leaf_of g k at (names.This a)) h (names_read (names.This a) refl)
    one_read (names.Prev a) h = by_leaf (leaf_of g k at (names.Prev a)) h (names_read (names.Prev a) refl)
    one_read (names.Of c a) h = by_leaf (leaf_of g k at (names.Of c a)) h (names_read (names.Of c a) refl)
    one_read (names.Last c a) h = by_leaf (leaf_of g k at (names.Last c a)) h (names_read (names.Last c a) refl)
    one_read names.Acc h = sym (by_accumulator (may_read_acc at))

    last_taken : (r : ReadName) (f : Formula ReadName) → HasLasts (form.read_or r f) → is_some (leaf_of g k at r) ≡ true
        → TakesReads (taken_by is_accumulator f) (reads_of f)
        → TakesReads (taken_by is_accumulator (form.read_or r f)) (r ∷ reads_of f)
    last_taken (names.Own a) f l h p = absurd l.0
    last_taken (names.This a) f l h p = absurd l.0
    last_taken (names.Prev a) f l h p = absurd l.0
    last_taken (names.Of c a) f l h p = absurd l.0
    last_taken (names.Last c a) f l h p =
        joined (names.Last c a ∷ []) (taken_by is_accumulator f) (names.Last c a ∷ []) (reads_of f)
        (one_read (names.Last c a) h) p
    last_taken names.Acc f l h p = absurd l.0

    mutual
      -- the code of a formula takes what its reads give
      formula_takes : (f : Formula ReadName) → HasLasts f → AreKnown (reads_of f)
          → TakesReads (taken_by is_accumulator f) (reads_of f)
      formula_takes (form.literal n) l h = refl
      formula_takes (form.read r) l h = one_read r (h r (here_in r []))
      formula_takes (form.read_or r f) l h =
          last_taken r f l (h r (here_in r (reads_of f))) (formula_takes f l.1 (λ q c. h q (later_in r q (reads_of f) c)))
      formula_takes (form.negated f) l h = formula_takes f l h
      formula_takes (form.quotient f n) l h = formula_takes f l h
      formula_takes (form.sum f f₂) l h =
          joined (taken_by is_accumulator f) (taken_by is_accumulator f₂) (reads_of f) (reads_of f₂)
          (formula_takes f l.0 (known_left (reads_of f) (reads_of f₂) h)) (formula_takes f₂ l.1 (known_right (reads_of f) (reads_of f₂) h))
      formula_takes (form.difference f f₂) l h =
          joined (taken_by is_accumulator f) (taken_by is_accumulator f₂) (reads_of f) (reads_of f₂)
          (formula_takes f l.0 (known_left (reads_of f) (reads_of f₂) h)) (formula_takes f₂ l.1 (known_right (reads_of f) (reads_of f₂) h))
      formula_takes (form.product f f₂) l h =
          joined (taken_by is_accumulator f) (taken_by is_accumulator f₂) (reads_of f) (reads_of f₂)
          (formula_takes f l.0 (known_left (reads_of f) (reads_of f₂) h)) (formula_takes f₂ l.1 (known_right (reads_of f) (reads_of f₂) h))
      formula_takes (form.least f f₂) l h =
          joined (taken_by is_accumulator f) (taken_by is_accumulator f₂) (reads_of f) (reads_of f₂)
          (formula_takes f l.0 (known_left (reads_of f) (reads_of f₂) h)) (formula_takes f₂ l.1 (known_right (reads_of f) (reads_of f₂) h))
      formula_takes (form.greatest f f₂) l h =
          joined (taken_by is_accumulator f) (taken_by is_accumulator f₂) (reads_of f) (reads_of f₂)
          (formula_takes f l.0 (known_left (reads_of f) (reads_of f₂) h)) (formula_takes f₂ l.1 (known_right (reads_of f) (reads_of f₂) h))
      formula_takes (form.choice q f f₂) l h =
          let branches = known_right (reads_in q) (reads_of f ++ reads_of f₂) h in
          subst (λ ts. TakesReads ts (reads_in q ++ (reads_of f ++ reads_of f₂)))
          (sym (append_assoc (taken_in is_accumulator q) (taken_by is_accumulator f) (taken_by is_accumulator f₂)))
          (joined (taken_in is_accumulator q) (taken_by is_accumulator f ++ taken_by is_accumulator f₂) (reads_in q) (reads_of f ++ reads_of f₂)
          (question_takes q l.0 (known_left (reads_in q) (reads_of f ++ reads_of f₂) h))
          (joined (taken_by is_accumulator f) (taken_by is_accumulator f₂) (reads_of f) (reads_of f₂)
          (formula_takes f l.1 (known_left (reads_of f) (reads_of f₂) branches))
          (formula_takes f₂ l.2 (known_right (reads_of f) (reads_of f₂) branches))))

      question_takes : (q : Question ReadName) → AsksLasts q → AreKnown (reads_in q)
          → TakesReads (taken_in is_accumulator q) (reads_in q)
      question_takes (form.compared c f f₂) l h =
          joined (taken_by is_accumulator f) (taken_by is_accumulator f₂) (reads_of f) (reads_of f₂)
          (formula_takes f l.0 (known_left (reads_of f) (reads_of f₂) h)) (formula_takes f₂ l.1 (known_right (reads_of f) (reads_of f₂) h))
      question_takes (form.denied q) l h = question_takes q l h
      question_takes (form.both p q) l h =
          joined (taken_in is_accumulator p) (taken_in is_accumulator q) (reads_in p) (reads_in q)
          (question_takes p l.0 (known_left (reads_in p) (reads_in q) h)) (question_takes q l.1 (known_right (reads_in p) (reads_in q) h))
      question_takes (form.either p q) l h =
          joined (taken_in is_accumulator p) (taken_in is_accumulator q) (reads_in p) (reads_in q)
          (question_takes p l.0 (known_left (reads_in p) (reads_in q) h)) (question_takes q l.1 (known_right (reads_in p) (reads_in q) h))

    so_far_given : (r : ReadName) → is_accumulator r ≡ true → given r ≡ Some x.so_far
    so_far_given r e = rw e refl

    acc_looked_up : (b : Bool) → is_some (cond b (Some accumulator) None) ≡ true
        → Some x.so_far ≡ option_and_then (leaf_value x) (cond b (Some accumulator) None)
    acc_looked_up true h = refl
    acc_looked_up false h = grind (arith, h)

    -- code reads of a name what is looked up
    given_is : (r : ReadName) → is_some (leaf_of g k at r) ≡ true → given r ≡ look_up g k at x r
    given_is (names.Own a) h = refl
    given_is (names.This a) h = refl
    given_is (names.Prev a) h = refl
    given_is (names.Of c a) h = refl
    given_is (names.Last c a) h = refl
    given_is names.Acc h = acc_looked_up (may_read_acc at) h

    -- the code of an expression computes its value on what its reads give
    pub expression_computes : (greatest : ℕ) (e : Expr) → IsCompilable e → AreKnown (reads_of (formula_of e))
        → Computes greatest x.so_far (expression_code e) (map gives (expression_reads g k at e)) (expression_value greatest g k at e x)
    expression_computes greatest e able known =
        subst (λ v. Computes greatest x.so_far (expression_code e) (map gives (expression_reads g k at e)) v)
        (value_same greatest given (look_up g k at x) (formula_of e) (λ r c. given_is r (known r c)))
        (subst (λ rs. Computes greatest x.so_far (expression_code e) rs (value_by greatest given (formula_of e)))
        (formula_takes (formula_of e) able.lasts known)
        (formula_computes greatest x.so_far is_accumulator given so_far_given (formula_of e) able.divisors))

    -- and takes as many as it has
    pub expression_takes : (e : Expr) → IsCompilable e → AreKnown (reads_of (formula_of e))
        → read_count (expression_code e) ≡ length (expression_reads g k at e)
    expression_takes e able known =
        takes (formula_of e)
        ∙ sym (length-map (taken_by is_accumulator (formula_of e)) given)
        ∙ ap (λ (vs : List (Option Value)). length vs) (formula_takes (formula_of e) able.lasts known)
        ∙ length-map (expression_reads g k at e) gives
