-- The words of cells, as the inputs get theirs.
use Rattle.std.proofs.Common.{◌≡◌, ℕ, ◌+◌, ◌<◌, Bool, true, false, List, [], ◌∷◌, ◌++◌, Contains, drop, length, get_or, replicate, set, take, zero, suc, refl, sym, ◌∙◌, ap, ap₂, subst, ⊎_elim, arith}
use Rattle.std.proofs.lemmas.Bool.{cases_eq}
use Rattle.std.proofs.lemmas.Grind.{same_number_lists}
use Rattle.std.proofs.lemmas.List.{get_or-map, get_or-set_other, get_or-set_same, length-map, length-replicate, length-set, replicate-append-replicate, take-append-le, take_all, take_more}
use Rattle.std.proofs.lemmas.List.Elements.{Contains-append_cases, Contains-get_or}
use Rattle.ftl_model.proofs.lists.Elements.{in_cases, in_filter, nothing_in}
use Rattle.ftl_items.specs.stage_items.WordLaws.{first_word, first_words}
use Rattle.ftl_model.specs.layout.AttributeGrammar.{AttributeGrammar, Sort, attributes_of, class_inputs, inherited, input, is_input, local, synthesized}
use Rattle.ftl_model.specs.layout.Path.{Has, Path, class_at, node_at, number_of}
use Rattle.ftl_model.specs.layout.Solves.{Instance, instance_of}
use Rattle.ftl_model.specs.layout.Table.{instance_count, instance_number, instances}
use Rattle.ftl_model.specs.layout.Tree.{Forest, size}
use Rattle.ftl_model.specs.layout.TreeOf.{IsTreeOf}
use Rattle.ftl_model.proofs.layout.Standing.{node_at-number_of, number_of-lt}
use Rattle.ftl_order.specs.orders.Lawful.{IsLawful, OfClass}
use Rattle.ftl_order.proofs.orders.Instances.{Numbered, instance_at_number, length-instances, number_within, numbered}
use Rattle.ftl_step_value.proofs.limits.reads.Entries.{class_entry, there, whole}
use Rattle.ftl_plan.specs.plans.InputWords.{AreInputsSet, AreSet, HoldsItsFirst, inputs_by_class}
use Rattle.ftl_plan.proofs.plans.Inputs.{input_listed}

-- what is computed has no word yet
none_yet : (g : AttributeGrammar) (t : Forest) (sort : Sort) (i : Instance) → is_input sort ≡ false
    → first_word g t sort i ≡ 0
none_yet g t input i is = absurd (let z : ⊥ = grind (arith, is) in z)
none_yet g t inherited i is = refl
none_yet g t synthesized i is = refl
none_yet g t local i is = refl

-- an input is one
input_sort : (sort : Sort) → is_input sort ≡ true → sort ≡ input
input_sort input is = refl
input_sort inherited is = absurd (let z : ⊥ = grind (arith, is) in z)
input_sort synthesized is = absurd (let z : ⊥ = grind (arith, is) in z)
input_sort local is = absurd (let z : ⊥ = grind (arith, is) in z)

-- of a number many times, each entry is the number, also past the end
get_or-same : (n k z : ℕ) → get_or (replicate n z) k z ≡ z
get_or-same zero k z = refl
get_or-same (suc n) zero z = refl
get_or-same (suc n) (suc k) z = get_or-same n k z

-- zeros after zeros
pub zeros_more : (few more all : ℕ) (words new run : List ℕ) → new ≡ words ++ run → words ≡ replicate few 0
    → run ≡ replicate more 0 → few + more ≡ all → new ≡ replicate all 0
zeros_more few more all words new run is before zeros sum =
    is
    ∙ ap₂ (λ (xs ys : List ℕ). xs ++ ys) before zeros
    ∙ replicate-append-replicate few more 0
    ∙ ap (λ n. replicate n 0) sum

-- a vector holds what was written through its slice
pub written : (n : ℕ) (new old : List ℕ) → n ≡ length new → take n (new ++ drop (length new) old) ≡ new
written n new old is =
    take-append-le n new (drop (length new) old) (omega (arith, is)) ∙ take_all n new (omega (arith, is))

-- what is in a list of one entry is that entry
one_in : (a b : ℕ) → Contains (a ∷ []) b → a ≡ b
one_in a b h = ⊎_elim (λ e. e) (λ h. absurd (nothing_in b h)) (in_cases a b [] h)

-- no attribute is set yet
pub none_set : (g : AttributeGrammar) (t : Forest) (p : Path) (words : List ℕ) → AreSet g t p [] words words
none_set g t p words = record { count = refl; kept = λ cell held. held; set = λ a h. absurd (nothing_in a h) }

-- the inputs of the nodes before this one have their words, and what is computed 0
pub record AreSetBefore (g : AttributeGrammar) (t : Forest) (node : ℕ) (words : List ℕ) : Type 0 where
  pub count : length words ≡ instance_count g t
  pub zeros : (cell : ℕ) → get_or (first_words g t) cell 0 ≡ 0 → HoldsItsFirst g t words cell
  pub set : (n a : ℕ) → n < node → Contains (class_inputs g (class_at t (node_at t n))) a
      → HoldsItsFirst g t words (instance_number g t (instance_of (node_at t n) a))

pub zeros_first : (g : AttributeGrammar) (t : Forest) (words : List ℕ) → words ≡ replicate (instance_count g t) 0
    → AreSetBefore g t 0 words
zeros_first g t words is =
    record {
      count = ap length is ∙ length-replicate (instance_count g t) 0;
      zeros = λ cell none. ap (λ ws. get_or ws cell 0) is ∙ get_or-same (instance_count g t) cell 0 ∙ sym none;
      set = λ n a below h. absurd (let z : ⊥ = omega (arith, below) in z);
    }

pub zeros_next : (g : AttributeGrammar) (t : Forest) (node : ℕ) (words new : List ℕ) → AreSetBefore g t node words
    → AreInputsSet g t (node_at t node) words new → AreSetBefore g t (node + 1) new
zeros_next g t node words new before now =
    record {
      count = now.count ∙ before.count;
      zeros = λ cell none. now.kept cell (before.zeros cell none);
      set = λ n a below h.
          ⊎_elim
          (λ e.
          subst
          (λ m.
          Contains (class_inputs g (class_at t (node_at t m))) a
          → HoldsItsFirst g t new (instance_number g t (instance_of (node_at t m) a)))
          (sym e) (now.set a) h)
          (λ other.
          now.kept (instance_number g t (instance_of (node_at t n) a))
          (before.set n a (omega (arith, below, other)) h))
          (cases_eq n node);
    }

module _ (g : AttributeGrammar) (law : IsLawful g) (t : Forest) (fits : IsTreeOf g t) where
  -- the inputs of a node's class, in the list by number
  pub record InputRow (rows : List (List ℕ)) (node class : ℕ) : Type 0 where
    pub within : class < length rows
    pub is : (d : List ℕ) → get_or rows class d ≡ class_inputs g (class_at t (node_at t node))

  pub input_row : (rows : List (List ℕ)) (node class : ℕ) → rows ≡ inputs_by_class g → node < size t
      → class ≡ class_at t (node_at t node) → InputRow rows node class
  input_row rows node class are known is =
      let at = class_entry g law t fits (class_inputs g) node known is are in
      record { within = at.within; is = λ d. at.is d ∙ ap (class_inputs g) is }

  -- the same, where the row of the node's class was found
  module _ (rows : List (List ℕ)) (node class : ℕ) {row : List ℕ} (entry_there : List ℕ) (are : rows ≡ inputs_by_class g)
      (known : node < size t) (is : class ≡ class_at t (node_at t node)) (found : row ≡ get_or rows class entry_there)
    where
      pub row_inputs : row ≡ class_inputs g (class_at t (node_at t node))
      row_inputs = found ∙ (input_row rows node class are known is).is entry_there

      pub input_at : (place : ℕ) → place < length row
          → Contains (class_inputs g (class_at t (node_at t node))) (get_or row place 0)
      input_at place inside =
          subst (λ (xs : List ℕ). Contains xs (get_or row place 0)) row_inputs (Contains-get_or row place 0 inside)

  -- an input is an attribute of the class
  pub of_class : (class a : ℕ) → Contains (class_inputs g class) a → OfClass g class a
  of_class class a h = (in_filter (λ b. is_input (g.sort b)) (attributes_of g class) a h).0

  pub number_inside : (node a : ℕ) → node < size t → Contains (class_inputs g (class_at t (node_at t node))) a
      → instance_number g t (instance_of (node_at t node) a) < instance_count g t
  number_inside node a known h =
      number_within g t (node_at t node) a (there g law t fits node known) (of_class (class_at t (node_at t node)) a h)

  -- the word of an instance stands at its number
  word_there : (p : Path) (a : ℕ) → Has t p → OfClass g (class_at t p) a
      → get_or (first_words g t) (instance_number g t (instance_of p a)) 0 ≡ first_word g t (g.sort a) (instance_of p a)
  word_there p a here of =
      let within = number_within g t p a here of in
      let long = length-instances g t in
      get_or-map (λ (i : Instance). first_word g t (g.sort i.attribute) i) (instances g t)
      (instance_number g t (instance_of p a)) (instance_of p a) 0 (omega (arith, within, long))
      ∙ ap (λ (i : Instance). first_word g t (g.sort i.attribute) i)
      (instance_at_number g t p a (instance_of p a) here of)

  -- one more input gets its word
  pub set_more : (node : ℕ) (row old words : List ℕ) (k w : ℕ) → node < size t → length old ≡ instance_count g t
      → k < length row → Contains (class_inputs g (class_at t (node_at t node))) (get_or row k 0)
      → w ≡ first_word g t input (instance_of (node_at t node) (get_or row k 0))
      → AreSet g t (node_at t node) (take k row) old words
      → AreSet g t (node_at t node) (take (k + 1) row) old
      (set words (instance_number g t (instance_of (node_at t node) (get_or row k 0))) w)
  set_more node row old words k w known count below among is so_far =
      let p = node_at t node in
      let a = get_or row k 0 in
      let n = instance_number g t (instance_of p a) in
      let here = there g law t fits node known in
      let both = in_filter (λ b. is_input (g.sort b)) (attributes_of g (class_at t p)) a among in
      let within : n < length words =
      (let b = number_within g t p a here both.0 in let e = so_far.count in omega (arith, b, e, count)) in
      let held : HoldsItsFirst g t (set words n w) n =
      get_or-set_same words n w 0 within
      ∙ is
      ∙ ap (λ s. first_word g t s (instance_of p a)) (sym (input_sort (g.sort a) both.1))
      ∙ sym (word_there p a here both.0) in
      let kept : (cell : ℕ) → HoldsItsFirst g t words cell → HoldsItsFirst g t (set words n w) cell = λ cell h.
      ⊎_elim (λ e. subst (HoldsItsFirst g t (set words n w)) (sym e) held)
      (λ other. get_or-set_other words n cell w 0 other ∙ h) (cases_eq cell n) in
      record {
        count = length-set words n w ∙ so_far.count;
        kept = λ cell h. kept cell (so_far.kept cell h);
        set = λ b h.
            ⊎_elim (λ before. kept (instance_number g t (instance_of p b)) (so_far.set b before))
            (λ last.
            subst (λ x. HoldsItsFirst g t (set words n w) (instance_number g t (instance_of p x)))
            (one_in a b last) held)
            (Contains-append_cases (take k row) (a ∷ []) b (subst (λ xs. Contains xs b) (take_more row k 0 below) h));
      }

  -- each cell of the tree holds its word once the inputs of all nodes do
  cell_held : (words : List ℕ) (k : ℕ) → AreSetBefore g t (size t) words → (here : Numbered g t k) (b : Bool)
      → is_input (g.sort here.instance.attribute) ≡ b → HoldsItsFirst g t words k
  cell_held words k all here true is =
      let p = here.instance.node in
      let a = here.instance.attribute in
      let lt = number_of-lt t p here.valid.0 in
      let nodes = whole g t fits in
      subst (HoldsItsFirst g t words) here.number
      (subst
      (λ q.
      Contains (class_inputs g (class_at t q)) a → HoldsItsFirst g t words (instance_number g t (instance_of q a)))
      (node_at-number_of t p here.valid.0) (all.set (number_of t p) a (omega (arith, lt, nodes)))
      (input_listed g (class_at t p) a here.valid.1 is))
  cell_held words k all here false is =
      let p = here.instance.node in
      let a = here.instance.attribute in
      all.zeros k
      (ap (λ m. get_or (first_words g t) m 0) (sym here.number)
      ∙ word_there p a here.valid.0 here.valid.1
      ∙ none_yet g t (g.sort a) (instance_of p a) is)

  pub all_set : (words : List ℕ) → AreSetBefore g t (size t) words → words ≡ first_words g t
  all_set words all =
      let long : length (first_words g t) ≡ instance_count g t =
      length-map (instances g t) (λ (i : Instance). first_word g t (g.sort i.attribute) i) ∙ length-instances g t in
      same_number_lists words (first_words g t) (all.count ∙ sym long)
      (λ k below.
      let e = all.count in
      let here = numbered g t law fits k (omega (arith, below, e)) in
      cell_held words k all here (is_input (g.sort here.instance.attribute)) refl)
