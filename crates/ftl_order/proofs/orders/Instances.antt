-- Each instance of a tree stands in the list of instances at its number, and nothing else stands there.
use Rattle.std.proofs.Common.{◌≡◌, ℕ, suc, ◌+◌, ◌<◌, sym, ◌∙◌, ap, subst, arith, List, length, get_or, take, map, sum_by, flat_map, Contains}
use Rattle.std.proofs.lemmas.List.{get_or-map, length-map}
use Rattle.std.proofs.lemmas.List.Concat.{get_or-flat_map, length-flat_map}
use Rattle.std.proofs.lemmas.List.Elements.{Contains-get_or}
use mathlib.Core.Path.{fun_ext}
use Rattle.ftl_model.specs.lists.Lists.{place_in}
use Rattle.ftl_model.proofs.lists.Places.{piece_of, piece_within, place_is, place_of_entry, place_within}
use Rattle.ftl_model.specs.layout.AttributeGrammar.{AttributeGrammar, attributes_of}
use Rattle.ftl_model.specs.layout.Path.{Has, Path, class_at, node_at, number_of, preorder, top}
use Rattle.ftl_model.specs.layout.Solves.{Instance, IsInstance, instance_of}
use Rattle.ftl_model.specs.layout.Table.{instance_count, instance_number, instances, width_at}
use Rattle.ftl_model.specs.layout.Tree.{Forest, below_of, size}
use Rattle.ftl_model.specs.layout.TreeOf.{IsTreeOf}
use Rattle.ftl_model.proofs.layout.Numbering.{has-node_at, length-preorder, number_of-node_at}
use Rattle.ftl_model.proofs.layout.Standing.{node_at-number_of, number_of-lt}
use Rattle.ftl_order.specs.orders.Lawful.{IsLawful, OfClass}
use Rattle.ftl_order.proofs.orders.Kids.{class_known, root_there}
use Rattle.ftl_order.proofs.orders.Owners.{class_distinct}

module _ (g : AttributeGrammar) (t : Forest) where
  -- the instances of a node
  abbrev row : Path → List Instance
  row p = map (instance_of p) (attributes_of g (class_at t p))

  length-row : (p : Path) → length (row p) ≡ width_at g t p
  length-row p = length-map (attributes_of g (class_at t p)) (instance_of p)

  before_row : (ps : List Path) → length (flat_map row ps) ≡ sum_by (width_at g t) ps
  before_row ps = length-flat_map row ps ∙ ap (λ w. sum_by w ps) (fun_ext length-row)

  pub length-instances : length (instances g t) ≡ instance_count g t
  length-instances = before_row (preorder t)

  -- the instance of a node stands after those of the nodes before it
  instance_in_row : (i j : ℕ) (d : Instance) → i < length (preorder t) → j < width_at g t (node_at t i)
      → get_or (instances g t) (sum_by (width_at g t) (take i (preorder t)) + j) d
      ≡ instance_of (node_at t i) (get_or (attributes_of g (class_at t (node_at t i))) j 0)
  instance_in_row i j d known within =
      ap (λ n. get_or (instances g t) (n + j) d) (sym (before_row (take i (preorder t))))
      ∙ get_or-flat_map row (preorder t) i j top d known (let e = length-row (node_at t i) in omega (arith, e, within))
      ∙ get_or-map (instance_of (node_at t i)) (attributes_of g (class_at t (node_at t i))) j 0 d within

  pub instance_at_number : (p : Path) (a : ℕ) (d : Instance) → Has t p → OfClass g (class_at t p) a
      → get_or (instances g t) (instance_number g t (instance_of p a)) d ≡ instance_of p a
  instance_at_number p a d h of =
      let n = number_of t p in
      let these = attributes_of g (class_at t p) in
      let there : node_at t n ≡ p = node_at-number_of t p h in
      let known : n < length (preorder t) = omega (arith, number_of-lt t p h, length-preorder t) in
      subst
      (λ q.
      place_in these a < width_at g t q
      → get_or (instances g t) (sum_by (width_at g t) (take n (preorder t)) + place_in these a) d
      ≡ instance_of q (get_or (attributes_of g (class_at t q)) (place_in these a) 0))
      there (instance_in_row n (place_in these a) d known) (place_within these a of)
      ∙ ap (instance_of p) (place_is these a 0 of)

  -- a number below the count is the number of an instance
  pub record Numbered (n : ℕ) : Type 0 where
    pub instance : Instance
    pub valid : IsInstance g t instance
    pub number : instance_number g t instance ≡ n

  pub number_within : (p : Path) (a : ℕ) → Has t p → OfClass g (class_at t p) a
      → instance_number g t (instance_of p a) < instance_count g t
  number_within p a h of =
      let n = number_of t p in
      let j = place_in (attributes_of g (class_at t p)) a in
      let known : n < length (preorder t) = omega (arith, number_of-lt t p h, length-preorder t) in
      let inside =
      piece_within row top (preorder t) n j known
      (subst (λ q. j < length (row q)) (sym (node_at-number_of t p h))
      (let e = length-row p in let w = place_within (attributes_of g (class_at t p)) a of in omega (arith, e, w))) in
      let e = before_row (take n (preorder t)) in
      let whole = length-instances in
      omega (arith, inside, e, whole)

  pub numbered : IsLawful g → IsTreeOf g t → (n : ℕ) → n < instance_count g t → Numbered n
  numbered law fits n below =
      let piece = piece_of row top (preorder t) n (let e = length-instances in omega (arith, e, below)) in
      let i = piece.piece in
      let j = piece.place in
      let p = node_at t i in
      let these = attributes_of g (class_at t p) in
      let within : j < length these = (let w = piece.within in let e = length-row p in omega (arith, w, e)) in
      let known : i < suc (size (below_of t)) = (let k = piece.known in omega (arith, k, length-preorder t)) in
      let there : Has t p = has-node_at t i (root_there g t fits) known in
      record {
        instance = instance_of p (get_or these j 0);
        valid = (there, Contains-get_or these j 0 within);
        number =
            ap (λ m. sum_by (width_at g t) (take m (preorder t)) + place_in these (get_or these j 0))
            (number_of-node_at t i known)
            ∙ ap (λ m. sum_by (width_at g t) (take i (preorder t)) + m)
            (place_of_entry these (class_distinct g law (class_at t p) (class_known g t fits p there)) j 0 within)
            ∙ ap (λ m. m + j) (sym (before_row (take i (preorder t))))
            ∙ piece.is;
      }

  -- what stands at a place of the list is an instance, and has that number
  pub instance_here : IsLawful g → IsTreeOf g t → (n : ℕ) (d : Instance) → n < instance_count g t
      → IsInstance g t (get_or (instances g t) n d) × (instance_number g t (get_or (instances g t) n d) ≡ n)
  instance_here law fits n d below =
      let here = numbered law fits n below in
      let i = here.instance in
      let is : get_or (instances g t) n d ≡ i =
      ap (λ m. get_or (instances g t) m d) (sym here.number)
      ∙ instance_at_number i.node i.attribute d here.valid.0 here.valid.1 in
      (subst (IsInstance g t) (sym is) here.valid, ap (instance_number g t) is ∙ here.number)

  -- each instance stands in the list
  pub is_listed_instance : (i : Instance) → IsInstance g t i → Contains (instances g t) i
  is_listed_instance i valid = (
    instance_number g t i,
    (let w = number_within i.node i.attribute valid.0 valid.1 in
        let e = length-instances in
        let z : instance_number g t i < length (instances g t) = omega (arith, w, e) in z),
    instance_at_number i.node i.attribute i valid.0 valid.1,
  )
