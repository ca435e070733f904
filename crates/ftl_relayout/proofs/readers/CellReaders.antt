-- What reads the cell of an attribute of a node: at the node itself, or at its parent.
use Rattle.std.proofs.Common.{◌≡◌, ◌⊎◌, ℕ, refl, sym, subst, inl, inr}
use Rattle.ftl_model.specs.layout.AttributeGrammar.{AttributeGrammar, Occurrence, kid, own}
use Rattle.ftl_model.specs.layout.Path.{Path, down, node_at}
use Rattle.ftl_model.specs.layout.Solves.{Instance, IsInstance, instance_of}
use Rattle.ftl_model.specs.layout.Table.{instance_number}
use Rattle.ftl_model.specs.layout.Tree.{Forest}
use Rattle.ftl_model.specs.layout.TreeOf.{IsTreeOf}
use Rattle.ftl_order.proofs.orders.Instances.{number_within}
use Rattle.ftl_order.specs.orders.Lawful.{IsLawful}
use Rattle.ftl_order.specs.orders.Schedule.{Placing}
use Rattle.ftl_relayout.specs.laws.Readers.{IsSeenAs}
use Rattle.ftl_relayout.specs.laws.TreeNets.{HasSmallKeys, net_of}
use Rattle.ftl_relayout.specs.queue.Nets.{IsReaderBy}
use Rattle.ftl_relayout.specs.readers.Readers.{IsReaderKey}
use Rattle.ftl_relayout.proofs.laws.TreeNets.{at_cell, number_cell}
use Rattle.ftl_relayout.proofs.readers.NearKeys.{key_seen, seen_key}

module _ (g : AttributeGrammar) (law : IsLawful g) (at : Placing) (t : Forest) (fits : IsTreeOf g t)
    (small : HasSmallKeys g at t) (node a : ℕ) (valid : IsInstance g t (instance_of (node_at t node) a)) where
  abbrev i : Instance
  i = instance_of (node_at t node) a

  abbrev number : ℕ
  number = instance_number g t i

  is_cell : at_cell g law at t fits small number ≡ i
  is_cell = number_cell g law at t fits small i valid

  seen_here : (v : Path) (o : Occurrence) → IsSeenAs v i o → (key : ℕ) → IsReaderKey g at t v o key
      → IsReaderBy (net_of g at t) number key
  seen_here v o is key r =
      key_seen g law at t fits small number key (number_within g t i.node i.attribute valid.0 valid.1) v o
      (subst (λ j. IsSeenAs v j o) (sym is_cell) is) r

  pub own_in : (key : ℕ) → IsReaderKey g at t (node_at t node) (own a) key → IsReaderBy (net_of g at t) number key
  own_in key r = seen_here (node_at t node) (own a) (refl, refl) key r

  pub kid_in : (c n : ℕ) (p : Path) → node_at t node ≡ down c n p → (key : ℕ) → IsReaderKey g at t p (kid c n a) key
      → IsReaderBy (net_of g at t) number key
  kid_in c n p is key r = seen_here p (kid c n a) (is, refl) key r

  -- a reader at the parent
  pub record AboveKey (key : ℕ) : Type 0 where
    pub child : ℕ
    pub kid_number : ℕ
    pub parent : Path
    pub is : node_at t node ≡ down child kid_number parent
    pub key_there : IsReaderKey g at t parent (kid child kid_number a) key

  pub here_or_above : (key : ℕ) → IsReaderBy (net_of g at t) number key
      → IsReaderKey g at t (node_at t node) (own a) key ⊎ AboveKey key
  here_or_above key r =
      let s = seen_key g law at t fits small number key r in
      by s.at_node s.seen (subst (λ j. IsSeenAs s.at_node j s.seen) is_cell s.is) s.here
    where
      by : (v : Path) (o : Occurrence) → IsSeenAs v i o → IsReaderKey g at t v o key
          → IsReaderKey g at t (node_at t node) (own a) key ⊎ AboveKey key
      by v (own b) is k =
          inl
          (subst (λ x. IsReaderKey g at t x (own a) key) (sym is.0)
          (subst (λ x. IsReaderKey g at t v (own x) key) (sym is.1) k))
      by v (kid c n b) is k =
          inr (record {
            child = c;
            kid_number = n;
            parent = v;
            is = is.0;
            key_there = subst (λ x. IsReaderKey g at t v (kid c n x) key) (sym is.1) k;
          })
