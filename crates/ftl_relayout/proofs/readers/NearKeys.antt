-- What reads a cell runs at the node of its instance or at that node's parent.
use Rattle.std.proofs.Common.{◌≡◌, ℕ, ◌<◌, refl, sym, ap, ◌∙◌, subst, Contains}
use Rattle.ftl_model.specs.layout.AttributeGrammar.{AttributeGrammar, Occurrence}
use Rattle.ftl_model.specs.layout.Path.{Path, kids_at}
use Rattle.ftl_model.specs.layout.Solves.{Instance, rule_kid, rule_node, rule_of}
use Rattle.ftl_model.specs.layout.Table.{instance_count, instance_number}
use Rattle.ftl_model.specs.layout.Tree.{Forest}
use Rattle.ftl_model.specs.layout.TreeOf.{IsTreeOf}
use Rattle.ftl_order.specs.orders.Lawful.{IsLawful}
use Rattle.ftl_order.specs.orders.Reads.{Reads}
use Rattle.ftl_order.specs.orders.Schedule.{Placing}
use Rattle.ftl_relayout.specs.keys.Keys.{key_of}
use Rattle.ftl_relayout.specs.laws.Readers.{IsReadBy, IsSeenAs}
use Rattle.ftl_relayout.specs.laws.TreeNets.{HasSmallKeys, net_of}
use Rattle.ftl_relayout.specs.queue.Nets.{IsReaderBy}
use Rattle.ftl_relayout.specs.readers.Readers.{IsReaderKey}
use Rattle.ftl_relayout.proofs.laws.Hits.{readers_are_near}
use Rattle.ftl_relayout.proofs.laws.TreeNets.{at_cell, cell_number, cell_step, number_cell, read_cell, reads_cell, step_of}

module _ (g : AttributeGrammar) (law : IsLawful g) (at : Placing) (t : Forest) (fits : IsTreeOf g t)
    (small : HasSmallKeys g at t) where
  abbrev cell : ℕ → Instance
  cell k = at_cell g law at t fits small k

  -- a step that reads the cell reads it as an occurrence at the node where it runs
  pub record SeenKey (i : Instance) (key : ℕ) : Type 0 where
    pub at_node : Path
    pub seen : Occurrence
    pub is : IsSeenAs at_node i seen
    pub here : IsReaderKey g at t at_node seen key

  pub seen_key : (k key : ℕ) → IsReaderBy (net_of g at t) k key → SeenKey (cell k) key
  seen_key k key r =
      let q = cell r.reader in
      let sq = step_of g law at t fits small r.reader r.step in
      let c = read_cell g law at t fits small r.reader k r.step.within r.reads in
      let near = (readers_are_near g t q c.instance sq).0 c.reads in
      record {
        at_node = rule_node (g.sort q.attribute) q.node;
        seen = near.0;
        is = subst (λ i. IsSeenAs (rule_node (g.sort q.attribute) q.node) i near.0) (sym c.is) near.1;
        here = record { reader = q; step = sq; runs = refl; reads = near.2; key_is = r.key_is };
      }

  pub key_seen : (k key : ℕ) → k < instance_count g t → (v : Path) (o : Occurrence) → IsSeenAs v (cell k) o
      → IsReaderKey g at t v o key → IsReaderBy (net_of g at t) k key
  key_seen k key below v o is r =
      let q = r.reader in
      let n = instance_number g t q in
      let here : rule_node (g.sort q.attribute) q.node ≡ v = r.runs in
      let reads : Reads g t q (cell k) =
      (readers_are_near g t q (cell k) r.step).1 (
        o,
        subst (λ x. IsSeenAs x (cell k) o) (sym here) is,
        subst (λ x. IsReadBy (rule_of g t (g.sort q.attribute) q.node q.attribute).parts (kids_at t x)
            (rule_kid (g.sort q.attribute) q.node) o) (sym here) r.reads,
      ) in
      record {
        reader = n;
        step = cell_step g law at t fits small q r.step;
        reads =
            subst (Contains ((net_of g at t).reads n)) (cell_number g law at t fits small k below)
            (reads_cell g law at t fits small q (cell k) r.step.0 reads);
        key_is = ap (key_of g at t) (number_cell g law at t fits small q r.step.0) ∙ r.key_is;
      }
