-- The cells of a tree, and of the same tree with other inputs, are alike: what a run gives of the one it gives of the other.
use Rattle.std.proofs.Common.{◌≡◌, ◌≢◌, ℕ, ◌+◌, ◌-◌, ◌<◌, ◌≤◌, suc, true, not, refl, sym, ◌∙◌, ap, ap₂, subst, arith, List, [], ◌∷◌, Contains, map, length, slice_index_or}
use mathlib.Core.Path.{fun_ext}
use Rattle.ftl_model.specs.layout.AttributeGrammar.{AttributeGrammar, Sort, inherited, input, is_input, local, read_occurrences, synthesized}
use Rattle.ftl_model.specs.layout.Inputs.{IsSameButInputs}
use Rattle.ftl_model.specs.layout.Path.{Path, down, number_of, top}
use Rattle.ftl_model.specs.layout.Solves.{Instance, equation_value, instance_of, rule_node, rule_of, seen_from}
use Rattle.ftl_model.specs.layout.Table.{SolvesList, instance_number}
use Rattle.ftl_model.specs.layout.Tree.{Forest}
use Rattle.ftl_model.specs.layout.Values.{Value}
use Rattle.ftl_model.proofs.layout.SameTrees.{same_classes, same_instance_count, same_instance_number, same_instances, same_kids, same_numbers, same_sizes}
use Rattle.ftl_order.specs.orders.Lawful.{IsLawful}
use Rattle.ftl_order.specs.orders.Ordered.{IsOrdered}
use Rattle.ftl_order.specs.orders.Reads.{equation_reads, reads_of}
use Rattle.ftl_order.specs.orders.Schedule.{PassKind, Placing, Schedule, bottomup, inorder, placing_of, topdown}
use Rattle.ftl_relayout.specs.keys.Keys.{key_of, packed, tie_of, time_of}
use Rattle.ftl_relayout.specs.laws.Edits.{AreWritten}
use Rattle.ftl_relayout.specs.laws.Relayout.{IsChanged, IsLaidOut, RunGives}
use Rattle.ftl_relayout.specs.laws.TreeNets.{HasSmallKeys, cost_at, instance_at, net_of, parts_cost}
use Rattle.ftl_relayout.specs.queue.Nets.{IsKeyOf, IsReaderBy, IsStep, Net, table}
use Rattle.ftl_relayout.specs.queue.Ready.{HasChangedRead, IsDone, IsDue, IsReady}
use Rattle.ftl_relayout.specs.queue.Trails.{total_cost}
use Rattle.ftl_relayout.proofs.laws.Edited.{same_size}
use Rattle.ftl_relayout.proofs.laws.Relaid.{rule_back, runs_lay_out_anew}

-- the same cells; those that are computed have the same values
pub record AreAlike (n m : Net) : Type 0 where
  pub cells : n.cells ≡ m.cells
  pub is_step : (i : ℕ) → n.is_step i ≡ m.is_step i
  pub reads : (i : ℕ) → n.reads i ≡ m.reads i
  pub value : (v : ℕ → Value) (i : ℕ) → n.is_step i ≡ true → n.value v i ≡ m.value v i
  pub key : (i : ℕ) → n.key i ≡ m.key i
  pub cost : (i : ℕ) → n.cost i ≡ m.cost i

pub alike_sym : (n m : Net) → AreAlike n m → AreAlike m n
alike_sym n m a = record {
  cells = sym a.cells;
  is_step = λ i. sym (a.is_step i);
  reads = λ i. sym (a.reads i);
  value = λ v i s. sym (a.value v i (a.is_step i ∙ s));
  key = λ i. sym (a.key i);
  cost = λ i. sym (a.cost i);
}

module _ (n m : Net) (a : AreAlike n m) where
  pub step_over : (i : ℕ) → IsStep n i → IsStep m i
  step_over i h = record {
    within = subst (λ c. i < c) a.cells h.within;
    computed = sym (a.is_step i) ∙ h.computed;
  }

  pub read_over : (i j : ℕ) → Contains (n.reads i) j → Contains (m.reads i) j
  read_over i j h = subst (λ xs. Contains xs j) (a.reads i) h

  pub key_over : (k : ℕ) → IsKeyOf n k → IsKeyOf m k
  key_over k h = record { cell = h.cell; step = step_over h.cell h.step; key_is = sym (a.key h.cell) ∙ h.key_is }

  pub reader_over : (cell k : ℕ) → IsReaderBy n cell k → IsReaderBy m cell k
  reader_over cell k h = record {
    reader = h.reader;
    step = step_over h.reader h.step;
    reads = read_over h.reader cell h.reads;
    key_is = sym (a.key h.reader) ∙ h.key_is;
  }

  pub changed_over : (old now : ℕ → Value) (i : ℕ) → HasChangedRead n old now i → HasChangedRead m old now i
  changed_over old now i h = (h.0, read_over i h.0 h.1, h.2)

  pub due_over : (old now : ℕ → Value) (k : ℕ) → IsDue n old now k → IsDue m old now k
  due_over old now k h = record {
    cell = h.cell;
    step = step_over h.cell h.step;
    key_is = sym (a.key h.cell) ∙ h.key_is;
    changed = changed_over old now h.cell h.changed;
  }

module _ (n m : Net) (a : AreAlike n m) where
  abbrev back : AreAlike m n
  back = alike_sym n m a

  pub ready_over : (old final : ℕ → Value) (values : List Value) (waiting : List ℕ)
      → IsReady n old final values waiting → IsReady m old final values waiting
  ready_over old final values waiting h = record {
    old_holds = λ i s. let b = step_over m n back i s in h.old_holds i b ∙ a.value old i b.computed;
    final_holds = λ i s. let b = step_over m n back i s in h.final_holds i b ∙ a.value final i b.computed;
    inputs = λ i below given. h.inputs i (subst (λ c. i < c) (sym a.cells) below) (a.is_step i ∙ given);
    stays = λ i s. h.stays i (step_over m n back i s);
    due = λ i s c.
        subst (Contains waiting) (a.key i)
        (h.due i (step_over m n back i s)
        (changed_over m n back old (table values) i c));
    only = λ k w. due_over n m a old (table values) k (h.only k w);
  }

  pub done_over : (old final : ℕ → Value) (values : List Value) (ran : List ℕ)
      → IsDone n old final values ran → IsDone m old final values ran
  done_over old final values ran h = record {
    values_are = λ i below. h.values_are i (subst (λ c. i < c) (sym a.cells) below);
    touched = λ i. (
      (λ r. let d = (h.touched i).0 r in (step_over n m a i d.0, d.1, read_over n m a i d.1 d.2, d.3)),
      (λ d. (h.touched i).1 (step_over m n back i d.0, d.1, read_over m n back i d.1 d.2, d.3)),
    );
    once = h.once;
  }

-- what holds of a run on the one holds on the other
pub gives_over : (n m : Net) → AreAlike n m → (values after : List Value) (waiting ran : List ℕ)
    → ((old final : ℕ → Value) → IsReady n old final values waiting → IsDone n old final after ran)
    → (old final : ℕ → Value) → IsReady m old final values waiting → IsDone m old final after ran
gives_over n m a values after waiting ran gives old final h =
    done_over n m a old final after ran
    (gives old final (ready_over m n (alike_sym n m a) old final values waiting h))

computed_sort : (sort : Sort) → not (is_input sort) ≡ true → sort ≢ input
computed_sort input e = absurd (let z : ⊥ = grind (arith, e) in z)
computed_sort inherited e = λ h. let z : ⊥ = cc in z
computed_sort synthesized e = λ h. let z : ⊥ = cc in z
computed_sort local e = λ h. let z : ⊥ = cc in z

module _ (g : AttributeGrammar) (t u : Forest) (same : IsSameButInputs t u) where
  same_rule : (sort : Sort) (p : Path) (a : ℕ) → rule_of g t sort p a ≡ rule_of g u sort p a
  same_rule input p a = ap (λ k. g.self_rule k a) (same_classes t u same p)
  same_rule inherited top a = ap (λ k. g.self_rule k a) (same_classes t u same top)
  same_rule inherited (down c k p) a = ap (λ l. g.child_rule l c a) (same_classes t u same p)
  same_rule synthesized p a = ap (λ k. g.self_rule k a) (same_classes t u same p)
  same_rule local p a = ap (λ k. g.self_rule k a) (same_classes t u same p)

  same_reads_by : (sort : Sort) (p : Path) (a : ℕ) → equation_reads g t sort p a ≡ equation_reads g u sort p a
  same_reads_by input p a = refl
  same_reads_by inherited top a =
      ap₂ (λ k n. map (seen_from top) (read_occurrences (g.self_rule k a).parts n 0)) (same_classes t u same top)
      (same_kids t u same top)
  same_reads_by inherited (down c k p) a =
      ap₂ (λ l n. map (seen_from p) (read_occurrences (g.child_rule l c a).parts n k)) (same_classes t u same p)
      (same_kids t u same p)
  same_reads_by synthesized p a =
      ap₂ (λ k n. map (seen_from p) (read_occurrences (g.self_rule k a).parts n 0)) (same_classes t u same p)
      (same_kids t u same p)
  same_reads_by local p a =
      ap₂ (λ k n. map (seen_from p) (read_occurrences (g.self_rule k a).parts n 0)) (same_classes t u same p)
      (same_kids t u same p)

  pub same_reads : (i : Instance) → reads_of g t i ≡ reads_of g u i
  same_reads i = same_reads_by (g.sort i.attribute) i.node i.attribute

  pub same_cost : (i : Instance) → cost_at g t i ≡ cost_at g u i
  same_cost i =
      ap₂ (λ r n. parts_cost r.parts n) (same_rule (g.sort i.attribute) i.node i.attribute)
      (same_kids t u same (rule_node (g.sort i.attribute) i.node))

  pub same_instance_at : (k : ℕ) → instance_at g t k ≡ instance_at g u k
  same_instance_at k = ap (λ is. slice_index_or is k (instance_of top 0)) (same_instances t u same g)

  same_time : (kind : PassKind) (sort : Sort) (p : Path) → time_of kind t sort p ≡ time_of kind u sort p
  same_time topdown sort p = same_numbers t u same (rule_node sort p)
  same_time bottomup sort p =
      ap₂ (λ m n. m - n) (same_size t u same) (same_numbers t u same (rule_node sort p))
  same_time inorder input p = same_numbers t u same p
  same_time inorder inherited p = same_numbers t u same p
  same_time inorder synthesized p = ap₂ (λ m n. m + n) (same_numbers t u same p) (same_sizes t u same p)
  same_time inorder local p = same_numbers t u same p

  same_tie : (kind : PassKind) (sort : Sort) (p : Path) → tie_of kind t sort p ≡ tie_of kind u sort p
  same_tie topdown sort p = refl
  same_tie bottomup sort p = refl
  same_tie inorder input p = refl
  same_tie inorder inherited p = ap suc (same_size t u same)
  same_tie inorder synthesized p = ap₂ (λ m n. m - n) (same_size t u same) (same_numbers t u same p)
  same_tie inorder local p = ap (λ n. suc (suc n)) (same_size t u same)

  pub same_key : (at : Placing) (i : Instance) → key_of g at t i ≡ key_of g at u i
  same_key at i =
      let place = at i.attribute in
      let sort = g.sort i.attribute in
      let digits : ℕ → ℕ → ℕ → ℕ =
      λ time tie node. packed (place.stage ∷ (time ∷ (tie ∷ (place.index ∷ (node ∷ (i.attribute ∷ [])))))) in
      ap₂ (λ time tie. digits time tie (number_of t i.node)) (same_time place.kind sort i.node)
      (same_tie place.kind sort i.node)
      ∙ ap (digits (time_of place.kind u sort i.node) (tie_of place.kind u sort i.node)) (same_numbers t u same i.node)

  -- of cells by number
  pub same_cell_cost : (k : ℕ) → cost_at g t (instance_at g t k) ≡ cost_at g u (instance_at g u k)
  same_cell_cost k = same_cost (instance_at g t k) ∙ ap (cost_at g u) (same_instance_at k)

  same_numbering : instance_number g t ≡ instance_number g u
  same_numbering = fun_ext (same_instance_number t u same g)

  same_value : (v : ℕ → Value) (i : Instance) → g.sort i.attribute ≢ input
      → equation_value g t (λ j. v (instance_number g t j)) (g.sort i.attribute) i.node i.attribute
      ≡ equation_value g u (λ j. v (instance_number g u j)) (g.sort i.attribute) i.node i.attribute
  same_value v i step =
      rule_back t u same g (λ j. v (instance_number g t j)) (g.sort i.attribute) i.node i.attribute step
      ∙ ap (λ f. equation_value g u (λ j. v (f j)) (g.sort i.attribute) i.node i.attribute) same_numbering

  pub nets_alike : (at : Placing) → AreAlike (net_of g at t) (net_of g at u)
  nets_alike at = record {
    cells = same_instance_count t u same g;
    is_step = λ k. ap (λ i. not (is_input (g.sort i.attribute))) (same_instance_at k);
    reads = λ k.
        ap₂ (λ f is. map f is) same_numbering (same_reads (instance_at g t k))
        ∙ ap (λ i. map (instance_number g u) (reads_of g u i)) (same_instance_at k);
    value = λ v k s.
        same_value v (instance_at g t k) (computed_sort (g.sort (instance_at g t k).attribute) s)
        ∙ ap (λ i. equation_value g u (λ j. v (instance_number g u j)) (g.sort i.attribute) i.node i.attribute)
        (same_instance_at k);
    key = λ k. same_key at (instance_at g t k) ∙ ap (key_of g at u) (same_instance_at k);
    cost = same_cell_cost;
  }

  pub small_over : (at : Placing) → HasSmallKeys g at t → HasSmallKeys g at u
  small_over at h = record {
    nodes = subst (λ n. n ≤ 1048576) (same_size t u same) h.nodes;
    attributes = h.attributes;
    stages = h.stages;
    places = h.places;
  }

  -- what a run gives of the cells of the one tree it gives of the other's
  pub runs_over : (s : Schedule) (values after : List Value) (waiting ran : List ℕ)
      → RunGives g s t values after waiting ran → RunGives g s u values after waiting ran
  runs_over s values after waiting ran gives =
      gives_over (net_of g (placing_of s) t) (net_of g (placing_of s) u) (nets_alike (placing_of s)) values after
      waiting ran gives

  pub same_cost_of : (cells : List ℕ)
      → total_cost (λ k. cost_at g t (instance_at g t k)) cells ≡ total_cost (λ k. cost_at g u (instance_at g u k)) cells
  same_cost_of cells = ap (λ f. total_cost f cells) (fun_ext same_cell_cost)

-- the keys that wait are just those of the steps with a changed read
pub record WaitsForChanged (n : Net) (old values : List Value) (waiting : List ℕ) : Type 0 where
  pub due : (k : ℕ) → IsStep n k → HasChangedRead n (table old) (table values) k → Contains waiting (n.key k)
  pub only : (k : ℕ) → Contains waiting k → IsDue n (table old) (table values) k

pub waits_over : (n m : Net) → AreAlike n m → (old values : List Value) (waiting : List ℕ)
    → WaitsForChanged n old values waiting → WaitsForChanged m old values waiting
waits_over n m a old values waiting h = record {
  due = λ k s c.
      subst (Contains waiting) (a.key k)
      (h.due k (step_over m n (alike_sym n m a) k s)
      (changed_over m n (alike_sym n m a) (table old) (table values) k c));
  only = λ k w. due_over n m a (table old) (table values) k (h.only k w);
}

module _ (g : AttributeGrammar) (s : Schedule) (t u : Forest) (law : IsLawful g) (ordered : IsOrdered g s)
    (small : HasSmallKeys g (placing_of s) t) (old values : List Value) (solved : SolvesList g t old)
    (w : AreWritten g t u old values) (waiting : List ℕ)
    (waits : WaitsForChanged (net_of g (placing_of s) t) old values waiting) where
  -- what waits on the tree before the edits waits on the edited one
  pub written_changed : IsChanged g s t u old values waiting
  written_changed =
      let moved =
      waits_over (net_of g (placing_of s) t) (net_of g (placing_of s) u) (nets_alike g t u w.alike (placing_of s)) old
      values waiting waits in
      record {
        lawful = law;
        ordered = ordered;
        fits = w.fits;
        alike = w.alike;
        small = small_over g t u w.alike (placing_of s) small;
        solved = solved;
        count = w.count ∙ solved.count ∙ same_instance_count t u w.alike g;
        inputs = w.inputs;
        stays = w.stays;
        due = moved.due;
        only = moved.only;
      }

  -- a run on the cells of the tree before the edits lays out the edited one
  pub written_laid_out : (after : List Value) (ran : List ℕ) → RunGives g s t values after waiting ran
      → length after ≡ length values → IsLaidOut g u old after ran
  written_laid_out after ran gives as_long =
      runs_lay_out_anew g s t u old values after waiting ran written_changed
      (runs_over g t u w.alike s values after waiting ran gives) as_long
