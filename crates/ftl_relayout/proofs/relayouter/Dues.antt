-- The steps that read an edited input whose value is not that of the tree.
use Rattle.std.proofs.Common.{◌≡◌, ◌⊎◌, ℕ, suc, ◌<◌, refl, sym, ◌∙◌, ap, subst, inl, inr, ⊎_elim, arith, pos, List, [], ◌∷◌, Contains, length, get_or, set, get_or-set_other}
use native.Mathlib.Decide.{ℕ_discrete}
use Rattle.ftl_model.proofs.lists.Elements.{in_filter}
use Rattle.ftl_model.specs.layout.AttributeGrammar.{AttributeGrammar, attributes_of, is_input, input}
use Rattle.ftl_model.specs.layout.Path.{class_at, node_at}
use Rattle.ftl_model.specs.layout.Solves.{IsInstance, instance_of}
use Rattle.ftl_model.specs.layout.Table.{instance_count}
use Rattle.ftl_model.specs.layout.Tree.{Forest}
use Rattle.ftl_model.specs.layout.Values.{Value, number, overflow}
use Rattle.ftl_model.specs.layout.WithInput.{value_at}
use Rattle.ftl_step_value.proofs.limits.reads.Entries.{attribute_in_range}
use Rattle.ftl_order.proofs.orders.Instances.{number_within}
use Rattle.ftl_tree.proofs.rows.Access.{has_at}
use Rattle.ftl_edits.specs.declared.meaning.types.Edit.{Edit}
use Rattle.ftl_relayout.specs.declared.readers.add.ReaderSite.{ReaderSite}
use Rattle.ftl_relayout.specs.keys.KeysHere.{IsAttributeOf}
use Rattle.ftl_relayout.specs.laws.Edits.{AreInputEdits, IsInputEdit, edited_cell, written}
use Rattle.ftl_relayout.specs.queue.Nets.{IsStep, table}
use Rattle.ftl_relayout.specs.queue.Ready.{HasChangedRead, IsDue}
use Rattle.ftl_relayout.specs.readers.Sites.{IsReaderSite, site_grammar, site_net}
use Rattle.ftl_relayout.specs.relayouter.Due.{AreEditedFrom, IsDueBy}
use Rattle.ftl_relayout.proofs.edits.Writing.{edit_at}
use Rattle.ftl_relayout.proofs.laws.Edited.{sort_given}

-- any edit
abbrev pub some_edit : Edit
some_edit = record { node = 0; attr = 0; value = pos 0 }

-- an edit of these is of this cell
pub record HasEditOf (g : AttributeGrammar) (t : Forest) (es : List Edit) (cell : ℕ) : Type 0 where
  pub index : ℕ
  pub below : index < length es
  pub is : edited_cell g t (get_or es index some_edit) ≡ cell

module _ (g : AttributeGrammar) (t : Forest) where
  later : (e : Edit) (es : List Edit) (cell : ℕ) → HasEditOf g t es cell → HasEditOf g t (e ∷ es) cell
  later e es cell h = record {
    index = suc h.index;
    below = let b = h.below in let z : suc h.index < suc (length es) = omega (arith, b) in z;
    is = h.is;
  }

  -- what is written is of an edit
  pub written_or : (es : List Edit) (old : List Value) (cell : ℕ)
      → (table (written g t es old) cell ≡ table old cell) ⊎ HasEditOf g t es cell
  written_or [] old cell = inl refl
  written_or (e ∷ es) old cell =
      ⊎_elim (λ same. here (ℕ_discrete (edited_cell g t e) cell) same) (λ h. inr (later e es cell h))
      (written_or es (set old (edited_cell g t e) (number e.value)) cell)
    where
      here : Dec (edited_cell g t e ≡ cell)
          → (table (written g t (e ∷ es) old) cell ≡ table (set old (edited_cell g t e) (number e.value)) cell)
          → (table (written g t (e ∷ es) old) cell ≡ table old cell) ⊎ HasEditOf g t (e ∷ es) cell
      here (yes q) same =
          inr (record { index = 0; below = let z : 0 < suc (length es) = omega arith in z; is = q })
      here (no n) same =
          inl
          (same ∙ get_or-set_other old (edited_cell g t e) cell (number e.value) overflow (λ q. n (sym q)))

  -- an edit's input as an instance
  pub record EditedInput (e : Edit) : Type 0 where
    pub attribute : Contains (attributes_of g (class_at t (node_at t e.node))) e.attr
    pub valid : IsInstance g t (instance_of (node_at t e.node) e.attr)
    pub given : g.sort e.attr ≡ input
    pub within : edited_cell g t e < instance_count g t

  pub edited_input : (e : Edit) → IsInputEdit g t e → EditedInput e
  edited_input e is =
      let both =
      in_filter (λ b. is_input (g.sort b)) (attributes_of g (class_at t (node_at t e.node))) e.attr is.0.input in
      let there = has_at g t e.node is.0.is_tree is.0.known in
      record {
        attribute = both.0;
        valid = (there, both.0);
        given = sort_given (g.sort e.attr) both.1;
        within = number_within g t (node_at t e.node) e.attr there both.0;
      }

  pub old_at : (es : List Edit) (old values : List Value) → AreEditedFrom g t es old values → (e : Edit) → IsInputEdit g t e
      → table old (edited_cell g t e) ≡ value_at g t (node_at t e.node) e.attr
  old_at es old values from e is =
      let i = edited_input e is in from.inputs (instance_of (node_at t e.node) e.attr) i.valid i.given

module _ (x : ReaderSite) where
  abbrev grammar : AttributeGrammar
  grammar = site_grammar x

  abbrev forest : Forest
  forest = x.tree.now.tree

  pub edited_attribute : IsReaderSite x → (e : Edit) → IsInputEdit grammar forest e
      → IsAttributeOf x.tree.now e.node e.attr
  edited_attribute site e is =
      let i = edited_input grammar forest e is in
      record {
        node_known = is.0.known;
        attribute_known = i.attribute;
        counted = attribute_in_range grammar site.law forest is.0.is_tree e.node e.attr is.0.known i.attribute;
      }

  module _ (es : List Edit) (old values : List Value) (from : AreEditedFrom grammar forest es old values) where
    pub due_by : (e : Edit) (key : ℕ) → IsDueBy x values e key → IsDue (site_net x) (table old) (table values) key
    due_by e key by = record {
      cell = by.reader.reader;
      step = by.reader.step;
      key_is = by.reader.key_is;
      changed = (
        edited_cell grammar forest e,
        by.reader.reads,
        (λ same. by.changed (same ∙ old_at grammar forest es old values from e by.edit)),
      );
    }

    pub all_wait : AreInputEdits grammar forest es → (keys : List ℕ)
        → ((m : ℕ) (d : Edit) → m < length es → (k : ℕ) → IsDueBy x values (get_or es m d) k → Contains keys k)
        → (k : ℕ) → IsStep (site_net x) k → HasChangedRead (site_net x) (table old) (table values) k
        → Contains keys ((site_net x).key k)
    all_wait edits keys all k step changed =
        ⊎_elim
        (λ same. absurd (changed.2 (ap (λ vs. table vs changed.0) from.written ∙ same)))
        (λ h.
        let e = get_or es h.index some_edit in
        let is = edit_at grammar forest es h.index some_edit edits h.below in
        all h.index some_edit h.below ((site_net x).key k)
        (record {
          edit = is;
          changed = λ same.
              changed.2
              (ap (table values) (sym h.is) ∙ same ∙ sym (old_at grammar forest es old values from e is)
              ∙ ap (table old) h.is);
          reader = record {
            reader = k;
            step = step;
            reads = subst (Contains ((site_net x).reads k)) (sym h.is) changed.1;
            key_is = refl;
          };
        }))
        (written_or grammar forest es old changed.0)
