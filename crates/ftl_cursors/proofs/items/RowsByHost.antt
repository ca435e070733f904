-- The rows of a tree by their numbers, and how they are cut.
use Rattle.std.proofs.Common.{◌≡◌, ℕ, ◌<◌, refl, sym, ◌∙◌, ap, subst, arith, eq-eqb, eqb-true, Bool, true, false, List, get_or, length, Contains, Option, None, Some}
use Rattle.std.proofs.lemmas.List.{get_or-map, get_or_default}
use Rattle.std.proofs.lemmas.List.Elements.{All-get_or}
use Rattle.ftl_items.specs.stage_items.Cut.{PassCut, tops_by}
use Rattle.ftl_model.specs.layout.Path.{Path}
use Rattle.ftl_order.specs.orders.Schedule.{Pass, PassKind as OrderKind}
use Rattle.ftl_schedule.specs.declared.syntax.kind.PassKind.{PassKind}
use Rattle.ftl_schedule.specs.stages.Stages.{kind_of}
use Rattle.ftl_tree.specs.trees.CheckedTree.{CheckedTree}
use Rattle.ftl_cursors.specs.items.HostRows.{AreCutAs, AreNumbered, AreNumbers, cut_in, host_at, hosts_by, is_one_host}
use Rattle.ftl_cursors.specs.items.RowsCut.{is_whole_in}
use Rattle.ftl_cursors.specs.items.RowsOfTree.{AreOfTree, IsOfTree}
use Rattle.ftl_cursors.specs.items.StageItems.{tops_of}
use Rattle.ftl_cursors.specs.items.WholeTrees.{is_whole_at}
use Rattle.ftl_cursors.specs.declared.items.by_host.TreeRows.{TreeRows}
use Rattle.ftl_cursors.specs.declared.items.columns.ItemRows.{ItemRows}

-- what is known of the rows of a number
pub numbered_are : (rows : TreeRows) (n : ℕ) (found : ItemRows) → AreOfTree rows.tree.now rows.grain rows.by_host.items
    → n < length rows.by_host.items → found ≡ get_or rows.by_host.items n found → AreNumbered rows n found
numbered_are rows n found all known is =
    let of : IsOfTree rows.tree.now rows.grain found =
    subst (IsOfTree rows.tree.now rows.grain) (sym is)
    (All-get_or (IsOfTree rows.tree.now rows.grain) rows.by_host.items n found known all) in
    record {
      tree = of.tree;
      grain_is = of.grain_is;
      host_is =
          ap (λ (r : ItemRows). r.host) is
          ∙ sym (get_or-map (λ (r : ItemRows). r.host) rows.by_host.items n found None known);
    }

module _ (rows : TreeRows) (passes : List Pass) (numbers : List ℕ) (m : ℕ) (found : ItemRows) where
  -- the rows of the number of a pass are cut as the pass
  pub cut_is : m < length numbers → AreNumbered rows (get_or numbers m 0) found
      → AreCutAs rows (cut_in rows passes numbers m) found
  cut_is known is =
      record {
        tree = is.tree;
        whole =
            ap (λ (h : Option ℕ). is_whole_at h found.tree.now.tree found.grain)
            (is.host_is ∙ sym (get_or-map (host_at rows) numbers m 0 None known))
            ∙ ap (λ (t : CheckedTree). is_whole_at (get_or (hosts_by rows numbers) m None) t.tree found.grain) is.tree
            ∙ ap (is_whole_at (get_or (hosts_by rows numbers) m None) rows.tree.now.tree) is.grain_is;
      }

-- the number of the rows of a pass
pub number_known : (rows : TreeRows) (count : ℕ) (numbers : List ℕ) → AreNumbers rows count numbers → (m : ℕ) → m < count
    → get_or numbers m 0 < length rows.by_host.items
number_known rows count numbers are m below =
    let long = are.count_is in
    All-get_or (λ n. n < length rows.by_host.items) numbers m 0 (omega (arith, long, below)) are.known

-- the nodes at which the items of a pass begin, by its rows
pub tops_are : (rows : TreeRows) (cut : PassCut) (found : ItemRows) → AreCutAs rows cut found → (kind : PassKind)
    → cut.kind ≡ kind_of kind → tops_of found kind ≡ tops_by cut.kind cut.is_whole rows.tree.now.tree
tops_are rows cut found is kind same =
    ap (λ (t : CheckedTree). tops_by (kind_of kind) (is_whole_in found) t.tree) is.tree
    ∙ ap (λ (w : Path → Bool). tops_by (kind_of kind) w rows.tree.now.tree) is.whole
    ∙ ap (λ (k : OrderKind). tops_by k cut.is_whole rows.tree.now.tree) (sym same)

-- ---- the number of the rows for a host class

pub one_host : (host : Option ℕ) → is_one_host host host ≡ true
one_host None = refl
one_host (Some a) = eq-eqb a a refl

pub same_host : (host other : Option ℕ) → is_one_host host other ≡ true → host ≡ other
same_host None None e = refl
same_host (Some a) (Some b) e = ap Some (eqb-true a b e)
same_host None (Some b) e = absurd (let z : ⊥ = grind arith in z)
same_host (Some a) None e = absurd (let z : ⊥ = grind arith in z)

-- a host class that is no entry isn't contained
pub none_there : (hosts : List (Option ℕ)) (host : Option ℕ)
    → ((k : ℕ) → k < length hosts → is_one_host (get_or hosts k None) host ≡ false) → Contains hosts host → ⊥
none_there hosts host none h =
    let below = h.1 in
    let is : get_or hosts h.0 None ≡ host = get_or_default hosts h.0 None host below ∙ h.2 in
    let no = sym (ap (λ (k : Option ℕ). is_one_host k host) is ∙ one_host host) ∙ none h.0 below in
    let z : ⊥ = grind arith in
    z
