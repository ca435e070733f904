-- The steps of the items of a stage whose passes have forms: each step in one item, once, and each read readable.
use Rattle.std.proofs.Common.{◌≡◌, ◌≢◌, ◌⊎◌, ℕ, ◌<◌, ◌==◌, Bool, true, false, if◌then◌else◌, refl, sym, ◌∙◌, ap, ap₂, subst, inl, inr, ⊎_elim, eq-eqb, List, flat_map, reverse, Contains}
use Rattle.ftl_cells.specs.declared.shared.kind.CellKind.{CellKind}
use Rattle.ftl_cells.specs.declared.shared.kind.CellKind.TheVariants.{Given}
use Rattle.ftl_model.specs.lists.Lists.{AreDistinct, StandsBefore}
use Rattle.ftl_model.proofs.lists.Elements.{flat_map_has, in_flat_map}
use Rattle.ftl_model.specs.layout.AttributeGrammar.{AttributeGrammar}
use Rattle.ftl_model.specs.layout.Path.{Has, Path, down, number_of, top}
use Rattle.ftl_model.specs.layout.Solves.{Instance}
use Rattle.ftl_model.specs.layout.Tree.{Forest, IsTree}
use Rattle.ftl_order.specs.orders.Reads.{Reads}
use Rattle.ftl_order.specs.orders.Schedule.{PassKind, bottomup, inorder, topdown}
use Rattle.ftl_order.proofs.orders.Ranges.{above_range}
use Rattle.ftl_items.specs.stage_items.Cut.{begins_by, is_open, nodes_by, starts, tops_by}
use Rattle.ftl_items.specs.stage_items.FormLaws.{AreForms, IsOfPass, StandsDirectlyBefore, steps_at_node}
use Rattle.ftl_items.specs.stage_items.Items.{Item, PassForm, cuts_of, form_steps, hands_on, is_next_by, item, item_steps, items_by, kinds_of}
use Rattle.ftl_items.proofs.stage_items.Ahead.{Ahead, ahead-flat_map, ahead-reverse, ahead_inside, ahead_rising, ahead_stands, stands_ahead}
use Rattle.ftl_items.proofs.stage_items.CutItems.{first_for, held_there_by, in_tops_by, item_here, item_there, nodes_once, nodes_rise, tops_by_have}
use Rattle.ftl_items.proofs.stage_items.HandingLaws.{joined, parent_found, parent_is}
use Rattle.ftl_items.proofs.stage_items.Homes.{first_in, home, home_holds, only_home, open_begins, open_home}
use Rattle.ftl_items.proofs.stage_items.Pieces.{distinct_pieces_in}
use Rattle.ftl_items.proofs.stage_items.Reverses.{distinct-reverse, in_reverse, reverse_has}

open_cases : (b : Bool) → (b ≡ true) ⊎ (b ≡ false)
open_cases true = inl refl
open_cases false = inr refl

-- the steps at a node are those of its visit, but in an inorder pass
at_node_is : (kind : PassKind) → kind ≢ inorder → (form : PassForm) (p : Path) → steps_at_node kind form p ≡ form.visit p
at_node_is topdown some form p = refl
at_node_is bottomup some form p = refl
at_node_is inorder some form p = absurd (some refl)

module _ (g : AttributeGrammar) (t : Forest) (is : IsTree t) (count : ℕ) (forms : ℕ → PassForm)
    (kind_at : Instance → CellKind) (place : Instance → Path) (law : AreForms g t count forms kind_at place) where
  abbrev Of : ℕ → Instance → Type 0
  Of m i = IsOfPass t count forms place m i

  abbrev items_here : List Item
  items_here = items_by count (cuts_of forms) t

  visit_only : (m : ℕ) → m < count → (forms m).cut.kind ≢ inorder → (p : Path) → Has t p → (i : Instance)
      → Contains ((forms m).visit p) i → Of m i × (place i ≡ p)
  visit_only m known some p there i h =
      let at_p : Contains (steps_at_node (forms m).cut.kind (forms m) p) i =
      subst (λ xs. Contains xs i) (sym (at_node_is (forms m).cut.kind some (forms m) p)) h in
      let placed = law.placed m known p there i at_p in
      let same : place i ≡ p = placed.1 some in (
        record {
          known = known;
          there = placed.0;
          has = subst (λ q. Contains (steps_at_node (forms m).cut.kind (forms m) q) i) (sym same) at_p;
        },
        same,
      )

  visit_has : (m : ℕ) (i : Instance) → (forms m).cut.kind ≢ inorder → Of m i → Contains ((forms m).visit (place i)) i
  visit_has m i some of =
      subst (λ xs. Contains xs i) (at_node_is (forms m).cut.kind some (forms m) (place i)) of.has

  visit_once : (m : ℕ) → m < count → (forms m).cut.kind ≢ inorder → (p : Path) → Has t p
      → AreDistinct ((forms m).visit p)
  visit_once m known some p there =
      subst AreDistinct (at_node_is (forms m).cut.kind some (forms m) p) (law.once m known p there)

  sequence_only : (m : ℕ) → m < count → (forms m).cut.kind ≡ inorder → (i : Instance)
      → Contains (forms m).sequence i → Of m i
  sequence_only m known e i h =
      let at_place = λ (p : Path). subst (λ k. Contains (steps_at_node k (forms m) p) i) (sym e) h in
      let placed = law.placed m known top is i (at_place top) in
      record { known = known; there = placed.0; has = at_place (place i) }

  sequence_has : (m : ℕ) (i : Instance) → (forms m).cut.kind ≡ inorder → Of m i → Contains (forms m).sequence i
  sequence_has m i e of = subst (λ k. Contains (steps_at_node k (forms m) (place i)) i) e of.has

  sequence_once : (m : ℕ) → m < count → (forms m).cut.kind ≡ inorder → AreDistinct (forms m).sequence
  sequence_once m known e = subst (λ k. AreDistinct (steps_at_node k (forms m) top)) e (law.once m known top is)

  -- the stage has this item, and the item this step
  abbrev pub FormStep : Item → Instance → Type 0
  FormStep x i = Contains items_here x × Contains (item_steps forms t x) i

  -- a step of an item of a pass, whose first node is p
  pub record FormStepHere (kind : PassKind) (m : ℕ) (p : Path) (i : Instance) : Type 0 where
    pub of_pass : Of m i
    pub held : kind ≢ inorder → Contains (nodes_by (forms m).cut.is_whole t p) (place i)

  step_by : (m : ℕ) → m < count → (kind : PassKind) → (forms m).cut.kind ≡ kind → (p : Path) (i : Instance)
      → Contains (tops_by kind (forms m).cut.is_whole t) p
      → Contains (form_steps kind (forms m) t p) i → FormStepHere kind m p i
  step_by m known topdown e p i first h =
      let some : topdown ≢ inorder = λ e. let z : ⊥ = cc in z in
      let w = (forms m).cut.is_whole in
      let f = in_flat_map (forms m).visit (nodes_by w t p) i h in
      let v =
      visit_only m known (subst (λ k. k ≢ inorder) (sym e) some) f.0
      (held_there_by w t is topdown some p f.0 first f.1) i f.2 in
      record { of_pass = v.0; held = λ s. subst (Contains (nodes_by w t p)) (sym v.1) f.1 }
  step_by m known bottomup e p i first h =
      let some : bottomup ≢ inorder = λ e. let z : ⊥ = cc in z in
      let w = (forms m).cut.is_whole in
      let f = in_flat_map (forms m).visit (reverse (nodes_by w t p)) i h in
      let held = in_reverse (nodes_by w t p) f.0 f.1 in
      let v =
      visit_only m known (subst (λ k. k ≢ inorder) (sym e) some) f.0
      (held_there_by w t is bottomup some p f.0 first held) i f.2 in
      record { of_pass = v.0; held = λ s. subst (Contains (nodes_by w t p)) (sym v.1) held }
  step_by m known inorder e p i first h =
      record { of_pass = sequence_only m known e i h; held = λ some. absurd (some refl) }

  pub form_step_here : (x : Item) (i : Instance) → FormStep x i → FormStepHere (forms x.pass).cut.kind x.pass x.first i
  form_step_here x i h =
      let here = item_here count (cuts_of forms) t x h.0 in
      step_by x.pass here.known (forms x.pass).cut.kind refl x.first i here.there h.1

  by_has : (m : ℕ) (kind : PassKind) → (forms m).cut.kind ≡ kind → (p : Path) (i : Instance) → Of m i
      → (kind ≢ inorder → Contains (nodes_by (forms m).cut.is_whole t p) (place i))
      → Contains (form_steps kind (forms m) t p) i
  by_has m topdown e p i of held =
      let some : topdown ≢ inorder = λ e. let z : ⊥ = cc in z in
      flat_map_has (forms m).visit (nodes_by (forms m).cut.is_whole t p) (place i) i (held some)
      (visit_has m i (subst (λ k. k ≢ inorder) (sym e) some) of)
  by_has m bottomup e p i of held =
      let some : bottomup ≢ inorder = λ e. let z : ⊥ = cc in z in
      flat_map_has (forms m).visit (reverse (nodes_by (forms m).cut.is_whole t p)) (place i) i
      (reverse_has (nodes_by (forms m).cut.is_whole t p) (place i) (held some))
      (visit_has m i (subst (λ k. k ≢ inorder) (sym e) some) of)
  by_has m inorder e p i of held = sequence_has m i e of

  -- the item that has a step
  pub form_step_in_one : (m : ℕ) (i : Instance) → Of m i
      → (x : Item) × FormStep x i × ((y : Item) → FormStep y i → y ≡ x)
  form_step_in_one m i of =
      let w = (forms m).cut.is_whole in
      let kind = (forms m).cut.kind in
      let f = first_for w t is kind (place i) of.there in (
        item m f.first,
        (item_there count (cuts_of forms) t m f.first of.known f.there, by_has m kind refl f.first i of f.held),
        (λ y h.
            let here = form_step_here y i h in
            let same : m ≡ y.pass = law.one m y.pass i of here.of_pass in
            let y_here = item_here count (cuts_of forms) t y h.0 in
            ap₂ item (sym same)
            (f.only y.first (subst (λ n. Contains (starts (cuts_of forms) t n) y.first) (sym same) y_here.there)
            (subst
            (λ n. (forms n).cut.kind ≢ inorder → Contains (nodes_by (forms n).cut.is_whole t y.first) (place i))
            (sym same) here.held))),
      )

  visits_once : (m : ℕ) → m < count → (forms m).cut.kind ≢ inorder → (ps : List Path)
      → ((p : Path) → Contains ps p → Has t p) → AreDistinct ps → AreDistinct (flat_map (forms m).visit ps)
  visits_once m known some ps there d =
      distinct_pieces_in (forms m).visit ps (λ p h. visit_once m known some p (there p h))
      (λ p q i hp hq in_p in_q.
      sym (visit_only m known some p (there p hp) i in_p).1
      ∙ (visit_only m known some q (there q hq) i in_q).1)
      d

  once_by : (m : ℕ) → m < count → (kind : PassKind) → (forms m).cut.kind ≡ kind → (p : Path)
      → Contains (tops_by kind (forms m).cut.is_whole t) p → AreDistinct (form_steps kind (forms m) t p)
  once_by m known topdown e p first =
      let some : topdown ≢ inorder = λ e. let z : ⊥ = cc in z in
      let w = (forms m).cut.is_whole in
      visits_once m known (subst (λ k. k ≢ inorder) (sym e) some) (nodes_by w t p)
      (λ q h. held_there_by w t is topdown some p q first h)
      (nodes_once w t p (in_tops_by w t topdown some is p first).0)
  once_by m known bottomup e p first =
      let some : bottomup ≢ inorder = λ e. let z : ⊥ = cc in z in
      let w = (forms m).cut.is_whole in
      visits_once m known (subst (λ k. k ≢ inorder) (sym e) some) (reverse (nodes_by w t p))
      (λ q h. held_there_by w t is bottomup some p q first (in_reverse (nodes_by w t p) q h))
      (distinct-reverse (nodes_by w t p) (nodes_once w t p (in_tops_by w t bottomup some is p first).0))
  once_by m known inorder e p first = sequence_once m known e

  pub form_steps_once : (x : Item) → Contains items_here x → AreDistinct (item_steps forms t x)
  form_steps_once x h =
      let here = item_here count (cuts_of forms) t x h in
      once_by x.pass here.known (forms x.pass).cut.kind refl x.first here.there

  -- ---- reads

  -- a step of an item that hands on to this one
  abbrev pub HandedTo : Item → Instance → Type 0
  HandedTo x j = (y : Item) × FormStep y j × (is_next_by (kinds_of (cuts_of forms)) y x ≡ true)

  module _ (m : ℕ) (known : m < count) where
    abbrev w : Path → Bool
    w = (forms m).cut.is_whole

    abbrev visit_at : Path → List Instance
    visit_at = (forms m).visit

    -- a node and its kid are in one item, or the kid begins its own and so does the node
    pub record StepDown (p q : Path) : Type 0 where
      pub node : home w p ≡ p
      pub kid : home w q ≡ q
      pub begins_kid : begins_by w q ≡ true
      pub begins_node : begins_by w p ≡ true

    step_down : (c k : ℕ) (p : Path) → (home w (down c k p) ≡ home w p) ⊎ StepDown p (down c k p)
    step_down c k p =
        ⊎_elim
        (λ e. inr (record {
          node = open_home w p e;
          kid = ap (λ b. if b then down c k p else home w p) e;
          begins_kid = e;
          begins_node = open_begins w p e;
        }))
        (λ e. inl (ap (λ b. if b then down c k p else home w p) e)) (open_cases (is_open w p))

    -- both in the item of one first node, the node ahead of its kid
    nodes_ahead : (c k : ℕ) (p r : Path) → Has t (down c k p) → Has t p → Has t r → home w (down c k p) ≡ r
        → home w p ≡ r → Ahead (nodes_by w t r) p (down c k p)
    nodes_ahead c k p r there above first is_kid is_node =
        ahead_rising (number_of t) (nodes_by w t r) (nodes_rise w t r first) p (down c k p)
        (subst (λ x. Contains (nodes_by w t x) p) is_node (home_holds w t p above))
        (subst (λ x. Contains (nodes_by w t x) (down c k p)) is_kid (home_holds w t (down c k p) there))
        (above_range t p (down c k p) there (inl refl)).0

    module _ (p : Path) (i j : Instance) (of_i : Of m i) (of_j : Of m j) where
      abbrev Readable : PassKind → Type 0
      Readable kind =
          StandsBefore (form_steps kind (forms m) t p) j i ⊎ HandedTo (item m p) j

      -- j is of the item that begins at q
      handed_from : (kind : PassKind) → kind ≢ inorder → (forms m).cut.kind ≡ kind → (q : Path) → Has t q
          → begins_by w q ≡ true → Contains (nodes_by w t q) (place j) → hands_on kind q p ≡ true
          → HandedTo (item m p) j
      handed_from kind some e q there first held hands = (
        item m q,
        (
          item_there count (cuts_of forms) t m q known
              (subst (λ k. Contains (tops_by k w t) q) (sym e) (tops_by_have w t kind some q there first)),
          by_has m (forms m).cut.kind refl q j of_j (λ x. held),
        ),
        joined (m == m) (hands_on (forms m).cut.kind q p) (eq-eqb m m refl)
            (ap (λ k. hands_on k q p) e ∙ hands),
      )

      by_topdown : (forms m).cut.kind ≡ topdown → Contains (tops_by topdown w t) p
          → Contains (nodes_by w t p) (place i) → StandsDirectlyBefore topdown (forms m) place j i
          → Readable topdown
      by_topdown e first held near =
          let some : topdown ≢ inorder = λ x. let z : ⊥ = cc in z in
          let here_some = subst (λ k. k ≢ inorder) (sym e) some in
          let there = in_tops_by w t topdown some is p first in
          let steps = flat_map visit_at (nodes_by w t p) in
          let at_home : home w (place i) ≡ p = only_home w t p (place i) there.0 there.1 held in
          ⊎_elim
          (λ own. inl (ahead_stands steps j i
          (ahead_inside visit_at (nodes_by w t p) (place i) j i held (stands_ahead (visit_at (place i)) j i own.1))))
          (λ parent.
          let kid = parent_found (place j) (place i) parent in
          let kid_there : Has t (down kid.child kid.kid (place j)) = subst (Has t) kid.is of_i.there in
          let kid_home : home w (down kid.child kid.kid (place j)) ≡ p = subst (λ v. home w v ≡ p) kid.is at_home in
          ⊎_elim
          (λ same. inl (ahead_stands steps j i
          (ahead-flat_map visit_at (nodes_by w t p) (place j) (place i) j i
          (subst (Ahead (nodes_by w t p) (place j)) (sym kid.is)
          (nodes_ahead kid.child kid.kid (place j) p kid_there of_j.there there.0 kid_home
          (sym same ∙ kid_home))) (visit_has m j here_some of_j) (visit_has m i here_some of_i))))
          (λ (down_one : StepDown (place j) (down kid.child kid.kid (place j))).
          inr
          (handed_from topdown some e (place j) of_j.there down_one.begins_node (first_in w t (place j))
          (parent_is (place j) p kid.child kid.kid (sym kid_home ∙ down_one.kid))))
          (step_down kid.child kid.kid (place j))) near

      by_bottomup : (forms m).cut.kind ≡ bottomup → Contains (tops_by bottomup w t) p
          → Contains (nodes_by w t p) (place i) → StandsDirectlyBefore bottomup (forms m) place j i
          → Readable bottomup
      by_bottomup e first held near =
          let some : bottomup ≢ inorder = λ x. let z : ⊥ = cc in z in
          let here_some = subst (λ k. k ≢ inorder) (sym e) some in
          let there = in_tops_by w t bottomup some is p first in
          let nodes = reverse (nodes_by w t p) in
          let steps = flat_map visit_at nodes in
          let at_home : home w (place i) ≡ p = only_home w t p (place i) there.0 there.1 held in
          ⊎_elim
          (λ own. inl (ahead_stands steps j i
          (ahead_inside visit_at nodes (place i) j i (reverse_has (nodes_by w t p) (place i) held)
          (stands_ahead (visit_at (place i)) j i own.1))))
          (λ parent.
          let kid = parent_found (place i) (place j) parent in
          let kid_there : Has t (down kid.child kid.kid (place i)) = subst (Has t) kid.is of_j.there in
          ⊎_elim
          (λ same. inl (ahead_stands steps j i
          (ahead-flat_map visit_at nodes (place j) (place i) j i
          (ahead-reverse (nodes_by w t p) (place i) (place j)
          (subst (Ahead (nodes_by w t p) (place i)) (sym kid.is)
          (nodes_ahead kid.child kid.kid (place i) p kid_there of_i.there there.0 (same ∙ at_home) at_home)))
          (visit_has m j here_some of_j) (visit_has m i here_some of_i))))
          (λ (down_one : StepDown (place i) (down kid.child kid.kid (place i))).
          inr
          (handed_from bottomup some e (down kid.child kid.kid (place i)) kid_there down_one.begins_kid
          (subst (Contains (nodes_by w t (down kid.child kid.kid (place i)))) (sym kid.is)
          (first_in w t (down kid.child kid.kid (place i))))
          (parent_is p (down kid.child kid.kid (place i)) kid.child kid.kid
          (ap (down kid.child kid.kid) (sym down_one.node ∙ at_home)))))
          (step_down kid.child kid.kid (place i))) near

      by_kind : (kind : PassKind) → (forms m).cut.kind ≡ kind → Contains (tops_by kind w t) p
          → (kind ≢ inorder → Contains (nodes_by w t p) (place i)) → StandsDirectlyBefore kind (forms m) place j i
          → Readable kind
      by_kind topdown e first held near = by_topdown e first (held (λ x. let z : ⊥ = cc in z)) near
      by_kind bottomup e first held near = by_bottomup e first (held (λ x. let z : ⊥ = cc in z)) near
      by_kind inorder e first held near = inl near

  -- each read is given, of an earlier step of the item, or of an item that hands on to it
  pub form_readable : (x : Item) (i j : Instance) → FormStep x i → Reads g t i j
      → (kind_at j ≡ Given) ⊎ (StandsBefore (item_steps forms t x) j i ⊎ HandedTo x j)
  form_readable x i j h reads =
      let here = form_step_here x i h in
      let at = item_here count (cuts_of forms) t x h.0 in
      ⊎_elim (λ given. inl given)
      (λ near.
      inr
      (by_kind x.pass at.known x.first i j here.of_pass near.0 (forms x.pass).cut.kind refl at.there here.held
      near.1))
      (law.reads x.pass i j here.of_pass reads)
