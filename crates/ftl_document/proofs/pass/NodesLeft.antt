-- The turns of a pass: what was left of the open nodes, where what is left behind a turn is known.
use Rattle.std.proofs.Common.{◌≡◌, ℕ, suc, ◌+◌, ◌-◌, ◌<◌, ◌≤◌, false, true, refl, sym, ap, ◌∙◌, subst, arith, List, [], ◌∷◌, length, drop}
use Rattle.ftl_tokens.specs.declared.scanner.kind.Kind.TheVariants as kind
use Rattle.ftl_tokens.specs.scanner.Tokenized.{name, fixed}
use Rattle.ftl_grammar.specs.declared.syntax.rules.Child.{Child}
use Rattle.ftl_grammar.specs.declared.syntax.rules.Grammar.{Grammar}
use Rattle.ftl_meaning.specs.faults.Checked.{child_info}
use Rattle.ftl_meaning.specs.declared.faults.info.ChildInfo.{ChildInfo}
use Rattle.ftl_meaning.specs.faults.Numbering.{child_at, children_of, class_at, interface_number}
use Rattle.ftl_document.specs.faults.FirstFault.{input_names}
use Rattle.ftl_document.specs.syntax.Braces.{deepest}
use Rattle.ftl_document.specs.declared.pass.open_nodes.OpenNode.{OpenNode}
use Rattle.ftl_document.specs.declared.pass.passed.Standing.{Standing}
use Rattle.ftl_document.specs.pass.Good.{AreChildren, AreInputs, AreKids, IsDone, IsNode, State, before, entered}
use Rattle.ftl_document.specs.pass.Good.{kid_more, list_more, no_children, no_kids, node_is, single_more}
use Rattle.ftl_document.specs.pass.Left.{AreKidsLeft, AreKnown, IsLeft, IsNodeLeft, IsOneLeft, IsTurn}
use Rattle.ftl_document.specs.pass.Left.{at_child, at_kid, nothing_left, one_left}
use Rattle.ftl_document.specs.pass.Parts.{standing_at}
use Rattle.ftl_document.specs.pass.Steps.{IsClassBefore, IsGoodDocument}
use Rattle.ftl_document.proofs.pass.Fields.{children_from, no_more_children}

-- what is left of the innermost of some open nodes, and of the others
pub record OneLeft (g : Grammar) (greatest : ℕ) (o : OpenNode) (os : List OpenNode) (s t : State) : Type 0 where
  pub behind : State
  pub one : IsOneLeft g greatest (deepest - length (o ∷ os)) o o.within s behind
  pub others : IsLeft g greatest os behind t

module _ (g : Grammar) (greatest : ℕ) where
  pub innermost : (o : OpenNode) (os : List OpenNode) (s t : State) → IsLeft g greatest (o ∷ os) s t
      → OneLeft g greatest o os s t
  innermost o os s t (one_left one others) = record { behind = _; one = one; others = others }

  pub all_taken : (s t : State) → IsLeft g greatest [] s t → s ≡ t
  all_taken s t nothing_left = refl

  -- ---- between children

  -- those from one on
  children_at : (depth n k c : ℕ) (s t : State) → c < length (class_at g k).children
      → AreChildren g greatest depth n ((c, child_at g k c) ∷ drop (c + 1) (children_of g k)) s t
      → AreChildren g greatest depth n (drop c (children_of g k)) s t
  children_at depth n k c s t within h =
      subst (λ (cs : List (ℕ × Child)). AreChildren g greatest depth n cs s t) (sym (children_from g k c within)) h

  pub children_ended : (k n c : ℕ) (os : List OpenNode) (s t end : State) → length (class_at g k).children ≤ c
      → s ≡ before (fixed kind.RightBrace ∷ []) t → IsLeft g greatest os t end
      → IsLeft g greatest (at_child k n c ∷ os) s end
  children_ended k n c os s t end past closes left =
      let d = deepest - length (at_child k n c ∷ os) in
      one_left {o = at_child k n c}
      (subst (λ (q : State). AreChildren g greatest d n (drop c (children_of g k)) s q) closes
      (subst (λ (cs : List (ℕ × Child)). AreChildren g greatest d n cs s s) (sym (no_more_children g k c past)) no_children))
      left

  pub single_left : (k n c : ℕ) (os : List OpenNode) (info : ChildInfo) (s a end : State)
      → c < length (class_at g k).children → info ≡ child_info g (child_at g k c) → info.many ≡ false
      → s ≡ before (name (child_at g k c).name ∷ fixed kind.Equals ∷ []) a
      → IsNodeLeft g greatest (standing_at info.interface n c 0) (at_child k n (c + 1) ∷ os) a end
      → IsLeft g greatest (at_child k n c ∷ os) s end
  single_left k n c os info s a end within is many e h =
      let d = deepest - length (at_child k n c ∷ os) in
      let l = innermost (at_child k n (c + 1)) os h.behind end h.left in
      one_left {o = at_child k n c}
      (children_at d n k c s (before (fixed kind.RightBrace ∷ []) l.behind) within
      (single_more (sym (ap (λ (x : ChildInfo). x.many) is) ∙ many) e
      (subst (λ w. IsNode g greatest d w n c 0 a h.behind) (ap (λ (x : ChildInfo). x.interface) is) h.node) l.one))
      l.others

  pub list_left : (k n c : ℕ) (os : List OpenNode) (info : ChildInfo) (s a b end : State)
      → c < length (class_at g k).children → info ≡ child_info g (child_at g k c) → info.many ≡ true
      → s ≡ before (name (child_at g k c).name ∷ fixed kind.Equals ∷ []) a → a ≡ before (fixed kind.LeftBracket ∷ []) b
      → IsLeft g greatest (at_kid k n (c + 1) (standing_at info.interface n c 0) ∷ os) b end
      → IsLeft g greatest (at_child k n c ∷ os) s end
  list_left k n c os info s a b end within is many e opens left =
      let d = deepest - length (at_child k n c ∷ os) in
      let kid = standing_at info.interface n c 0 in
      let l = innermost (at_kid k n (c + 1) kid) os b end left in
      let h : AreKidsLeft g greatest d (at_kid k n (c + 1) kid) kid b l.behind = l.one in
      one_left {o = at_child k n c}
      (children_at d n k c s (before (fixed kind.RightBrace ∷ []) l.behind) within
      (list_more (sym (ap (λ (x : ChildInfo). x.many) is) ∙ many)
      (e ∙ ap (before (name (child_at g k c).name ∷ fixed kind.Equals ∷ [])) opens)
      (subst (λ w. AreKids g greatest d w n c 0 b (before (fixed kind.RightBracket ∷ []) h.behind))
      (ap (λ (x : ChildInfo). x.interface) is) h.kids) h.children))
      l.others

  -- ---- in a list

  pub list_ended : (k n c : ℕ) (kid : Standing) (os : List OpenNode) (s a b end : State) → a ≡ s
      → a ≡ before (fixed kind.RightBracket ∷ []) b → IsLeft g greatest (at_child k n c ∷ os) b end
      → IsLeft g greatest (at_kid k n c kid ∷ os) s end
  list_ended k n c kid os s a b end same closes left =
      let d = deepest - length (at_child k n c ∷ os) in
      let l = innermost (at_child k n c) os b end left in
      one_left {o = at_kid k n c kid}
      (record {
        behind = b;
        kids =
            subst (λ (q : State). AreKids g greatest d kid.wanted kid.parent kid.place.child kid.place.kid s q) closes
            (subst (λ (q : State). AreKids g greatest d kid.wanted kid.parent kid.place.child kid.place.kid q a) same no_kids);
        children = l.one;
      })
      l.others

  pub kid_left : (k n c : ℕ) (kid : Standing) (os : List OpenNode) (s a end : State) → a ≡ s
      → IsNodeLeft g greatest kid (at_kid k n c (standing_at kid.wanted kid.parent kid.place.child (kid.place.kid + 1)) ∷ os) a end
      → IsLeft g greatest (at_kid k n c kid ∷ os) s end
  kid_left k n c kid os s a end same h =
      let d = deepest - length (at_child k n c ∷ os) in
      let next = standing_at kid.wanted kid.parent kid.place.child (kid.place.kid + 1) in
      let l = innermost (at_kid k n c next) os h.behind end h.left in
      let more : AreKidsLeft g greatest d (at_kid k n c next) next h.behind l.behind = l.one in
      let closed = before (fixed kind.RightBracket ∷ []) more.behind in
      let one_more : kid.place.kid + 1 ≡ suc kid.place.kid = omega arith in
      one_left {o = at_kid k n c kid}
      (record {
        behind = more.behind;
        kids =
            subst (λ (q : State). AreKids g greatest d kid.wanted kid.parent kid.place.child kid.place.kid q closed) same
            (kid_more h.node
            (subst (λ i. AreKids g greatest d kid.wanted kid.parent kid.place.child i h.behind closed) one_more more.kids));
        children = more.children;
      })
      l.others

  -- ---- a node

  pub node_left : (next : Standing) (k n : ℕ) (os : List OpenNode) (s a b e u end : State) → length os < deepest
      → IsClassBefore g next.wanted k s a → a ≡ before (fixed kind.LeftBrace ∷ []) b → n ≡ length b.rows
      → e ≡ entered g k next.parent next.place.child next.place.kid b → AreInputs greatest (input_names g k) e u
      → IsLeft g greatest (at_child k n 0 ∷ os) u end → IsNodeLeft g greatest next os s end
  node_left next k n os s a b e u end room h opens number enters inputs left =
      let d = deepest - length (at_child k n 0 ∷ os) in
      let l = innermost (at_child k n 0) os u end left in
      let deeper : suc d ≡ deepest - length os = omega (arith, room) in
      let closed = before (fixed kind.RightBrace ∷ []) l.behind in
      let children : AreChildren g greatest d n (children_of g k) u closed = l.one in
      record {
        behind = l.behind;
        node =
            subst (λ m. IsNode g greatest m next.wanted next.parent next.place.child next.place.kid s l.behind) deeper
            (node_is h.known h.interface (h.taken ∙ ap (before (name (class_at g k).name ∷ [])) opens)
            (subst (λ (q : State). AreInputs greatest (input_names g k) q u) enters inputs)
            (subst (λ m. AreChildren g greatest d m (children_of g k) u closed) number children));
        left = l.others;
      }

  -- ---- the stack

  -- a turn that led to these led to the same ones under another name
  pub turn_to : (os ps qs : List OpenNode) (s t : State) → ps ≡ qs → IsTurn g greatest os s qs t
      → IsTurn g greatest os s ps t
  turn_to os ps qs s t same h = subst (λ (l : List OpenNode). IsTurn g greatest os s l t) (sym same) h

  -- a turn that began in an open node that is now said in full
  pub turn_from : (o p : OpenNode) (os ps : List OpenNode) (s t : State) → o ≡ p → IsTurn g greatest (o ∷ os) s ps t
      → IsTurn g greatest (p ∷ os) s ps t
  turn_from o p os ps s t same h = subst (λ (q : OpenNode). IsTurn g greatest (q ∷ os) s ps t) same h

-- the class of the innermost one is known, and those of the others are
pub known_at : (g : Grammar) (o : OpenNode) (l : List OpenNode) → l ≡ o ∷ drop 1 l → AreKnown g l
    → AreKnown g (o ∷ drop 1 l)
known_at g o l is known = subst (AreKnown g) is known

-- a node that stands where no other is open is a document, where nothing is left behind it
pub document_left : (g : Grammar) (greatest wanted : ℕ) (os : List OpenNode) (s t : State) → os ≡ []
    → wanted ≡ interface_number g g.root → IsNodeLeft g greatest (standing_at wanted 0 0 0) os s t → IsDone t
    → IsGoodDocument g greatest s t
document_left g greatest wanted os s t empty root h done =
    let whole = subst (λ (l : List OpenNode). IsNodeLeft g greatest (standing_at wanted 0 0 0) l s t) empty h in
    record {
      node =
          subst (λ (q : State). IsNode g greatest deepest (interface_number g g.root) 0 0 0 s q)
          (all_taken g greatest whole.behind t whole.left)
          (subst (λ w. IsNode g greatest deepest w 0 0 0 s whole.behind) root whole.node);
      done = done;
    }
