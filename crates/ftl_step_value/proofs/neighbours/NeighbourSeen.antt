-- What reads of neighbours are of, as what is seen from the node.
use Rattle.std.proofs.Common.{◌≡◌, ℕ, zero, suc, ◌-◌, ◌<◌, ◌&&◌, Bool, true, false, List, [], ◌∷◌, ◌++◌, length, Option, Some, None, refl, sym, ap, subst, arith, eqb-true}
use Rattle.std.specs.List.{slice_get}
use Rattle.std.specs.Option.{IsSome, option_map, unwrap_or}
use Rattle.std.proofs.lemmas.Option.{none-some, same_Some}
use Rattle.ftl_model.specs.layout.AttributeGrammar.{Occurrence, Read, each_read, kid, kid_before, last_read, occurrences, own, prev_read, seen_by, self_read, single_read, this_read}
use Rattle.ftl_step_value.specs.neighbours.NeighbourParts.{is_child, neighbour_if, neighbour_list, neighbour_read, read_at}
use Rattle.ftl_step_value.specs.declared.neighbours.reads.NeighbourRead.{NeighbourRead}
use Rattle.ftl_step_value.specs.declared.neighbours.reads.NeighbourSite.{NeighbourSite}
use Rattle.ftl_step_value.specs.declared.neighbours.reads.NeighbourSite.TheVariants.{Before, Kid, Own}
use Rattle.ftl_step_value.proofs.neighbours.NeighbourLists.{first_and_rest}

-- an attribute at a site, as what is seen of this child while this kid is at hand
abbrev pub site_occurrence : (child at_hand : ℕ) → NeighbourSite → (attribute : ℕ) → Occurrence
site_occurrence c k Own a = own a
site_occurrence c k Kid a = kid c k a
site_occurrence c k Before a = kid c (k - 1) a

-- the sites that there are in a part
abbrev pub IsSite : (child : Option ℕ) → (is_later : Bool) → NeighbourSite → Type 0
IsSite child later Own = Unit {0}
IsSite child later Kid = IsSome child
IsSite child later Before = IsSome child × (later ≡ true)

-- a kid has one before it where it isn't the first
before_seen : (c a k : ℕ) → 0 < k → kid_before c a k ≡ kid c (k - 1) a ∷ []
before_seen c a zero some = absurd (let z : ⊥ = omega (arith, some) in z)
before_seen c a (suc k) some = ap (λ m. kid c m a ∷ []) (let z : k ≡ suc k - 1 = omega arith in z)

both : (a b : Bool) → (a && b) ≡ true → (a ≡ true) × (b ≡ true)
both true b is = (refl, is)
both false b is = absurd (let z : ⊥ = grind (arith, is) in z)

child_is : (child : Option ℕ) (c : ℕ) → is_child child c ≡ true → child ≡ Some c
child_is None c is = absurd (let z : ⊥ = grind (arith, is) in z)
child_is (Some d) c is = ap Some (eqb-true d c is)

-- what is seen is of this neighbour, by the places of attributes
pub record IsOf (places : List ℕ) (k : ℕ) (child : Option ℕ) (later : Bool) (o : Occurrence) (n : NeighbourRead)
    : Type 0 where
  pub attribute : ℕ
  pub sees : o ≡ site_occurrence (unwrap_or child 0) k n.site attribute
  pub place : slice_get places attribute ≡ Some n.place
  pub site : IsSite child later n.site

-- each of what is seen is of one of these neighbours, in order
abbrev pub AreOf : (places : List ℕ) → (k : ℕ) → (child : Option ℕ) → (later : Bool) → List Occurrence
    → List NeighbourRead → Type 0
AreOf places k child later [] [] = Unit {0}
AreOf places k child later (o ∷ os) (n ∷ ns) = IsOf places k child later o n × AreOf places k child later os ns
AreOf places k child later _ _ = ⊥

-- they are as many
pub as_many : (places : List ℕ) (k : ℕ) (child : Option ℕ) (later : Bool) (os : List Occurrence)
    (ns : List NeighbourRead) → AreOf places k child later os ns → length os ≡ length ns
as_many places k child later [] [] are = refl
as_many places k child later [] (n ∷ ns) are = absurd are
as_many places k child later (o ∷ os) [] are = absurd are
as_many places k child later (o ∷ os) (n ∷ ns) are = ap suc (as_many places k child later os ns are.1)

-- what a read of an attribute is, where it is one of a neighbour
record IsRead (places : List ℕ) (is_neighbour : Bool) (site : NeighbourSite) (a : ℕ) (n : NeighbourRead) : Type 0 where
  neighbour : is_neighbour ≡ true
  place : slice_get places a ≡ Some n.place
  site_is : site ≡ n.site

by_place : (places : List ℕ) (site : NeighbourSite) (a : ℕ) (n : NeighbourRead) (o : Option ℕ)
    → slice_get places a ≡ o → option_map (read_at site) o ≡ Some n → IsRead places true site a n
by_place places site a n None at is = absurd (none-some n is)
by_place places site a n (Some place) at is =
    subst (IsRead places true site a) (same_Some (read_at site place) n is)
    (record { neighbour = refl; place = at; site_is = refl })

if_neighbour : (places : List ℕ) (is_neighbour : Bool) (site : NeighbourSite) (a : ℕ) (n : NeighbourRead)
    → neighbour_if places is_neighbour site a ≡ Some n → IsRead places is_neighbour site a n
if_neighbour places false site a n is = absurd (none-some n is)
if_neighbour places true site a n is = by_place places site a n (slice_get places a) refl is

-- where a read is of a neighbour, it sees one thing, which is of it
record SeesOne (places : List ℕ) (kids : ℕ → ℕ) (k : ℕ) (child : Option ℕ) (later : Bool) (r : Read) (n : NeighbourRead)
    : Type 0 where
  one : Occurrence
  sees : occurrences kids k r ≡ one ∷ []
  of : IsOf places k child later one n

module _ (places : List ℕ) (kids : ℕ → ℕ) (k : ℕ) (later : Bool) (some : later ≡ true → 0 < k) where
  -- at a site of a child
  site_of : (child : Option ℕ) (c a : ℕ) (is_neighbour : Bool) (site : NeighbourSite) (r : Read) (n : NeighbourRead)
      → occurrences kids k r ≡ site_occurrence c k site a ∷ [] → child ≡ Some c → IsSite (Some c) later site
      → IsRead places is_neighbour site a n → SeesOne places kids k child later r n
  site_of child c a is_neighbour site r n sees is stands read =
      subst (λ (o : Option ℕ). SeesOne places kids k o later r n) (sym is)
      (record {
        one = site_occurrence c k site a;
        sees = sees;
        of = record {
          attribute = a;
          sees = ap (λ (s : NeighbourSite). site_occurrence c k s a) read.site_is;
          place = read.place;
          site = subst (IsSite (Some c) later) read.site_is stands;
        };
      })

  own_of : (child : Option ℕ) (a : ℕ) (n : NeighbourRead) → IsRead places true Own a n
      → SeesOne places kids k child later (self_read a) n
  own_of child a n read =
      record {
        one = own a;
        sees = refl;
        of = record {
          attribute = a;
          sees = ap (λ (s : NeighbourSite). site_occurrence (unwrap_or child 0) k s a) read.site_is;
          place = read.place;
          site = subst (IsSite child later) read.site_is tt;
        };
      }

  read_of : (child : Option ℕ) (r : Read) (n : NeighbourRead) → neighbour_read places child later r ≡ Some n
      → SeesOne places kids k child later r n
  read_of child (self_read a) n is = own_of child a n (if_neighbour places true Own a n is)
  read_of child (single_read c a) n is = absurd (none-some n is)
  read_of child (each_read c a) n is =
      let read = if_neighbour places (is_child child c) Kid a n is in
      site_of child c a (is_child child c) Kid (each_read c a) n refl (child_is child c read.neighbour) refl read
  read_of child (this_read c a) n is =
      let read = if_neighbour places (is_child child c) Kid a n is in
      site_of child c a (is_child child c) Kid (this_read c a) n refl (child_is child c read.neighbour) refl read
  read_of child (prev_read c a) n is =
      let read = if_neighbour places (later && is_child child c) Before a n is in
      let q = both later (is_child child c) read.neighbour in
      site_of child c a (later && is_child child c) Before (prev_read c a) n (before_seen c a k (some q.0))
      (child_is child c q.1) (refl, q.0) read
  read_of child (last_read c a) n is = absurd (none-some n is)

  pub reads_of : (child : Option ℕ) (reads : List Read) (ns : List NeighbourRead)
      → neighbour_list places child later reads ≡ Some ns → AreOf places k child later (seen_by kids k reads) ns
  reads_of child [] ns is = subst (AreOf places k child later []) (same_Some [] ns is) tt
  reads_of child (r ∷ reads) ns is =
      let p = first_and_rest (neighbour_read places child later r) (neighbour_list places child later reads) ns is in
      let one = read_of child r p.one p.first_is in
      let rest = reads_of child reads p.others p.rest_is in
      subst (AreOf places k child later (seen_by kids k (r ∷ reads))) p.all
      (subst (λ (os : List Occurrence). AreOf places k child later (os ++ seen_by kids k reads) (p.one ∷ p.others))
      (sym one.sees) (one.of, rest))
