-- Reads of parts, one by one: when each is of an occurrence.
use Rattle.std.proofs.Common.{◌≡◌, ℕ, zero, suc, ◌<◌, refl, sym, ap, ◌∙◌, subst, inl, inr, arith}
use Rattle.ftl_deps.specs.declared.parts.part_read.PartRead.{PartRead}
use Rattle.ftl_deps.specs.declared.parts.part_read.PartRead.TheVariants as reads
use Rattle.ftl_deps.specs.parts.RuleParts.{read_meant}
use Rattle.ftl_model.specs.layout.AttributeGrammar.{Occurrence, Parts, Read, each_read, first_then, fold_over, kid, last_read, own, plain, prev_read, self_read, single_read, this_read}
use Rattle.ftl_tree.specs.declared.rows.row.Place.{Place}
use Rattle.std.proofs.Common.{Option, Some, None}
use Rattle.ftl_relayout.specs.declared.readers.reader.When.{When}
use Rattle.ftl_relayout.specs.declared.readers.reader.When.TheVariants as when
use Rattle.ftl_relayout.specs.declared.readers.reader.Whose.{Whose}
use Rattle.ftl_relayout.specs.declared.readers.reader.Whose.TheVariants as whose
use Rattle.ftl_relayout.specs.laws.Readers.{IsHit, IsReadBy}
use Rattle.ftl_relayout.specs.readers.Readers.{IsHitWhen, IsReadWhen, attribute_read, seen_as, whose_at, whose_read}

-- a read of a part that is of the occurrence
pub record HitRead (parts : Parts) (kids : ℕ → ℕ) (n : ℕ) (o : Occurrence) : Type 0 where
  pub time : When
  pub read : Read
  pub reads : IsReadWhen parts time read
  pub hit : IsHitWhen kids n time read o

pub hit_read : (parts : Parts) (kids : ℕ → ℕ) (n : ℕ) (o : Occurrence) → IsReadBy parts kids n o → HitRead parts kids n o
hit_read (plain all) kids n o h = record { time = when.Always; read = h.0; reads = h.1; hit = h.2 }
hit_read (first_then first later) kids zero o h =
    record { time = when.First; read = h.0; reads = h.1; hit = (refl, h.2) }
hit_read (first_then first later) kids (suc n) o h =
    record { time = when.Later; read = h.0; reads = h.1; hit = (omega arith, h.2) }
hit_read (fold_over c start step) kids n o (inl h) = record { time = when.Always; read = h.0; reads = h.1; hit = h.2 }
hit_read (fold_over c start step) kids n o (inr h) =
    record { time = when.EachKid c; read = h.2.0; reads = (refl, h.2.1); hit = (h.0, h.1, h.2.2) }

-- and the other way round
pub read_by_hit : (parts : Parts) (kids : ℕ → ℕ) (n : ℕ) (o : Occurrence) (x : When) (r : Read) → IsReadWhen parts x r
    → IsHitWhen kids n x r o → IsReadBy parts kids n o
read_by_hit (plain all) kids n o when.Always r has hit = (r, has, hit)
read_by_hit (plain all) kids n o when.First r has hit = absurd has
read_by_hit (plain all) kids n o when.Later r has hit = absurd has
read_by_hit (plain all) kids n o (when.EachKid d) r has hit = absurd has
read_by_hit (first_then first later) kids n o when.Always r has hit = absurd has
read_by_hit (first_then first later) kids zero o when.First r has hit = (r, has, hit.1)
read_by_hit (first_then first later) kids (suc n) o when.First r has hit =
    absurd (let e = hit.0 in let z : ⊥ = omega (arith, e) in z)
read_by_hit (first_then first later) kids zero o when.Later r has hit =
    absurd (let e = hit.0 in let z : ⊥ = omega (arith, e) in z)
read_by_hit (first_then first later) kids (suc n) o when.Later r has hit = (r, has, hit.1)
read_by_hit (first_then first later) kids n o (when.EachKid d) r has hit = absurd has
read_by_hit (fold_over c start step) kids n o when.Always r has hit = inl (r, has, hit)
read_by_hit (fold_over c start step) kids n o when.First r has hit = absurd has
read_by_hit (fold_over c start step) kids n o when.Later r has hit = absurd has
read_by_hit (fold_over c start step) kids n o (when.EachKid d) r has hit =
    inr (hit.0, subst (λ x. hit.0 < kids x) (sym has.0) hit.1, (r, has.1, hit.2))

-- code has each read
pub read_back : (r : Read) → (q : PartRead) × (read_meant q ≡ r)
read_back (self_read a) = (reads.Own a, refl)
read_back (single_read c a) = (reads.Single c a, refl)
read_back (each_read c a) = (reads.Each c a, refl)
read_back (this_read c a) = (reads.This c a, refl)
read_back (prev_read c a) = (reads.Prev c a, refl)
read_back (last_read c a) = (reads.Last c a, refl)

-- ---- a read that is of an attribute names it

abbrev pub attribute_seen : Occurrence → ℕ
attribute_seen (own a) = a
attribute_seen (kid c k a) = a

attribute_hit : (kids : ℕ → ℕ) (n : ℕ) (q : PartRead) (o : Occurrence) → IsHit kids n (read_meant q) o
    → attribute_read q ≡ attribute_seen o
attribute_hit kids n (reads.Own a) o h = ap attribute_seen h
attribute_hit kids n (reads.Single c a) o h = ap attribute_seen h
attribute_hit kids n (reads.Each c a) o h = ap attribute_seen h
attribute_hit kids n (reads.This c a) o h = ap attribute_seen h
attribute_hit kids n (reads.Prev c a) o h = ap attribute_seen h.2
attribute_hit kids n (reads.Last c a) o h = ap attribute_seen h.2

attribute_hit_when : (kids : ℕ → ℕ) (n : ℕ) (x : When) (q : PartRead) (o : Occurrence)
    → IsHitWhen kids n x (read_meant q) o → attribute_read q ≡ attribute_seen o
attribute_hit_when kids n when.Always q o h = attribute_hit kids n q o h
attribute_hit_when kids n when.First q o h = attribute_hit kids n q o h.1
attribute_hit_when kids n when.Later q o h = attribute_hit kids n q o h.1
attribute_hit_when kids n (when.EachKid c) q o h = attribute_hit kids h.0 q o h.2

seen_attribute : (place : Option Place) (a : ℕ) → attribute_seen (seen_as place a) ≡ a
seen_attribute None a = refl
seen_attribute (Some p) a = refl

pub attribute_is : (kids : ℕ → ℕ) (n : ℕ) (x : When) (q : PartRead) (place : Option Place) (a : ℕ)
    → IsHitWhen kids n x (read_meant q) (seen_as place a) → attribute_read q ≡ a
attribute_is kids n x q place a h = attribute_hit_when kids n x q (seen_as place a) h ∙ seen_attribute place a

-- ---- and it is whose it is

abbrev pub whose_seen : Occurrence → Whose
whose_seen (own a) = whose.Own
whose_seen (kid c k a) = whose.Kid

whose_hit : (kids : ℕ → ℕ) (n : ℕ) (q : PartRead) (o : Occurrence) → IsHit kids n (read_meant q) o
    → whose_read q ≡ whose_seen o
whose_hit kids n (reads.Own a) o h = ap whose_seen h
whose_hit kids n (reads.Single c a) o h = ap whose_seen h
whose_hit kids n (reads.Each c a) o h = ap whose_seen h
whose_hit kids n (reads.This c a) o h = ap whose_seen h
whose_hit kids n (reads.Prev c a) o h = ap whose_seen h.2
whose_hit kids n (reads.Last c a) o h = ap whose_seen h.2

whose_hit_when : (kids : ℕ → ℕ) (n : ℕ) (x : When) (q : PartRead) (o : Occurrence)
    → IsHitWhen kids n x (read_meant q) o → whose_read q ≡ whose_seen o
whose_hit_when kids n when.Always q o h = whose_hit kids n q o h
whose_hit_when kids n when.First q o h = whose_hit kids n q o h.1
whose_hit_when kids n when.Later q o h = whose_hit kids n q o h.1
whose_hit_when kids n (when.EachKid c) q o h = whose_hit kids h.0 q o h.2

seen_whose : (place : Option Place) (a : ℕ) → whose_seen (seen_as place a) ≡ whose_at place
seen_whose None a = refl
seen_whose (Some p) a = refl

pub whose_is : (kids : ℕ → ℕ) (n : ℕ) (x : When) (q : PartRead) (place : Option Place) (a : ℕ)
    → IsHitWhen kids n x (read_meant q) (seen_as place a) → whose_read q ≡ whose_at place
whose_is kids n x q place a h = whose_hit_when kids n x q (seen_as place a) h ∙ seen_whose place a
