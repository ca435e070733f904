-- The reads of the parts of a rule, part by part.
use Rattle.std.proofs.Common.{◌≡◌, ◌⊎◌, refl, inl, inr, List, Contains}
use Rattle.ftl_model.proofs.lists.Elements.{nothing_in}
use Rattle.ftl_model.specs.layout.AttributeGrammar.{Part, Read, first_part, first_then, fold_over, from_part, plain, plain_part, reads_in, then_part, with_part}

pub plain_reads : (reads : List Read) (part : Part) (r : Read) → Contains (reads_in (plain reads) part) r
    → (part ≡ plain_part) × Contains reads r
plain_reads reads plain_part r h = (refl, h)
plain_reads reads first_part r h = absurd (nothing_in r h)
plain_reads reads then_part r h = absurd (nothing_in r h)
plain_reads reads from_part r h = absurd (nothing_in r h)
plain_reads reads with_part r h = absurd (nothing_in r h)

pub first_then_reads : (first later : List Read) (part : Part) (r : Read)
    → Contains (reads_in (first_then first later) part) r
    → ((part ≡ first_part) × Contains first r) ⊎ ((part ≡ then_part) × Contains later r)
first_then_reads first later plain_part r h = absurd (nothing_in r h)
first_then_reads first later first_part r h = inl (refl, h)
first_then_reads first later then_part r h = inr (refl, h)
first_then_reads first later from_part r h = absurd (nothing_in r h)
first_then_reads first later with_part r h = absurd (nothing_in r h)

pub fold_reads : (child : _) (start step : List Read) (part : Part) (r : Read)
    → Contains (reads_in (fold_over child start step) part) r
    → ((part ≡ from_part) × Contains start r) ⊎ ((part ≡ with_part) × Contains step r)
fold_reads child start step plain_part r h = absurd (nothing_in r h)
fold_reads child start step first_part r h = absurd (nothing_in r h)
fold_reads child start step then_part r h = absurd (nothing_in r h)
fold_reads child start step from_part r h = inl (refl, h)
fold_reads child start step with_part r h = inr (refl, h)
