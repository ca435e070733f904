-- The read at a place of a rule's parts, by code's lists.
use Rattle.std.proofs.Common.{◌≡◌, ℕ, ◌-◌, ◌<◌, ◌≤◌, ap, ◌∙◌, arith, List, ◌++◌, length, map, get_or}
use Rattle.std.proofs.lemmas.List.{get_or-append_right, get_or-map, get_or_append_left, length-append, length-map}
use Rattle.ftl_model.specs.layout.AttributeGrammar.{Part, Read, plain_part, self_read}
use Rattle.ftl_deps.specs.declared.parts.part_read.PartRead.{PartRead}
use Rattle.ftl_deps.specs.declared.parts.part_read.PartRead.TheVariants.{Own}
use Rattle.ftl_deps.specs.parts.RuleParts.{read_meant}

abbrev pub tagged : Part → List PartRead → List (Part × Read)
tagged part reads = map (λ r. (part, r)) (map read_meant reads)

abbrev bottom : Part × Read
bottom = (plain_part, self_read 0)

pub length-tagged : (part : Part) (reads : List PartRead) → length (tagged part reads) ≡ length reads
length-tagged part reads = length-map (map read_meant reads) (λ (r : Read). (part, r)) ∙ length-map reads read_meant

pub tagged_at : (part : Part) (reads : List PartRead) (j : ℕ) → j < length reads
    → get_or (tagged part reads) j bottom ≡ (part, read_meant (get_or reads j (Own 0)))
tagged_at part reads j less =
    let long : length (map read_meant reads) ≡ length reads = length-map reads read_meant in
    get_or-map (λ (r : Read). (part, r)) (map read_meant reads) j (self_read 0) bottom (omega (arith, long, less))
    ∙ ap (λ r. (part, r)) (get_or-map read_meant reads j (Own 0) (self_read 0) less)

pub front_at : (a b : Part) (xs ys : List PartRead) (j : ℕ) → j < length xs
    → get_or (tagged a xs ++ tagged b ys) j bottom ≡ (a, read_meant (get_or xs j (Own 0)))
front_at a b xs ys j less =
    let long = length-tagged a xs in
    get_or_append_left (tagged a xs) (tagged b ys) bottom j (omega (arith, long, less)) ∙ tagged_at a xs j less

pub back_at : (a b : Part) (xs ys : List PartRead) (j : ℕ) → length xs ≤ j → j < length (tagged a xs ++ tagged b ys)
    → get_or (tagged a xs ++ tagged b ys) j bottom ≡ (b, read_meant (get_or ys (j - length xs) (Own 0)))
back_at a b xs ys j more less =
    let front = length-tagged a xs in
    let back = length-tagged b ys in
    let all = length-append (tagged a xs) (tagged b ys) in
    get_or-append_right (tagged a xs) (tagged b ys) (length xs) j bottom front more
    ∙ tagged_at b ys (j - length xs) (omega (arith, front, back, all, more, less))
