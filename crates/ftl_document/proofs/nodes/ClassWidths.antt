-- How many attributes a class has.
use Rattle.std.proofs.Common.{◌≡◌, ℕ, suc, ◌+◌, ◌<◌, ◌≤◌, refl, sym, subst, ap, ⊎_elim, arith, List, [], ◌∷◌, ◌++◌}
use Rattle.std.proofs.Common.{length, take, get_or, None, length-append}
use Rattle.std.proofs.lemmas.Bool.{cases_lt}
use Rattle.std.proofs.lemmas.List.{length-map, get_or_past}
use Rattle.std.proofs.Math.Seq.{get_or-append_seam}
use Rattle.std.proofs.Math.ListN.{get_or-append}
use Rattle.ftl_grammar.specs.syntax.Trees as trees
use Rattle.ftl_grammar.specs.declared.syntax.rules.AttrDecl.{AttrDecl}
use Rattle.ftl_grammar.specs.declared.syntax.rules.Grammar.{Grammar}
use Rattle.ftl_grammar.specs.declared.syntax.rules.Interface.{Interface}
use Rattle.ftl_meaning.specs.faults.FirstFault.{first_fault}
use Rattle.ftl_meaning.specs.faults.Numbering.{class_at, class_attributes, interface_at, interface_of, numbered}
use Rattle.ftl_meaning.specs.faults.Numbering.{own_attributes, own_count, shared_attributes, shared_count}
use Rattle.ftl_meaning.proofs.lawful.WithinLimits.{within_limits}
use Rattle.ftl_document.specs.nodes.Tables.{AreTables, IsTableOf}
use Rattle.ftl_document.specs.declared.nodes.class_tables.ClassTable.{ClassTable}

numbered_length : {X : Type 0} (n : ℕ) (xs : List X) → length (numbered n xs) ≡ length xs
numbered_length n [] = refl
numbered_length n (x ∷ xs) = ap suc (numbered_length (suc n) xs)

-- they are those of the interface and the class's own
pub width_is : (g : Grammar) (k : ℕ)
    → length (class_attributes g k) ≡ length (interface_at g (interface_of g k)).attrs + length (class_at g k).attrs
width_is g k =
    let both = length-append (shared_attributes g (interface_of g k)) (own_attributes g k) in
    let one = numbered_length (shared_count (take (interface_of g k) g.interfaces)) (interface_at g
    (interface_of g k)).attrs in
    let two = numbered_length (shared_count g.interfaces + own_count (take k g.classes)) (class_at g k).attrs in
    omega (arith, both, one, two)

few_shared : (g : Grammar) → first_fault g ≡ None → (i : ℕ) → length (interface_at g i).attrs ≤ 64
few_shared g none i =
    ⊎_elim
    (λ there.
    let few = (within_limits g none 0).shared i there in
    let same = length-map (shared_attributes g i) (λ (a : ℕ × AttrDecl). a.0) in
    let count = numbered_length (shared_count (take i g.interfaces)) (interface_at g i).attrs in
    omega (arith, few, same, count))
    (λ past.
    let nothing = ap (λ (x : Interface). length x.attrs)
    (get_or_past g.interfaces i (trees.interface [] [] []) past) in
    omega (arith, nothing))
    (cases_lt i (length g.interfaces))

few_own : (g : Grammar) → first_fault g ≡ None → (k : ℕ) → k < length g.classes → length (class_at g k).attrs ≤ 64
few_own g none k known =
    let own = (within_limits g none 0).private k known in
    let own_same = length-map (own_attributes g k) (λ (a : ℕ × AttrDecl). a.0) in
    let counted = numbered_length (shared_count g.interfaces + own_count (take k g.classes)) (class_at g k).attrs in
    omega (arith, own, own_same, counted)

-- a class has few attributes
pub few_attributes : (g : Grammar) → first_fault g ≡ None → (k : ℕ) → k < length g.classes
    → length (interface_at g (interface_of g k)).attrs + length (class_at g k).attrs ≤ 128
few_attributes g none k known =
    let one = few_shared g none (interface_of g k) in
    let two = few_own g none k known in
    omega (arith, one, two)

pub none_past : (g : Grammar) (i : ℕ) → length g.interfaces ≤ i → length (interface_at g i).attrs ≡ 0
none_past g i past =
    ap (λ (x : Interface). length x.attrs) (get_or_past g.interfaces i (trees.interface [] [] []) past)

-- one table more
pub tables_more : (g : Grammar) (ts : List ClassTable) (t : ClassTable) (n : ℕ) → length ts ≡ n → AreTables g ts
    → IsTableOf g n t → AreTables g (ts ++ t ∷ [])
tables_more g ts t n count tables is k other within =
    ⊎_elim
    (λ below. subst (IsTableOf g k) (sym (get_or-append ts (t ∷ []) other k below)) (tables k other below))
    (λ least.
    let long = length-append ts (t ∷ []) in
    let same : length ts ≡ k = omega (arith, long, least, within) in
    subst (λ m. IsTableOf g m (get_or (ts ++ t ∷ []) m other)) same
    (subst (IsTableOf g (length ts)) (sym (get_or-append_seam ts t [] other))
    (subst (λ m. IsTableOf g m t) (sym count) is)))
    (cases_lt k (length ts))
