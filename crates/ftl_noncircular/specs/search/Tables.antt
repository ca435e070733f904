-- Tables by number.
use Rattle.std.specs.Prelude.{◌≡◌, ℕ, ◌<◌, Bool, true, false, List, length, slice_index_or, flat_map}
use Rattle.std.specs.List.{range_with_len}
use Rattle.ftl_grammar.specs.declared.syntax.rules.AttrKind.{AttrKind}
use Rattle.ftl_grammar.specs.declared.syntax.rules.AttrKind.TheVariants as kinds
use Rattle.ftl_grammar.specs.declared.syntax.rules.Grammar.{Grammar}
use Rattle.ftl_meaning.specs.faults.Checked.{attribute_at}
use Rattle.ftl_model.specs.layout.AttributeGrammar.{AttributeGrammar, Sort, inherited, synthesized}
use Rattle.ftl_noncircular.specs.declared.search.shape.Kid.{Kid}
use Rattle.ftl_noncircular.specs.declared.search.shape.Owner.{Owner}

-- the table has so many entries, and what is asked holds of each
pub record IsTable {X : Type 0} (P : ℕ → X → Type 0) (none : X) (count : ℕ) (xs : List X) : Type 0 where
  pub size : length xs ≡ count
  pub each : (k : ℕ) → k < count → P k (slice_index_or xs k none)

-- the places of the attributes of interfaces: each counts those before it in its interface
abbrev pub shared_places : Grammar → List ℕ
shared_places g = flat_map (λ x. range_with_len 0 (length x.attrs)) g.interfaces

-- those of the attributes of classes count from 64 on
abbrev pub own_places : Grammar → List ℕ
own_places g = flat_map (λ x. range_with_len 64 (length x.attrs)) g.classes

-- who declares an attribute
abbrev pub IsOwnerOf : Grammar → (attribute : ℕ) → Owner → Type 0
IsOwnerOf g a o = (o.of_class ≡ (attribute_at g a).of_class) × (o.number ≡ (attribute_at g a).owner)

abbrev pub no_owner : Owner
no_owner = record { of_class = false; number = 0 }

-- a child of a class
abbrev pub IsKid : AttributeGrammar → (class child : ℕ) → Kid → Type 0
IsKid g k c x = (x.interface ≡ g.child_interface k c) × (x.many ≡ g.is_list k c)

abbrev pub no_kid : Kid
no_kid = record { interface = 0; many = false }

-- inherited or synthesized
abbrev pub port_sort : (from_above : Bool) → Sort
port_sort true = inherited
port_sort false = synthesized

-- whether an attribute of this kind is one
abbrev pub is_port : (from_above : Bool) → AttrKind → Bool
is_port true kinds.Inh = true
is_port true kinds.Syn = false
is_port true kinds.Input = false
is_port true kinds.Local = false
is_port false kinds.Inh = false
is_port false kinds.Syn = true
is_port false kinds.Input = false
is_port false kinds.Local = false
