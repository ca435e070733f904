-- Where exactly one table solves, exactly one list of values does.
use Rattle.std.proofs.Common.{◌≡◌, refl, sym, ◌∙◌, ap, arith, List, length, get_or, map, ext_get_or}
use Rattle.std.proofs.lemmas.List.{get_or-map, length-map}
use Rattle.ftl_model.specs.layout.AttributeGrammar.{AttributeGrammar}
use Rattle.ftl_model.specs.layout.Path.{top}
use Rattle.ftl_model.specs.layout.Solves.{Instance, IsInstance, Solves, instance_of}
use Rattle.ftl_model.specs.layout.Table.{SolvesList, instance_count, instance_number, instances, value_in}
use Rattle.ftl_model.specs.layout.Tree.{Forest}
use Rattle.ftl_model.specs.layout.TreeOf.{IsTreeOf}
use Rattle.ftl_model.specs.layout.Values.{Value, overflow}
use Rattle.ftl_order.specs.orders.Lawful.{IsLawful}
use Rattle.ftl_order.specs.orders.OneTable.{ExactlyOneList, ExactlyOneTable}
use Rattle.ftl_order.proofs.orders.Instances.{instance_at_number, length-instances, number_within, numbered}
use Rattle.ftl_order.proofs.orders.TreeEquations.{alone_by, inside_by}

module _ (g : AttributeGrammar) (law : IsLawful g) (t : Forest) (fits : IsTreeOf g t) where
  -- the values of a table, instance by instance
  abbrev pub listed : (Instance → Value) → List Value
  listed s = map s (instances g t)

  pub length-listed : (s : Instance → Value) → length (listed s) ≡ instance_count g t
  length-listed s = length-map (instances g t) s ∙ length-instances g t

  -- each instance has its value in the list
  pub value_in-listed : (s : Instance → Value) (i : Instance) → IsInstance g t i → value_in g t (listed s) i ≡ s i
  value_in-listed s i valid =
      get_or-map s (instances g t) (instance_number g t i) (instance_of top 0) overflow
      (let w = number_within g t i.node i.attribute valid.0 valid.1 in let e = length-instances g t in omega
      (arith, w, e))
      ∙ ap s (instance_at_number g t i.node i.attribute (instance_of top 0) valid.0 valid.1)

  -- two tables that agree at the instances solve alike
  pub solves_alike : (r s : Instance → Value) → ((i : Instance) → IsInstance g t i → r i ≡ s i) → Solves g t s
      → Solves g t r
  solves_alike r s same solves i valid =
      same i valid
      ∙ solves i valid
      ∙ alone_by g law t fits s r (g.sort i.attribute) i.node i.attribute refl valid.0 valid.1
      (λ j reads. sym
      (same j (inside_by g law t fits (g.sort i.attribute) i.node i.attribute refl valid.0 valid.1 j reads)))

  pub listed_solves : (s : Instance → Value) → Solves g t s → SolvesList g t (listed s)
  listed_solves s solves =
      record {
        count = length-listed s;
        solves = solves_alike (value_in g t (listed s)) s
            (value_in-listed s) solves;
      }

  pub lists_equal : (xs ys : List Value) → length xs ≡ instance_count g t → length ys ≡ instance_count g t
      → ((i : Instance) → IsInstance g t i → value_in g t xs i ≡ value_in g t ys i) → xs ≡ ys
  lists_equal xs ys cx cy same =
      ext_get_or overflow xs ys (cx ∙ sym cy)
      (λ n below.
      let at_n = numbered g t law fits n (omega (arith, below, cx)) in
      ap (λ m. get_or xs m overflow) (sym at_n.number)
      ∙ same at_n.instance at_n.valid
      ∙ ap (λ m. get_or ys m overflow) at_n.number)

  pub one_list_by : ExactlyOneTable g t → ExactlyOneList g t
  one_list_by one =
      record {
        some_solves = (listed one.some_solves.0, listed_solves one.some_solves.0 one.some_solves.1);
        any_two_equal = λ xs ys sx sy.
            lists_equal xs ys sx.count sy.count
            (one.any_two_agree (value_in g t xs) (value_in g t ys) sx.solves sy.solves);
      }
