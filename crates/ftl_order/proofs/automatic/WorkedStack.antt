-- The automatic schedule of the stack grammar.
use Rattle.std.proofs.Common.{◌≡◌, ◌≢◌, ℕ, false, refl, sym, ◌∙◌, lit<, arith, List, [], ◌∷◌, Contains}
use Rattle.ftl_model.proofs.lists.Elements.{nothing_in}
use Rattle.ftl_model.specs.layout.AttributeGrammar.{for_child, for_self, input}
use Rattle.ftl_model.specs.layout.Stack.{box_h, box_w, box_x, box_y, column, only_child, page_h, sheet, stack}
use Rattle.ftl_model.specs.lists.Lists.{is_listed}
use Rattle.ftl_model.proofs.lists.Listed.{listed}
use Rattle.std.proofs.lemmas.Bool.{true≢false}
use Rattle.ftl_order.specs.orders.Ordered.{Row, visit_place}
use Rattle.ftl_order.specs.orders.Pairs.{Pair}
use Rattle.ftl_order.specs.orders.Schedule.{PassKind, bottomup, entries, inorder, topdown}
use Rattle.ftl_order.proofs.orders.Bounded.{each_below}
use Rattle.ftl_order.specs.worked.WorkedSchedules.{column_reads_height, column_reads_width, kids_read_prev_h, kids_read_x}
use Rattle.ftl_order.specs.worked.WorkedSchedules.{kids_read_y, sheet_reads_height, sizes_then_places, stack_pairs}
use Rattle.ftl_order.proofs.worked.StackLawful.{stack_lawful}
use Rattle.ftl_order.proofs.worked.StackPairs.{listed_pairs}
use Rattle.ftl_order.specs.automatic.Automatic.{IsAutomatic, IsNext, pass_of_kind}
use Rattle.ftl_order.specs.automatic.Fitting.{Fits, HasAll, IsComputed, IsListOf, defined_by_reader, placing_after, written}
use Rattle.ftl_order.proofs.automatic.ByHand.{fits_nothing, list_by, needed, nothing_left}
use Rattle.ftl_order.proofs.automatic.FitTests.{ascends, fits_by_test}
use Rattle.ftl_order.proofs.automatic.Largest.{list_exists}

abbrev sizes : List ℕ
sizes = page_h ∷ (box_w ∷ (box_h ∷ []))

abbrev places : List ℕ
places = box_x ∷ (box_y ∷ [])

-- by the attribute: each computed one
each_computed : (P : ℕ → Type 0) → P page_h → P box_x → P box_y → P box_w → P box_h → (a : ℕ) → IsComputed stack a → P a
each_computed P h x y w v a c =
    each_below (λ b. stack.sort b ≢ input → P b) 7 (
      (λ n. absurd (n refl)),
      (
        (λ n. absurd (n refl)),
        ((λ n. v), ((λ n. w), ((λ n. y), ((λ n. x), ((λ n. h), tt))))),
      ),
    ) a c.0 c.1

-- ---- at first

x_fits : Fits stack topdown [] (box_x ∷ [])
x_fits = fits_by_test stack stack_lawful topdown [] (box_x ∷ []) refl refl

sizes_fit : Fits stack bottomup [] sizes
sizes_fit = fits_by_test stack stack_lawful bottomup [] sizes refl refl

-- what is read of a kid is written later in a topdown pass, and what is read of the parent in a bottomup one
module _ (kind : PassKind) (done other : List ℕ) (f : Fits stack kind done other) where
  abbrev Never : Pair → Type 0
  Never pair =
      (Contains done (written stack pair) → ⊥)
      → (Row pair.runs_at kind (placing_after done kind other) pair.read (visit_place stack pair.writer)
      (visit_place stack pair.reader) → ⊥)
      → Contains other (defined_by_reader stack pair) → ⊥

  never : (pair : Pair) → Contains stack_pairs pair → Never pair
  never pair is out no_row there =
      no_row (needed stack kind done other f pair (listed_pairs pair is) out there).row

no_size : (n : ℕ) → Contains [] n → ⊥
no_size n h = nothing_in n h

x_alone : (other : List ℕ) → Fits stack topdown [] other → HasAll (box_x ∷ []) other
x_alone other f a h =
    each_computed (λ b. Contains other b → Contains (box_x ∷ []) b)
    (λ there. absurd
    (never topdown [] other f (sheet_reads_height (for_self column box_h)) (0, lit< tt, refl) (no_size box_h) (λ r. r)
    there))
    (λ there. (0, lit< tt, refl))
    (λ there. absurd
    (never topdown [] other f (kids_read_prev_h (for_self column box_h)) (11, lit< tt, refl) (no_size box_h) (λ r. r)
    there))
    (λ there. absurd
    (never topdown [] other f (column_reads_width (for_self column box_w)) (2, lit< tt, refl) (no_size box_w) (λ r. r)
    there))
    (λ there. absurd
    (never topdown [] other f (column_reads_height (for_self column box_h)) (4, lit< tt, refl) (no_size box_h) (λ r. r)
    there))
    a (f.computed a h) h

sizes_alone : (other : List ℕ) → Fits stack bottomup [] other → HasAll sizes other
sizes_alone other f a h =
    each_computed (λ b. Contains other b → Contains sizes b)
    (λ there. (0, lit< tt, refl))
    (λ there. absurd
    (never bottomup [] other f (kids_read_x (for_child sheet only_child box_x)) (6, lit< tt, refl) (no_size box_x)
    (λ r. r) there))
    (λ there. absurd
    (never bottomup [] other f (kids_read_y (for_child sheet only_child box_y)) (8, lit< tt, refl) (no_size box_y)
    (λ r. r) there))
    (λ there. (1, lit< tt, refl))
    (λ there. (2, lit< tt, refl))
    a (f.computed a h) h

first_next : IsNext stack [] (pass_of_kind bottomup sizes)
first_next =
    let i = list_exists stack stack_lawful inorder [] in
    record {
      down = box_x ∷ [];
      up = sizes;
      in_order = i.0;
      is_down = list_by stack topdown [] (box_x ∷ []) x_fits (ascends (box_x ∷ []) refl) x_alone;
      is_up = list_by stack bottomup [] sizes sizes_fit (ascends sizes refl) sizes_alone;
      is_in_order = i.1;
      is = refl;
    }

-- ---- after the sizes

places_fit : Fits stack topdown sizes places
places_fit = fits_by_test stack stack_lawful topdown sizes places refl refl

places_alone : (other : List ℕ) → Fits stack topdown sizes other → HasAll places other
places_alone other f a h =
    each_computed (λ b. Contains other b → Contains places b)
    (λ there. absurd (f.not_done page_h there (0, lit< tt, refl)))
    (λ there. (0, lit< tt, refl))
    (λ there. (1, lit< tt, refl))
    (λ there. absurd (f.not_done box_w there (1, lit< tt, refl)))
    (λ there. absurd (f.not_done box_h there (2, lit< tt, refl)))
    a (f.computed a h) h

differs : (a : ℕ) → is_listed sizes a ≡ false → Contains sizes a → ⊥
differs a e h = true≢false (sym (listed sizes a h) ∙ e)

none_alone : (other : List ℕ) → Fits stack bottomup sizes other → HasAll [] other
none_alone other f a h =
    each_computed (λ b. Contains other b → Contains [] b)
    (λ there. absurd (f.not_done page_h there (0, lit< tt, refl)))
    (λ there. absurd
    (never bottomup sizes other f (kids_read_x (for_child sheet only_child box_x)) (6, lit< tt, refl)
    (differs box_x refl) (λ r. r) there))
    (λ there. absurd
    (never bottomup sizes other f (kids_read_y (for_child sheet only_child box_y)) (8, lit< tt, refl)
    (differs box_y refl) (λ r. r) there))
    (λ there. absurd (f.not_done box_w there (1, lit< tt, refl)))
    (λ there. absurd (f.not_done box_h there (2, lit< tt, refl)))
    a (f.computed a h) h

second_next : IsNext stack sizes (pass_of_kind topdown places)
second_next =
    let i = list_exists stack stack_lawful inorder sizes in
    record {
      down = places;
      up = [];
      in_order = i.0;
      is_down = list_by stack topdown sizes places places_fit (ascends places refl) places_alone;
      is_up = list_by stack bottomup sizes [] (fits_nothing stack bottomup sizes) tt none_alone;
      is_in_order = i.1;
      is = refl;
    }

-- ---- after all

abbrev all_done : List ℕ
all_done = page_h ∷ (box_w ∷ (box_h ∷ (box_x ∷ (box_y ∷ []))))

nothing_more : (kind : PassKind) → IsListOf stack kind all_done []
nothing_more kind =
    nothing_left stack kind all_done
    (each_computed (Contains all_done) (0, lit< tt, refl) (3, lit< tt, refl) (4, lit< tt, refl) (1, lit< tt, refl)
    (2, lit< tt, refl))

last_next : IsNext stack all_done (pass_of_kind inorder [])
last_next =
    record {
      down = [];
      up = [];
      in_order = [];
      is_down = nothing_more topdown;
      is_up = nothing_more bottomup;
      is_in_order = nothing_more inorder;
      is = refl;
    }

pub some_entry : (a : ℕ) (xs : List ℕ) → a ∷ xs ≢ []
some_entry a xs e = let z : ⊥ = grind (arith, e) in z

pub stack_automatic : IsAutomatic stack sizes_then_places
stack_automatic =
    record {
      chain = (
        pass_of_kind bottomup sizes,
        refl,
        first_next,
        some_entry page_h (box_w ∷ (box_h ∷ [])),
        (
          pass_of_kind topdown places,
          refl,
          second_next,
          some_entry box_x (box_y ∷ []),
          (pass_of_kind inorder [], last_next, refl),
        ),
      );
      whole = each_computed (Contains (entries sizes_then_places)) (0, lit< tt, refl) (3, lit< tt, refl)
          (4, lit< tt, refl) (1, lit< tt, refl) (2, lit< tt, refl);
    }
