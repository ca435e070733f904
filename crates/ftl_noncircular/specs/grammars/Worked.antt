-- Small grammars, to hold the definition of noncircular against. They have one frame, and differ in what rules read:
--
--   root R;
--   interface R { }
--   interface K { inh x, y; syn z; }
--   interface D { inh i; syn s; }
--   class Top : R { kids : [K]; d : D; local a; self.a := ..; kids.x := ..; kids.y := ..; d.i := ..; }
--   class Kid : K { self.z := ..; }
--   class Box : D { kids : [K]; l : D; r : D; self.s := ..; kids.x := ..; kids.y := ..; l.i := ..; r.i := ..; }
--   class Leaf : D { self.s := ..; }
use Rattle.std.specs.Prelude.{ℕ, ◌==◌, if◌then◌else◌, ◌<◌, List, [], ◌∷◌, map, pos}
use Rattle.ftl_model.specs.layout.AttributeGrammar.{AttributeGrammar, Parts, Rule, RuleName, Sort, each_read, first_then}
use Rattle.ftl_model.specs.layout.AttributeGrammar.{fold_over, for_child, for_self, inherited, last_read, local, plain}
use Rattle.ftl_model.specs.layout.AttributeGrammar.{prev_read, read_occurrences, self_read, single_read, synthesized}
use Rattle.ftl_model.specs.layout.AttributeGrammar.{this_read}
use Rattle.ftl_model.specs.layout.Values.{Value, narrow, number}
use Rattle.ftl_order.specs.orders.Lawful.{IsLawful}
use Rattle.ftl_noncircular.specs.grammars.Noncircular.{IsCircular, IsVertex, Vertex}

-- interfaces R 0, K 1, D 2; classes Top 0, Kid 1, Box 2, Leaf 3; attributes x 0, y 1, z 2, i 3, s 4, a 5;
-- of Top and Box child 0 is kids, of Top child 1 is d, and of Box 1 is l and 2 is r

-- the first of these, or 1
abbrev pub first_value : List Value → Value
first_value [] = number (pos 1)
first_value (v ∷ vs) = v

-- a rule of these parts, that gives the first value that it reads, or 1 where it reads none
abbrev pub copying : Parts → Rule
copying parts = record { parts = parts; value = λ kids k s. first_value (map s (read_occurrences parts kids k)) }

-- the parts of each rule
pub record FrameParts : Type 0 where
  pub top_a : Parts
  pub top_x : Parts
  pub top_y : Parts
  pub top_i : Parts
  pub kid_z : Parts
  pub box_s : Parts
  pub box_x : Parts
  pub box_y : Parts
  pub left_i : Parts
  pub right_i : Parts
  pub leaf_s : Parts

-- the rules for the node itself, class by class
abbrev pub own_parts : FrameParts → (class : ℕ) → Parts
own_parts p class =
    if class == 0 then p.top_a
    else (if class == 1 then p.kid_z else (if class == 2 then p.box_s else p.leaf_s))

-- the rules for its kids
abbrev pub top_parts : FrameParts → (child attribute : ℕ) → Parts
top_parts p child a = if child == 0 then (if a == 0 then p.top_x else p.top_y) else p.top_i

-- the same
abbrev pub box_parts : FrameParts → (child attribute : ℕ) → Parts
box_parts p child a =
    if child == 0 then (if a == 0 then p.box_x else p.box_y) else (if child == 1 then p.left_i else p.right_i)

-- x, y and i are inherited, z and s synthesized, and a is a local
abbrev pub frame_sort : ℕ → Sort
frame_sort a =
    if a == 5 then local else (if a == 2 then synthesized else (if a == 4 then synthesized else inherited))

-- in the order of the text
abbrev pub frame_rules : List RuleName
frame_rules =
    for_self 0 5 ∷ for_child 0 0 0 ∷ for_child 0 0 1 ∷ for_child 0 1 3 ∷ for_self 1 2 ∷ for_self 2 4
    ∷ for_child 2 0 0 ∷ for_child 2 0 1 ∷ for_child 2 1 3 ∷ for_child 2 2 3 ∷ for_self 3 4 ∷ []

-- the grammar of the frame whose rules have these parts
abbrev pub framed : FrameParts → AttributeGrammar
framed p =
    record {
      greatest = narrow;
      root = 0;
      interface_count = 3;
      class_count = 4;
      attribute_count = 6;
      interface = λ class. if class == 0 then 0 else (if class == 1 then 1 else 2);
      child_count = λ class. if class == 0 then 2 else (if class == 2 then 3 else 0);
      child_interface = λ class child. if child == 0 then 1 else 2;
      is_list = λ class child. child == 0;
      shared = λ interface.
          if interface == 1 then 0 ∷ 1 ∷ 2 ∷ [] else (if interface == 2 then 3 ∷ 4 ∷ [] else []);
      private = λ class. if class == 0 then 5 ∷ [] else [];
      sort = frame_sort;
      rules = frame_rules;
      self_rule = λ class a. copying (own_parts p class);
      child_rule = λ class child a.
          copying (if class == 0 then top_parts p child a else box_parts p child a);
    }

-- each rule is 1
abbrev pub ones : FrameParts
ones =
    record {
      top_a = plain [];
      top_x = plain [];
      top_y = plain [];
      top_i = plain [];
      kid_z = plain [];
      box_s = plain [];
      box_x = plain [];
      box_y = plain [];
      left_i = plain [];
      right_i = plain [];
      leaf_s = plain [];
    }

-- ---- noncircular ones

-- Box: self.s := l.s; l.i := r.s; r.i := self.i; Leaf: self.s := self.i. Of the kids of one node the later one comes
-- first, while an i comes from above and an s from below.
abbrev pub twisted : FrameParts
twisted =
    record ones {
      box_s = plain (single_read 1 4 ∷ []);
      left_i = plain (single_read 2 4 ∷ []);
      right_i = plain (self_read 3 ∷ []);
      leaf_s = plain (self_read 3 ∷ []);
    }

-- Top: kids.x := first 1 then prev.y; kids.y := first 1 then prev.x. Each reads the other of the kid before.
abbrev pub by_prev : FrameParts
by_prev = record ones { top_x = first_then [] (prev_read 0 1 ∷ []); top_y = first_then [] (prev_read 0 0 ∷ []) }

-- Top: d.i := d.s. In no class does s depend on i.
abbrev pub back : FrameParts
back = record ones { top_i = plain (single_read 1 4 ∷ []) }

-- ---- circular ones

-- a lawful grammar where this vertex of this class is circular
pub record IsCircularAt (g : AttributeGrammar) (class : ℕ) (v : Vertex) : Type 0 where
  pub lawful : IsLawful g
  pub known : class < g.class_count
  pub vertex : IsVertex g class v
  pub circular : IsCircular g class v

-- Top: self.a := self.a
abbrev pub by_itself : FrameParts
by_itself = record ones { top_a = plain (self_read 5 ∷ []) }

-- Top: kids.x := this.y; kids.y := this.x. Each reads the other of the same kid.
abbrev pub by_this : FrameParts
by_this = record ones { top_x = plain (this_read 0 1 ∷ []); top_y = plain (this_read 0 0 ∷ []) }

-- Top: self.a is a fold over kids that reads this.x; kids.x := self.a
abbrev pub by_fold : FrameParts
by_fold = record ones { top_a = fold_over 0 [] (each_read 0 0 ∷ []); top_x = plain (self_read 5 ∷ []) }

-- Top: d.i := d.s; Leaf: self.s := self.i
abbrev pub by_kid : FrameParts
by_kid = record ones { top_i = plain (single_read 1 4 ∷ []); leaf_s = plain (self_read 3 ∷ []) }

-- Top: kids.x := this.z; Kid: self.z := self.x
abbrev pub by_listed_kid : FrameParts
by_listed_kid = record ones { top_x = plain (this_read 0 2 ∷ []); kid_z = plain (self_read 0 ∷ []) }

-- Top: self.a := last.x; kids.x := first 1 then prev.y; kids.y := self.a
abbrev pub by_prev_and_self : FrameParts
by_prev_and_self =
    record ones {
      top_a = plain (last_read 0 0 ∷ []);
      top_x = first_then [] (prev_read 0 1 ∷ []);
      top_y = plain (self_read 5 ∷ []);
    }

-- Top: d.i := last.x; kids.x := first 1 then prev.y; kids.y := d.i
abbrev pub by_prev_and_single : FrameParts
by_prev_and_single =
    record ones {
      top_i = plain (last_read 0 0 ∷ []);
      top_x = first_then [] (prev_read 0 1 ∷ []);
      top_y = plain (single_read 1 3 ∷ []);
    }

-- Top: d.i := d.s; Box: self.s := last.x; kids.x := first 1 then prev.y; kids.y := self.i
abbrev pub by_prev_in_kid : FrameParts
by_prev_in_kid =
    record ones {
      top_i = plain (single_read 1 4 ∷ []);
      box_s = plain (last_read 0 0 ∷ []);
      box_x = first_then [] (prev_read 0 1 ∷ []);
      box_y = plain (self_read 3 ∷ []);
    }

-- Top: kids.x := this.y; kids.y := this.x; d.i := d.i; Box: l.i := l.i
abbrev pub by_several : FrameParts
by_several = record by_this { top_i = plain (single_read 1 3 ∷ []); left_i = plain (single_read 1 3 ∷ []) }

-- and Top: self.a := self.a
abbrev pub by_several_and_self : FrameParts
by_several_and_self = record by_several { top_a = plain (self_read 5 ∷ []) }
