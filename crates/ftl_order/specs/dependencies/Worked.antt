-- Reads of worked grammars, typed out by hand.
use Rattle.std.specs.Prelude.{ℕ, List, [], ◌∷◌, Option, Some, None}
use Rattle.ftl_order.specs.declared.dependencies.dep_read.DepRead.{DepRead}
use Rattle.ftl_order.specs.declared.dependencies.dep_read.Form.{Form}
use Rattle.ftl_order.specs.declared.dependencies.dep_read.Form.TheVariants as forms
use Rattle.ftl_order.specs.declared.dependencies.dep_read.Site.{Site}
use Rattle.ftl_order.specs.declared.dependencies.dep_read.Site.TheVariants as sites

-- a read of these parts
abbrev pub reading : ℕ → Site → Form → Option ℕ → DepRead
reading a site form child = record { attr = a; site = site; form = form; child = child }

-- `body.h` of a sheet, and of each kid in a column
abbrev pub body_h : DepRead
body_h = reading 4 sites.Below forms.Plain (Some 0)

-- the rules of the stack grammar: h, body.x, body.y of Sheet; w, h, kids.x, kids.y of Column; w, h of Word
abbrev pub stack_table : List (List DepRead)
stack_table =
    (body_h ∷ []) ∷ [] ∷ []
    ∷ (reading 3 sites.Below forms.Each (Some 0) ∷ [])
    ∷ (reading 4 sites.Below forms.Each (Some 0) ∷ [])
    ∷ (reading 1 sites.Above forms.Plain None ∷ [])
    ∷ (reading 2 sites.Above forms.Plain None ∷ reading 2 sites.SameVisit forms.Prev (Some 0)
    ∷ reading 4 sites.Below forms.Prev (Some 0) ∷ [])
    ∷ (reading 5 sites.Input forms.Plain None ∷ [])
    ∷ (reading 6 sites.Input forms.Plain None ∷ []) ∷ []

-- `head.size`, `last kids.w`, `self.base`, `prev.x`, `prev.w`, `this.gap` and `this.w` of a sheet; `self.shift` of
-- a text
abbrev pub head_size : DepRead
head_size = reading 5 sites.Below forms.Plain (Some 0)

-- the width of the last item
abbrev pub last_w : DepRead
last_w = reading 2 sites.Below forms.Last (Some 1)

-- a local
abbrev pub own_base : DepRead
own_base = reading 7 sites.SameVisit forms.Plain None

-- the place of the item before
abbrev pub prev_x : DepRead
prev_x = reading 1 sites.SameVisit forms.Prev (Some 1)

-- the width of the item before
abbrev pub prev_w : DepRead
prev_w = reading 2 sites.Below forms.Prev (Some 1)

-- the gap of an item
abbrev pub this_gap : DepRead
this_gap = reading 3 sites.Input forms.This (Some 1)

-- the width of each item
abbrev pub each_w : DepRead
each_w = reading 2 sites.Below forms.Each (Some 1)

-- the shift of a text
abbrev pub own_shift : DepRead
own_shift = reading 4 sites.Above forms.Plain None

-- the rules of the grammar of notes: base, head.shift, kids.x, total of Sheet; w of Item; size, foot of Text
abbrev pub notes_table : List (List DepRead)
notes_table =
    (head_size ∷ []) ∷ (last_w ∷ []) ∷ (own_base ∷ prev_x ∷ prev_w ∷ this_gap ∷ [])
    ∷ (each_w ∷ own_base ∷ []) ∷ (reading 8 sites.Input forms.Plain None ∷ [])
    ∷ (reading 9 sites.Input forms.Plain None ∷ [])
    ∷ (own_shift ∷ reading 5 sites.SameVisit forms.Plain None ∷ []) ∷ []
