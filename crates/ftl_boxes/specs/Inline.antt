-- The grammar `inline`: paragraphs of words that break into lines.
use Rattle.std.specs.Prelude.{ℕ, List, [], ◌∷◌, codes}
use Rattle.ftl_boxes.specs.Lines.{text_of_lines}

-- paragraphs of words that break into lines
unfoldable pub inline_text : List ℕ
inline_text =
    text_of_lines
    (codes "root Page;"
    ∷ codes "interface Page { input vw; syn h; show vw, h; }"
    ∷ codes "interface Item { inh lw, gap, cx, ct, cb; syn x, y, w, h, ox, ot, ob;"
    ∷ codes "  show x, y, w, h; }"
    ∷ codes "class Para : Page { input space; kids : [Item];"
    ∷ codes "  self.h := last kids.ob or 0;"
    ∷ codes "  kids.lw := self.vw;"
    ∷ codes "  kids.gap := self.space;"
    ∷ codes "  kids.cx := first 0 then prev.ox;"
    ∷ codes "  kids.ct := first 0 then prev.ot;"
    ∷ codes "  kids.cb := first 0 then prev.ob;"
    ∷ codes "}"
    ∷ codes "class Span : Item { kids : [Item];"
    ∷ codes "  self.x := self.cx;"
    ∷ codes "  self.y := self.ct;"
    ∷ codes "  self.w := fold kids from 0 with acc + this.w;"
    ∷ codes "  self.h := self.ob - self.ct;"
    ∷ codes "  self.ox := last kids.ox or self.cx;"
    ∷ codes "  self.ot := last kids.ot or self.ct;"
    ∷ codes "  self.ob := last kids.ob or self.cb;"
    ∷ codes "  kids.lw := self.lw;"
    ∷ codes "  kids.gap := self.gap;"
    ∷ codes "  kids.cx := first self.cx then prev.ox;"
    ∷ codes "  kids.ct := first self.ct then prev.ot;"
    ∷ codes "  kids.cb := first self.cb then prev.ob;"
    ∷ codes "}"
    ∷ codes "class Word : Item { input iw, ih; local brk;"
    ∷ codes "  self.brk := if self.cx > 0 && self.cx + self.gap + self.iw > self.lw then 1 else 0;"
    ∷ codes "  self.x := if self.brk == 1 || self.cx == 0 then 0 else self.cx + self.gap;"
    ∷ codes "  self.y := if self.brk == 1 then self.cb else self.ct;"
    ∷ codes "  self.w := self.iw;"
    ∷ codes "  self.h := self.ih;"
    ∷ codes "  self.ox := self.x + self.iw;"
    ∷ codes "  self.ot := self.y;"
    ∷ codes "  self.ob := if self.brk == 1 then self.cb + self.ih else max(self.cb, self.ct + self.ih);"
    ∷ codes "}"
    ∷ [])
