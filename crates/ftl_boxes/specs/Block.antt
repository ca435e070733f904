-- The grammar `block`: blocks with margins, padding and borders, and words below each other.
use Rattle.std.specs.Prelude.{ℕ, List, [], ◌∷◌, codes}
use Rattle.ftl_boxes.specs.Lines.{text_of_lines}

-- blocks with margins, padding and borders, and words below each other
unfoldable pub block_text : List ℕ
block_text =
    text_of_lines
    (codes "root Page;"
    ∷ codes "interface Page { input vw; syn h; show vw, h; }"
    ∷ codes "interface Box { inh px, py, aw; syn x, y, w, h, mh; show x, y, w, h; }"
    ∷ codes "class Screen : Page { body : Box;"
    ∷ codes "  self.h := body.mh;"
    ∷ codes "  body.px := 0;"
    ∷ codes "  body.py := 0;"
    ∷ codes "  body.aw := self.vw;"
    ∷ codes "}"
    ∷ codes "class Block : Box { input margin, pad, border; local iw, inner; kids : [Box];"
    ∷ codes "  self.iw := max(0, self.w - 2 * self.pad - 2 * self.border);"
    ∷ codes "  self.inner := fold kids from 0 with acc + this.mh;"
    ∷ codes "  self.x := self.px + self.margin;"
    ∷ codes "  self.y := self.py + self.margin;"
    ∷ codes "  self.w := max(0, self.aw - 2 * self.margin);"
    ∷ codes "  self.h := self.inner + 2 * self.pad + 2 * self.border;"
    ∷ codes "  self.mh := self.h + 2 * self.margin;"
    ∷ codes "  kids.px := self.x + self.border + self.pad;"
    ∷ codes "  kids.py := first self.y + self.border + self.pad then prev.py + prev.mh;"
    ∷ codes "  kids.aw := self.iw;"
    ∷ codes "}"
    ∷ codes "class Word : Box { input iw, ih;"
    ∷ codes "  self.x := self.px;"
    ∷ codes "  self.y := self.py;"
    ∷ codes "  self.w := self.iw;"
    ∷ codes "  self.h := self.ih;"
    ∷ codes "  self.mh := self.ih;"
    ∷ codes "}"
    ∷ [])
