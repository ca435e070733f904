use Rattle.std.proofs.Common.{◌≡◌, ℕ, suc, ◌-◌, ◌<◌, ◌∷◌, ◌++◌, [], List, length, drop, sym, ap, ◌∙◌, arith, set, reverse}
use Rattle.std.proofs.lemmas.List.{length-reverse, reverse-append, reverse-reverse}
use Rattle.std.proofs.lemmas.Grind.{reverse_onto}
use Rattle.std.proofs.Math.Seq.{set-append_seam}
use Rattle.ftl_document.specs.declared.pass.open_nodes.OpenNode.{OpenNode}
use Rattle.ftl_document.proofs.pass.open_nodes.OpenNodes.replace.Goals as goal

-- the last element is the first from behind
replaced : (l m : List OpenNode) (x : OpenNode) (n : ℕ) → reverse l ≡ m → n ≡ length l → 0 < n
    → reverse (set l (n - 1) x) ≡ x ∷ drop 1 m
replaced l [] x n is count some =
    let none : length l ≡ 0 = sym (length-reverse l) ∙ ap length is in absurd (omega (arith, count, some, none))
replaced l (y ∷ ys) x n is count some =
    let whole : l ≡ reverse ys ++ y ∷ [] = sym (reverse-reverse l) ∙ ap reverse is ∙ reverse_onto ys y [] in
    let long : length l ≡ suc (length ys) = sym (length-reverse l) ∙ ap length is in
    let last : n - 1 ≡ length (reverse ys) = (let back = length-reverse ys in omega (arith, count, long, back)) in
    ap (λ i. reverse (set l i x)) last
    ∙ ap (λ (k : List OpenNode). reverse (set k (length (reverse ys)) x)) whole
    ∙ ap reverse (set-append_seam (reverse ys) y [] x)
    ∙ reverse-append (reverse ys) (x ∷ [])
    ∙ ap (λ (k : List OpenNode). x ∷ k) (reverse-reverse ys)

pub returns : goal.returns
returns c =
    let count : c.len-last.result ≡ length c.self.inside.nodes.items = c.len-last.ensures ∙ c.self.inside.nodes.ok.0 in
    let all = length-reverse c.self.inside.nodes.items in
    let same : length (reverse c.self.inside.nodes.items) ≡ length c.args.self.now = ap length c.self.view_is in
    let some : 0 < c.len-last.result = omega (arith, count, all, same, c.requires.some) in
    record {
      replaced =
          replaced c.self.inside.nodes.items c.args.self.now c.args.node c.len-last.result c.self.view_is count some;
    }
