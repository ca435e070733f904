use Rattle.std.proofs.Common.{◌∙◌, sym, ap₂, refl}
use Rattle.ftl_deps.specs.reads.Meant.{meant}
use Rattle.ftl_model.specs.layout.Path.{node_at, number_of}
use Rattle.ftl_relayout.specs.keys.Keys.{tie_of, time_of}
use Rattle.ftl_relayout.specs.keys.KeysHere.{placing}
use Rattle.ftl_relayout.proofs.keys.Here.{number_here, pack_same}
use Rattle.ftl_relayout.proofs.keys.instance_keys.key_of.Goals as goal

pub returns : goal.returns
returns c =
    let t = c.args.tree.now.tree in
    let g = meant c.args.tree.now.checked in
    let p = node_at t c.args.node in
    let a = c.args.attr in
    let x = c.args.at.now in
    record {
      key = λ s is.
          let at = placing s in
          pack_same x.stage c.time_of-time.result c.tie_of-tie.result x.index c.args.node a (at a).stage
          (time_of (at a).kind t (g.sort a) p) (tie_of (at a).kind t (g.sort a) p) (at a).index (number_of t p) a is.stage
          (c.time_of-time.ensures.time ∙ ap₂ (λ kind so. time_of kind t so p) is.pass is.kind)
          (c.tie_of-tie.ensures.tie ∙ ap₂ (λ kind so. tie_of kind t so p) is.pass is.kind) is.index
          (sym (number_here g t c.args.node c.node_count-nodes.ensures.is_tree c.requires.attribute.node_known)) refl;
    }
