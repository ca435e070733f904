use Rattle.std.proofs.Common.{◌∙◌, sym, refl, subst, arith}
use Rattle.ftl_relayout.specs.queue.Nets.{IsKeyOf}
use Rattle.ftl_relayout.specs.queue.Trails.{cells_of}
use Rattle.ftl_relayout.proofs.queue.Running.{IsRunning, Now, at_last, running_first, running_same}
use Rattle.ftl_relayout.proofs.queue.run.run_all.Goals as goal

pub loop-key-init : goal.loop-key-init
loop-key-init g c =
    let n = g.R.Rules.net c.args.rules.now in
    let vs = c.args.values.now in
    let ks = c.args.waiting.now.keys in
    let sp = g.R.Rules.spent c.args.rules.now in (
      refl,
      subst (λ tr. IsRunning n vs ks sp vs ks tr sp 0) (sym c.requires.empty)
          (running_first n vs ks sp c.requires.count c.requires.keys),
      refl,
    )

pub run_one-requires-clause-key : goal.run_one-requires-clause-key
run_one-requires-clause-key g c =
    let key = c.in-Some.key in
    subst (λ m. IsKeyOf m key) (sym c.loop-key.invariant.0)
    (c.loop-key.invariant.1.known key c.in-Some.ensures.least.was)

pub loop-key-smaller : goal.loop-key-smaller
loop-key-smaller g c =
    let key = c.in-Some.key in
    let low = c.loop-key.invariant.1.low key c.in-Some.ensures.least.was in
    let k = c.loop-key.invariant.1.known key c.in-Some.ensures.least.was in
    let small = c.requires.lawful.small k.cell k.step in
    let e = k.key_is in
    omega (arith, low, small, e)

pub loop-key-preserved : goal.loop-key-preserved
loop-key-preserved g c =
    let n = g.R.Rules.net c.args.rules.now in
    let o = c.in_ok-run_one.ensures in (
      o.net ∙ c.loop-key.invariant.0,
      running_same (g.R.Rules.net c.loop-key.rules) n c.loop-key.invariant.0 c.requires.lawful c.args.values.now
          c.args.waiting.now.keys (g.R.Rules.spent c.args.rules.now) c.loop-key.values c.loop-key.waiting.keys
          c.pop_least.new.self.keys c.loop-key.trail.items (g.R.Rules.spent c.loop-key.rules) c.loop-key.least c.in-Some.key
          c.run_one.new.values c.run_one.new.waiting.keys c.run_one.new.trail.items (g.R.Rules.spent c.run_one.new.rules)
          c.in-Some.ensures.least c.loop-key.invariant.1 o.ran o.count o.grows o.spent o.undone o.within,
      o.code ∙ c.loop-key.invariant.2,
    )

pub returns-clause-done : goal.returns-clause-done
returns-clause-done g c = λ old final ready.
    let n = g.R.Rules.net c.args.rules.now in
    at_last n c.requires.lawful old final ready.old_holds ready.final_holds c.loop-key.values c.loop-key.trail.items
    (subst (λ ks. Now n c.requires.lawful old final (cells_of c.loop-key.trail.items) ks c.loop-key.values)
    c.in_default.ensures.none (c.loop-key.invariant.1.now c.requires.lawful old final ready))
