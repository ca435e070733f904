use Rattle.std.proofs.Common.{◌≡◌, List, [], ◌∷◌, ◌++◌, ℤ, ap, rules}
use Rattle.ftl_tokens.specs.reading.Reader.{Tokens}
use Rattle.ftl_document.specs.plain.Plain.{plain_tokens}
use Rattle.ftl_document.proofs.pass.Steps.{state}
use Rattle.ftl_document.proofs.pass.nodes.Pass.input.Goals as goal

pub returns-in_ok-push-in-Some : goal.returns-in_ok-push-in-Some
returns-in_ok-push-in-Some c =
    let h = c.in-Some.ensures.input in
    let p = c.args.passed.now in
    let greatest = c.args.self.now.greatest in
    let value = c.in-Some.field-0.value in
    let left : Tokens = plain_tokens greatest c.in-Some.field-0.rest.now in
    let pushed : c.push.new.self.items ≡ p.inputs.items ++ (value ∷ []) = search rules in
    record {
      input = record {
        front = h.front;
        n = value;
        behind = state left p.rows.items p.inputs.items p.count;
        spells = h.spells;
        input = h.input;
        taken = ap (λ (ts : Tokens). state ts p.rows.items p.inputs.items p.count) h.tokens;
        is = ap (λ (l : List ℤ). state left p.rows.items l p.count) pushed;
      };
    }
