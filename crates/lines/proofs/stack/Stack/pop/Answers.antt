use Rattle.std.proofs.Common.{◌≡◌, ◌+◌, ◌-◌, take, sym, ap, ◌∙◌, arith, rules}
use Rattle.std.proofs.lemmas.List.{take_more}
use Rattle.lines.proofs.stack.Stack.pop.Goals as goal

pub returns : goal.returns
returns g c =
    let n = c.args.self.now.len in
    let xs = c.args.self.now.entries.now in
    let e : n - 1 + 1 ≡ n = omega arith in
    record {
      lender = search rules;
      size = search rules;
      test = search rules;
      len = search rules;
      held = ap (λ k. take k xs) (sym e) ∙ take_more xs (n - 1) c.index-self-self.result (omega arith);
    }
