use Rattle.std.proofs.Common.{◌≡◌, ℕ, Bool, length, sym, ap, ◌∙◌, arith}
use Rattle.bounds.proofs.Outputs.{found, found_passed, found_failed}
use Rattle.bounds.proofs.bank.query_at.Goals as goal
use Rattle.bounds.proofs.bank.query_at.Goals.{then-given, else-given}

pub loop-position-preserved : goal.loop-position-preserved
loop-position-preserved g c =
    let m = g.M.Module.meaning c.args.bank.now in
    let passes : ℕ → Bool = λ p. m.given p c.args.set.now in
    let n = length c.clear.new.set in
    let k = c.loop-position.position in
    let inv = c.loop-position.invariant in
    elim c.if-given.branch [
      | then-given w ↦ let e = found_passed m passes n k (sym w.if-given.ensures) in cc
      | else-given w ↦ let e = found_failed m passes n k (sym w.if-given.ensures) in cc
    ]

pub returns : goal.returns
returns g c =
    let m = g.M.Module.meaning c.args.bank.now in
    let passes : ℕ → Bool = λ p. m.given p c.args.set.now in
    let all : c.loop-position.position ≡ m.outputs = omega arith in
    let size : length c.clear.new.set ≡ length c.args.outputs.now = omega arith in
    c.loop-position.invariant ∙ ap (found m passes (length c.clear.new.set)) all ∙ ap (λ n. found m passes n m.outputs) size
