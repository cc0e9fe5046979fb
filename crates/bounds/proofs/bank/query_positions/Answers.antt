use Rattle.std.proofs.Common.{◌≡◌, ℕ, ◌≤◌, Bool, not, ◌&&◌, ◌||◌, length, ap, ◌∙◌, arith}
use Rattle.bounds.specs.Unknown.{reads_none}
use Rattle.bounds.specs.Pairs.{atoms_of}
use Rattle.bounds.proofs.Outputs.{found, found_passed, found_failed, found_past}
use Rattle.bounds.proofs.Tables.{tabled_size}
use Rattle.bounds.proofs.Standings.{sure_standing, open_standing, never_standing}
use Rattle.bounds.proofs.bank.query_positions.Goals as goal
use Rattle.bounds.proofs.bank.query_positions.Goals.{then-atom-given+in-Sure, then-atom-given+in-Open, then-atom-given+in-Never, else-atom-given}

pub loop-position-preserved : goal.loop-position-preserved
loop-position-preserved g c =
    let m = g.M.Module.meaning c.args.bank.now in
    let settles : ℕ → Bool = reads_none m c.args.unknown.now in
    let is-given : ℕ → Bool = λ k. m.given k c.args.sure.now in
    let surely : ℕ → Bool = λ k. settles k && is-given k in
    let possibly : ℕ → Bool = λ k. not (settles k) || is-given k in
    let n = length c.clear.new.set in
    let k = c.loop-position.position in
    let inv = c.loop-position.invariant in
    elim c.if-atom-given.branch [
      | then-atom-given+in-Sure w ↦
          let s = sure_standing (settles k) (is-given k) w.in-Sure.ensures in
          let e = found_passed m surely n k s.0 in
          let f = found_passed m possibly n k s.1 in
          (cc, cc, cc, cc)
      | then-atom-given+in-Open w ↦
          let s = open_standing (settles k) (is-given k) w.in-Open.ensures in
          let e = found_failed m surely n k s.0 in
          let f = found_passed m possibly n k s.1 in
          (cc, cc, cc, cc)
      | then-atom-given+in-Never w ↦
          let s = never_standing (settles k) (is-given k) w.in-Never.ensures in
          let e = found_failed m surely n k s.0 in
          let f = found_failed m possibly n k s.1 in
          (cc, cc, cc, cc)
      | else-atom-given w ↦
          let sized = tabled_size _ n c.loop-position.given.sure.now inv.0 in
          let past : n ≤ m.atom k = omega arith in
          let e = found_past m surely n k past in
          let f = found_past m possibly n k past in
          (cc, cc, cc, cc)
    ]

pub returns : goal.returns
returns g c =
    let m = g.M.Module.meaning c.args.bank.now in
    let settles : ℕ → Bool = reads_none m c.args.unknown.now in
    let is-given : ℕ → Bool = λ k. m.given k c.args.sure.now in
    let surely : ℕ → Bool = λ k. settles k && is-given k in
    let possibly : ℕ → Bool = λ k. not (settles k) || is-given k in
    let all : c.loop-position.position ≡ m.outputs = omega arith in
    let n = length c.clear.new.set in
    let size : n ≡ atoms_of c.args.given.now = omega arith in
    record {
      lender_sure = c.loop-position.invariant.2;
      lender_possible = c.loop-position.invariant.3;
      sure = c.loop-position.invariant.0 ∙ ap (found m surely n) all ∙ ap (λ n. found m surely n m.outputs) size;
      possible = c.loop-position.invariant.1 ∙ ap (found m possibly n) all ∙ ap (λ n. found m possibly n m.outputs) size;
    }
