use Rattle.std.proofs.Common.{◌≡◌, ℕ, ◌-◌, not, ◌&&◌, ◌||◌, List, take, ap, ◌∙◌, arith}
use Rattle.semantics.specs.Sets.{tabled}
use Rattle.semantics.specs.Banks.{some_output}
use Rattle.bounds.specs.Pairs.{pair_of, atoms_of}
use Rattle.bounds.specs.Unknown.{unknown_atoms, reads_none}
use Rattle.bounds.proofs.Knowing.{surely_found, possibly_found}
use Rattle.bounds.proofs.bank.query_between.Goals as goal

pub returns : goal.returns
returns g c =
    let m = g.M.Module.meaning c.args.bank.now in
    let q = pair_of c.args.bounds.now in
    let n = atoms_of c.args.bounds.now in
    let k = atoms_of c.args.given.now in
    let count = c.list_unknown-count.result in
    let sure-by : List ℕ → ℕ → List ℕ = λ atoms j. tabled (some_output m (λ k. reads_none m atoms k && m.given k q.sure)) 0 j in
    let possible-by : List ℕ → ℕ → List ℕ = λ atoms j. tabled (some_output m (λ k. not (reads_none m atoms k) || m.given k q.sure)) 0 j in
    let whole : count - 0 ≡ count = omega arith in
    let atoms : take (count - 0) c.list_unknown-count.new.unknown ≡ unknown_atoms q n = ap (λ k. take k c.list_unknown-count.new.unknown) whole ∙ c.list_unknown-count.ensures.atoms in
    record {
      lender_sure = c.query_positions.ensures.lender_sure;
      lender_possible = c.query_positions.ensures.lender_possible;
      sure = c.query_positions.ensures.sure ∙ ap (λ xs. sure-by xs k) atoms ∙ ap (sure-by (unknown_atoms q n)) c.requires ∙ surely_found m q n;
      possible = c.query_positions.ensures.possible ∙ ap (λ xs. possible-by xs k) atoms ∙ ap (possible-by (unknown_atoms q n)) c.requires ∙ possibly_found m q n;
    }
