use Rattle.std.proofs.lemmas.Slice.Eq.{slice_eq-Decides}
use Rattle.std.proofs.lemmas.Bool.Decides.{same_from_decides, Decides-eqb}
use Rattle.semantics.specs.Sets.{same}
use Rattle.bounds.proofs.Sames.{same_decides}
use Rattle.bounds.proofs.sets.is_same.Goals as goal

pub returns : goal.returns
returns c =
    let xs = c.args.first.now in
    let ys = c.args.second.now in
    same_from_decides c.eq.result (same xs ys) (slice_eq-Decides Decides-eqb xs ys c.eq.result c.eq.ensures) (same_decides xs ys)
