use Rattle.std.proofs.Common.{◌≡◌, [], None, sym, refl, rules}
use Rattle.semantics.specs.Sheets.{lay, fault}
use Rattle.semantics.proofs.Sheets.{lay_forms}
use Rattle.sheet.specs.Contents.{contents, state_of}
use Rattle.sheet.proofs.Calls.{restarts}
use Rattle.sheet.proofs.paper.Sheet.lay.Goals as goal

pub returns-clause-laid : goal.returns-clause-laid
returns-clause-laid g c =
    let self = c.args.self.now in
    let bank = g.M.Module.meaning self.bank in
    let s = contents self in
    let levels = c.args.levels.now in
    let passes : fault (state_of bank s) (lay levels) ≡ None = sym c.in_ok-check_levels.ensures.checked.finds in
    restarts bank s (lay levels) levels [] _ passes refl (search rules) refl (λ k l. lay_forms (state_of bank s) levels (g.met.M.Module.lawful self.bank) passes)
