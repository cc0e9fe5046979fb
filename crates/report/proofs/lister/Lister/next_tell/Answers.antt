use Rattle.std.proofs.Common.{◌≡◌, ◌+◌, refl, ap, arith}
use Rattle.sheet.specs.Calls.{tally_of}
use Rattle.fields.specs.Shown.{declared}
use Rattle.report.specs.declared.lister.Stage.TheVariants.{Tells}
use Rattle.report.proofs.Printing.{tell_here, name_is}
use Rattle.report.proofs.lister.Lister.next_tell.Goals as goal

pub returns : goal.returns
returns c d k at tells more =
    let self = c.args.self.now in
    let a = c.args.atom in
    let next : c.saturating_add.result ≡ a + 1 = omega (arith, c.saturating_add.ensures, self.sheet.parts.few, self.sheet.parts.levels.ok.0) in
    tell_here d k self at a tells more _ c.unwrap_or-name.result.now (tally_of c.in_ok-told.told) refl refl refl (ap Tells next)
    (name_is (declared self.names) a c.get.result _ c.unwrap_or-name.result (rw c.from.ensures at c.get.ensures) refl c.unwrap_or-name.ensures) c.in_ok-tell_line.ensures c.in_ok-told.ensures
