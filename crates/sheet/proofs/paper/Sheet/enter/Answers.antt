use Rattle.std.proofs.Common.{◌≡◌, ◌<◌, T, length, vec_items, sym, refl, subst, arith}
use lib.ListN.{length-map}
use Rattle.semantics.specs.Rules.{rule_below}
use Rattle.semantics.specs.Sheets.{line}
use Rattle.semantics.proofs.Sheets.{enter_below}
use Rattle.lines.specs.Lines.{rule_of}
use Rattle.derivation.specs.Rulesets.{atoms_in}
use Rattle.sheet.specs.Contents.{contents, state_of}
use Rattle.sheet.proofs.paper.Sheet.enter.Goals as goal

pub enter-requires : goal.enter-requires
enter-requires g c =
    let self = c.args.self.now in
    let st = state_of (g.M.Module.meaning self.bank) (contents self) in
    let checked = c.in_ok-line.ensures in
    let below : T (rule_below (length (vec_items self.parts.levels)) (line c.args.head c.args.body.now)) = enter_below st c.args.head c.args.body.now (sym checked.checked.finds) in
    let n : length (vec_items self.parts.levels) ≡ atoms_in self.parts.rules = omega (arith, self.parts.ruled, self.parts.levels.ok.0) in
    let few : length (contents self).rules < 512 = checked.few refl in
    record {
      below = subst (λ r. T (rule_below (atoms_in self.parts.rules) r)) (sym checked.made) (subst (λ n. T (rule_below n (line c.args.head c.args.body.now))) n below);
      few = omega (arith, self.parts.rules.lines.ok.0, length-map (vec_items self.parts.rules.lines) rule_of);
    }
