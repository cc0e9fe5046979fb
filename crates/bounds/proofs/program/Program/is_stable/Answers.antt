use Rattle.std.proofs.Common.{sym, ap, ◌∙◌, subst}
use Rattle.semantics.specs.Sets.{Canonical, has, same, tabled}
use Rattle.semantics.specs.Rules.{least}
use Rattle.semantics.specs.Banks.{gives}
use Rattle.semantics.proofs.Bytes.{tabled_canonical}
use Rattle.derivation.specs.Rulesets.{rules_in, atoms_in}
use Rattle.bounds.proofs.Leasts.{least_tabled}
use Rattle.bounds.proofs.program.Program.is_stable.Goals as goal

pub derive-requires : goal.derive-requires
derive-requires g c =
    let given = gives (g.M.Module.meaning c.args.self.now.bank.now) c.args.set.now in
    let n = atoms_in c.args.self.now.rules.now in
    let filled = c.query_at.ensures ∙ ap (tabled given 0) c.requires.model in
    subst (Canonical n) (sym filled) (tabled_canonical given n)

pub returns : goal.returns
returns g c =
    let given = gives (g.M.Module.meaning c.args.self.now.bank.now) c.args.set.now in
    let rs = rules_in c.args.self.now.rules.now in
    let s = c.args.set.now in
    let n = atoms_in c.args.self.now.rules.now in
    let filled = c.query_at.ensures ∙ ap (tabled given 0) c.requires.model in
    let derived = c.derive.ensures ∙ ap (λ bare. least rs s (has bare) n) filled ∙ least_tabled rs s given n in
    c.is_same.ensures ∙ ap (same s) derived
