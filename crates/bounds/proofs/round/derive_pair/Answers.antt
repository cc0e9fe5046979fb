use Rattle.std.proofs.Common.{ℕ, Bool, not, ◌&&◌, ◌||◌, sym, ap, ◌∙◌, subst}
use Rattle.semantics.specs.Sets.{has, tabled, Canonical}
use Rattle.semantics.specs.Rules.{least}
use Rattle.semantics.specs.Alternating.{marks_in, is_present, is_absent}
use Rattle.semantics.proofs.Bytes.{tabled_canonical}
use Rattle.derivation.specs.Rulesets.{rules_in, atoms_in}
use Rattle.bounds.specs.Pairs.{pair_of}
use Rattle.bounds.proofs.Leasts.{least_tabled}
use Rattle.bounds.proofs.Rounding.{pair_same}
use Rattle.bounds.proofs.round.derive_pair.Goals as goal

pub derive-requires : goal.derive-requires
derive-requires c =
    let n = atoms_in c.args.rules.now in
    let bare : ℕ → Bool = λ a. has c.args.given.now.sure.now a || is_present (marks_in c.args.marks.now a) in
    let held = c.hold.ensures ∙ ap (tabled bare 0) c.requires.marks in
    subst (Canonical n) (sym held) (tabled_canonical bare n)

pub returns-clause-rounded : goal.returns-clause-rounded
returns-clause-rounded c =
    let q = pair_of c.args.bounds.now in
    let rs = rules_in c.args.rules.now in
    let n = atoms_in c.args.rules.now in
    let ms = marks_in c.args.marks.now in
    let bare : ℕ → Bool = λ a. has c.args.given.now.sure.now a || is_present (ms a) in
    let held = c.hold.ensures ∙ ap (tabled bare 0) c.requires.marks in
    pair_same
    (c.derive.ensures ∙ ap (λ s. least rs q.possible (has s) n) held ∙ least_tabled rs q.possible bare n)
    (c.bar.ensures ∙ ap (λ k. tabled (λ a. has c.derive-2.new.model a && not (is_absent (ms a))) 0 k) c.requires.marks ∙ ap (λ s. tabled (λ a. has s a && not (is_absent (ms a))) 0 n) c.derive-2.ensures)
