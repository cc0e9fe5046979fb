use Rattle.std.proofs.Common.{◌≡◌, length, sym, ap, ◌∙◌, subst, arith}
use Rattle.lines.specs.Stacks.{newest_first}
use Rattle.semantics.specs.Plans.{is_plan}
use Rattle.bounds.proofs.Rounding.{pair_same}
use Rattle.bounds.specs.Pairs.{pair_of}
use Rattle.enumeration.specs.declared.node.Node.TheVariants.{Refuted, Branches, Meets}
use Rattle.enumeration.specs.Nodes.{Tells}
use Rattle.bounds.specs.Programs.{program_of}
use Rattle.enumeration.proofs.Visits.{refuted_passes, branch_goes_on, miss_passes, leaf_found}
use Rattle.enumeration.proofs.visit.visit.Goals as goal

pub returns-in-Refuted-clause-visited : goal.returns-in-Refuted-clause-visited
returns-in-Refuted-clause-visited g c =
    let p = program_of g.M.Module.meaning c.args.program.now in
    let size : length c.mark.new.marks ≡ p.atoms = omega arith in
    refuted_passes p (newest_first c.args.choices.now) c.mark.new.marks (pair_of c.narrow.new.bounds) size c.mark.ensures c.narrow.ensures.narrowed (subst (λ q. Tells p q Refuted) (pair_same c.sure.ensures c.possible.ensures) (c.in-Refuted.ensures p.bank))

pub returns-in-Branches-clause-visited : goal.returns-in-Branches-clause-visited
returns-in-Branches-clause-visited g c =
    let p = program_of g.M.Module.meaning c.args.program.now in
    let size : length c.mark.new.marks ≡ p.atoms = omega arith in
    branch_goes_on p (newest_first c.args.choices.now) c.mark.new.marks (pair_of c.narrow.new.bounds) size c.mark.ensures c.narrow.ensures.narrowed c.in-Branches.atom (subst (λ q. Tells p q (Branches c.in-Branches.atom)) (pair_same c.sure.ensures c.possible.ensures) (c.in-Branches.ensures p.bank))

pub returns-then-is_plan-clause-visited : goal.returns-then-is_plan-clause-visited
returns-then-is_plan-clause-visited g c =
    let p = program_of g.M.Module.meaning c.args.program.now in
    let size : length c.mark.new.marks ≡ p.atoms = omega arith in
    leaf_found p (newest_first c.args.choices.now) c.mark.new.marks (pair_of c.narrow.new.bounds) size c.mark.ensures c.narrow.ensures.narrowed (subst (λ q. Tells p q Meets) (pair_same c.sure.ensures c.possible.ensures) (c.in-Meets.ensures p.bank))
    (ap (is_plan p) (sym c.sure-candidate.ensures) ∙ sym c.is_plan.ensures ∙ c.if-is_plan.true) c.copy_from_slice.new.self (c.copy_from_slice.ensures.after ∙ c.sure-candidate.ensures)

pub returns-else-is_plan-clause-visited : goal.returns-else-is_plan-clause-visited
returns-else-is_plan-clause-visited g c =
    let p = program_of g.M.Module.meaning c.args.program.now in
    let size : length c.mark.new.marks ≡ p.atoms = omega arith in
    miss_passes p (newest_first c.args.choices.now) c.mark.new.marks (pair_of c.narrow.new.bounds) size c.mark.ensures c.narrow.ensures.narrowed (subst (λ q. Tells p q Meets) (pair_same c.sure.ensures c.possible.ensures) (c.in-Meets.ensures p.bank))
    (ap (is_plan p) (sym c.sure-candidate.ensures) ∙ sym c.is_plan.ensures ∙ c.if-is_plan.false)
