-- What is solved: the lines in force over a bank of modules.
use Rattle.semantics.specs.Banks.{Meaning}
use Rattle.semantics.specs.Plans.{Program, over}
use Rattle.derivation.specs.Rulesets.{atoms_in, rules_in}
use Rattle.bounds.specs.declared.program.Program.{Program as Lent}

-- the rules and their atoms, over what the bank means
abbrev pub program_of : {M : Type 0} → (M → Meaning) → Lent M → Program
program_of meaning x = over (meaning x.bank.now) (atoms_in x.rules.now) (rules_in x.rules.now)
