-- Lines as rules.
use Rattle.std.specs.Prelude.{List, [], map}
use Rattle.semantics.specs.declared.Head.TheVariants.{Bar}
use Rattle.semantics.specs.Rules.{Rule}
use Rattle.few.specs.Listed.{listed}
use Rattle.lines.specs.declared.line.Line.{Line}

abbrev pub rule_of : Line → Rule
rule_of l = record { head = l.head; body = listed l.body }

abbrev pub rules_of : List Line → List Rule
rules_of ls = map rule_of ls

-- what a read beyond the rules gives
abbrev pub no_rule : Rule
no_rule = record { head = Bar; body = [] }
