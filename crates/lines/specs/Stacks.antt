-- What a stack holds.
use Rattle.std.specs.Prelude.{List, reverse, take}
use Rattle.lines.specs.declared.stack.Stack.{Stack}

-- the entries, the oldest first
abbrev pub held : {E : Type 0} → Stack E → List E
held s = take s.len s.entries.now

-- the same, the newest first
abbrev pub newest_first : {E : Type 0} → Stack E → List E
newest_first s = reverse (held s)
