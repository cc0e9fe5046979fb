-- What a short list holds.
use Rattle.std.specs.Prelude.{ℕ, List, take}
use Rattle.few.specs.declared.Few.{Few}

-- the elements, in order
abbrev pub listed : {T : Type 0} {N : ℕ} → Few T N → List T
listed few = take few.count few.room
