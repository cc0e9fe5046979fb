-- What the code's own structs stand for.
use Rattle.std.specs.Prelude.{ℕ, List, vec_items}
use Rattle.fields.specs.Places.{parts}
use Rattle.fields.specs.Pieces.{Field, fields_from}
use Rattle.fields.specs.declared.names.Names.{Names}
use Rattle.fields.specs.declared.part.Part.{Part}
use Rattle.fields.specs.declared.part.Fields.{Fields}

-- a part of a line is a field
abbrev pub shown : Part → Field
shown p = record { bytes = p.bytes.now; at = p.at }

-- the fields that are still to come
abbrev pub left : Fields → List Field
left f = fields_from f.at f.line.now

-- the names declared so far
abbrev pub declared : Names → List (List ℕ)
declared names = parts (vec_items names.list)
