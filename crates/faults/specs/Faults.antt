-- The number and the place of each fault.
use Rattle.std.specs.Prelude.{ℕ, Bool, false, Ok, Err, Result, ◌==◌}
use Rattle.faults.specs.declared.Fault.{Fault}
use Rattle.faults.specs.declared.Fault.TheVariants.{Memory, NeverLaid, LevelCount, LevelTooHigh, OutputOutOfRange, ReadsTooHigh, TooManyLines, HeadOutOfRange, TooManyLiterals, LiteralOutOfRange, LiteralAboveHead, WrongBuffer, ListingFull, NoSuchAtom, NotEnded, TableFull, UnknownLetter, MalformedName, UnknownName, NameTwice, OutOfOrder, BadLevel, FieldCount, NotWhole}

-- the number that names a fault
abbrev pub number_of : Fault → ℕ
number_of Memory = 0
number_of NeverLaid = 1
number_of LevelCount = 2
number_of (LevelTooHigh a) = 3
number_of (OutputOutOfRange k) = 4
number_of (ReadsTooHigh k) = 5
number_of TooManyLines = 6
number_of HeadOutOfRange = 7
number_of TooManyLiterals = 8
number_of (LiteralOutOfRange i) = 9
number_of (LiteralAboveHead i) = 10
number_of WrongBuffer = 12
number_of ListingFull = 13
number_of NoSuchAtom = 14
number_of NotEnded = 15
number_of TableFull = 19
number_of UnknownLetter = 20
number_of MalformedName = 21
number_of UnknownName = 22
number_of NameTwice = 23
number_of OutOfOrder = 24
number_of BadLevel = 25
number_of FieldCount = 26
number_of NotWhole = 27

-- the atom, the output position or the literal that a fault was found at, else 0
abbrev pub place_of : Fault → ℕ
place_of Memory = 0
place_of NeverLaid = 0
place_of LevelCount = 0
place_of (LevelTooHigh a) = a
place_of (OutputOutOfRange k) = k
place_of (ReadsTooHigh k) = k
place_of TooManyLines = 0
place_of HeadOutOfRange = 0
place_of TooManyLiterals = 0
place_of (LiteralOutOfRange i) = i
place_of (LiteralAboveHead i) = i
place_of WrongBuffer = 0
place_of ListingFull = 0
place_of NoSuchAtom = 0
place_of NotEnded = 0
place_of TableFull = 0
place_of UnknownLetter = 0
place_of MalformedName = 0
place_of UnknownName = 0
place_of NameTwice = 0
place_of OutOfOrder = 0
place_of BadLevel = 0
place_of FieldCount = 0
place_of NotWhole = 0

-- want of memory is the machine's fault, and no call's
abbrev pub out_of_memory : {X : Type 0} → Result X Fault → Bool
out_of_memory (Ok x) = false
out_of_memory (Err f) = number_of f == 0
