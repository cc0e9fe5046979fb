-- A fault is known by its number, and want of memory by the number 0.
use Rattle.std.proofs.Common.{◌≡◌, ℕ, refl, ap, arith}
use Rattle.faults.specs.Faults.{number_of}
use Rattle.faults.specs.declared.Fault.{Fault}
use Rattle.faults.specs.declared.Fault.TheVariants.{Memory, NeverLaid, LevelCount, LevelTooHigh, OutputOutOfRange, ReadsTooHigh, TooManyLines, HeadOutOfRange, TooManyLiterals, LiteralOutOfRange, LiteralAboveHead, WrongBuffer, ListingFull, NoSuchAtom, NotEnded, TableFull, UnknownLetter, MalformedName, UnknownName, NameTwice, OutOfOrder, BadLevel, FieldCount, NotWhole}
use Rattle.records.specs.declared.refusal.Refused.{Refused}
use Rattle.declarations.specs.Shown.{located, no_memory}

pub number_zero : (f : Fault) → number_of f ≡ 0 → f ≡ Memory
number_zero Memory e = refl
number_zero NeverLaid e = absurd (omega arith)
number_zero LevelCount e = absurd (omega arith)
number_zero (LevelTooHigh k) e = absurd (omega arith)
number_zero (OutputOutOfRange k) e = absurd (omega arith)
number_zero (ReadsTooHigh k) e = absurd (omega arith)
number_zero TooManyLines e = absurd (omega arith)
number_zero HeadOutOfRange e = absurd (omega arith)
number_zero TooManyLiterals e = absurd (omega arith)
number_zero (LiteralOutOfRange k) e = absurd (omega arith)
number_zero (LiteralAboveHead k) e = absurd (omega arith)
number_zero WrongBuffer e = absurd (omega arith)
number_zero ListingFull e = absurd (omega arith)
number_zero NoSuchAtom e = absurd (omega arith)
number_zero NotEnded e = absurd (omega arith)
number_zero TableFull e = absurd (omega arith)
number_zero UnknownLetter e = absurd (omega arith)
number_zero MalformedName e = absurd (omega arith)
number_zero UnknownName e = absurd (omega arith)
number_zero NameTwice e = absurd (omega arith)
number_zero OutOfOrder e = absurd (omega arith)
number_zero BadLevel e = absurd (omega arith)
number_zero FieldCount e = absurd (omega arith)
number_zero NotWhole e = absurd (omega arith)

pub without_memory : (e : Refused) → located e ≡ record { number = 0; line = 0; byte = 0 } → e ≡ no_memory
without_memory e h =
    let f : e.fault ≡ Memory = number_zero e.fault (ap (λ l. l.number) h) in
    let l : e.line ≡ 0 = ap (λ l. l.line) h in
    let b : e.byte ≡ 0 = ap (λ l. l.byte) h in
    same e.fault e.line e.byte f l b
  where
    same : (f : Fault) (l b : ℕ) → f ≡ Memory → l ≡ 0 → b ≡ 0 → ◌≡◌ {A = Refused} (record { fault = f; line = l; byte = b }) no_memory
    same f l b p q r = cc
