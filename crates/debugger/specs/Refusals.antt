-- The numbers of the refusals, and what a refusal that isn't for want of memory says. This project's own.
use Rattle.std.specs.Prelude.{ℕ, Option, Some, None, Result, Ok, Err}
use Rattle.debugger.specs.declared.refusals.SessionRefusal.{SessionRefusal}
use Rattle.debugger.specs.declared.refusals.SessionRefusal.TheVariants.{PastEnd, BeforeStart, Address, TooManyMarks, NoStop, OutOfMemory}

abbrev pub number_of : SessionRefusal → Option ℕ
number_of PastEnd = Some 1
number_of BeforeStart = Some 2
number_of Address = Some 3
number_of TooManyMarks = Some 4
number_of NoStop = Some 5
number_of OutOfMemory = None

-- a fact, unless memory ran out
abbrev pub UnlessMemory : SessionRefusal → Type 0 → Type 0
UnlessMemory PastEnd fact = fact
UnlessMemory BeforeStart fact = fact
UnlessMemory Address fact = fact
UnlessMemory TooManyMarks fact = fact
UnlessMemory NoStop fact = fact
UnlessMemory OutOfMemory fact = Unit {0}

-- what is read, or the refusal of an address at which nothing is
abbrev pub or_address : Option ℕ → Result ℕ SessionRefusal
or_address (Some word) = Ok word
or_address None = Err Address
