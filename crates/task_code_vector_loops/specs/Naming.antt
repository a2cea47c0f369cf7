-- Variables that no loop has: a register holds the value of one, which stands for a part of an expression, or is where a part of a run begins. This
-- project's own.
use Rattle.std.specs.Prelude.{◌≡◌, ℕ, ◌==◌, Bool, false}
use Rattle.loop_ir.specs.declared.expressions.Counter.{Counter}
use Rattle.loop_ir.specs.Counters.{Values}

-- no Func has this number
abbrev pub names : ℕ
names = 18446744073709551615

abbrev pub is_name : Counter → Bool
is_name counter = counter.func == names

-- all other variables have the same values, whatever those of names are
abbrev pub AreNamed : Values → Values → Type 0
AreNamed values named = (counter : Counter) → is_name counter ≡ false → named counter ≡ values counter
