-- Which register is for what. This project's own.
use Rattle.std.specs.Prelude.{◌≢◌, ◌⊎◌, ◌<◌, ◌≤◌, ℕ, Bool, ◌==◌, ◌||◌, ◌&&◌, not, nat_lt}

-- it is always 0
abbrev pub zero_register : ℕ
zero_register = 0

-- of the hart that runs the code
abbrev pub hart_number : ℕ
hart_number = 10

abbrev pub hart_count : ℕ
hart_count = 11

-- any code that makes a number may change these two
abbrev pub scratch : ℕ
scratch = 13

abbrev pub second_scratch : ℕ
second_scratch = 14

-- where addresses are made
abbrev pub address_register : ℕ
address_register = 15

-- from this one on, values of expressions are made
abbrev pub first_value : ℕ
first_value = 20

abbrev pub is_reserved : ℕ → Bool
is_reserved q =
    q == zero_register || (q == hart_number || (q == hart_count || (q == scratch || (q == second_scratch || q == address_register))))

-- a register that may be given to a form for as long as a loop runs
abbrev pub may_hold : ℕ → Bool
may_hold q = nat_lt q first_value && not (is_reserved q)

-- code of one statement may use it: it never holds a form
abbrev pub IsWorking : ℕ → Type 0
IsWorking r = ((scratch ≤ r) × (r ≤ address_register)) ⊎ ((first_value ≤ r) × (r < 32))

-- code may leave a number there
abbrev pub IsTarget : ℕ → Type 0
IsTarget r = (1 ≤ r) × (r < 32)

-- what is there stays while the scratch registers are used
abbrev pub IsSource : ℕ → Type 0
IsSource s = (s < 32) × ((s ≢ scratch) × (s ≢ second_scratch))

-- both
abbrev pub IsPlace : ℕ → Type 0
IsPlace r = IsTarget r × ((r ≢ scratch) × (r ≢ second_scratch))
