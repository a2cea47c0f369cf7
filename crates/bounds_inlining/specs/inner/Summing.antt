-- Numbers up to the greatest that 32 bits hold, and how what is counted of an inlined Func depends on its arguments.
-- This project's own.
use Rattle.std.specs.Prelude.{◌≡◌, ℕ, ◌+◌, ◌-◌, ◌*◌, ◌^◌, Bool, min, max, List, length, slice_get, Option, Some, None}
use Rattle.halide_pipeline.specs.declared.definitions.Func.{Func}
use Rattle.bounds_inlining.specs.declared.counts.CountCall.{CountCall}
use Rattle.bounds_inlining.specs.declared.counts.Sum.{Sum}
use Rattle.bounds_inlining.specs.declared.needs.Need.{Need}
use Rattle.bounds_inlining.specs.Inlining.{Inside, second_of, inside, made_in, func_in, flagged, counting, needing}
use Rattle.bounds_inlining.specs.Laws.{RelatesSeconds}

abbrev pub most : ℕ
most = 2 ^ 32 - 1

-- equal up to there
abbrev pub Same : ℕ → ℕ → Type 0
Same m n = min m most ≡ min n most

-- where the arguments have this many nodes
abbrev pub sum_at : Sum → ℕ → ℕ → ℕ
sum_at sum x y = sum.own + (sum.first * x + sum.second * y)

abbrev pub count_call : CountCall → ℕ → Option ℕ → ℕ
count_call call x None = sum_at call.one x 0
count_call call x (Some y) = sum_at call.two x y

abbrev pub call_of : Option CountCall → Option (ℕ → Option ℕ → ℕ)
call_of None = None
call_of (Some call) = Some (count_call call)

abbrev pub call_at : Option (Option CountCall) → Option (ℕ → Option ℕ → ℕ)
call_at None = None
call_at (Some call) = call_of call

-- what answers calls, by a table
abbrev pub counted : List (Option CountCall) → Inside ℕ
counted table place = call_at (slice_get table place)

abbrev pub SameCall : Option (ℕ → Option ℕ → ℕ) → Option (ℕ → Option ℕ → ℕ) → Type 0
SameCall None None = Unit {0}
SameCall None (Some g) = ⊥
SameCall (Some f) None = ⊥
SameCall (Some f) (Some g) = (x : ℕ) (y : Option ℕ) (z : ℕ) (u : Option ℕ) → Same x z → RelatesSeconds Same y u → Same (f x y) (g z u)

-- A table for the first Funcs, of which the flagged ones are inlined, counts as the definition does.
abbrev pub Counts : List Bool → List Func → List (Option CountCall) → Type 0
Counts flags funcs table = (func_index : ℕ) → SameCall (counted table func_index) (inside counting (flagged flags) funcs (length table) func_index)

-- what a call of the Func at a place is counted as
abbrev pub made_at : List Bool → List Func → ℕ → Option (ℕ → Option ℕ → ℕ)
made_at flags funcs func_index = made_in counting (inside counting (flagged flags) funcs func_index) (func_in funcs (flagged flags) (func_index + 1) func_index)

-- so often
abbrev pub times : ℕ → ℕ → ℕ
times n m = n * m

-- ---- needs

abbrev pub waited : Option ℕ → ℕ → ℕ
waited None n = 0
waited (Some wait) n = wait + n

-- where the arguments need so much
abbrev pub need_at : Need → ℕ → ℕ → ℕ
need_at need x y = max need.own (max (waited need.first x) (waited need.second y))

abbrev pub need_call : Need → ℕ → Option ℕ → ℕ
need_call need x y = need_at need x (second_of 1 y)

abbrev pub need_of : Option Need → Option (ℕ → Option ℕ → ℕ)
need_of None = None
need_of (Some need) = Some (need_call need)

abbrev pub need_in : Option (Option Need) → Option (ℕ → Option ℕ → ℕ)
need_in None = None
need_in (Some need) = need_of need

abbrev pub needed : List (Option Need) → Inside ℕ
needed table place = need_in (slice_get table place)

-- A table for the first Funcs, of which the flagged ones are inlined, needs what the definition needs.
abbrev pub Needs : List Bool → List Func → List (Option Need) → Type 0
Needs flags funcs table = (func_index : ℕ) → SameCall (needed table func_index) (inside needing (flagged flags) funcs (length table) func_index)

abbrev pub need_made : List Bool → List Func → ℕ → Option (ℕ → Option ℕ → ℕ)
need_made flags funcs func_index = made_in needing (inside needing (flagged flags) funcs func_index) (func_in funcs (flagged flags) (func_index + 1) func_index)
