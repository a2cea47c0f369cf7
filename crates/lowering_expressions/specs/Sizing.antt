-- How many words of code a definition asks for: no more than 64 for each of its nodes, with its inlined Funcs put in place, less 38, which
-- serve what is around it.
-- This project's own.
use Rattle.std.specs.Prelude.{◌≤◌, ℕ, ◌+◌, ◌*◌, List, length}
use Rattle.std.specs.List.{AllByRecursion}
use Rattle.lowering_expressions.specs.declared.calls.Corner.{Corner}
use Rattle.lowering_expressions.specs.declared.lowering.Arguments.{Arguments}

-- this many words are no more than this many nodes are given
abbrev pub IsGiven : ℕ → ℕ → Type 0
IsGiven words nodes = words + 38 ≤ 64 * nodes

-- A corner counts the loops of a consumer, of which there are at most five,
abbrev pub IsShort : Corner → Type 0
IsShort corner = (length corner.x.terms ≤ 5) × (length corner.y.terms ≤ 5)

abbrev pub AreShort : List Corner → Type 0
AreShort corners = AllByRecursion IsShort corners

-- and what stands for a variable a loop of its own beside them.
abbrev pub AreShortArguments : Arguments → Type 0
AreShortArguments arguments =
    (length arguments.first_argument.terms ≤ 6)
    × ((length arguments.second_argument.terms ≤ 6) × ((length arguments.first_reduction.terms ≤ 6) × (length arguments.second_reduction.terms ≤ 6)))
