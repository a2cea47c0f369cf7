-- Groups of vector registers, a lane for each iteration of a loop of 4, 8 or 16.
--
-- v0 holds masks, each used before the next is made. A group is scratch, and those after it are the stack of an expression over lanes, or the
-- pixels, addresses and lane numbers of a loop that collects its pixels. Where a group is four registers, scratch is the one that begins at v0:
-- no mask is while it is used.
-- RISC-V Vector Extension 1.0, section 3.4 "Vector type register, vtype" for the bits of a configuration. What groups are for is this
-- project's own.
use Rattle.std.specs.Prelude.{ℕ, ◌+◌, ◌*◌, ◌==◌, if◌then◌else◌, Option, Some, None}
use Rattle.task_code_lanes.specs.declared.groups.LaneGroup.{LaneGroup}
use Rattle.task_code_lanes.specs.declared.groups.LaneGroup.TheVariants as groups

abbrev pub registers : LaneGroup → ℕ
registers groups.One = 1
registers groups.Two = 2
registers groups.Four = 4

-- elements of 32 bits; those after vl and those that a mask leaves out stay
abbrev pub vtype_of : LaneGroup → ℕ
vtype_of groups.One = 16
vtype_of groups.Two = 17
vtype_of groups.Four = 18

-- how many groups the stack has
abbrev pub slots : LaneGroup → ℕ
slots groups.One = 30
slots groups.Two = 14
slots groups.Four = 7

abbrev pub group_of_lanes : ℕ → Option LaneGroup
group_of_lanes n = if n == 4 then Some groups.One else (if n == 8 then Some groups.Two else (if n == 16 then Some groups.Four else None))

-- the first register of the scratch group
abbrev pub spare : LaneGroup → ℕ
spare groups.One = 1
spare groups.Two = 2
spare groups.Four = 0

-- the first register of a group of the stack
abbrev pub slot : LaneGroup → ℕ → ℕ
slot groups.One k = k + 2
slot groups.Two k = 2 * (k + 2)
slot groups.Four k = 4 * (k + 1)
