-- What a group of vector registers holds after numbers of 32 bits were written to it, one register after the other. This project's own.
use Rattle.std.specs.Prelude.{◌≡◌, ◌<◌, ◌≤◌, ◌⊎◌, ℕ, ◌+◌, ◌-◌, ◌*◌, ◌%◌, ◌^◌, List, length, slice_index, true}
use Rattle.lanes.specs.Words.{element}
use Rattle.vector_unit.specs.Vector.{Vectors, register, with_registers, with_elements}
use Rattle.hart_core.specs.HartState.{HartState, vectors_of, with_vectors, advanced}
use Rattle.multi_hart_laws.specs.Paths.{At, LanesConfigured, write_lanes, vl_number}

-- the lanes of the group are the numbers, modulo 2^32: four in each register
abbrev pub GroupHolds : Type 0
GroupHolds =
    (state : Vectors) (v registers : ℕ) (numbers : List ℕ) (u i : ℕ) → length state.registers ≡ 32 → v + registers ≤ 32 → length numbers ≡ 4 * registers
    → v ≤ u → u < v + registers → i < 4
    → element 32 (register (with_registers state 32 v registers numbers) u) i ≡ slice_index numbers (4 * (u - v) + i) % 2 ^ 32

-- registers outside the group stay
abbrev pub OthersStay : Type 0
OthersStay =
    (state : Vectors) (v registers : ℕ) (numbers : List ℕ) (u : ℕ) → (u < v) ⊎ (v + registers ≤ u)
    → register (with_registers state 32 v registers numbers) u ≡ register state u

-- and so does how many there are
abbrev pub SizeStays : Type 0
SizeStays = (state : Vectors) (v registers : ℕ) (numbers : List ℕ) → length (with_registers state 32 v registers numbers).registers ≡ length state.registers

-- A row that writes a group's lanes, unmasked: the first ones below vl become the new numbers, all else stays. (Of the group that
-- begins at v0, `FirstGroup.antt` tells.)
abbrev pub LanesGiven : Type 0
LanesGiven =
    (at d registers : ℕ) (f : ℕ → ℕ) (hart : HartState) (numbers : List ℕ) → at + 4 < 2 ^ 32 → At at f hart → LanesConfigured f registers → 1 ≤ d → d
    + registers ≤ 32
    → length numbers ≡ 4 * registers → ((i : ℕ) → i < f vl_number → slice_index numbers i < 2 ^ 32)
    → At (at + 4) (write_lanes f d (f vl_number) (slice_index numbers)) (advanced (with_vectors hart (with_elements (vectors_of hart) d true numbers)))
