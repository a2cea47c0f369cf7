-- The group of vector registers that begins at v0, as lanes of 32 bits: those of v0 itself are what its bits spell. This project's own.
use Rattle.std.specs.Prelude.{◌≡◌, ◌<◌, ◌≤◌, ℕ, zero, suc, ◌+◌, ◌-◌, ◌*◌, ◌/◌, ◌%◌, ◌^◌, ◌==◌, min, nat_lt, if◌then◌else◌, List, length, slice_index, true}
use Rattle.std.specs.Int.{bit_at}
use Rattle.vector_unit.specs.Vector.{with_elements}
use Rattle.hart_core.specs.HartState.{HartState, vectors_of, with_vectors, advanced}
use Rattle.multi_hart_laws.specs.Paths.{At, LanesConfigured, lane, bit, write_lanes, write_bits, vl_number}

-- the number that this many bits spell, the lowest first
abbrev pub spelled : ℕ → (ℕ → ℕ) → ℕ
spelled zero b = 0
spelled (suc n) b = b 0 + 2 * spelled n (λ k. b (suc k))

-- lane i of v0
abbrev pub first_lane : (ℕ → ℕ) → ℕ → ℕ
first_lane f i = spelled 32 (λ k. f (bit (32 * i + k)))

-- lane i of a group that begins at any register
abbrev pub held : (ℕ → ℕ) → ℕ → ℕ → ℕ
held f v i = if nat_lt (4 * v + i) 4 then first_lane f i else f (lane v i)

-- other lanes of the group that begins at v0, as many as are given: those of v0 bit by bit
abbrev pub write_first : (ℕ → ℕ) → ℕ → (ℕ → ℕ) → ℕ → ℕ
write_first f n new =
    write_bits (write_lanes f 1 (n - 4) (λ k. new (4 + k))) (32 * min n 4) (λ j. bit_at (new (j / 32)) (j % 32))

-- other lanes of a group that begins at any register
abbrev pub write_group : (ℕ → ℕ) → ℕ → ℕ → (ℕ → ℕ) → ℕ → ℕ
write_group f d n new = if d == 0 then write_first f n new else write_lanes f d n new

-- a group of this many registers may begin at this one, whether or not it holds the mask
pub record IsAnyGroup (registers v : ℕ) : Type 0 where
  pub some : 1 ≤ registers
  pub fits : v + registers ≤ 32
  pub placed : v % registers ≡ 0

-- A row that writes a group's lanes, unmasked, wherever the group begins: the first ones below vl become the new numbers, all else stays.
abbrev pub AnyLanesGiven : Type 0
AnyLanesGiven =
    (at d registers : ℕ) (f : ℕ → ℕ) (hart : HartState) (numbers : List ℕ) → at + 4 < 2 ^ 32 → At at f hart → LanesConfigured f registers → 1 ≤ registers
    → d + registers ≤ 32
    → length numbers ≡ 4 * registers → ((i : ℕ) → i < f vl_number → slice_index numbers i < 2 ^ 32)
    → At (at + 4) (write_group f d (f vl_number) (slice_index numbers)) (advanced (with_vectors hart (with_elements (vectors_of hart) d true numbers)))

-- what is written to a group is what it holds
abbrev pub GroupsHold : Type 0
GroupsHold = (f : ℕ → ℕ) (d n : ℕ) (new : ℕ → ℕ) (i : ℕ) → n ≤ 16 → i < n → new i < 2 ^ 32 → held (write_group f d n new) d i ≡ new i
