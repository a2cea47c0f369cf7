-- Numbers of data that one vector row loads or stores, each at an address of its own. This project's own.
use Rattle.std.specs.Prelude.{◌≡◌, ◌<◌, ◌≤◌, ℕ, zero, suc, ◌+◌, ◌*◌, ◌%◌, List, [], ◌∷◌, map}
use Rattle.lanes.specs.Words as word
use Rattle.rv_insn.specs.declared.vector_instructions.Addressing.{Addressing}
use Rattle.rv_insn.specs.declared.vector_instructions.Addressing.TheVariants as addressings
use Rattle.memory.specs.Access.{data_start, Size, Access, access_at, bytes_in, touched}
use Rattle.hart_core.specs.Scalar.{one_access}
use Rattle.multi_hart.specs.Run.{Within}
use Rattle.multi_hart_laws.specs.Uses.{MayRead, MayWrite}
use Rattle.multi_hart_laws.specs.Alone.{World, Keeps}
use Rattle.multi_hart_laws.specs.Paths.{stored_at, lane, IsGroup}

-- this many values of a function, from one number on
abbrev pub firsts : ℕ → ℕ → (ℕ → ℕ) → List ℕ
firsts i zero f = []
firsts i (suc n) f = f i ∷ firsts (suc i) n f

-- numbers of a size at the first addresses
abbrev pub accesses_to : Size → ℕ → (ℕ → ℕ) → List Access
accesses_to size n a = map (access_at size) (firsts 0 n a)

-- numbers of data that the job may read
pub record AllReadable (world : World) (size : Size) (n : ℕ) (a : ℕ → ℕ) : Type 0 where
  pub aligned : (k : ℕ) → k < n → a k % bytes_in size ≡ 0
  pub above : (k : ℕ) → k < n → data_start ≤ a k
  pub below : (k : ℕ) → k < n → a k + bytes_in size ≤ data_start + world.size
  pub may : (k : ℕ) → k < n → Within (λ b. MayRead world.job world.hart (world.uses b)) (touched (one_access size (a k)))

-- and those that it may write, all in one turn
pub record AllWritable (world : World) (size : Size) (n : ℕ) (a : ℕ → ℕ) : Type 0 where
  pub aligned : (k : ℕ) → k < n → a k % bytes_in size ≡ 0
  pub above : (k : ℕ) → k < n → data_start ≤ a k
  pub below : (k : ℕ) → k < n → a k + bytes_in size ≤ data_start + world.size
  pub may : (k : ℕ) → k < n → Within (λ b. MayWrite world.job world.hart (world.uses b)) (touched (one_access size (a k)))
  pub keeps : Keeps world (touched (accesses_to size n a))

-- memory after this many numbers were stored, one after the other
abbrev pub stored_lanes : List ℕ → Size → ℕ → (ℕ → ℕ) → (ℕ → ℕ) → List ℕ
stored_lanes memory size zero a x = memory
stored_lanes memory size (suc n) a x = stored_at (stored_lanes memory size n a x) size (a n) (x n)

-- how far from the base a lane lies: word after word, a number of bytes apart, or by the lanes of another group
abbrev pub offset_at : (ℕ → ℕ) → Addressing → ℕ → ℕ
offset_at f addressings.UnitStride k = k * 4
offset_at f (addressings.Strided r) k = word.multiply 32 k (f r)
offset_at f (addressings.Indexed v) k = f (lane v k)

-- the register of distances is one, or the group of offsets may begin where it does
abbrev pub OffsetsFit : ℕ → Addressing → Type 0
OffsetsFit registers addressings.UnitStride = Unit {0}
OffsetsFit registers (addressings.Strided r) = r < 32
OffsetsFit registers (addressings.Indexed v) = IsGroup registers v
