-- What code does that takes turns and writes points, whatever its instructions are. This project's own.
use Rattle.std.specs.Prelude.{◌≡◌, ℕ, true, List}
use Rattle.rv_insn.specs.declared.instructions.Insn.{Insn}
use Rattle.memory.specs.Access.{byte_at, AreBytes}
use Rattle.halide_pipeline.specs.Pixel.{Planes}
use Rattle.loop_ir.specs.Buffers.{Points}
use Rattle.multi_hart_laws.specs.Paths.{Stand, Block, Writes}
use Rattle.task_code_scalar.specs.Layout.{IsOf, IsElsewhere}
use Rattle.task_code_scalar.specs.Doing.{Setting, HoldsFuncs}

-- Code comes to its end in this many turns. Memory then holds these buffers, some registers stay, and each point of
-- `stored` was written on the way.
pub record Did (setting : Setting) (code : List Insn) (n : ℕ) (f : ℕ → ℕ) (memory : List ℕ) (keeps_it : ℕ → Type 0) (funcs : Planes)
    (stored : Points) : Type 0 where
  pub after : ℕ → ℕ
  pub left : List ℕ
  pub block : Block setting.world code n f memory after left
  pub keeps : (q : ℕ) → keeps_it q → after q ≡ f q
  pub holds : HoldsFuncs setting left funcs
  pub elsewhere : (byte : ℕ) → IsElsewhere setting.world setting.places setting.written byte
      → byte_at setting.world.text left byte ≡ byte_at setting.world.text memory byte
  pub are_bytes : AreBytes memory → AreBytes left
  pub writes : (func x y byte at : ℕ) → stored func x y ≡ true → IsOf setting.world setting.places func x y byte → Stand setting.world.text at code
      → Writes setting.world at n f memory byte
