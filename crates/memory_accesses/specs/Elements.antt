-- Numbers of one width at a list of addresses, as the elements of a vector load or store are.
-- RISC-V Vector Extension 1.0, chapter 7 "Vector Loads and Stores": the width of an element in memory is the instruction's.
use Rattle.std.specs.Prelude.{ℕ, List, map}
use Rattle.rv_insn.specs.declared.vector_operations.ElementWidth.{ElementWidth}
use Rattle.rv_insn.specs.declared.vector_operations.ElementWidth.TheVariants as widths
use Rattle.memory.specs.Access.{Size, Byte, Half, Word, Access, access_at}

-- the size of an element
abbrev pub size_of : ElementWidth → Size
size_of widths.Bits8 = Byte
size_of widths.Bits16 = Half
size_of widths.Bits32 = Word

-- elements of one width at these addresses
abbrev pub accesses_at : ElementWidth → List ℕ → List Access
accesses_at w at = map (access_at (size_of w)) at
