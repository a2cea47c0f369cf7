-- Words for code that fills a form's fields: what it does is what was judged.
-- This project's own.
use Rattle.std.specs.Prelude.{◌≡◌, ℕ, ℤ, List, Result, Ok, Err}
use Rattle.line_text.specs.Lines.{◌>>=◌}
use Rattle.assembler_mnemonics.specs.Placing.{placed}
use Rattle.assembler.specs.Faults.{both}
use Rattle.assembler.specs.declared.faults.AsmFault.{AsmFault}

abbrev pub together : Result (Unit {0}) AsmFault → Result (Unit {0}) AsmFault → Result (Unit {0}) AsmFault
together first others = both first others >>= λ _. Ok tt

-- The fields are filled by the pairs, or the fault is the same.
abbrev pub Fills : Result (List (ℕ × ℤ)) AsmFault → Result (Unit {0}) AsmFault → List ℤ → List ℤ → Type 0
Fills (Ok pairs) (Ok done) old new = new ≡ placed old pairs
Fills (Ok pairs) (Err fault) old new = ⊥
Fills (Err wanted) (Ok done) old new = ⊥
Fills (Err wanted) (Err fault) old new = fault ≡ wanted
