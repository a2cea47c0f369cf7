use Rattle.std.proofs.Common.{rules}
use Rattle.vector_unit.proofs.states.VectorState.execute_on_pairs.Goals as goal

-- src/execution.rt:54:5
pub returns-in-ArithmeticVv : goal.returns-in-ArithmeticVv
returns-in-ArithmeticVv c = let done = rw c.of_two_registers.ensures at c.compute.ensures in search (rules, done)

-- src/execution.rt:54:5
pub returns-in-ArithmeticVi : goal.returns-in-ArithmeticVi
returns-in-ArithmeticVi c = let done = rw c.with_immediate.ensures at c.compute-in-ArithmeticVi.ensures in search (rules, done)

-- src/execution.rt:54:5
pub returns-in-ShiftVi : goal.returns-in-ShiftVi
returns-in-ShiftVi c = let done = rw c.shift.ensures at c.compute-in-ShiftVi.ensures in search (rules, done)

-- src/execution.rt:54:5
pub returns-in-CompareVv : goal.returns-in-CompareVv
returns-in-CompareVv c = let done = rw c.of_two_registers-in-CompareVv.ensures at c.compare.ensures in search (rules, done)

-- src/execution.rt:54:5
pub returns-in-CompareVi : goal.returns-in-CompareVi
returns-in-CompareVi c = let done = rw c.with_immediate-in-CompareVi.ensures at c.compare-in-CompareVi.ensures in search (rules, done)
