-- Sums over loops, one after the other.
use Rattle.std.proofs.Common.{◌≡◌, ◌≤◌, ℕ, ◌+◌, ◌-◌, List, length, ap, arith}
use Rattle.std.specs.Prelude.{take, drop, get_or}
use Rattle.schedule_lines.specs.declared.stages.Loop.{Loop}
use Rattle.schedule_lines.specs.Making.{total}
use Rattle.schedule_loops.proofs.Lists.{first_of_rest}

pub total_is : (value : Loop → ℕ) (loops : List Loop) (other stage_loop : Loop) (first rest : ℕ) → 1 ≤ length loops → stage_loop ≡ get_or loops 0 other
    → first ≡ value stage_loop → rest ≡ total value (take (length loops - 1) (drop 1 loops))
    → first + rest ≡ total value loops
total_is value loops other stage_loop first rest some own_is first_is rest_is =
    let parts : total value loops ≡ value (get_or loops 0 other) + total value (take (length loops - 1) (drop 1 loops)) =
    ap (total value) (first_of_rest loops other some) in
    omega (arith, parts, first_is, rest_is, ap value own_is)
