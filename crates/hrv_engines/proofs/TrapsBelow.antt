-- The trap of the hart with the least number, one hart further.
use Rattle.std.proofs.Common.{◌≡◌, ◌+◌, ℕ, add-one, refl}
use Rattle.multi_hart.specs.Run.{State, hart_at}
use Rattle.hrv_engines.specs.Records.{trap_below, trap_or}

pub trap_below-more : (state : State) (hart : ℕ) → trap_below state (hart + 1) ≡ trap_or (trap_below state hart) (hart_at state hart).status
unfolding trap_below
trap_below-more state hart = rw add-one refl
