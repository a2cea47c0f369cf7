-- The field of x0 is written back to 0 after each write.
use Rattle.std.proofs.Common.{◌≡◌, refl, ap, sym, ℕ, zero, suc, List, [], ◌∷◌}
use Rattle.std.specs.Prelude.{slice_index, slice_set}
use Rattle.hart_core.specs.HartState.{registers_after}

pub x0_stays : (registers : List ℕ) (r value : ℕ) → slice_index registers 0 ≡ 0 → slice_set (slice_set registers r value) 0 0 ≡ registers_after registers r
    value
x0_stays [] zero value is = refl
x0_stays [] (suc r) value is = refl
x0_stays (x ∷ registers) zero value is = ap (λ y. y ∷ registers) (sym is)
x0_stays (x ∷ registers) (suc r) value is = ap (λ y. y ∷ slice_set registers r value) (sym is)
