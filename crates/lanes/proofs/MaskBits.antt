-- Bits of a mask register that are written one after the other, from a first one on.
use Rattle.std.proofs.Common.{◌≡◌, ℕ, suc, ◌+◌, ◌<◌, Bool, true, false, if◌then◌else◌, List, drop, length, get_or, drop-cons, add-one, refl, sym, ◌∙◌, ap}
use Rattle.std.proofs.Common.{arith}
use Rattle.lanes.specs.Words.{with_mask_bit, with_mask_bits_from}

-- the bit of one element
front : (f i : ℕ) (active bits : List Bool) (bytes : List ℕ) (a b : Bool) → i < length active → i < length bits
    → with_mask_bits_from (f + i) (drop i active) (drop i bits) bytes
    ≡ with_mask_bits_from (f + i + 1) (drop (suc i) active) (drop (suc i) bits) (if get_or active i a then with_mask_bit bytes (f + i) (get_or bits i b)
    else bytes)
front f i active bits bytes a b p q = rw (drop-cons active i a, drop-cons bits i b) refl

step : (f i : ℕ) (active bits : List Bool) (bytes bytes' : List ℕ) (a b : Bool) → i < length active → i < length bits
    → bytes' ≡ (if get_or active i a then with_mask_bit bytes (f + i) (get_or bits i b) else bytes)
    → with_mask_bits_from (f + i) (drop i active) (drop i bits) bytes ≡ with_mask_bits_from (f + (i + 1)) (drop (i + 1) active) (drop (i + 1) bits) bytes'
step f i active bits bytes bytes' a b p q e =
    let written = if get_or active i a then with_mask_bit bytes (f + i) (get_or bits i b) else bytes in
    let next : f + i + 1 ≡ f + (i + 1) = omega arith in
    front f i active bits bytes a b p q ∙ ap (λ k. with_mask_bits_from (f + i + 1) (drop k active) (drop k bits) written) (sym (add-one i))
    ∙ ap (λ k. with_mask_bits_from k (drop (i + 1) active) (drop (i + 1) bits) written) next
    ∙ ap (with_mask_bits_from (f + (i + 1)) (drop (i + 1) active) (drop (i + 1) bits)) (sym e)

pub write_active : (f i : ℕ) (active bits : List Bool) (bytes bytes' end : List ℕ) (a b : Bool) → i < length active → i < length bits
    → get_or active i a ≡ true → bytes' ≡ with_mask_bit bytes (f + i) (get_or bits i b)
    → with_mask_bits_from (f + i) (drop i active) (drop i bits) bytes ≡ end
    → with_mask_bits_from (f + (i + 1)) (drop (i + 1) active) (drop (i + 1) bits) bytes' ≡ end
write_active f i active bits bytes bytes' end a b p q t e h = sym (step f i active bits bytes bytes' a b p q (rw t e)) ∙ h

pub skip_other : (f i : ℕ) (active bits : List Bool) (bytes bytes' end : List ℕ) (a : Bool) → i < length active → i < length bits
    → get_or active i a ≡ false → bytes' ≡ bytes
    → with_mask_bits_from (f + i) (drop i active) (drop i bits) bytes ≡ end
    → with_mask_bits_from (f + (i + 1)) (drop (i + 1) active) (drop (i + 1) bits) bytes' ≡ end
skip_other f i active bits bytes bytes' end a p q t e h = sym (step f i active bits bytes bytes' a false p q (rw t e)) ∙ h
