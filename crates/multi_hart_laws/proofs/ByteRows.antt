-- Vector rows on bytes: each byte of a register as a lane of 32 bits.
use Rattle.std.proofs.Common.{◌≡◌, ℕ, zero, suc, ◌*◌, ◌%◌, ◌^◌, ◌<◌, ◌≤◌, List, [], ◌∷◌, length, get_or, true, refl, ap, ◌∙◌, arith}
use Rattle.std.specs.Prelude.{◌/◌, replicate, slice_index}
use Rattle.std.proofs.lemmas.List.FromFn.{length-map-range_with_len, get_or-map-range_with_len}
use Rattle.lanes.specs.Words.{element}
use Rattle.rv_insn.specs.declared.instructions.Insn.TheVariants.{Vector}
use Rattle.rv_insn.specs.declared.vector_instructions.VectorInsn.TheVariants as v
use Rattle.memory.specs.Access.{AreBytes}
use Rattle.hart_core.specs.HartState.{HartState, vector, vectors_of}
use Rattle.vector_unit.specs.Vector.{register as group_register, count, bytes_of_register}
use Rattle.multi_hart_laws.specs.Alone.{World}
use Rattle.multi_hart_laws.specs.Paths.{lane, vl_number, write_lanes, LanesConfigured, IsGroup, At, Line}
use Rattle.multi_hart_laws.proofs.LaneRows.{or-either}
use Rattle.multi_hart_laws.proofs.VectorRows.{Lists, count-is, sets}
use Rattle.multi_hart_laws.proofs.MaskRows.{few-registers}
use Rattle.multi_hart_laws.proofs.LaneStores.{same-width}
use Rattle.multi_hart_laws.proofs.LaneLoads.{sixteen}

module _ (b0 b1 b2 b3 b4 b5 b6 b7 b8 b9 b10 b11 b12 b13 b14 b15 : ℕ) where
  abbrev bytes : List ℕ
  bytes = b0 ∷ b1 ∷ b2 ∷ b3 ∷ b4 ∷ b5 ∷ b6 ∷ b7 ∷ b8 ∷ b9 ∷ b10 ∷ b11 ∷ b12 ∷ b13 ∷ b14 ∷ b15 ∷ []

  sixteen-byte : (k : ℕ) → k < 16 → AreBytes bytes → get_or bytes k 0 ≡ element 32 bytes (k / 4) / 256 ^ (k % 4) % 256
  sixteen-byte zero l b = let p = b 0 in let q = b 1 in let r = b 2 in let s = b 3 in omega (arith, p, q, r, s)
  sixteen-byte (suc zero) l b = let p = b 0 in let q = b 1 in let r = b 2 in let s = b 3 in omega (arith, p, q, r, s)
  sixteen-byte (suc (suc zero)) l b = let p = b 0 in let q = b 1 in let r = b 2 in let s = b 3 in omega (arith, p, q, r, s)
  sixteen-byte (suc (suc (suc zero))) l b = let p = b 0 in let q = b 1 in let r = b 2 in let s = b 3 in omega (arith, p, q, r, s)
  sixteen-byte (suc (suc (suc (suc zero)))) l b = let p = b 4 in let q = b 5 in let r = b 6 in let s = b 7 in omega (arith, p, q, r, s)
  sixteen-byte (suc (suc (suc (suc (suc zero))))) l b = let p = b 4 in let q = b 5 in let r = b 6 in let s = b 7 in omega (arith, p, q, r, s)
  sixteen-byte (suc (suc (suc (suc (suc (suc zero)))))) l b = let p = b 4 in let q = b 5 in let r = b 6 in let s = b 7 in omega (arith, p, q, r, s)
  sixteen-byte (suc (suc (suc (suc (suc (suc (suc zero))))))) l b = let p = b 4 in let q = b 5 in let r = b 6 in let s = b 7 in omega (arith, p, q, r, s)
  sixteen-byte (suc (suc (suc (suc (suc (suc (suc (suc zero)))))))) l b = let p = b 8 in let q = b 9 in let r = b 10 in let s = b 11 in
      omega (arith, p, q, r, s)
  sixteen-byte (suc (suc (suc (suc (suc (suc (suc (suc (suc zero))))))))) l b = let p = b 8 in let q = b 9 in let r = b 10 in let s = b 11 in
      omega (arith, p, q, r, s)
  sixteen-byte (suc (suc (suc (suc (suc (suc (suc (suc (suc (suc zero)))))))))) l b = let p = b 8 in let q = b 9 in let r = b 10 in let s = b 11 in
      omega (arith, p, q, r, s)
  sixteen-byte (suc (suc (suc (suc (suc (suc (suc (suc (suc (suc (suc zero))))))))))) l b = let p = b 8 in let q = b 9 in let r = b 10 in let s = b 11 in
      omega (arith, p, q, r, s)
  sixteen-byte (suc (suc (suc (suc (suc (suc (suc (suc (suc (suc (suc (suc zero)))))))))))) l b = let p = b 12 in let q = b 13 in let r = b 14 in let s =
      b 15 in omega (arith, p, q, r, s)
  sixteen-byte (suc (suc (suc (suc (suc (suc (suc (suc (suc (suc (suc (suc (suc zero))))))))))))) l b = let p = b 12 in let q = b 13 in let r = b 14 in let s =
      b 15 in omega (arith, p, q, r, s)
  sixteen-byte (suc (suc (suc (suc (suc (suc (suc (suc (suc (suc (suc (suc (suc (suc zero)))))))))))))) l b = let p = b 12 in let q = b 13 in let r = b 14 in
      let s = b 15 in omega (arith, p, q, r, s)
  sixteen-byte (suc (suc (suc (suc (suc (suc (suc (suc (suc (suc (suc (suc (suc (suc (suc zero))))))))))))))) l b = let p = b 12 in let q = b 13 in let r =
      b 14 in let s = b 15 in omega (arith, p, q, r, s)
  sixteen-byte (suc (suc (suc (suc (suc (suc (suc (suc (suc (suc (suc (suc (suc (suc (suc (suc k)))))))))))))))) l b = absurd (omega (arith, l))

pub byte-of : (xs : List ℕ) (k : ℕ) → length xs ≡ 16 → AreBytes xs → k < 16 → get_or xs k 0 ≡ element 32 xs (k / 4) / 256 ^ (k % 4) % 256
byte-of xs k e b l = sixteen (λ z. AreBytes z → get_or z k 0 ≡ element 32 z (k / 4) / 256 ^ (k % 4) % 256) xs e (λ b0 b1 b2 b3 b4 b5 b6 b7 b8 b9 b10 b11 b12 b13
    b14 b15. sixteen-byte b0 b1 b2 b3 b4 b5 b6 b7 b8 b9 b10 b11 b12 b13 b14 b15 k l) b

module _ (at g : ℕ) (f : ℕ → ℕ) (h : HartState) (s : At at f h) (c : LanesConfigured f g) (u : ℕ) (low : 1 ≤ u) (high : u < 32) where
  of-bytes : Lists (4 * g) (bytes_of_register (vectors_of h) u) (λ k. f (lane u (k / 4)) / 256 ^ (k % 4) % 256)
  of-bytes =
      let e = count-is at g f h s c in
      let few = few-registers f g c in
      let was : group_register (vectors_of h) u ≡ vector h u = or-either h.vectors u (replicate 16 0) [] (let q = s.wide in omega (arith, q, high)) in
      record {
        size = length-map-range_with_len (slice_index (group_register (vectors_of h) u)) 0 (count (vectors_of h)) ∙ e;
        get = λ k l.
            let within : k < count (vectors_of h) = omega (arith, e, l) in
            let in-register : k < 16 = omega (arith, few, l) in
            let part : k / 4 < 4 = omega (arith, in-register) in
            get_or-map-range_with_len (slice_index (group_register (vectors_of h) u)) 0 (count (vectors_of h)) k k 0 within (omega arith)
            ∙ ap (λ r. get_or r k 0) was ∙ byte-of (vector h u) k (s.whole u high) (s.bytes u high) in-register
            ∙ ap (λ n. n / 256 ^ (k % 4) % 256) (s.lanes u (k / 4) low high part);
      }

byte-below : (n : ℕ) → n % 256 < 2 ^ 32
byte-below n = omega arith

pub extends : (w : World) (f : ℕ → ℕ) (m : List ℕ) → length m ≡ w.size → (g : ℕ) → LanesConfigured f g → (d u : ℕ) → IsGroup g d → 1 ≤ u → u < 32
    → Line w (Vector (v.ExtendBytes d u true) ∷ []) f m (write_lanes f d (f vl_number) (λ k. f (lane u (k / 4)) / 256 ^ (k % 4) % 256)) m
extends w f m l g c d u id low high =
    sets w f m l g c (v.ExtendBytes d u true) d (λ h. bytes_of_register (vectors_of h) u) (λ k. f (lane u (k / 4)) / 256 ^ (k % 4) % 256) id
    refl refl (λ at h s. same-width at g f h s c) (id, tt) refl (λ h. refl) (λ h read. refl)
    (λ at h s. of-bytes at g f h s c u low high) (λ at h s k lk. byte-below _)
