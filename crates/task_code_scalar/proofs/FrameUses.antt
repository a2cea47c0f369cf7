-- A frame that the hart alone uses may be written and read.
use Rattle.std.proofs.Common.{◌≡◌, ℕ, ◌+◌, ◌<◌, ◌≤◌, List, [], ◌∷◌, Bool, true, false, Option, Some, None, refl, sym, subst, arith, inl, inr}
use Rattle.std.specs.Prelude.{◌⊎◌, ◌==◌, if◌then◌else◌}
use Rattle.std.proofs.lemmas.Bool.Decides.{nat_tests}
use Rattle.memory.specs.Access.{Word, touched}
use Rattle.multi_hart_laws.specs.Scalar.{one_access}
use Rattle.multi_hart_laws.specs.Run.{Within, is_in}
use Rattle.multi_hart_laws.specs.Uses.{Use, Owned, Private, Job, Task, MayRead, MayWrite}
use Rattle.multi_hart_laws.specs.Alone.{World}
use Rattle.halide_pipeline.specs.Points.{Point}
use Rattle.task_code_scalar.specs.declared.layouts.Places.{Places}
use Rattle.task_code_scalar.specs.Code.{frame_words}
use Rattle.task_code_scalar.specs.Layout.{frame_start, frame_word, OwnsFrame, IsFrame, address_of, bytes_of}

one-in : (b other : ℕ) (rest : List ℕ) → is_in b (other ∷ rest) ≡ true → (b ≡ other) ⊎ (is_in b rest ≡ true)
one-in b other rest is = by-test (b == other) refl is
  where
    by-test : (t : Bool) → (b == other) ≡ t → (if t then true else is_in b rest) ≡ true → (b ≡ other) ⊎ (is_in b rest ≡ true)
    by-test true e i = inl (grind (arith, nat_tests))
    by-test false e i = inr i

-- one of the four bytes of a word
in-word : (a b : ℕ) → is_in b (a ∷ (a + 1) ∷ (a + 2) ∷ (a + 3) ∷ []) ≡ true → (a ≤ b) × (b < a + 4)
in-word a b is = first (one-in b a ((a + 1) ∷ (a + 2) ∷ (a + 3) ∷ []) is)
  where
    fourth : (b ≡ a + 3) ⊎ (is_in b [] ≡ true) → (a ≤ b) × (b < a + 4)
    fourth (inl e) = (omega (arith, e), omega (arith, e))
    fourth (inr e) = absurd cc

    third : (b ≡ a + 2) ⊎ (is_in b ((a + 3) ∷ []) ≡ true) → (a ≤ b) × (b < a + 4)
    third (inl e) = (omega (arith, e), omega (arith, e))
    third (inr i) = fourth (one-in b (a + 3) [] i)

    second : (b ≡ a + 1) ⊎ (is_in b ((a + 2) ∷ (a + 3) ∷ []) ≡ true) → (a ≤ b) × (b < a + 4)
    second (inl e) = (omega (arith, e), omega (arith, e))
    second (inr i) = third (one-in b (a + 2) ((a + 3) ∷ []) i)

    first : (b ≡ a) ⊎ (is_in b ((a + 1) ∷ (a + 2) ∷ (a + 3) ∷ []) ≡ true) → (a ≤ b) × (b < a + 4)
    first (inl e) = (omega (arith, e), omega (arith, e))
    first (inr i) = second (one-in b (a + 1) ((a + 2) ∷ (a + 3) ∷ []) i)

few-words : (frames : Option ℕ) → frame_words frames ≤ 1024
few-words None = omega arith
few-words (Some start) = omega arith

module _ (w : World) (places : Places) (loaded : Point → Bool) (own : OwnsFrame w places loaded) (word : ℕ) (few : word < 1024) where
  abbrev at : ℕ
  at = frame_word w places word

  private-there : (i : ℕ) → i < 4 → w.uses (at + i) ≡ Private w.hart
  private-there i l = own.uses (at + i) (omega arith) (omega (arith, few, l))

  read-byte : (byte : ℕ) → w.uses byte ≡ Private w.hart → MayRead w.job w.hart (w.uses byte)
  read-byte byte e = subst (λ (j : Job). MayRead j w.hart (w.uses byte)) (sym own.job_is) (subst (λ (u : Use). MayRead (Task own.task) w.hart u) (sym e) refl)

  write-byte : (byte : ℕ) → w.uses byte ≡ Private w.hart → MayWrite w.job w.hart (w.uses byte)
  write-byte byte e = subst (λ (j : Job). MayWrite j w.hart (w.uses byte)) (sym own.job_is) (subst (λ (u : Use). MayWrite (Task own.task) w.hart u) (sym e)
      refl)

  each : (P : ℕ → Type 0) → ((byte : ℕ) → w.uses byte ≡ Private w.hart → P byte) → Within P (touched (one_access Word at))
  each P step = (
    step at (first-there (private-there 0 (omega arith))),
    (
      step (at + 1) (private-there 1 (omega arith)),
      (step (at + 2) (private-there 2 (omega arith)), (step (at + 3) (private-there 3 (omega arith)), tt)),
    ),
  )
    where
      first-there : w.uses (at + 0) ≡ Private w.hart → w.uses at ≡ Private w.hart
      first-there e = let z : at + 0 ≡ at = omega arith in subst (λ b. w.uses b ≡ Private w.hart) z e

  unowned : (byte task : ℕ) → at ≤ byte → byte < at + 4 → w.uses byte ≡ Owned task → ⊥
  unowned byte task l h owned =
      let e : w.uses byte ≡ Private w.hart = own.uses byte (omega (arith, l)) (omega (arith, h, few)) in
      cc

  not-owned : (address task : ℕ) → is_in address (touched (one_access Word at)) ≡ true → w.uses address ≡ Owned task
      → w.rule task (touched (one_access Word at)) ≡ true
  not-owned address task is owned = let k = in-word at address is in absurd (unowned address task k.0 k.1 owned)

-- where there are frames and the hart has such a one, it lies so
pub frames-lie : (w : World) (places : Places) (loaded : Point → Bool) → (0 < frame_words places.frames → OwnsFrame w places loaded)
    → IsFrame w places loaded
frames-lie w places loaded owns = record {
  low = λ word l. let o = own word l in let a = o.below in let b = o.low in let n = few word l in omega (arith, a, b, n);
  may_write = λ word l. let o = own word l in let a = o.above in let b = o.below in let c = o.aligned in let n = few word l in record {
    there = record {
      aligned = omega (arith, c);
      above = omega (arith, a);
      below = omega (arith, b, n);
      may = each w places loaded o word n _ (write-byte w places loaded o word n);
    };
    keeps = not-owned w places loaded o word n;
  };
  may_read = λ word l. let o = own word l in let a = o.above in let b = o.below in let c = o.aligned in let n = few word l in record {
    aligned = omega (arith, c);
    above = omega (arith, a);
    below = omega (arith, b, n);
    may = each w places loaded o word n _ (read-byte w places loaded o word n);
  };
  apart = λ word point l can. let o = own word l in beside word (few word l) point (o.apart point can);
  unowned = λ word byte task l low high. unowned w places loaded (own word l) word (few word l) byte task low high;
}
  where
    few : (word : ℕ) → word < frame_words places.frames → word < 1024
    few word l = let n = few-words places.frames in omega (arith, l, n)

    own : (word : ℕ) → word < frame_words places.frames → OwnsFrame w places loaded
    own word l = owns (omega (arith, l))

    beside : (word : ℕ) → word < 1024 → (point : Point)
        → (address_of w places point + bytes_of places point ≤ frame_start w places) ⊎ (frame_start w places + 4096 ≤ address_of w places point)
        → (address_of w places point + bytes_of places point ≤ frame_word w places word) ⊎ (frame_word w places word + 4 ≤ address_of w places point)
    beside word n point (inl l) = inl (omega (arith, l))
    beside word n point (inr h) = inr (omega (arith, h, n))
