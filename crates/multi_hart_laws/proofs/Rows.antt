-- Each kind of instruction that gives a register a number and touches no memory.
use Rattle.std.proofs.Common.{◌≡◌, ℕ, ◌+◌, ◌*◌, ◌^◌, ◌<◌, ◌≤◌, List, [], ◌∷◌, length, None, refl, ap, ◌∙◌, sym, subst}
use Rattle.std.specs.Prelude.{ℤ}
use Rattle.rv_insn.specs.declared.instructions.Insn.{Insn}
use Rattle.rv_insn.specs.declared.instructions.Insn.TheVariants.{Lui, AluImm, Shift, Alu}
use Rattle.rv_insn.specs.declared.operations.AluImmOp.{AluImmOp}
use Rattle.rv_insn.specs.declared.operations.ShiftOp.{ShiftOp}
use Rattle.rv_insn.specs.declared.operations.AluOp.{AluOp}
use Rattle.memory.specs.Access.{put, NoAccess, touched, spread, read_by, written_by}
use Rattle.hart_core.specs.HartState.{HartState, register, given}
use Rattle.hart_core.specs.Scalar.{extended, computed, computed_with_immediate, shifted, kind_of, accesses, after, stored}
use Rattle.hart_core.specs.Turn.{fault, numbers_read}
use Rattle.multi_hart.specs.Run.{Within}
use Rattle.multi_hart_laws.specs.Uses.{MayRead, MayWrite}
use Rattle.multi_hart_laws.specs.Alone.{World, Keeps}
use Rattle.multi_hart_laws.specs.Paths.{update, At, Comes, Line}
use Rattle.multi_hart_laws.proofs.Rules.{in-front}
use Rattle.multi_hart_laws.proofs.Paths.{spot, at-given}

pub keeps-none : (w : World) → Keeps w []
keeps-none w a t e u = absurd (cc e)

module _ (w : World) (f : ℕ → ℕ) (m : List ℕ) (l : length m ≡ w.size) where
  pub gives : (i : Insn) (r : ℕ) (v : HartState → ℕ) (u : ℕ) → 1 ≤ r → r < 32
      → kind_of i ≡ NoAccess
      → ((h : HartState) → fault (length w.text) w.size i h ≡ None)
      → ((h : HartState) (read : List ℕ) → after i h read ≡ given h r (v h))
      → ((at : ℕ) (h : HartState) → At at f h → v h ≡ u)
      → Line w (i ∷ []) f m (update f r u) m
  gives i r v u low high none ok is same at s h a =
      let read = numbers_read w.text m h i in
      let eh : after i h read ≡ given h r u = is h read ∙ ap (given h r) (same at h a) in
      let em : put m (touched (written_by (kind_of i) (accesses i h))) (spread (written_by (kind_of i) (accesses i h)) (stored i h read)) ≡ m =
      ap (λ k. put m (touched (written_by k (accesses i h))) (spread (written_by k (accesses i h)) (stored i h read))) none in
      in-front w (Comes (at + 4) (update f r u) m) 0 at i h m l a.running a.pc s.0 (ok h)
      (subst (λ k. Within (λ b. MayRead w.job w.hart (w.uses b)) (touched (read_by k (accesses i h)))) (sym none) tt)
      (subst (λ k. Within (λ b. MayWrite w.job w.hart (w.uses b)) (touched (written_by k (accesses i h)))) (sym none) tt)
      (subst (λ k. Keeps w (touched (written_by k (accesses i h)))) (sym none) (keeps-none w))
      (subst (At (at + 4) (update f r u)) (sym eh) (at-given at r u f h (spot w.text (at + 4) [] s.1).low low high a), em)

  pub alu : (op : AluOp) (r a b : ℕ) → 1 ≤ r → r < 32 → a < 32 → b < 32 → Line w (Alu op r a b ∷ []) f m (update f r (computed op (f a) (f b))) m
  alu op r a b low high la lb =
      gives (Alu op r a b) r (λ h. computed op (register h a) (register h b)) (computed op (f a) (f b)) low high refl (λ h. refl) (λ h read. refl)
      (λ at h s. ap (λ n. computed op n (register h b)) (s.same a la) ∙ ap (computed op (f a)) (s.same b lb))

  pub alu-imm : (op : AluImmOp) (r a : ℕ) (z : ℤ) → 1 ≤ r → r < 32 → a < 32
      → Line w (AluImm op r a z ∷ []) f m (update f r (computed_with_immediate op (f a) (extended z))) m
  alu-imm op r a z low high la =
      gives (AluImm op r a z) r (λ h. computed_with_immediate op (register h a) (extended z)) (computed_with_immediate op (f a) (extended z)) low high refl
      (λ h. refl) (λ h read. refl)
      (λ at h s. ap (λ n. computed_with_immediate op n (extended z)) (s.same a la))

  pub shift : (op : ShiftOp) (r a n : ℕ) → 1 ≤ r → r < 32 → a < 32 → Line w (Shift op r a n ∷ []) f m (update f r (shifted op (f a) n)) m
  shift op r a n low high la =
      gives (Shift op r a n) r (λ h. shifted op (register h a) n) (shifted op (f a) n) low high refl (λ h. refl) (λ h read. refl)
      (λ at h s. ap (λ x. shifted op x n) (s.same a la))

  pub lui : (r n : ℕ) → 1 ≤ r → r < 32 → Line w (Lui r n ∷ []) f m (update f r (n * 2 ^ 12)) m
  lui r n low high =
      gives (Lui r n) r (λ h. n * 2 ^ 12) (n * 2 ^ 12) low high refl (λ h. refl) (λ h read. refl) (λ at h s. refl)
