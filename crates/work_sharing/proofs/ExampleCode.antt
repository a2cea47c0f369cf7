-- The example's code, each task alone.
use Rattle.std.proofs.Common.{◌≡◌, ℕ, zero, suc, ◌+◌, ◌-◌, ◌*◌, ◌%◌, ◌^◌, ◌<◌, ◌≤◌, List, length, set, Some, None, true, false, refl, ap, ◌∙◌, sym, subst}
use Rattle.std.proofs.Common.{arith, length-set, get_or-set_other}
use Rattle.std.specs.Prelude.{◌==◌, slice_get, slice_index, pos, replicate}
use Rattle.std.proofs.lemmas.List.{get_or-set_same}
use Rattle.memory.specs.Access.{data_start, byte_at, AreBytes, Word, word_at, put_number, touched, or_else, places_of, access_at, bytes_of}
use Rattle.memory.proofs.Putting.{length-put}
use Rattle.memory.proofs.Words.{word-put}
use Rattle.hart_core.specs.HartState.{HartState, advanced, given, opening_hart}
use Rattle.hart_core.specs.Scalar.{one_access, jump_fault, offset_from, plus}
use Rattle.multi_hart.specs.Run.{Within}
use Rattle.multi_hart_laws.specs.Uses.{Use, Control, Fixed, Owned, Private, Task, Setup, MayRead, MayWrite}
use Rattle.work_sharing.specs.Phases.{Phase, Stands}
use Rattle.work_sharing.specs.Solo.{Leaves, SoonDone}
use Rattle.std.specs.Prelude.{negsuc}
use Rattle.rv_insn.specs.declared.instructions.Insn.TheVariants.{Lui, Jal, AluImm, Shift, Alu}
use Rattle.rv_insn.specs.declared.operations.AluImmOp.TheVariants.{Addi}
use Rattle.rv_insn.specs.declared.operations.ShiftOp.TheVariants.{Slli}
use Rattle.rv_insn.specs.declared.operations.AluOp.TheVariants.{Add, Sub}
use Rattle.work_sharing.specs.Example.{example_text, first_uses, second_uses, first_result, second_result, use_by, byte_by, first_phase, second_phase}
use Rattle.work_sharing.proofs.Control.{wrap-to}
use Rattle.work_sharing.proofs.Phases.{each-of}
use Rattle.work_sharing.proofs.Solo.{All, keeps-none, wp, wp-at, wp-all, wp-store, wp-store-all, wp-load, cover-store, goes-on, goes-past, now}
use Rattle.work_sharing.proofs.Solo.{kept-other}
use Rattle.work_sharing.proofs.ExampleText.{line-0, line-1, line-2, line-3, line-6, line-7, line-8, line-9, line-10, line-11, line-12, line-13}
use Rattle.work_sharing.proofs.ExampleText.{line-14, line-18, line-19, line-22, line-23, line-24, line-25, line-26, line-27, line-28}
use Rattle.work_sharing.proofs.ExampleWords.{word, zeros, use-in, in-word, each-byte, in-touched, byte-put-in, word-by, first-owned, second-owned}
use Rattle.work_sharing.proofs.ExampleWords.{first-private, first-owner, second-owner, first-left, second-left}

owned-at : (words : ℕ → Use) (i t : ℕ) → ((j : ℕ) → words j ≡ Owned t → j ≡ i) → (b : ℕ) → use_by words b ≡ Owned t → (word i ≤ b) × (b < word i + 4)
owned-at words i t f b u =
    let w = in-word words b (λ c. let q : Control ≡ Owned t = sym c ∙ u in cc q) in
    let e = f w.0 (sym (use-in words w.0 b w.1.0 w.1.1) ∙ u) in
    let l = w.1.0 in
    let h = w.1.1 in
    (omega (arith, e, l), omega (arith, e, h))

-- ---- the first phase

module _ (n k t : ℕ) (lk : k < 8) (lt : t < 2) where
  abbrev p : Phase
  p = first_phase n

  abbrev a : ℕ
  a = word (4 + t)

  abbrev own : ℕ
  own = word (8 + k)

  first-jump : (h : HartState) (m : List ℕ) → length m ≡ 64 → Stands p k h 65592 → Leaves p (Task t) m → SoonDone p (Task t) k 1 h m
  first-jump h m l st w =
      let e : offset_from h.pc (negsuc 19) ≡ 65552 = ap (λ q. offset_from q (negsuc 19)) st.pc in
      wp p (Task t) k 0 65592 (Jal 0 (negsuc 19)) h m l st line-14
      (ap (λ q. or_else (jump_fault (Some q)) None) e) (tt, tt, keeps-none p (Task t) k) (record { running = st.running; pc = e; kept = st.kept }, w)

  first-store : (h : HartState) (m : List ℕ) → length m ≡ 64 → Stands p k h 65588 → slice_index h.registers 6 ≡ 4 * t + data_start
      → slice_index h.registers 7 ≡ t + 5 → All p (Task t) k 2 h m
  first-store h m l st e6 e7 =
      let ea : plus (slice_index h.registers 6) (pos 16) ≡ a = ap (λ q. plus q (pos 16)) e6
      ∙ wrap-to (4 * t + data_start + 16) a (omega arith) (omega (arith, lt)) in
      let says = line-13 in
      let al : a % 4 ≡ 0 = omega arith in
      let m1 = put_number m Word a (t + 5) in
      let mine = each-byte (λ b. MayWrite (Task t) k (use_by first_uses b)) a (λ b x y. subst (MayWrite (Task t) k) (sym (use-in first_uses (4 + t) b x y
      ∙ first-owned t lt)) refl) in (
        wp-store p (Task t) k 1 65588 6 7 (pos 16) h m a (t + 5) l st says ea e7 al (omega arith) (omega (arith, lt)) mine (λ b q y z. refl)
            (first-jump (advanced h) m1 (length-put m (places_of (access_at Word a)) (bytes_of Word (t + 5)) ∙ l) (goes-past p k 65588 65592 h refl st)
            (λ b u. let w = owned-at first_uses (4 + t) t (λ j e. first-owner j t e) b u in byte-put-in first_result example_text m (4 + t) (t + 5) b
            (omega (arith, l, lt)) w.0 w.1 (first-left t lt))),
        cover-store p t k 1 65588 6 7 (pos 16) h m a l st says ea al (omega arith) (omega (arith, lt))
            (λ b u. let w = owned-at first_uses (4 + t) t (λ j e. first-owner j t e) b u in in-touched b a w.0 w.1),
      )

  first-sum : (h : HartState) (m : List ℕ) → length m ≡ 64 → Stands p k h 65584 → slice_index h.registers 6 ≡ 4 * t + data_start → slice_index h.registers 7 ≡ t
      → All p (Task t) k 3 h m
  first-sum h m l st e6 e7 =
      let v = (slice_index h.registers 7 + 5) % 2 ^ 32 in
      let e : v ≡ t + 5 = ap (λ q. (q + 5) % 2 ^ 32) e7 ∙ wrap-to (t + 5) (t + 5) refl (omega (arith, lt)) in
      wp-all p (Task t) k 2 65584 (AluImm Addi 7 7 (pos 5)) h m l st line-12 refl (tt, tt, keeps-none p (Task t) k)
      (first-store _ m l (goes-on p k 65584 65588 7 v h refl refl st) (kept-other h 7 6 v _ refl e6) (now p k 65584 h 7 v st refl ∙ e))

  first-place : (h : HartState) (m : List ℕ) → length m ≡ 64 → Stands p k h 65580 → slice_index h.registers 6 ≡ 4 * t → slice_index h.registers 7 ≡ t
      → All p (Task t) k 4 h m
  first-place h m l st e6 e7 =
      let v = (slice_index h.registers 6 + slice_index h.registers 13) % 2 ^ 32 in
      let e : v ≡ 4 * t + data_start = ap (λ q. (q + slice_index h.registers 13) % 2 ^ 32) e6 ∙ ap (λ q. (4 * t + q) % 2 ^ 32) st.kept.ticket
      ∙ wrap-to (4 * t + data_start) (4 * t + data_start) refl (omega (arith, lt)) in
      wp-all p (Task t) k 3 65580 (Alu Add 6 6 13) h m l st line-11 refl (tt, tt, keeps-none p (Task t) k)
      (first-sum _ m l (goes-on p k 65580 65584 6 v h refl refl st) (now p k 65580 h 6 v st refl ∙ e) (kept-other h 6 7 v _ refl e7))

  first-shift : (h : HartState) (m : List ℕ) → length m ≡ 64 → Stands p k h 65576 → slice_index h.registers 12 ≡ t → slice_index h.registers 7 ≡ t
      → All p (Task t) k 5 h m
  first-shift h m l st e12 e7 =
      let v = (slice_index h.registers 12 * 4) % 2 ^ 32 in
      let e : v ≡ 4 * t = ap (λ q. (q * 4) % 2 ^ 32) e12 ∙ wrap-to (t * 4) (4 * t) (omega arith) (omega (arith, lt)) in
      wp-all p (Task t) k 4 65576 (Shift Slli 6 12 2) h m l st line-10 refl (tt, tt, keeps-none p (Task t) k)
      (first-place _ m l (goes-on p k 65576 65580 6 v h refl refl st) (now p k 65576 h 6 v st refl ∙ e) (kept-other h 6 7 v _ refl e7))

  own-byte : (P : Use → Type 0) → P (Private k) → Within (λ b. P (use_by first_uses b)) (touched (one_access Word own))
  own-byte P x = each-byte (λ b. P (use_by first_uses b)) own (λ b l h. subst P (sym (use-in first_uses (8 + k) b l h ∙ first-private k lk)) x)

  own-at : (h : HartState) → slice_index h.registers 5 ≡ 4 * k + data_start → plus (slice_index h.registers 5) (pos 32) ≡ own
  own-at h e5 = ap (λ q. plus q (pos 32)) e5 ∙ wrap-to (4 * k + data_start + 32) own (omega arith) (omega (arith, lk))

  own-aligned : own % 4 ≡ 0
  own-aligned = omega arith

  first-load : (h : HartState) (m : List ℕ) → length m ≡ 64 → Stands p k h 65572 → slice_index h.registers 5 ≡ 4 * k + data_start
      → slice_index h.registers 12 ≡ t → word_at example_text m own ≡ t → All p (Task t) k 6 h m
  first-load h m l st e5 e12 ev =
      wp-load p (Task t) k 5 65572 7 5 (pos 32) h m own t l st line-9 (own-at h e5) ev own-aligned (omega arith) (omega (arith, lk))
      (own-byte (MayRead (Task t) k) refl)
      (first-shift _ m l (goes-on p k 65572 65576 7 t h refl refl st) (kept-other h 7 12 t _ refl e12) (now p k 65572 h 7 t st refl))

  first-own : (h : HartState) (m : List ℕ) → length m ≡ 64 → Stands p k h 65568 → slice_index h.registers 5 ≡ 4 * k + data_start
      → slice_index h.registers 12 ≡ t → All p (Task t) k 7 h m
  first-own h m l st e5 e12 =
      wp-store-all p (Task t) k 6 65568 5 12 (pos 32) h m own t l st line-8 (own-at h e5) e12 own-aligned (omega arith) (omega (arith, lk))
      (own-byte (MayWrite (Task t) k) refl) (λ b q y z. refl)
      (first-load _ (put_number m Word own t) (length-put m (places_of (access_at Word own)) (bytes_of Word t) ∙ l) (goes-past p k 65568 65572 h refl st) e5 e12
      (word-put example_text m own t (omega arith) (omega (arith, l, lk)) (omega (arith, lt))))

  first-base : (h : HartState) (m : List ℕ) → length m ≡ 64 → Stands p k h 65564 → slice_index h.registers 5 ≡ 4 * k → slice_index h.registers 12 ≡ t
      → All p (Task t) k 8 h m
  first-base h m l st e5 e12 =
      let v = (slice_index h.registers 5 + slice_index h.registers 13) % 2 ^ 32 in
      let e : v ≡ 4 * k + data_start = ap (λ q. (q + slice_index h.registers 13) % 2 ^ 32) e5 ∙ ap (λ q. (4 * k + q) % 2 ^ 32) st.kept.ticket
      ∙ wrap-to (4 * k + data_start) (4 * k + data_start) refl (omega (arith, lk)) in
      wp-all p (Task t) k 7 65564 (Alu Add 5 5 13) h m l st line-7 refl (tt, tt, keeps-none p (Task t) k)
      (first-own _ m l (goes-on p k 65564 65568 5 v h refl refl st) (now p k 65564 h 5 v st refl ∙ e) (kept-other h 5 12 v _ refl e12))

  pub first-all : (h : HartState) (m : List ℕ) → length m ≡ 64 → Stands p k h 65560 → slice_index h.registers 12 ≡ t → All p (Task t) k 9 h m
  first-all h m l st e12 =
      let v = (slice_index h.registers 10 * 4) % 2 ^ 32 in
      let e : v ≡ 4 * k = ap (λ q. (q * 4) % 2 ^ 32) st.kept.number ∙ wrap-to (k * 4) (4 * k) (omega arith) (omega (arith, lk)) in
      wp-all p (Task t) k 8 65560 (Shift Slli 5 10 2) h m l st line-6 refl (tt, tt, keeps-none p (Task t) k)
      (first-base _ m l (goes-on p k 65560 65564 5 v h refl refl st) (now p k 65560 h 5 v st refl ∙ e) (kept-other h 5 12 v _ refl e12))

-- ---- the second phase

difference : (t : ℕ) → t < 2 → (2097160 + (2 ^ 32 - 4 * t)) % 2 ^ 32 ≡ 2097160 - 4 * t
difference zero l = refl
difference (suc zero) l = refl
difference (suc (suc t)) l = absurd (omega (arith, l))

other-fixed : (t : ℕ) → t < 2 → second_uses (5 - t) ≡ Fixed
other-fixed zero l = refl
other-fixed (suc zero) l = refl
other-fixed (suc (suc t)) l = absurd (omega (arith, l))

other-left : (t : ℕ) → t < 2 → first_result (5 - t) ≡ 6 - t
other-left zero l = refl
other-left (suc zero) l = refl
other-left (suc (suc t)) l = absurd (omega (arith, l))

module _ (n k t : ℕ) (lt : t < 2) where
  abbrev p2 : Phase
  p2 = second_phase n

  abbrev to : ℕ
  to = word (6 + t)

  abbrev from : ℕ
  from = word (5 - t)

  second-jump : (h : HartState) (m : List ℕ) → length m ≡ 64 → Stands p2 k h 65648 → Leaves p2 (Task t) m → SoonDone p2 (Task t) k 1 h m
  second-jump h m l st w =
      let e : offset_from h.pc (negsuc 15) ≡ 65616 = ap (λ q. offset_from q (negsuc 15)) st.pc in
      wp p2 (Task t) k 0 65648 (Jal 0 (negsuc 15)) h m l st line-28 (ap (λ q. or_else (jump_fault (Some q)) None) e) (tt, tt, keeps-none p2 (Task t) k)
      (record { running = st.running; pc = e; kept = st.kept }, w)

  second-store : (h : HartState) (m : List ℕ) → length m ≡ 64 → Stands p2 k h 65644 → slice_index h.registers 6 ≡ 4 * t + 2097160
      → slice_index h.registers 7 ≡ 16 - t → All p2 (Task t) k 2 h m
  second-store h m l st e6 e7 =
      let ea : plus (slice_index h.registers 6) (pos 16) ≡ to = ap (λ q. plus q (pos 16)) e6
      ∙ wrap-to (4 * t + 2097160 + 16) to (omega arith) (omega (arith, lt)) in
      let al : to % 4 ≡ 0 = omega arith in
      let m1 = put_number m Word to (16 - t) in
      let mine = each-byte (λ b. MayWrite (Task t) k (use_by second_uses b)) to (λ b x y. subst (MayWrite (Task t) k) (sym (use-in second_uses (6 + t) b x y
      ∙ second-owned t lt)) refl) in (
        wp-store p2 (Task t) k 1 65644 6 7 (pos 16) h m to (16 - t) l st line-27 ea e7 al (omega arith) (omega (arith, lt)) mine (λ b q y z. refl)
            (second-jump (advanced h) m1 (length-put m (places_of (access_at Word to)) (bytes_of Word (16 - t)) ∙ l) (goes-past p2 k 65644 65648 h refl st)
            (λ b u. let w = owned-at second_uses (6 + t) t (λ j e. second-owner j t e) b u in byte-put-in second_result example_text m (6 + t) (16 - t) b
            (omega (arith, l, lt)) w.0 w.1 (second-left t lt))),
        cover-store p2 t k 1 65644 6 7 (pos 16) h m to l st line-27 ea al (omega arith) (omega (arith, lt))
            (λ b u. let w = owned-at second_uses (6 + t) t (λ j e. second-owner j t e) b u in in-touched b to w.0 w.1),
      )

  second-sum : (h : HartState) (m : List ℕ) → length m ≡ 64 → Stands p2 k h 65640 → slice_index h.registers 6 ≡ 4 * t + 2097160
      → slice_index h.registers 7 ≡ 6 - t → All p2 (Task t) k 3 h m
  second-sum h m l st e6 e7 =
      let v = (slice_index h.registers 7 + 10) % 2 ^ 32 in
      let e : v ≡ 16 - t = ap (λ q. (q + 10) % 2 ^ 32) e7 ∙ wrap-to (6 - t + 10) (16 - t) (omega (arith, lt)) (omega arith) in
      wp-all p2 (Task t) k 2 65640 (AluImm Addi 7 7 (pos 10)) h m l st line-26 refl (tt, tt, keeps-none p2 (Task t) k)
      (second-store _ m l (goes-on p2 k 65640 65644 7 v h refl refl st) (kept-other h 7 6 v _ refl e6) (now p2 k 65640 h 7 v st refl ∙ e))

  second-place : (h : HartState) (m : List ℕ) → length m ≡ 64 → Stands p2 k h 65636 → slice_index h.registers 6 ≡ 4 * t → slice_index h.registers 7 ≡ 6 - t
      → All p2 (Task t) k 4 h m
  second-place h m l st e6 e7 =
      let v = (slice_index h.registers 6 + slice_index h.registers 13) % 2 ^ 32 in
      let e : v ≡ 4 * t + 2097160 = ap (λ q. (q + slice_index h.registers 13) % 2 ^ 32) e6 ∙ ap (λ q. (4 * t + q) % 2 ^ 32) st.kept.ticket
      ∙ wrap-to (4 * t + 2097160) (4 * t + 2097160) refl (omega (arith, lt)) in
      wp-all p2 (Task t) k 3 65636 (Alu Add 6 6 13) h m l st line-25 refl (tt, tt, keeps-none p2 (Task t) k)
      (second-sum _ m l (goes-on p2 k 65636 65640 6 v h refl refl st) (now p2 k 65636 h 6 v st refl ∙ e) (kept-other h 6 7 v _ refl e7))

  second-load : (h : HartState) (m : List ℕ) → length m ≡ 64 → Stands p2 k h 65632 → slice_index h.registers 5 ≡ 2097160 - 4 * t
      → slice_index h.registers 6 ≡ 4 * t → word_at example_text m from ≡ 6 - t → All p2 (Task t) k 5 h m
  second-load h m l st e5 e6 ev =
      let ea : plus (slice_index h.registers 5) (pos 12) ≡ from = ap (λ q. plus q (pos 12)) e5
      ∙ wrap-to (2097160 - 4 * t + 12) from (omega (arith, lt)) (omega arith) in
      let al : from % 4 ≡ 0 = omega arith in
      wp-load p2 (Task t) k 4 65632 7 5 (pos 12) h m from (6 - t) l st line-24 ea ev al (omega arith) (omega arith)
      (each-byte (λ b. MayRead (Task t) k (use_by second_uses b)) from (λ b x y. subst (MayRead (Task t) k) (sym (use-in second_uses (5 - t) b x y
      ∙ other-fixed t lt)) tt))
      (second-place _ m l (goes-on p2 k 65632 65636 7 (6 - t) h refl refl st) (kept-other h 7 6 (6 - t) _ refl e6) (now p2 k 65632 h 7 (6 - t) st refl))

  second-minus : (h : HartState) (m : List ℕ) → length m ≡ 64 → Stands p2 k h 65628 → slice_index h.registers 6 ≡ 4 * t → word_at example_text m from ≡ 6 - t
      → All p2 (Task t) k 6 h m
  second-minus h m l st e6 ev =
      let v = (slice_index h.registers 13 + (2 ^ 32 - slice_index h.registers 6)) % 2 ^ 32 in
      let e : v ≡ 2097160 - 4 * t = ap (λ q. (q + (2 ^ 32 - slice_index h.registers 6)) % 2 ^ 32) st.kept.ticket
      ∙ ap (λ q. (2097160 + (2 ^ 32 - q)) % 2 ^ 32) e6 ∙ difference t lt in
      wp-all p2 (Task t) k 5 65628 (Alu Sub 5 13 6) h m l st line-23 refl (tt, tt, keeps-none p2 (Task t) k)
      (second-load _ m l (goes-on p2 k 65628 65632 5 v h refl refl st) (now p2 k 65628 h 5 v st refl ∙ e) (kept-other h 5 6 v _ refl e6) ev)

  pub second-all : (h : HartState) (m : List ℕ) → length m ≡ 64 → Stands p2 k h 65624 → slice_index h.registers 12 ≡ t → ((b : ℕ) → use_by second_uses b ≡ Fixed
      → byte_at example_text m b ≡ byte_by first_result b) → All p2 (Task t) k 7 h m
  second-all h m l st e12 given =
      let v = (slice_index h.registers 12 * 4) % 2 ^ 32 in
      let e : v ≡ 4 * t = ap (λ q. (q * 4) % 2 ^ 32) e12 ∙ wrap-to (t * 4) (4 * t) (omega arith) (omega (arith, lt)) in
      let ev : word_at example_text m from ≡ 6 - t = word-by first_result example_text m (5 - t) (λ b x y. given b (use-in second_uses (5 - t) b x y
      ∙ other-fixed t lt)) (let q = other-left t lt in omega (arith, q)) ∙ other-left t lt in
      wp-all p2 (Task t) k 6 65624 (Shift Slli 6 12 2) h m l st line-22 refl (tt, tt, keeps-none p2 (Task t) k)
      (second-minus _ m l (goes-on p2 k 65624 65628 6 v h refl refl st) (now p2 k 65624 h 6 v st refl ∙ e) ev)

-- ---- the ways to the draws

vectors-are : (v : ℕ) (bytes : List ℕ) → slice_get (replicate 32 (replicate 16 0)) v ≡ Some bytes → (length bytes ≡ 16) × AreBytes bytes
vectors-are v bytes e =
    let q = each-of 32 (replicate 16 0) bytes v e in
    (sym (ap length q), subst AreBytes q (λ i. let z : slice_index (replicate 16 0) i ≡ 0 = zeros 16 i in omega (arith, z)))

pub first-way : (n k : ℕ) (m : List ℕ) → length m ≡ 64 → SoonDone (first_phase n) Setup k 4 (opening_hart 65536 n k) m
first-way n k m l =
    let p = first_phase n in
    wp-at p Setup k 3 65536 (Lui 13 512) (opening_hart 65536 n k) m l refl refl line-0 refl (tt, tt, keeps-none p Setup k)
    (wp-at p Setup k 2 65540 (AluImm Addi 14 13 (pos 4)) _ m l refl refl line-1 refl (tt, tt, keeps-none p Setup k)
    (wp-at p Setup k 1 65544 (AluImm Addi 15 0 (pos 1)) _ m l refl refl line-2 refl (tt, tt, keeps-none p Setup k)
    (wp-at p Setup k 0 65548 (AluImm Addi 16 0 (pos 2)) _ m l refl refl line-3 refl (tt, tt, keeps-none p Setup k) (
      record {
        running = refl;
        pc = refl;
        kept = record {
          size = refl;
          vector_count = refl;
          vector_bytes = vectors-are;
          number = refl;
          harts = refl;
          ticket = refl;
          gate = refl;
          one =
              refl;
          tasks = refl;
        };
      },
      tt,
    ))))

pub second-way : (n k : ℕ) (h : HartState) (m : List ℕ) → Stands (first_phase n) k h 65608 → length m ≡ 64 → SoonDone (second_phase n) Setup k 2 h m
second-way n k h m st l =
    let p = second_phase n in
    let o = st.kept in
    let v = (slice_index h.registers 13 + 8) % 2 ^ 32 in
    let xs = set h.registers 13 v in
    let w = (slice_index xs 14 + 8) % 2 ^ 32 in
    let ev : v ≡ 2097160 = ap (λ q. (q + 8) % 2 ^ 32) o.ticket in
    let ew : w ≡ 2097164 = ap (λ q. (q + 8) % 2 ^ 32) (get_or-set_other h.registers 13 14 v 0 (omega arith) ∙ o.gate) in
    let size : length xs ≡ 32 = length-set h.registers 13 v ∙ o.size in
    let pc1 : (h.pc + 4) % 2 ^ 32 ≡ 65612 = ap (λ q. (q + 4) % 2 ^ 32) st.pc in
    let past : (q x : ℕ) → (q == 13) ≡ false → (q == 14) ≡ false → slice_index h.registers q ≡ x
    → slice_index (set xs 14 w) q ≡ x = λ q x a b e. get_or-set_other xs 14 q w 0 (λ y. let z : true ≡ false = sym (ap (λ d. d == 14) y) ∙ b in cc z)
    ∙ get_or-set_other h.registers 13 q v 0 (λ y. let z : true ≡ false = sym (ap (λ d. d == 13) y) ∙ a in cc z) ∙ e in
    wp-at p Setup k 1 65608 (AluImm Addi 13 13 (pos 8)) h m l st.running st.pc line-18 refl (tt, tt, keeps-none p Setup k)
    (wp-at p Setup k 0 65612 (AluImm Addi 14 14 (pos 8)) _ m l st.running pc1 line-19 refl (tt, tt, keeps-none p Setup k) (
      record {
        running = st.running;
        pc = ap (λ q. (q + 4) % 2 ^ 32) pc1;
        kept = record {
          size = length-set xs 14 w ∙ size;
          vector_count = o.vector_count;
          vector_bytes = o.vector_bytes;
          number = past 10 k refl refl o.number;
          harts = past 11 n refl refl o.harts;
          ticket = get_or-set_other xs 14 13 w 0 (omega arith) ∙ get_or-set_same h.registers 13 v 0 (let q = o.size in omega (arith, q)) ∙ ev;
          gate = get_or-set_same xs 14 w 0 (omega (arith, size)) ∙ ew;
          one = past 15 1 refl refl o.one;
          tasks = past 16 2 refl refl o.tasks;
        };
      },
      tt,
    ))
