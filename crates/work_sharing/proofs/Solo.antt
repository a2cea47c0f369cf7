-- Rules for the run of one job alone: one more instruction in front, and a counted loop.
use Rattle.multi_hart_laws.specs.Alone.{Covers, Says, Keeps}
use Rattle.multi_hart.specs.Run.{Within, is_in, writes}
use Rattle.std.proofs.Common.{◌≡◌, ℕ, zero, suc, ◌+◌, ◌*◌, ◌%◌, ◌^◌, ◌≤◌, List, length, set, None, Bool, true, false, refl, ap, ◌∙◌, sym, subst, arith, inl}
use Rattle.std.proofs.Common.{inr, get_or-set_other, []}
use Rattle.std.specs.Prelude.{◌≢◌, ◌==◌, ◌||◌, not, slice_index, nat_lt, ℤ}
use Rattle.std.proofs.lemmas.Bool.{ltb-true}
use Rattle.std.proofs.lemmas.Bool.Decides.{nat_tests}
use Rattle.std.proofs.lemmas.List.{get_or-set_same}
use Rattle.rv_insn.specs.declared.instructions.Insn.{Insn}
use Rattle.rv_insn.specs.declared.instructions.Insn.TheVariants.{Load}
use Rattle.rv_insn.specs.declared.operations.LoadOp.TheVariants.{Lw}
use Rattle.memory.specs.Access.{data_start, Word, Reads, word_at, put_number, first_fault, touched, read_by, written_by, or_else, Writes}
use Rattle.hart_core.specs.declared.harts.Status.TheVariants.{Running}
use Rattle.hart_core.specs.HartState.{HartState, advanced, register, given}
use Rattle.hart_core.specs.Scalar.{one_access, kind_of, accesses, plus}
use Rattle.hart_core.specs.Turn.{Does, done, numbers_read, applied, step, fault}
use Rattle.multi_hart_laws.specs.Uses.{Owned, Job, Task, Setup, MayRead, MayWrite}
use Rattle.work_sharing.specs.Phases.{Phase, Stands}
use Rattle.work_sharing.specs.Solo.{world, SoonDone}
use Rattle.rv_insn.specs.declared.instructions.Insn.TheVariants.{Store}
use Rattle.rv_insn.specs.declared.operations.StoreOp.TheVariants.{Sw}
use Rattle.multi_hart_laws.proofs.Rules.{effect-does, next-by, left, in-front}
use Rattle.work_sharing.proofs.Control.{kept-set}

-- the bytes that a task owns are written in the next turns
abbrev pub Cover : Phase → Job → ℕ → HartState → List ℕ → Type 0
Cover p Setup n h m = Unit {0}
Cover p (Task t) n h m = (a : ℕ) → p.uses a ≡ Owned t → p.writes t a ≡ true → Covers p.text p.size n h m a

abbrev pub All : Phase → Job → ℕ → ℕ → HartState → List ℕ → Type 0
All p x k n h m = SoonDone p x k n h m × Cover p x n h m

-- one instruction more in front
abbrev pub May : Phase → Job → ℕ → Insn → HartState → Type 0
May p x k i h =
    Within (λ a. MayRead x k (p.uses a)) (touched (read_by (kind_of i) (accesses i h)))
    × Within (λ a. MayWrite x k (p.uses a)) (touched (written_by (kind_of i) (accesses i h)))
    × Keeps (world p x k) (touched (written_by (kind_of i) (accesses i h)))

pub keeps-none : (p : Phase) (x : Job) (k : ℕ) → Keeps (world p x k) []
keeps-none p x k a t e u = absurd (cc e)

pub wp-at : (p : Phase) (x : Job) (k n at : ℕ) (i : Insn) (h : HartState) (m : List ℕ) → length m ≡ p.size → h.status ≡ Running → h.pc ≡ at → Says p.text at i
    → fault (length p.text) p.size i h ≡ None
    → May p x k i h
    → SoonDone p x k n (left (world p x k) m h i).0 (left (world p x k) m h i).1
    → SoonDone p x k (suc n) h m
wp-at p x k n at i h m l r c w f may s = in-front (world p x k) _ n at i h m l r c w f may.0 may.1 may.2 s

pub wp : (p : Phase) (x : Job) (k n at : ℕ) (i : Insn) (h : HartState) (m : List ℕ) → length m ≡ p.size → Stands p k h at → Says p.text at i
    → fault (length p.text) p.size i h ≡ None
    → May p x k i h
    → SoonDone p x k n (left (world p x k) m h i).0 (left (world p x k) m h i).1
    → SoonDone p x k (suc n) h m
wp p x k n at i h m l st w f may s = wp-at p x k n at i h m l st.running st.pc w f may s

-- and what is covered later
cover-later : (p : Phase) (x : Job) (k n at : ℕ) (i : Insn) (h : HartState) (m : List ℕ) → length m ≡ p.size → Stands p k h at → Says p.text at i
    → fault (length p.text) p.size i h ≡ None
    → Cover p x n (left (world p x k) m h i).0 (left (world p x k) m h i).1 → Cover p x (suc n) h m
cover-later p Setup k n at i h m l st w f c = tt
cover-later p (Task t) k n at i h m l st w f c =
    let e = next-by p.text p.size h at i st.running st.pc w f in
    let q : step p.text m h ≡ applied m (done h i (numbers_read p.text m h i)) = ap (applied m) (effect-does p.text p.size m h (Does i) l e) in
    λ a u b. inr (subst (λ y. Covers p.text p.size n y.hart y.memory a) (sym q) (c a u b))

pub wp-all : (p : Phase) (x : Job) (k n at : ℕ) (i : Insn) (h : HartState) (m : List ℕ) → length m ≡ p.size → Stands p k h at → Says p.text at i
    → fault (length p.text) p.size i h ≡ None
    → May p x k i h
    → All p x k n (left (world p x k) m h i).0 (left (world p x k) m h i).1
    → All p x k (suc n) h m
wp-all p x k n at i h m l st w f may s = (wp p x k n at i h m l st w f may s.0, cover-later p x k n at i h m l st w f s.1)

-- ---- what is after an instruction

-- a register that the phase doesn't keep
abbrev pub is_free : ℕ → Bool
is_free r = not (r == 10 || r == 11 || r == 13 || r == 14 || r == 15 || r == 16)

pub goes-on : (p : Phase) (k at next r v : ℕ) (h : HartState) → (at + 4) % 2 ^ 32 ≡ next → is_free r ≡ true → Stands p k h at
    → Stands p k (record h { pc = (h.pc + 4) % 2 ^ 32; registers = set h.registers r v }) next
goes-on p k at next r v h e f st = record {
  running = st.running;
  pc = ap (λ a. (a + 4) % 2 ^ 32) st.pc ∙ e;
  kept = kept-set p k h.registers h.vectors r v (apart 10 f refl) (apart 11 f refl) (apart 13 f refl) (apart 14 f refl) (apart 15 f refl) (apart 16 f refl)
      st.kept;
}
  where
    apart : (q : ℕ) → is_free r ≡ true → is_free q ≡ false → q ≢ r
    apart q f n e = let x : is_free q ≡ true = ap is_free e ∙ f in let y : true ≡ false = sym x ∙ n in cc y

pub goes-past : (p : Phase) (k at next : ℕ) (h : HartState) → (at + 4) % 2 ^ 32 ≡ next → Stands p k h at → Stands p k (advanced h) next
goes-past p k at next h e st = record { running = st.running; pc = ap (λ a. (a + 4) % 2 ^ 32) st.pc ∙ e; kept = st.kept }

pub now : (p : Phase) (k at : ℕ) (h : HartState) (r v : ℕ) → Stands p k h at → nat_lt r 32 ≡ true → slice_index (set h.registers r v) r ≡ v
now p k at h r v st l = get_or-set_same h.registers r v 0 (let s = st.kept.size in let q = ltb-true r 32 l in omega (arith, s, q))

pub kept-other : (h : HartState) (r q v w : ℕ) → (q == r) ≡ false → slice_index h.registers q ≡ w → slice_index (set h.registers r v) q ≡ w
kept-other h r q v w n e = get_or-set_other h.registers r q v 0 (λ y. let x : (q == r) ≡ true = grind (arith, nat_tests) in let z : true ≡ false = sym x
    ∙ n in cc z) ∙ e

-- ---- words

pub store-ok : (w n a : ℕ) → a % 4 ≡ 0 → data_start ≤ a → a + 4 ≤ data_start + n → or_else (first_fault w n Writes (one_access Word a)) None ≡ None
store-ok w n a e l h = grind (arith, nat_tests)

pub load-ok : (w n a : ℕ) → a % 4 ≡ 0 → data_start ≤ a → a + 4 ≤ data_start + n → or_else (first_fault w n Reads (one_access Word a)) None ≡ None
load-ok w n a e l h = grind (arith, nat_tests)

-- a word that is stored at a, where the job may write it
pub wp-store : (p : Phase) (x : Job) (k n at rs1 rs2 : ℕ) (imm : ℤ) (h : HartState) (m : List ℕ) (a v : ℕ) → length m ≡ p.size → Stands p k h at
    → Says p.text at (Store Sw rs1 rs2 imm)
    → plus (register h rs1) imm ≡ a → register h rs2 ≡ v → a % 4 ≡ 0 → data_start ≤ a → a + 4 ≤ data_start + p.size
    → Within (λ b. MayWrite x k (p.uses b)) (touched (one_access Word a)) → Keeps (world p x k) (touched (one_access Word a))
    → SoonDone p x k n (advanced h) (put_number m Word a v) → SoonDone p x k (suc n) h m
wp-store p x k n at rs1 rs2 imm h m a v l st w ea ev al lo hi wr kp s =
    wp p x k n at (Store Sw rs1 rs2 imm) h m l st w
    (ap (λ b. or_else (first_fault (length p.text) p.size Writes (one_access Word b)) None) ea ∙ store-ok (length p.text) p.size a al lo hi) (
      tt,
      subst (λ b. Within (λ b1. MayWrite x k (p.uses b1)) (touched (one_access Word b))) (sym ea) wr,
      subst (λ b. Keeps (world p x k)
          (touched (one_access Word b))) (sym ea) kp,
    )
    (subst (λ b. SoonDone p x k n (advanced h) (put_number m Word b (register h rs2))) (sym ea)
    (subst (λ b. SoonDone p x k n (advanced h) (put_number m Word a b)) (sym ev) s))

pub wp-store-all : (p : Phase) (x : Job) (k n at rs1 rs2 : ℕ) (imm : ℤ) (h : HartState) (m : List ℕ) (a v : ℕ) → length m ≡ p.size → Stands p k h at
    → Says p.text at (Store Sw rs1 rs2 imm)
    → plus (register h rs1) imm ≡ a → register h rs2 ≡ v → a % 4 ≡ 0 → data_start ≤ a → a + 4 ≤ data_start + p.size
    → Within (λ b. MayWrite x k (p.uses b)) (touched (one_access Word a)) → Keeps (world p x k) (touched (one_access Word a))
    → All p x k n (advanced h) (put_number m Word a v) → All p x k (suc n) h m
wp-store-all p x k n at rs1 rs2 imm h m a v l st w ea ev al lo hi wr kp s =
    wp-all p x k n at (Store Sw rs1 rs2 imm) h m l st w
    (ap (λ b. or_else (first_fault (length p.text) p.size Writes (one_access Word b)) None) ea ∙ store-ok (length p.text) p.size a al lo hi) (
      tt,
      subst (λ b. Within (λ b1. MayWrite x k (p.uses b1)) (touched (one_access Word b))) (sym ea) wr,
      subst (λ b. Keeps (world p x k)
          (touched (one_access Word b))) (sym ea) kp,
    )
    (subst (λ b. All p x k n (advanced h) (put_number m Word b (register h rs2))) (sym ea) (subst (λ b. All p x k n (advanced h) (put_number m Word a b))
    (sym ev) s))

-- the same, and the word is covered later, or is what the task owns
pub cover-store : (p : Phase) (t k n at rs1 rs2 : ℕ) (imm : ℤ) (h : HartState) (m : List ℕ) (a : ℕ) → length m ≡ p.size → Stands p k h at
    → Says p.text at (Store Sw rs1 rs2 imm)
    → plus (register h rs1) imm ≡ a → a % 4 ≡ 0 → data_start ≤ a → a + 4 ≤ data_start + p.size
    → ((b : ℕ) → p.uses b ≡ Owned t → is_in b (touched (one_access Word a)) ≡ true)
    → Cover p (Task t) (suc n) h m
cover-store p t k n at rs1 rs2 imm h m a l st w ea al lo hi f b u y =
    let e = next-by p.text p.size h at (Store Sw rs1 rs2 imm) st.running st.pc w
    (ap (λ b. or_else (first_fault (length p.text) p.size Writes (one_access Word b)) None) ea ∙ store-ok (length p.text) p.size a al lo hi) in
    inl (ap (λ y. is_in b (writes y h)) e ∙ ap (λ y. is_in b (touched (one_access Word y))) ea ∙ f b u)

-- a word that is loaded from a, where the job may read it
pub wp-load : (p : Phase) (x : Job) (k n at rd rs1 : ℕ) (imm : ℤ) (h : HartState) (m : List ℕ) (a v : ℕ) → length m ≡ p.size → Stands p k h at
    → Says p.text at (Load Lw rd rs1 imm)
    → plus (register h rs1) imm ≡ a → word_at p.text m a ≡ v → a % 4 ≡ 0 → data_start ≤ a → a + 4 ≤ data_start + p.size
    → Within (λ b. MayRead x k (p.uses b)) (touched (one_access Word a))
    → All p x k n (given h rd v) m → All p x k (suc n) h m
wp-load p x k n at rd rs1 imm h m a v l st w ea ev al lo hi rd1 s =
    wp-all p x k n at (Load Lw rd rs1 imm) h m l st w
    (ap (λ b. or_else (first_fault (length p.text) p.size Reads (one_access Word b)) None) ea ∙ load-ok (length p.text) p.size a al lo hi)
    (subst (λ b. Within (λ b1. MayRead x k (p.uses b1)) (touched (one_access Word b))) (sym ea) rd1, tt, keeps-none p x k)
    (subst (λ y. All p x k n (given h rd y) m) (sym (ap (word_at p.text m) ea ∙ ev)) s)

-- a counted loop: P i holds with i iterations to go, and an iteration takes c turns
pub rounds : (p : Phase) (x : Job) (k c n : ℕ) (P : ℕ → HartState → List ℕ → Type 0) → ((i r : ℕ) (h : HartState) (m : List ℕ) → P (suc i) h m
    → ((h1 : HartState) (m1 : List ℕ) → P i h1 m1 → SoonDone p x k r h1 m1) → SoonDone p x k (c + r) h m) → ((h : HartState) (m : List ℕ) → P 0 h m
    → SoonDone p x k n h m) → (i : ℕ) (h : HartState) (m : List ℕ) → P i h m → SoonDone p x k (i * c + n) h m
rounds p x k c n P body rest zero h m o = subst (λ y. SoonDone p x k y h m) (let e : n ≡ 0 * c + n = omega arith in e) (rest h m o)
rounds p x k c n P body rest (suc i) h m o = subst (λ y. SoonDone p x k y h m) (let e : c + (i * c + n) ≡ suc i * c + n = omega arith in e)
    (body i (i * c + n) h m o (λ h1 m1 o1. rounds p x k c n P body rest i h1 m1 o1))
