-- What operations make of registers, one instruction after the other.
use Rattle.std.proofs.Common.{◌≡◌, ℕ, ◌^◌, ◌<◌, List, [], ◌∷◌, ◌++◌, length, Bool, refl, ap, ◌∙◌, sym, subst, arith, inl, inr}
use Rattle.std.specs.Prelude.{◌≢◌, ◌⊎◌, ◌==◌, if◌then◌else◌, nat_lt, not, pos, OnOk, IfErr, IfOk, Result, Ok, Err}
use Rattle.rv_insn.specs.declared.instructions.Insn.{Insn}
use Rattle.rv_insn.specs.declared.instructions.Insn.TheVariants.{Alu, AluImm}
use Rattle.rv_insn.specs.declared.operations.AluImmOp.TheVariants as alu_imms
use Rattle.rv_insn.specs.declared.operations.AluOp.{AluOp}
use Rattle.rv_insn.specs.declared.operations.AluOp.TheVariants as alus
use Rattle.hart_core.specs.Scalar.{computed, one_if}
use Rattle.lanes.specs.Words as lanes
use Rattle.halide_pipeline.specs.declared.expressions.Operation.{Operation}
use Rattle.halide_pipeline.specs.declared.expressions.Operation.TheVariants as op
use Rattle.halide_pipeline.specs.Words as word
use Rattle.multi_hart_laws.specs.Alone.{World}
use Rattle.task_code_scalar.specs.declared.CodeFault.{CodeFault}
use Rattle.task_code_scalar.specs.declared.CodeFault.TheVariants as faults
use Rattle.task_code_scalar.specs.Faults.{IsFault}
use Rattle.task_code_scalar.specs.Words.{Emits}
use Rattle.task_code_scalar.proofs.Spelling.{emits_then}
use Rattle.task_code_scalar.proofs.Numbers.{blended, not-zero, swapped, less-is, equal-is, not-equal-is}
use Rattle.multi_hart_laws.proofs.Paths.{line-then}
use Rattle.task_code_scalar.proofs.Values.{Sets, alu-sets, imm-sets}
use Rattle.task_code_registers.specs.Emitting.{Puts}
use Rattle.task_code_registers.specs.Registers.{zero_register, scratch, second_scratch, IsPlace, IsSource}
use Rattle.task_code_registers.proofs.Making.{puts-set, puts-is, short-then}
use Rattle.task_code_values.specs.Making.{MakesOfTwo, Blends, Selects}

13-14 : scratch ≢ second_scratch
13-14 e = omega (arith, e)

-- ---- one instruction after another

-- a scratch register or r itself is set first
pub sets-then : (w : World) (m : List ℕ) (l : length m ≡ w.size) {is js : List Insn} {f : ℕ → ℕ} {c r u v : ℕ} → (a : Sets w m l is f c u)
    → (c ≡ scratch) ⊎ ((c ≡ second_scratch) ⊎ (c ≡ r)) → Puts w m js a.after r v → Puts w m (is ++ js) f r v
sets-then w m l {is} {js} {f} {c} {r} {u} {v} a o b = record {
  after = b.after;
  line = line-then w is js f a.after b.after m m m a.line b.line;
  value = b.value;
  others = λ q n x y. b.others q n x y ∙ a.others q (λ e. omega (arith, o, n, x, y, e));
}

-- ---- one instruction

module _ (r a b : ℕ) (place : IsPlace r) (sa : IsSource a) (sb : IsSource b) (c0 c1 : List ℕ) where
  pub two-of : (o : AluOp) (says : ℕ → ℕ → ℕ) → Emits c0 c1 (Alu o r a b ∷ []) → ((x y : ℕ) → x < 2 ^ 32 → y < 2 ^ 32 → computed o x y ≡ says x y)
      → MakesOfTwo c0 c1 4 r a b says
  two-of o says x is = record {
    insns = Alu o r a b ∷ [];
    emits = x;
    short = omega arith;
    does = λ w m f l zero la lb.
        puts-set w m l (is (f a) (f b) la lb) (alu-sets w m l o f r a b (f a) (f b) place.0.0 place.0.1 sa.0 sb.0 refl refl);
  }

  -- with the operands the other way round
  pub two-swapped : (o : AluOp) (says : ℕ → ℕ → ℕ) → Emits c0 c1 (Alu o r b a ∷ []) → ((x y : ℕ) → x < 2 ^ 32 → y < 2 ^ 32 → computed o y x ≡ says x y)
      → MakesOfTwo c0 c1 4 r a b says
  two-swapped o says x is = record {
    insns = Alu o r b a ∷ [];
    emits = x;
    short = omega arith;
    does = λ w m f l zero la lb.
        puts-set w m l (is (f a) (f b) la lb) (alu-sets w m l o f r b a (f b) (f a) place.0.0 place.0.1 sb.0 sa.0 refl refl);
  }

-- ---- one number or another

pub blend-made : (r a b : ℕ) (c0 c1 c2 c3 : List ℕ) → IsPlace r → IsSource a × IsSource b → Emits c0 c1 (Alu alus.Sub second_scratch b a ∷ [])
    → Emits c1 c2 (Alu alus.Mul second_scratch second_scratch scratch ∷ []) → Emits c2 c3 (Alu alus.Add r a second_scratch ∷ []) → Blends c0 c3 r a b
blend-made r a b c0 c1 c2 c3 place sources x y z = record {
  insns = Alu alus.Sub second_scratch b a ∷ Alu alus.Mul second_scratch second_scratch scratch ∷ Alu alus.Add r a second_scratch ∷ [];
  emits = emits_then x (emits_then y z);
  short = omega arith;
  does = λ w m f t l tells la lb.
      let ha = sources.0.0 in
      let hb = sources.1.0 in
      let a14 = sources.0.1.1 in
      let d = lanes.sub 32 (f b) (f a) in
      let i1 = alu-sets w m l alus.Sub f second_scratch b a (f b) (f a) (omega arith) (omega arith) hb ha refl refl in
      let i2 = alu-sets w m l alus.Mul i1.after second_scratch second_scratch scratch d (one_if t) (omega arith) (omega arith) (omega arith) (omega
      arith) i1.value
      (i1.others scratch 13-14 ∙ tells) in
      let i3 = alu-sets w m l alus.Add i2.after r a second_scratch (f a) (lanes.multiply 32 d (one_if t)) place.0.0 place.0.1 ha (omega arith)
      (i2.others a a14 ∙ i1.others a a14) i2.value in
      sets-then w m l i1 (inr (inl refl))
      (sets-then w m l i2 (inr (inl refl)) (puts-set w m l (blended t (f a) (f b) la lb) i3));
}

module _ (r a b : ℕ) (place : IsPlace r) (sa : IsSource a) (sb : IsSource b) (c0 c1 c2 : List ℕ) where
  -- by what a comparison tells
  pub two-chosen : (u v : ℕ) (says : ℕ → ℕ → ℕ) (test : ℕ → ℕ → Bool) → u < 32 → v < 32 → Emits c0 c1 (Alu alus.Slt scratch u v ∷ []) → Blends c1 c2 r a b
      → ((f : ℕ → ℕ) → lanes.less_signed 32 (f u) (f v) ≡ test (f a) (f b))
      → ((x y : ℕ) → x < 2 ^ 32 → y < 2 ^ 32 → (if test x y then y else x) ≡ says x y) → MakesOfTwo c0 c2 4 r a b says
  two-chosen u v says test lu lv x y tells is = record {
    insns = (Alu alus.Slt scratch u v ∷ []) ++ y.insns;
    emits = emits_then x y.emits;
    short = short-then (Alu alus.Slt scratch u v ∷ []) y.insns 1 3 4 (omega arith) y.short (omega arith);
    does = λ w m f l zero la lb.
        let i1 = alu-sets w m l alus.Slt f scratch u v (f u) (f v) (omega arith) (omega arith) lu lv refl refl in
        let ea = i1.others a sa.1.0 in
        let eb = i1.others b sb.1.0 in
        let i2 = y.does w m i1.after (test (f a) (f b)) l (i1.value ∙ ap one_if (tells f)) (subst (λ n. n < 2 ^ 32) (sym ea) la) (subst (λ n. n < 2 ^
        32) (sym eb) lb) in
        let e : (if test (f a) (f b) then i1.after b else i1.after a) ≡ says (f a) (f b) =
        ap (λ n. if test (f a) (f b) then n else i1.after a) eb ∙ ap (λ n. if test (f a) (f b) then f b else n) ea ∙ is (f a) (f b) la lb in
        sets-then w m l i1 (inl refl) (puts-is w m l e i2);
  }

  -- 1 where the operation gives 0, else 0
  pub two-opposite : (o : AluOp) (u v : ℕ) (says : ℕ → ℕ → ℕ) → u < 32 → v < 32 → Emits c0 c1 (Alu o r u v ∷ [])
      → Emits c1 c2 (AluImm alu_imms.Sltiu r r (pos 1) ∷ [])
      → ((f : ℕ → ℕ) → f a < 2 ^ 32 → f b < 2 ^ 32 → one_if (nat_lt (computed o (f u) (f v)) 1) ≡ says (f a) (f b)) → MakesOfTwo c0 c2 4 r a b says
  two-opposite o u v says lu lv x y is = record {
    insns = Alu o r u v ∷ AluImm alu_imms.Sltiu r r (pos 1) ∷ [];
    emits = emits_then x y;
    short = omega arith;
    does = λ w m f l zero la lb.
        let low = place.0.0 in
        let high = place.0.1 in
        let i1 = alu-sets w m l o f r u v (f u) (f v) low high lu lv refl refl in
        let i2 = imm-sets w m l alu_imms.Sltiu i1.after r r (pos 1) (computed o (f u) (f v)) low high high i1.value in
        sets-then w m l i1 (inr (inr refl)) (puts-set w m l (is f la lb) i2);
  }

  -- 1 where the difference isn't 0, else 0
  pub two-different : (says : ℕ → ℕ → ℕ) → Emits c0 c1 (Alu alus.Sub r a b ∷ []) → Emits c1 c2 (Alu alus.Sltu r zero_register r ∷ [])
      → ((x y : ℕ) → x < 2 ^ 32 → y < 2 ^ 32 → one_if (nat_lt 0 (lanes.sub 32 x y)) ≡ says x y) → MakesOfTwo c0 c2 4 r a b says
  two-different says x y is = record {
    insns = Alu alus.Sub r a b ∷ Alu alus.Sltu r zero_register r ∷ [];
    emits = emits_then x y;
    short = omega arith;
    does = λ w m f l zero la lb.
        let low = place.0.0 in
        let high = place.0.1 in
        let z : zero_register ≢ r = (λ e. omega (arith, low, e)) in
        let i1 = alu-sets w m l alus.Sub f r a b (f a) (f b) low high sa.0 sb.0 refl refl in
        let i2 = alu-sets w m l alus.Sltu i1.after r zero_register r 0 (lanes.sub 32 (f a) (f b)) low high (omega arith) high (i1.others
        zero_register z ∙ zero) i1.value in
        sets-then w m l i1 (inr (inr refl)) (puts-set w m l (is (f a) (f b) la lb) i2);
  }

-- ---- operations

module _ (r a b : ℕ) (requires : IsPlace r × (IsSource a × IsSource b)) where
  abbrev Made : List ℕ → List ℕ → Operation → Type 0
  Made c0 c1 o = MakesOfTwo c0 c1 4 r a b (word.applied o)

  abbrev place : IsPlace r
  place = requires.0

  abbrev sa : IsSource a
  sa = requires.1.0

  abbrev sb : IsSource b
  sb = requires.1.1

  pub made-as : (o operation : Operation) (c0 c1 : List ℕ) → operation ≡ o → Made c0 c1 o → Made c0 c1 operation
  made-as o operation c0 c1 e x = subst (λ k. Made c0 c1 k) (sym e) x

  pub made-add : (c0 c1 : List ℕ) → Emits c0 c1 (Alu alus.Add r a b ∷ []) → Made c0 c1 op.Add
  unfolding word.add
  made-add c0 c1 x = two-of r a b place sa sb c0 c1 alus.Add (word.applied op.Add) x (λ x y lx ly. refl)

  pub made-subtract : (c0 c1 : List ℕ) → Emits c0 c1 (Alu alus.Sub r a b ∷ []) → Made c0 c1 op.Subtract
  unfolding word.subtract
  made-subtract c0 c1 x = two-of r a b place sa sb c0 c1 alus.Sub (word.applied op.Subtract) x (λ x y lx ly. refl)

  pub made-multiply : (c0 c1 : List ℕ) → Emits c0 c1 (Alu alus.Mul r a b ∷ []) → Made c0 c1 op.Multiply
  unfolding word.multiply
  made-multiply c0 c1 x = two-of r a b place sa sb c0 c1 alus.Mul (word.applied op.Multiply) x (λ x y lx ly. refl)

  pub made-minimum : (c0 c1 c2 : List ℕ) → Emits c0 c1 (Alu alus.Slt scratch b a ∷ []) → Blends c1 c2 r a b → Made c0 c2 op.Minimum
  made-minimum c0 c1 c2 x y =
      two-chosen r a b place sa sb c0 c1 c2 b a (word.applied op.Minimum) (λ x y. lanes.less_signed 32 y x) sb.0 sa.0 x y (λ f. refl)
      (λ x y lx ly. ap (λ t. if t then y else x) (less-is y x ly lx))

  pub made-maximum : (c0 c1 c2 : List ℕ) → Emits c0 c1 (Alu alus.Slt scratch a b ∷ []) → Blends c1 c2 r a b → Made c0 c2 op.Maximum
  made-maximum c0 c1 c2 x y =
      two-chosen r a b place sa sb c0 c1 c2 a b (word.applied op.Maximum) (λ x y. lanes.less_signed 32 x y) sa.0 sb.0 x y (λ f. refl)
      (λ x y lx ly. ap (λ t. if t then y else x) (less-is x y lx ly))

  pub made-less : (c0 c1 : List ℕ) → Emits c0 c1 (Alu alus.Slt r a b ∷ []) → Made c0 c1 op.Less
  made-less c0 c1 x = two-of r a b place sa sb c0 c1 alus.Slt (word.applied op.Less) x (λ x y lx ly. ap one_if (less-is x y lx ly))

  pub made-greater : (c0 c1 : List ℕ) → Emits c0 c1 (Alu alus.Slt r b a ∷ []) → Made c0 c1 op.Greater
  made-greater c0 c1 x = two-swapped r a b place sa sb c0 c1 alus.Slt (word.applied op.Greater) x (λ x y lx ly. ap one_if (less-is y x ly lx))

  pub made-less-or-equal : (c0 c1 c2 : List ℕ) → Emits c0 c1 (Alu alus.Slt r b a ∷ []) → Emits c1 c2 (AluImm alu_imms.Sltiu r r (pos 1) ∷ [])
      → Made c0 c2 op.LessOrEqual
  made-less-or-equal c0 c1 c2 x y =
      two-opposite r a b place sa sb c0 c1 c2 alus.Slt b a (word.applied op.LessOrEqual) sb.0 sa.0 x y
      (λ f la lb. swapped (lanes.less_signed 32 (f b) (f a)) ∙ ap (λ t. one_if (not t)) (less-is (f b) (f a) lb la))

  pub made-greater-or-equal : (c0 c1 c2 : List ℕ) → Emits c0 c1 (Alu alus.Slt r a b ∷ []) → Emits c1 c2 (AluImm alu_imms.Sltiu r r (pos 1) ∷ [])
      → Made c0 c2 op.GreaterOrEqual
  made-greater-or-equal c0 c1 c2 x y =
      two-opposite r a b place sa sb c0 c1 c2 alus.Slt a b (word.applied op.GreaterOrEqual) sa.0 sb.0 x y
      (λ f la lb. swapped (lanes.less_signed 32 (f a) (f b)) ∙ ap (λ t. one_if (not t)) (less-is (f a) (f b) la lb))

  pub made-equal : (c0 c1 c2 : List ℕ) → Emits c0 c1 (Alu alus.Sub r a b ∷ []) → Emits c1 c2 (AluImm alu_imms.Sltiu r r (pos 1) ∷ []) → Made c0 c2 op.Equal
  made-equal c0 c1 c2 x y =
      two-opposite r a b place sa sb c0 c1 c2 alus.Sub a b (word.applied op.Equal) sa.0 sb.0 x y (λ f la lb. ap one_if (equal-is (f a) (f b) la lb))

  pub made-not-equal : (c0 c1 c2 : List ℕ) → Emits c0 c1 (Alu alus.Sub r a b ∷ []) → Emits c1 c2 (Alu alus.Sltu r zero_register r ∷ [])
      → Made c0 c2 op.NotEqual
  made-not-equal c0 c1 c2 x y =
      two-different r a b place sa sb c0 c1 c2 (word.applied op.NotEqual) x y (λ x y lx ly. ap one_if (not-equal-is x y lx ly))

-- ---- choices

pub selection-made : (r c a b : ℕ) (c0 c1 c2 : List ℕ) → IsPlace r × (IsSource c × (IsSource a × IsSource b)) → Emits c0 c1 (Alu alus.Sltu scratch
    zero_register c ∷ [])
    → Blends c1 c2 r b a → Selects c0 c2 r c a b
selection-made r c a b c0 c1 c2 requires x y = record {
  insns = (Alu alus.Sltu scratch zero_register c ∷ []) ++ y.insns;
  emits = emits_then x y.emits;
  short = short-then (Alu alus.Sltu scratch zero_register c ∷ []) y.insns 1 3 4 (omega arith) y.short (omega arith);
  does = λ w m f l zero la lb.
      let sc = requires.1.0 in
      let sa = requires.1.1.0 in
      let sb = requires.1.1.1 in
      let t = nat_lt 0 (f c) in
      let i1 = alu-sets w m l alus.Sltu f scratch zero_register c 0 (f c) (omega arith) (omega arith) (omega arith) sc.0 zero refl in
      let ea = i1.others a sa.1.0 in
      let eb = i1.others b sb.1.0 in
      let i2 = y.does w m i1.after t l i1.value (subst (λ n. n < 2 ^ 32) (sym eb) lb) (subst (λ n. n < 2 ^ 32) (sym ea) la) in
      let e : (if t then i1.after a else i1.after b) ≡ (if f c == 0 then f b else f a) =
      ap (λ n. if t then n else i1.after b) ea ∙ ap (λ n. if t then f a else n) eb ∙ not-zero (f c) (f a) (f b) in
      sets-then w m l i1 (inl refl) (puts-is w m l e i2);
}

-- ---- results

pub ok-map : {T E P Q : Type 0} (r : Result T E) → (P → Q) → OnOk r P → OnOk r Q
ok-map (Ok done) f p = f p
ok-map (Err error) f p = tt

pub done-map : {T E : Type 0} {P Q : T → Type 0} (r : Result T E) → ((x : T) → P x → Q x) → IfOk r P → IfOk r Q
done-map (Ok done) f p = f done p
done-map (Err error) f p = tt

fault-map : {deep deep' : Type 0} → (fault : CodeFault) → (deep → deep') → IsFault ⊥ deep fault → IsFault ⊥ deep' fault
fault-map (faults.OutOfMemory error) f is = tt
fault-map faults.TooLong f is = is
fault-map faults.TooDeep f is = f is

pub err-map : {T deep deep' : Type 0} (r : Result T CodeFault) → (deep → deep') → IfErr r (IsFault ⊥ deep) → IfErr r (IsFault ⊥ deep')
err-map (Ok done) f is = tt
err-map (Err fault) f is = fault-map fault f is
