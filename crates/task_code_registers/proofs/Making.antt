-- Numbers made in registers.
use Rattle.std.proofs.Common.{◌≡◌, ℕ, ◌+◌, ◌*◌, ◌%◌, ◌^◌, ◌<◌, ◌≤◌, List, [], ◌∷◌, ◌++◌, length, Bool, true, false, refl, ap, ◌∙◌, sym}
use Rattle.std.proofs.Common.{subst, arith, inl, inr, length-append}
use Rattle.std.specs.Prelude.{◌≢◌, ◌⊎◌, ◌==◌, if◌then◌else◌, nat_lt}
use Rattle.std.proofs.lemmas.Bool.Decides.{nat_tests}
use Rattle.std.proofs.Math.Nat.{mod-eq_of_lt, add-mod-mod}
use Rattle.rv_insn.specs.declared.instructions.Insn.{Insn}
use Rattle.rv_insn.specs.declared.instructions.Insn.TheVariants.{Lui, AluImm, Shift, Alu}
use Rattle.rv_insn.specs.declared.operations.AluImmOp.TheVariants as alu_imms
use Rattle.rv_insn.specs.declared.operations.ShiftOp.TheVariants as shifts
use Rattle.rv_insn.specs.declared.operations.AluOp.TheVariants as alus
use Rattle.halide_pipeline.specs.Words as words
use Rattle.multi_hart_laws.specs.Scalar.{extended}
use Rattle.lanes.specs.Words as lanes
use Rattle.multi_hart_laws.specs.Alone.{World}
use Rattle.multi_hart_laws.specs.Paths.{update}
use Rattle.multi_hart_laws.proofs.Paths.{update-same, update-other, line-then, stay}
use Rattle.multi_hart_laws.proofs.Rows as rows
use Rattle.task_code_scalar.specs.Code.{upper, lower, literal}
use Rattle.task_code_scalar.specs.Words.{Emits}
use Rattle.task_code_scalar.proofs.Spelling.{emits_then, emits-none}
use Rattle.task_code_scalar.proofs.Values.{Sets, alu-sets, imm-sets, shift-sets, literal-sets}
use Rattle.task_code_registers.specs.Registers.{zero_register, scratch, second_scratch}
use Rattle.task_code_registers.specs.Emitting.{Fits, Puts, Makes, MakesOf, base_words}

-- ---- immediates

small-lower : (v : ℕ) → Fits v → v < 2 ^ 32 → extended (lower v) ≡ v
small-lower v (inl a) l =
    let t : nat_lt (v % 4096) 2048 ≡ true = let e : v % 4096 < 2048 = omega (arith, a) in grind (arith, nat_tests, e) in
    rw t (omega (arith, a, l))
small-lower v (inr b) l =
    let t : nat_lt (v % 4096) 2048 ≡ false = let e : 2048 ≤ v % 4096 = omega (arith, b, l) in grind (arith, nat_tests, e) in
    rw t (omega (arith, b, l))

whole-upper : (v : ℕ) → v % 4096 ≡ 0 → v < 2 ^ 32 → upper v * 2 ^ 12 ≡ v
whole-upper v e l = omega (arith, e, l)

-- ---- instructions one after the other

module _ (w : World) (m : List ℕ) (l : length m ≡ w.size) where
  pub puts-set : {is : List Insn} {f : ℕ → ℕ} {r v u : ℕ} → v ≡ u → Sets w m l is f r v → Puts w m is f r u
  puts-set e a = record { after = a.after; line = a.line; value = a.value ∙ e; others = λ q n x y. a.others q n }

  -- a scratch register or r itself is set first
  pub puts-then : {is js : List Insn} {f : ℕ → ℕ} {c r u v : ℕ} → (a : Puts w m is f c u) → (c ≡ scratch) ⊎ ((c ≡ second_scratch) ⊎ (c ≡ r))
      → Puts w m js a.after r v
      → Puts w m (is ++ js) f r v
  puts-then {is} {js} {f} {c} {r} {u} {v} a o b = record {
    after = b.after;
    line = line-then w is js f a.after b.after m m m a.line b.line;
    value = b.value;
    others = λ q n x y. b.others q n x y ∙ a.others q (λ e. apart q o n x y e) x y;
  }
    where
      apart : (q : ℕ) → (c ≡ scratch) ⊎ ((c ≡ second_scratch) ⊎ (c ≡ r)) → q ≢ r → q ≢ scratch → q ≢ second_scratch → q ≢ c
      apart q o n x y e = omega (arith, o, n, x, y, e)

  -- no instruction at all
  pub puts-none : (f : ℕ → ℕ) (r v : ℕ) → f r ≡ v → Puts w m [] f r v
  puts-none f r v e = record { after = f; line = λ at s. stay w at f m; value = e; others = λ q x y z. refl }

  pub puts-is : {is : List Insn} {f : ℕ → ℕ} {r v u : ℕ} → v ≡ u → Puts w m is f r v → Puts w m is f r u
  puts-is e a = record { after = a.after; line = a.line; value = a.value ∙ e; others = a.others }

pub short-then : (is js : List Insn) (a b n : ℕ) → length is ≤ a → length js ≤ b → a + b ≤ n → length (is ++ js) ≤ n
short-then is js a b n x y s = let e : length (is ++ js) ≡ length is + length js = length-append is js in omega (arith, x, y, s, e)

-- ---- how many instructions a number and a part of the hart's number take

pub base-least : (n : ℕ) → 2 ≤ base_words n
base-least n = by-test (n == 0)
  where
    by-test : (t : Bool) → 2 ≤ (if t then 2 else 6)
    by-test true = omega arith
    by-test false = omega arith

pub base-most : (n : ℕ) → base_words n ≤ 6
base-most n = by-test (n == 0)
  where
    by-test : (t : Bool) → (if t then 2 else 6) ≤ 6
    by-test true = omega arith
    by-test false = omega arith

pub base-some : (n : ℕ) → n ≢ 0 → base_words n ≡ 6
base-some n some = ap (λ t. if t then 2 else 6) none
  where
    none : (n == 0) ≡ false
    none = grind (arith, nat_tests, some)

-- ---- a number

pub number-small : (r n : ℕ) (c0 c1 : List ℕ) → 1 ≤ r → r < 32 → Fits n → n < 2 ^ 32 → Emits c0 c1 (AluImm alu_imms.Addi r zero_register (lower n) ∷ [])
    → Makes c0 c1 2 r (λ f. n)
number-small r n c0 c1 low high fit small x = record {
  insns = AluImm alu_imms.Addi r zero_register (lower n) ∷ [];
  emits = x;
  short = omega arith;
  does = λ w m f l zero.
      let e : extended (lower n) ≡ n = small-lower n fit small in
      let g : (0 + n) % 2 ^ 32 ≡ n = omega (arith, small) in
      puts-set w m l (ap (lanes.add 32 0) e ∙ g) (imm-sets w m l alu_imms.Addi f r 0 (lower n) 0 low high (omega arith) zero);
}

pub number-upper : (r n : ℕ) (c0 c1 : List ℕ) → 1 ≤ r → r < 32 → n % 4096 ≡ 0 → n < 2 ^ 32 → Emits c0 c1 (Lui r (upper n) ∷ []) → Makes c0 c1 2 r (λ f. n)
number-upper r n c0 c1 low high whole small x = record {
  insns = Lui r (upper n) ∷ [];
  emits = x;
  short = omega arith;
  does = λ w m f l zero. record {
    after = update f r (upper n * 2 ^ 12);
    line = rows.lui w f m l r (upper n) low high;
    value = update-same f r _ ∙ whole-upper n whole small;
    others = λ q a b c. update-other f r _ q a;
  };
}

pub number-literal : (r n : ℕ) (c0 c1 : List ℕ) → 1 ≤ r → r < 32 → n < 2 ^ 32 → Emits c0 c1 (literal r n) → Makes c0 c1 2 r (λ f. n)
number-literal r n c0 c1 low high small x = record {
  insns = literal r n;
  emits = x;
  short = omega arith;
  does = λ w m f l zero. puts-set w m l refl (literal-sets w m l f r n low high small);
}

-- ---- a register plus a number

pub plus-none : (r s n most : ℕ) (c : List ℕ) → n ≡ 0 → r ≡ s → MakesOf c c most r s (λ v. (v + n) % 2 ^ 32)
plus-none r s n most c none same = record {
  insns = [];
  emits = emits-none c;
  short = let z : 0 ≤ most = omega arith in z;
  does = λ w m f l zero word.
      let g : f s ≡ (f s + n) % 2 ^ 32 = omega (arith, word, none) in
      puts-none w m l f r ((f s + n) % 2 ^ 32) (ap f same ∙ g);
}

pub plus-small : (r s n most : ℕ) (c0 c1 : List ℕ) → 1 ≤ r → r < 32 → s < 32 → Fits n → n < 2 ^ 32 → 1 ≤ most
    → Emits c0 c1 (AluImm alu_imms.Addi r s (lower n) ∷ [])
    → MakesOf c0 c1 most r s (λ v. (v + n) % 2 ^ 32)
plus-small r s n most c0 c1 low high ls fit small some x = record {
  insns = AluImm alu_imms.Addi r s (lower n) ∷ [];
  emits = x;
  short = some;
  does = λ w m f l zero word.
      puts-set w m l (ap (lanes.add 32 (f s)) (small-lower n fit small)) (imm-sets w m l alu_imms.Addi f r s (lower n) (f s) low high ls refl);
}

-- two of them
pub plus-twice : (r s n a b : ℕ) (c0 c1 c2 : List ℕ) → 1 ≤ r → r < 32 → s < 32 → n < 2 ^ 32 → Fits a → a < 2 ^ 32 → Fits b → b < 2 ^ 32
    → b ≡ words.subtract n a → Emits c0 c1 (AluImm alu_imms.Addi r s (lower a) ∷ []) → Emits c1 c2 (AluImm alu_imms.Addi r r (lower b) ∷ [])
    → MakesOf c0 c2 3 r s (λ v. (v + n) % 2 ^ 32)
unfolding words.subtract
plus-twice r s n a b c0 c1 c2 low high ls small fa sa fb sb e x y = record {
  insns = (AluImm alu_imms.Addi r s (lower a) ∷ []) ++ (AluImm alu_imms.Addi r r (lower b) ∷ []);
  emits = emits_then x y;
  short = omega arith;
  does = λ w m f l zero word.
      let one = puts-set w m l (ap (lanes.add 32 (f s)) (small-lower a fa sa)) (imm-sets w m l alu_imms.Addi f r s (lower a) (f s) low high ls refl) in
      let two = puts-set w m l (ap (lanes.add 32 ((f s + a) % 2 ^ 32)) (small-lower b fb sb))
      (imm-sets w m l alu_imms.Addi one.after r r (lower b) ((f s + a) % 2 ^ 32) low high high one.value) in
      let g : ((f s + a) % 2 ^ 32 + b) % 2 ^ 32 ≡ (f s + n) % 2 ^ 32 = omega (arith, e, small, sa) in
      puts-then w m l one (inr (inr refl)) (puts-is w m l g two);
}

-- a literal in the scratch register, and an operation on it
pub plus-literal : (r s n : ℕ) (c0 c1 c2 : List ℕ) → 1 ≤ r → r < 32 → s < 32 → s ≢ scratch → s ≢ second_scratch → Makes c0 c1 2 scratch (λ f. n)
    → Emits c1 c2 (Alu alus.Add r s scratch ∷ [])
    → MakesOf c0 c2 3 r s (λ v. (v + n) % 2 ^ 32)
plus-literal r s n c0 c1 c2 low high ls s13 s14 x y = record {
  insns = x.insns ++ (Alu alus.Add r s scratch ∷ []);
  emits = emits_then x.emits y;
  short = short-then x.insns (Alu alus.Add r s scratch ∷ []) 2 1 3 x.short (omega arith) (omega arith);
  does = λ w m f l zero word.
      let a = x.does w m f l zero in
      puts-then w m l a (inl refl) (puts-set w m l refl
      (alu-sets w m l alus.Add a.after r s scratch (f s) n low high ls (omega arith) (a.others s s13 s13 s14) a.value));
}

-- ---- a register times a number

pub times-none : (r s n : ℕ) (c0 c1 : List ℕ) → n ≡ 0 → Makes c0 c1 2 r (λ f. 0) → Makes c0 c1 3 r (λ f. (f s * n) % 2 ^ 32)
times-none r s n c0 c1 none x = record {
  insns = x.insns;
  emits = x.emits;
  short = let k = x.short in omega (arith, k);
  does = λ w m f l zero.
      let g : 0 ≡ (f s * 0) % 2 ^ 32 = omega arith in
      puts-is w m l (g ∙ ap (λ k. (f s * k) % 2 ^ 32) (sym none)) (x.does w m f l zero);
}

pub times-literal : (r s n : ℕ) (c0 c1 c2 : List ℕ) → 1 ≤ r → r < 32 → s < 32 → s ≢ scratch → s ≢ second_scratch → Makes c0 c1 2 scratch (λ f. n)
    → Emits c1 c2 (Alu alus.Mul r s scratch ∷ [])
    → Makes c0 c2 3 r (λ f. (f s * n) % 2 ^ 32)
times-literal r s n c0 c1 c2 low high ls s13 s14 x y = record {
  insns = x.insns ++ (Alu alus.Mul r s scratch ∷ []);
  emits = emits_then x.emits y;
  short = short-then x.insns (Alu alus.Mul r s scratch ∷ []) 2 1 3 x.short (omega arith) (omega arith);
  does = λ w m f l zero.
      let a = x.does w m f l zero in
      puts-then w m l a (inl refl) (puts-set w m l refl
      (alu-sets w m l alus.Mul a.after r s scratch (f s) n low high ls (omega arith) (a.others s s13 s13 s14) a.value));
}

pub times-shift : (r s n k : ℕ) (c0 c1 : List ℕ) → 1 ≤ r → r < 32 → s < 32 → k < 32 → n ≡ 2 ^ k → Emits c0 c1 (Shift shifts.Slli r s k ∷ [])
    → Makes c0 c1 3 r (λ f. (f s * n) % 2 ^ 32)
times-shift r s n k c0 c1 low high ls few power x = record {
  insns = Shift shifts.Slli r s k ∷ [];
  emits = x;
  short = omega arith;
  does = λ w m f l zero.
      let e : k % 32 ≡ k = mod-eq_of_lt few in
      puts-set w m l (ap (λ j. (f s * 2 ^ j) % 2 ^ 32) e ∙ ap (λ p. (f s * p) % 2 ^ 32) (sym power))
      (shift-sets w m l shifts.Slli f r s k (f s) low high ls refl);
}

-- ---- a register plus the product of another one and a number

pub term-one : (r s n : ℕ) (c0 c1 : List ℕ) → 1 ≤ r → r < 32 → s < 32 → n ≡ 1 → Emits c0 c1 (Alu alus.Add r r s ∷ [])
    → Makes c0 c1 4 r (λ f. (f r + f s * n) % 2 ^ 32)
term-one r s n c0 c1 low high ls one x = record {
  insns = Alu alus.Add r r s ∷ [];
  emits = x;
  short = omega arith;
  does = λ w m f l zero.
      let g : (f r + f s) % 2 ^ 32 ≡ (f r + f s * 1) % 2 ^ 32 = omega arith in
      puts-set w m l (g ∙ ap (λ k. (f r + f s * k) % 2 ^ 32) (sym one)) (alu-sets w m l alus.Add f r r s (f r) (f s) low high high ls refl refl);
}

pub term-more : (r s n : ℕ) (c0 c1 c2 : List ℕ) → 1 ≤ r → r < 32 → r ≢ scratch → r ≢ second_scratch → Makes c0 c1 3 second_scratch (λ f. (f s * n) % 2 ^ 32)
    → Emits c1 c2 (Alu alus.Add r r second_scratch ∷ [])
    → Makes c0 c2 4 r (λ f. (f r + f s * n) % 2 ^ 32)
term-more r s n c0 c1 c2 low high r13 r14 x y = record {
  insns = x.insns ++ (Alu alus.Add r r second_scratch ∷ []);
  emits = emits_then x.emits y;
  short = short-then x.insns (Alu alus.Add r r second_scratch ∷ []) 3 1 4 x.short (omega arith) (omega arith);
  does = λ w m f l zero.
      let a = x.does w m f l zero in
      puts-then w m l a (inr (inl refl))
      (puts-set w m l (add-mod-mod (f r) (f s * n) (2 ^ 32))
      (alu-sets w m l alus.Add a.after r r second_scratch (f r) ((f s * n) % 2 ^ 32) low high high (omega arith) (a.others r r14 r13 r14) a.value));
}

-- ---- a number plus the product of a register and a number

pub product-one : (r s n k : ℕ) (c0 c1 : List ℕ) → n ≡ 1 → MakesOf c0 c1 3 r s (λ v. (v + k) % 2 ^ 32) → MakesOf c0 c1 6 r s (λ v. (k + v * n) % 2 ^ 32)
product-one r s n k c0 c1 one x = record {
  insns = x.insns;
  emits = x.emits;
  short = let j = x.short in omega (arith, j);
  does = λ w m f l zero word.
      let g : (f s + k) % 2 ^ 32 ≡ (k + f s * 1) % 2 ^ 32 = omega arith in
      puts-is w m l (g ∙ ap (λ i. (k + f s * i) % 2 ^ 32) (sym one)) (x.does w m f l zero word);
}

-- a product, and then a number
module _ (r s n k : ℕ) (c0 c1 c2 : List ℕ) (apart : 1 ≤ r) where
  pub product-then : Makes c0 c1 3 r (λ f. (f s * n) % 2 ^ 32) → MakesOf c1 c2 3 r r (λ v. (v + k) % 2 ^ 32) → Makes c0 c2 6 r (λ f. (k + f s * n) % 2 ^ 32)
  product-then x y = record {
    insns = x.insns ++ y.insns;
    emits = emits_then x.emits y.emits;
    short = short-then x.insns y.insns 3 3 6 x.short y.short (omega arith);
    does = λ w m f l zero.
        let a = x.does w m f l zero in
        let p = f s * n in
        let v = a.value in
        let word : a.after r < 2 ^ 32 = let e : p % 2 ^ 32 < 2 ^ 32 = omega arith in subst (λ i. i < 2 ^ 32) (sym v) e in
        let b = y.does w m a.after l (a.others zero_register (λ e. omega (arith, e, apart)) (λ e. omega (arith, e)) (λ e. omega (arith, e)) ∙ zero) word in
        let g : (p % 2 ^ 32 + k) % 2 ^ 32 ≡ (k + p) % 2 ^ 32 = omega arith in
        puts-then w m l a (inr (inr refl)) (puts-is w m l (ap (λ i. (i + k) % 2 ^ 32) v ∙ g) b);
  }

  pub product-more : Makes c0 c1 3 r (λ f. (f s * n) % 2 ^ 32) → MakesOf c1 c2 3 r r (λ v. (v + k) % 2 ^ 32) → MakesOf c0 c2 6 r s (λ v. (k + v * n) % 2 ^ 32)
  product-more x y = let z = product-then x y in record { insns = z.insns; emits = z.emits; short = z.short; does = λ w m f l zero word. z.does w m f l zero }

-- so it is of so much times the hart's number
pub base-more : (r s n k : ℕ) (c0 c1 c2 : List ℕ) → 1 ≤ r → n ≢ 0 → Makes c0 c1 3 r (λ f. (f s * n) % 2 ^ 32) → MakesOf c1 c2 3 r r (λ v. (v + k) % 2 ^ 32)
    → Makes c0 c2 (base_words n) r (λ f. (k + f s * n) % 2 ^ 32)
base-more r s n k c0 c1 c2 apart some x y =
    subst (λ most. Makes c0 c2 most r (λ f. (k + f s * n) % 2 ^ 32)) (sym (base-some n some)) (product-then r s n k c0 c1 c2 apart x y)

-- no part of the second number
pub base-none : (r s n k : ℕ) (c0 c1 : List ℕ) → n ≡ 0 → k < 2 ^ 32 → Makes c0 c1 2 r (λ f. k) → Makes c0 c1 (base_words n) r (λ f. (k + f s * n) % 2 ^ 32)
base-none r s n k c0 c1 none small x = record {
  insns = x.insns;
  emits = x.emits;
  short = let j = x.short in let b = base-least n in omega (arith, j, b);
  does = λ w m f l zero.
      let g : k ≡ (k + f s * 0) % 2 ^ 32 = omega (arith, small) in
      puts-is w m l (g ∙ ap (λ i. (k + f s * i) % 2 ^ 32) (sym none)) (x.does w m f l zero);
}
