-- Instructions that set one register.
use Rattle.std.proofs.Common.{◌≡◌, ℕ, ◌*◌, ◌^◌, ◌<◌, ◌≤◌, List, [], ◌∷◌, length, ap, ◌∙◌}
use Rattle.std.specs.Prelude.{◌≢◌, ℤ}
use Rattle.rv_insn.specs.declared.instructions.Insn.{Insn}
use Rattle.rv_insn.specs.declared.instructions.Insn.TheVariants.{Lui, AluImm, Shift, Alu}
use Rattle.rv_insn.specs.declared.operations.AluImmOp.{AluImmOp}
use Rattle.rv_insn.specs.declared.operations.AluImmOp.TheVariants as alu_imms
use Rattle.rv_insn.specs.declared.operations.ShiftOp.{ShiftOp}
use Rattle.rv_insn.specs.declared.operations.AluOp.{AluOp}
use Rattle.multi_hart_laws.specs.Scalar.{extended, computed, computed_with_immediate, shifted}
use Rattle.lanes.specs.Words as lanes
use Rattle.multi_hart_laws.specs.Alone.{World}
use Rattle.multi_hart_laws.specs.Paths.{update, Line}
use Rattle.multi_hart_laws.proofs.Paths.{update-same, update-other, line-then}
use Rattle.multi_hart_laws.proofs.Rows as rows
use Rattle.task_code_scalar.specs.Code.{upper, lower, literal}
use Rattle.task_code_scalar.proofs.Numbers.{parts}

module _ (w : World) (m : List ℕ) (l : length m ≡ w.size) where
  -- one register is set, and all others stay
  pub record Sets (is : List Insn) (f : ℕ → ℕ) (c v : ℕ) : Type 0 where
    pub after : ℕ → ℕ
    pub line : Line w is f m after m
    pub value : after c ≡ v
    pub others : (q : ℕ) → q ≢ c → after q ≡ f q

  pub alu-sets : (o : AluOp) (f : ℕ → ℕ) (c a b x y : ℕ) → 1 ≤ c → c < 32 → a < 32 → b < 32 → f a ≡ x → f b ≡ y → Sets (Alu o c a b ∷ []) f c (computed o x y)
  alu-sets o f c a b x y low high la lb ea eb = record {
    after = update f c (computed o (f a) (f b));
    line = rows.alu w f m l o c a b low high la lb;
    value = update-same f c _ ∙ ap (λ n. computed o n (f b)) ea ∙ ap (computed o x) eb;
    others = λ q n. update-other f c _ q n;
  }

  pub imm-sets : (o : AluImmOp) (f : ℕ → ℕ) (c a : ℕ) (z : ℤ) (x : ℕ) → 1 ≤ c → c < 32 → a < 32 → f a ≡ x
      → Sets (AluImm o c a z ∷ []) f c (computed_with_immediate o x (extended z))
  imm-sets o f c a z x low high la ea = record {
    after = update f c (computed_with_immediate o (f a) (extended z));
    line = rows.alu-imm w f m l o c a z low high la;
    value = update-same f c _ ∙ ap (λ n. computed_with_immediate o n (extended z)) ea;
    others = λ q n. update-other f c _ q n;
  }

  pub shift-sets : (o : ShiftOp) (f : ℕ → ℕ) (c a n x : ℕ) → 1 ≤ c → c < 32 → a < 32 → f a ≡ x → Sets (Shift o c a n ∷ []) f c (shifted o x n)
  shift-sets o f c a n x low high la ea = record {
    after = update f c (shifted o (f a) n);
    line = rows.shift w f m l o c a n low high la;
    value = update-same f c _ ∙ ap (λ k. shifted o k n) ea;
    others = λ q k. update-other f c _ q k;
  }

  pub literal-sets : (f : ℕ → ℕ) (r v : ℕ) → 1 ≤ r → r < 32 → v < 2 ^ 32 → Sets (literal r v) f r v
  literal-sets f r v low high small =
      let g = update f r (upper v * 2 ^ 12) in
      record {
        after = update g r (computed_with_immediate alu_imms.Addi (g r) (extended (lower v)));
        line = line-then w (Lui r (upper v) ∷ []) (AluImm alu_imms.Addi r r (lower v) ∷ []) f g _ m m m (rows.lui w f m l r (upper v) low high)
            (rows.alu-imm w g m l alu_imms.Addi r r (lower v) low high high);
        value = update-same g r _ ∙ ap (λ n. lanes.add 32 n (extended (lower v))) (update-same f r (upper v * 2 ^ 12)) ∙ parts v small;
        others = λ q n. update-other g r _ q n ∙ update-other f r _ q n;
      }
