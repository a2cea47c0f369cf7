-- Configurations of the vector unit.
use Rattle.std.proofs.Common.{◌≡◌, ℕ, zero, suc, ◌+◌, ◌*◌, ◌/◌, ◌%◌, ◌^◌, ◌<◌, ◌≤◌, List, [], ◌∷◌, length, Some, None, true, false, refl, ap, ◌∙◌, sym, subst}
use Rattle.std.proofs.Common.{arith}
use Rattle.std.specs.Prelude.{◌≢◌, ◌==◌, not, min, cond}
use Rattle.std.proofs.lemmas.Bool.Decides.{nat_tests}
use Rattle.rv_insn.specs.declared.outcomes.Trap.TheVariants.{IllegalInstruction}
use Rattle.memory.specs.Access.{or_else}
use Rattle.hart_core.specs.Turn.{fault}
use Rattle.std.proofs.Math.Nat.{mod-eq_of_lt}
use Rattle.rv_insn.specs.declared.instructions.Insn.TheVariants.{Vector}
use Rattle.rv_insn.specs.declared.vector_instructions.VectorInsn.TheVariants.{Vsetvli, Vsetivli}
use Rattle.hart_core.specs.HartState.{HartState, register, vectors_of, with_vectors, given}
use Rattle.hart_core.specs.VectorRows.{configured_by}
use Rattle.vector_unit.specs.Vector.{Vectors, width_of, group_of, is_supported, most_elements, asked_by, is_illegal_configuration, configured}
use Rattle.vector_unit.specs.declared.configuration.RequestedLength.TheVariants.{AtMost, AsBefore}
use Rattle.multi_hart_laws.specs.Alone.{World}
use Rattle.multi_hart_laws.specs.Paths.{lane, bit, update, At, Comes, Line, configure, LanesConfigured}
use Rattle.multi_hart_laws.proofs.Rules.{in-front}
use Rattle.multi_hart_laws.proofs.Paths.{spot, update-same, update-other}
use Rattle.multi_hart_laws.proofs.Rows.{keeps-none}

-- numbers other than vl and vtype
other-kept : (f : ℕ → ℕ) (n vtype q : ℕ) → q ≢ 32 → q ≢ 33 → configure f n vtype q ≡ f q
other-kept f n vtype q a b = update-other (update f 32 n) 33 vtype q b ∙ update-other f 32 n q a

at-configured : (at n vtype : ℕ) (f : ℕ → ℕ) (h : HartState) → at + 4 < 2 ^ 32 → At at f h
    → At (at + 4) (configure f n vtype) (given (with_vectors h (record { registers = h.vectors; vl = n; vtype = vtype })) 0 n)
at-configured at n vtype f h small a = record {
  running = a.running;
  pc = ap (λ p. (p + 4) % 2 ^ 32) a.pc ∙ mod-eq_of_lt small;
  full = a.full;
  same = λ r l. same-register r ∙ a.same r l ∙ sym (other-kept f n vtype r (λ e. omega (arith, e, l)) (λ e. omega (arith, e, l)));
  wide = a.wide;
  whole = a.whole;
  bytes = a.bytes;
  vl = sym (update-other (update f 32 n) 33 vtype 32 (λ e. omega (arith, e)) ∙ update-same f 32 n);
  vtype = sym (update-same (update f 32 n) 33 vtype);
  lanes = λ v i lo hi few. a.lanes v i lo hi few ∙ sym (other-kept f n vtype (lane v i) (λ e. omega (arith, e)) (λ e. omega (arith, e)));
  bits = λ i few. a.bits i few ∙ sym (other-kept f n vtype (bit i) (λ e. omega (arith, e)) (λ e. omega (arith, e)));
}
  where
    same-register : (r : ℕ) → register (given (with_vectors h (record { registers = h.vectors; vl = n; vtype = vtype })) 0 n) r ≡ register h r
    same-register zero = refl
    same-register (suc r) = refl

configured-is : (state : Vectors) (vtype count : ℕ) → is_supported vtype ≡ true → configured state vtype (AtMost count)
    ≡ record state { vl = min count (most_elements vtype); vtype = vtype }
configured-is state vtype count e = ap (λ b. cond b (record state { vl = min count (most_elements vtype); vtype = vtype }) (record state {
  vl = 0;
  vtype =
      2147483648;
})) e

asked-is : (b n : ℕ) → asked_by 0 (suc b) n ≡ AtMost n
asked-is b n = let e : (suc b == 0) ≡ false = grind (arith, nat_tests) in ap (λ t. cond (not t) (AtMost n) AsBefore) e

never-illegal : (words size b vtype : ℕ) (h : HartState) → fault words size (Vector (Vsetvli 0 (suc b) vtype)) h ≡ None
never-illegal words size b vtype h =
    ap (λ q. or_else (cond (is_illegal_configuration (vectors_of h) vtype q) (Some IllegalInstruction) None) None) (asked-is b (register h (suc b)))

module _ (w : World) (f : ℕ → ℕ) (m : List ℕ) (l : length m ≡ w.size) where
  pub configure-at : (count vtype : ℕ) → is_supported vtype ≡ true
      → Line w (Vector (Vsetivli 0 count vtype) ∷ []) f m (configure f (min count (most_elements vtype)) vtype) m
  configure-at count vtype ok at s h a =
      let n = min count (most_elements vtype) in
      let e : configured_by h 0 vtype (AtMost count) ≡ given (with_vectors h (record { registers = h.vectors; vl = n; vtype = vtype })) 0 n =
      ap (λ c. given (with_vectors h c) 0 c.vl) (configured-is (vectors_of h) vtype count ok) in
      in-front w (Comes (at + 4) (configure f n vtype) m) 0 at (Vector (Vsetivli 0 count vtype)) h m l a.running a.pc s.0 refl tt tt (keeps-none w)
      (subst (λ x. Comes (at + 4) (configure f n vtype) m x m) (sym e) (at-configured at n vtype f h (spot w.text (at + 4) [] s.1).low a, refl))

  pub configure-by : (b vtype : ℕ) → 1 ≤ b → b < 32 → is_supported vtype ≡ true
      → Line w (Vector (Vsetvli 0 b vtype) ∷ []) f m (configure f (min (f b) (most_elements vtype)) vtype) m
  configure-by zero vtype low high ok at s h a = absurd (omega (arith, low))
  configure-by (suc b) vtype low high ok at s h a =
      let n = min (f (suc b)) (most_elements vtype) in
      let e : configured_by h 0 vtype (AtMost (register h (suc b))) ≡ given (with_vectors h (record { registers = h.vectors; vl = n; vtype = vtype })) 0 n =
      ap (λ c. given (with_vectors h c) 0 c.vl) (configured-is (vectors_of h) vtype (register h (suc b)) ok
      ∙ ap (λ r. record (vectors_of h) { vl = min r (most_elements vtype); vtype = vtype }) (a.same (suc b) high)) in
      in-front w (Comes (at + 4) (configure f n vtype) m) 0 at (Vector (Vsetvli 0 (suc b) vtype)) h m l a.running a.pc s.0 (never-illegal (length w.text) w.size
      b vtype h) tt tt (keeps-none w)
      (subst (λ x. Comes (at + 4) (configure f n vtype) m x m) (sym (ap (configured_by h 0 vtype) (asked-is b (register h (suc b)))
      ∙ e)) (at-configured at n vtype f h (spot w.text (at + 4) [] s.1).low a, refl))

-- a supported configuration of lanes of 32 bits is what rows on lanes ask for
pub configured-lanes : (f : ℕ → ℕ) (n vtype : ℕ) → is_supported vtype ≡ true → width_of vtype ≡ 32 → n ≤ most_elements vtype
    → LanesConfigured (configure f n vtype) (group_of vtype)
configured-lanes f n vtype ok wide few =
    let g = group_of vtype in
    let e : configure f n vtype 33 ≡ vtype = update-same (update f 32 n) 33 vtype in
    let el : configure f n vtype 32 ≡ n = update-other (update f 32 n) 33 vtype 32 (λ q. omega (arith, q)) ∙ update-same f 32 n in
    let most : most_elements vtype ≡ 4 * g = ap (λ x. 128 * g / x) wide ∙ (let q : 128 * g / 32 ≡ 4 * g = omega arith in q) in
    record {
      supported = ap is_supported e ∙ ok;
      width = ap width_of e ∙ wide;
      group = ap group_of e;
      most = ap most_elements e ∙ most;
      fits = omega (arith, el, few, most);
    }
