-- From paths of code to tasks.
use Rattle.std.proofs.Common.{◌≡◌, ℕ, zero, suc, ◌+◌, ◌-◌, ◌<◌, List, [], ◌∷◌, length, Some, true, false, refl, ap, ◌∙◌, sym, subst, arith}
use Rattle.std.specs.Prelude.{◌/◌, ◌%◌, ◌==◌, nat_lt, slice_get, slice_index_or}
use Rattle.std.proofs.lemmas.Bool.Decides.{nat_tests}
use Rattle.memory.specs.Access.{AreBytes}
use Rattle.lanes.specs.Words.{element, mask_bit}
use Rattle.hart_core.specs.Scalar.{one_if}
use Rattle.hart_core.specs.declared.harts.Status.TheVariants.{Running}
use Rattle.hart_core.specs.HartState.{HartState, register, vector}
use Rattle.multi_hart_laws.specs.Uses.{Job}
use Rattle.multi_hart_laws.specs.Paths.{At, Comes, lane, bit}
use Rattle.multi_hart_laws.proofs.Paths.{soon-then}
use Rattle.work_sharing.specs.Phases.{Phase, Stands}
use Rattle.work_sharing.specs.Solo.{world, Leaves, SoonDone}
use Rattle.work_sharing.specs.Bridges.{numbers_of, StandsThere, ThereStands, PathDoes}

there-or : {X : Type 0} (xs : List X) (v : ℕ) (d : X) → v < length xs → slice_get xs v ≡ Some (slice_index_or xs v d)
there-or [] v d l = absurd (omega (arith, l))
there-or (x ∷ xs) zero d l = refl
there-or (x ∷ xs) (suc v) d l = there-or xs v d (omega (arith, l))

same-or : {X : Type 0} (xs : List X) (v : ℕ) (d x : X) → slice_get xs v ≡ Some x → slice_index_or xs v d ≡ x
same-or [] v d x e = absurd (cc e)
same-or (y ∷ xs) zero d x e = cc e
same-or (y ∷ xs) (suc v) d x e = same-or xs v d x e

below : {X : Type 0} (xs : List X) (v : ℕ) (x : X) → slice_get xs v ≡ Some x → v < length xs
below [] v x e = absurd (cc e)
below (y ∷ xs) zero x e = omega arith
below (y ∷ xs) (suc v) x e = let l = below xs v x e in omega (arith, l)

register-number : (h : HartState) (r : ℕ) → r < 32 → register h r ≡ numbers_of h r
register-number h r l = let e : nat_lt r 32 ≡ true = grind (arith, nat_tests) in rw e refl

lane-number : (h : HartState) (n v i : ℕ) → v < 32 → i < 4 → n ≡ lane v i → element 32 (vector h v) i ≡ numbers_of h n
lane-number h n v i lv li e =
    let a : nat_lt n 32 ≡ false = grind (arith, nat_tests, e) in
    let b : (n == 32) ≡ false = grind (arith, nat_tests, e) in
    let c : (n == 33) ≡ false = grind (arith, nat_tests, e) in
    let d : nat_lt n 162 ≡ true = grind (arith, nat_tests, e, lv, li) in
    let q : (n - 34) / 4 ≡ v = omega (arith, e, li) in
    let r : (n - 34) % 4 ≡ i = omega (arith, e, li) in
    rw a (rw b (rw c (rw d (sym (ap (λ x. element 32 (vector h x) ((n - 34) % 4)) q ∙ ap (element 32 (vector h v)) r)))))

bit-number : (h : HartState) (n i : ℕ) → n ≡ bit i → one_if (mask_bit (vector h 0) i) ≡ numbers_of h n
bit-number h n i e =
    let a : nat_lt n 32 ≡ false = grind (arith, nat_tests, e) in
    let b : (n == 32) ≡ false = grind (arith, nat_tests, e) in
    let c : (n == 33) ≡ false = grind (arith, nat_tests, e) in
    let d : nat_lt n 162 ≡ false = grind (arith, nat_tests, e) in
    let q : n - 162 ≡ i = omega (arith, e) in
    rw a (rw b (rw c (rw d (sym (ap (λ x. one_if (mask_bit (vector h 0) x)) q)))))

-- any hart that runs is where it is with its own numbers
pub at-numbers : (at : ℕ) (h : HartState) → h.status ≡ Running → h.pc ≡ at → length h.registers ≡ 32 → length h.vectors ≡ 32
    → ((v : ℕ) (bytes : List ℕ) → slice_get h.vectors v ≡ Some bytes → (length bytes ≡ 16) × AreBytes bytes) → At at (numbers_of h) h
at-numbers at h runs there full wide vectors =
    let known = λ (v : ℕ) (l : v < 32). vectors v (vector h v) (there-or h.vectors v [] (omega (arith, l, wide))) in
    record {
      running = runs;
      pc = there;
      full = full;
      same = λ r l. register-number h r l;
      wide = wide;
      whole = λ v l. (known v l).0;
      bytes = λ v l. (known v l).1;
      vl = refl;
      vtype = refl;
      lanes = λ v i lo hi few. lane-number h (lane v i) v i hi few refl;
      bits = λ i few. bit-number h (bit i) i refl;
    }

pub stands-there : StandsThere
stands-there p k at h s = at-numbers at h s.running s.pc s.kept.size s.kept.vector_count s.kept.vector_bytes

pub there-stands : ThereStands
there-stands p k at f h a y = record {
  running = a.running;
  pc = a.pc;
  kept = record {
    size = a.full;
    vector_count = a.wide;
    vector_bytes = λ v bytes e.
        let l : v < 32 = let b = below h.vectors v bytes e in let c = a.wide in omega (arith, b, c) in
        let q : vector h v ≡ bytes = same-or h.vectors v [] bytes e in
        (sym (ap length q) ∙ a.whole v l, subst AreBytes q (a.bytes v l));
    number = a.same 10 (omega arith) ∙ y.number_is;
    harts = a.same 11 (omega arith) ∙ y.harts;
    ticket = a.same 13 (omega arith) ∙ y.ticket;
    gate = a.same 14 (omega arith) ∙ y.gate;
    one = a.same 15 (omega arith) ∙ y.one;
    tasks = a.same 16 (omega arith) ∙ y.tasks;
  };
}

abbrev Wanted : Phase → Job → ℕ → HartState → List ℕ → Type 0
Wanted p x k h m = Stands p k h p.draw_code × Leaves p x m

pub path-does : PathDoes
path-does p x k from n f g h m m1 a path y l =
    let e : n + 0 ≡ n = omega arith in
    subst (λ i. SoonDone p x k i h m) e
    (soon-then (world p x k) (Comes p.draw_code g m1) (Wanted p x k) n 0 h m (path h a)
    (λ h1 left o. (there-stands p k p.draw_code g h1 o.0 y, subst (Leaves p x) (sym o.1) l)))
