-- Lanes that are configured.
use Rattle.std.proofs.Common.{◌≡◌, ℕ, ◌*◌, ◌<◌, ◌≤◌, List, [], ◌∷◌, ◌++◌, true, refl, ap, ◌∙◌, sym, subst, arith}
use Rattle.std.specs.Prelude.{min, ◌^◌, ◌==◌, if◌then◌else◌, Bool, false, Option, Some, None}
use Rattle.std.proofs.lemmas.Bool.Decides.{nat_tests}
use Rattle.rv_insn.specs.declared.instructions.Insn.TheVariants.{Vector}
use Rattle.rv_insn.specs.declared.vector_instructions.VectorInsn.TheVariants as v
use Rattle.vector_unit.specs.Vector.{most_elements}
use Rattle.loop_ir.specs.Counters.{Values, with}
use Rattle.loop_ir.specs.declared.expressions.Counter.{Counter}
use Rattle.halide_pipeline.specs.Words as word
use Rattle.halide_pipeline.specs.declared.expressions.Operation.TheVariants as op
use Rattle.multi_hart_laws.specs.Paths.{configure, update}
use Rattle.multi_hart_laws.proofs.Configurations.{configure-at, configure-by}
use Rattle.multi_hart_laws.proofs.Paths.{line-then, update-other}
use Rattle.task_code_scalar.specs.Words.{Emits}
use Rattle.task_code_scalar.proofs.Spelling.{emits_then}
use Rattle.task_code_registers.specs.declared.scopes.Held.{Held}
use Rattle.task_code_registers.specs.Registers.{first_value, zero_register}
use Rattle.task_code_registers.specs.Scopes.{are_registers}
use Rattle.task_code_registers.proofs.Knowing.{kept-apart, kept-low, knows-still, knows-zero}
use Rattle.task_code_values.specs.Making.{MakesOfTwo}
use Rattle.task_code_lanes.specs.declared.groups.LaneGroup.{LaneGroup}
use Rattle.task_code_lanes.specs.declared.groups.LaneGroup.TheVariants as groups
use Rattle.task_code_lanes.specs.Groups.{registers, vtype_of, group_of_lanes}
use Rattle.task_code_lanes.specs.Leaving.{HasLanes}
use Rattle.task_code_lane_values.specs.declared.vectorized.VectorLanes.{VectorLanes}
use Rattle.task_code_lanes.proofs.Configured.{supported, most, has-lanes, configured-others}
use Rattle.task_code_vector_loops.proofs.Pointing.{address-free}
use Rattle.task_code_vector_loops.specs.declared.left.Left.{Left}
use Rattle.task_code_vector_loops.specs.Runs.{all_lanes, group_lanes, least_left, left_by, left_lanes}
use Rattle.task_code_vector_loops.specs.inner.Making.{Configures, MakesLeast, MakesLeft}
use Rattle.task_code_vector_loops.proofs.Sharing.{left-small, value-free}

-- what lanes hold stays
pub lanes-configured : (f : ℕ → ℕ) (n vtype q : ℕ) → 34 ≤ q → configure f n vtype q ≡ f q
lanes-configured f n vtype q high =
    update-other (update f 32 n) 33 vtype q (λ e. omega (arith, e, high)) ∙ update-other f 32 n q (λ e. omega (arith, e, high))

pub all-of : (group : LaneGroup) → min (group_lanes group) (most_elements (vtype_of group)) ≡ 4 * registers group
all-of groups.One = refl
all-of groups.Two = refl
all-of groups.Four = refl

pub all-configured : (scope : List Held) (vector_lanes : VectorLanes) (c0 c1 : List ℕ) → are_registers scope ≡ true
    → Emits c0 c1 (Vector (v.Vsetivli 0 (group_lanes vector_lanes.group) (vtype_of vector_lanes.group)) ∷ []) → Configures c0 c1 scope vector_lanes (λ values. all_lanes vector_lanes)
all-configured scope vector_lanes c0 c1 all z = record {
  insns = Vector (v.Vsetivli 0 (group_lanes vector_lanes.group) (vtype_of vector_lanes.group)) ∷ [];
  emits = z;
  does = λ w m values f l holders knows.
      let n = min (group_lanes vector_lanes.group) (most_elements (vtype_of vector_lanes.group)) in
      let e = all-of vector_lanes.group in
      record {
        after = configure f n (vtype_of vector_lanes.group);
        line = configure-at w f m l (group_lanes vector_lanes.group) (vtype_of vector_lanes.group)
            (supported vector_lanes.group);
        has = subst (λ k. HasLanes vector_lanes.group k (configure f n (vtype_of vector_lanes.group))) e (has-lanes vector_lanes.group f n (omega (arith, e)));
        keeps = λ q kept. configured-others f n (vtype_of vector_lanes.group) q (kept-low scope q all kept);
        lanes_stay = λ q high. lanes-configured f n (vtype_of vector_lanes.group) q high;
      };
}

pub left-configured : (scope : List Held) (vector_lanes : VectorLanes) (left : Left) (b : ℕ) (c0 c1 c2 : List ℕ) → are_registers scope ≡ true
    → MakesLeft c0 c1 scope vector_lanes.counter b left → Emits c1 c2
    (Vector (v.Vsetvli 0 b (vtype_of vector_lanes.group)) ∷ [])
    → Configures c0 c2 scope vector_lanes (left_lanes vector_lanes (left ∷ []))
left-configured scope vector_lanes left b c0 c1 c2 all p z = record {
  insns = p.insns ++ (Vector (v.Vsetvli 0 b (vtype_of vector_lanes.group)) ∷ []);
  emits = emits_then p.emits z;
  does = λ w m values f l holders knows.
      let a = p.does w m values f l holders knows in
      let n = min (a.after b) (most_elements (vtype_of vector_lanes.group)) in
      let is = most vector_lanes.group in
      let e : n ≡ left_lanes vector_lanes (left ∷ []) values = ap (λ k. min (a.after b) k) is ∙ ap (λ k. min k (all_lanes vector_lanes)) a.value in
      record {
        after = configure a.after n (vtype_of vector_lanes.group);
        line = line-then w p.insns (Vector (v.Vsetvli 0 b (vtype_of vector_lanes.group)) ∷ []) f a.after (configure a.after n (vtype_of vector_lanes.group)) m m m a.line
            (configure-by w a.after m l b (vtype_of vector_lanes.group) p.some p.source.0
            (supported vector_lanes.group));
        has = subst (λ k. HasLanes vector_lanes.group k (configure a.after n (vtype_of vector_lanes.group))) e (has-lanes vector_lanes.group a.after n (omega (arith, is)));
        keeps = λ q kept.
            let u = kept-apart scope q holders kept in
            configured-others a.after n (vtype_of vector_lanes.group) q (kept-low scope q all kept) ∙ a.others q (address-free scope holders q kept) u.0 u.1;
        lanes_stay = λ q high.
            lanes-configured a.after n (vtype_of vector_lanes.group) q high
            ∙ a.others q (λ e. omega (arith, e, high)) (λ e. omega (arith, e, high)) (λ e. omega (arith, e, high));
      };
}

pub least-configured : (scope : List Held) (vector_lanes : VectorLanes) (first : Left) (others : List Left) (c0 c1 c2 : List ℕ) → are_registers scope ≡ true
    → MakesLeast c0 c1 scope vector_lanes.counter first others → Emits c1 c2 (Vector (v.Vsetvli 0 first_value (vtype_of vector_lanes.group)) ∷ [])
    → Configures c0 c2 scope vector_lanes (left_lanes vector_lanes (first ∷ others))
least-configured scope vector_lanes first others c0 c1 c2 all p z = record {
  insns = p.insns ++ (Vector (v.Vsetvli 0 first_value (vtype_of vector_lanes.group)) ∷ []);
  emits = emits_then p.emits z;
  does = λ w m values f l holders knows.
      let a = p.does w m values f l holders knows in
      let n = min (a.after first_value) (most_elements (vtype_of vector_lanes.group)) in
      let is = most vector_lanes.group in
      let e : n ≡ left_lanes vector_lanes (first ∷ others) values =
      ap (λ k. min (a.after first_value) k) is ∙ ap (λ k. min k (all_lanes vector_lanes)) a.value in
      record {
        after = configure a.after n (vtype_of vector_lanes.group);
        line = line-then w p.insns (Vector (v.Vsetvli 0 first_value (vtype_of vector_lanes.group)) ∷ []) f a.after (configure a.after n (vtype_of vector_lanes.group)) m m m
            a.line (configure-by w a.after m l first_value (vtype_of vector_lanes.group) (omega arith) (omega arith) (supported vector_lanes.group));
        has = subst (λ k. HasLanes vector_lanes.group k (configure a.after n (vtype_of vector_lanes.group))) e (has-lanes vector_lanes.group a.after n (omega (arith, is)));
        keeps = λ q kept.
            let u = kept-apart scope q holders kept in
            configured-others a.after n (vtype_of vector_lanes.group) q (kept-low scope q all kept)
            ∙ a.others q (value-free scope holders q kept) (address-free scope holders q kept) u.0 u.1;
        lanes_stay = λ q high.
            lanes-configured a.after n (vtype_of vector_lanes.group) q high
            ∙ a.others q (λ e. omega (arith, e, high)) (λ e. omega (arith, e, high)) (λ e. omega (arith, e, high)) (λ e. omega (arith, e, high));
      };
}

-- ---- the least of sums

less-than-both : (x y n : ℕ) → x < n → y < n → word.minimum x y < n
less-than-both x y n one two = go (word.less y x)
  where
    go : (t : Bool) → (if t then y else x) < n
    go true = two
    go false = one

pub least-small : (counter : Counter) (first : Left) (others : List Left) (values : Values) → least_left counter first others values < 2 ^ 32
least-small counter first [] values = left-small counter first values
least-small counter first (next ∷ others) values =
    less-than-both (least_left counter next others values) (left_by counter first values) (2 ^ 32) (least-small counter next others values)
    (left-small counter first values)

pub least-more : (scope : List Held) (counter : Counter) (first next : Left) (others rest : List Left) (b : ℕ) (c0 c1 c2 c3 : List ℕ)
    → others ≡ next ∷ rest → MakesLeast c0 c1 scope counter next rest → MakesLeft c1 c2 scope counter b first
    → MakesOfTwo c2 c3 4 first_value first_value b (word.applied op.Minimum) → MakesLeast c0 c3 scope counter first others
least-more scope counter first next others rest b c0 c1 c2 c3 is x p z = subst (MakesLeast c0 c3 scope counter first) (sym is) (record {
  insns = (x.insns ++ p.insns) ++ z.insns;
  emits = emits_then (emits_then x.emits p.emits) z.emits;
  does = λ w m values f l holders knows.
      let at = with counter 0 values in
      let one = x.does w m values f l holders knows in
      let still = knows-still w.hart scope at f one.after
      (λ q kept.
      let u = kept-apart scope q holders kept in
      one.others q (value-free scope holders q kept) (address-free scope holders q kept) u.0 u.1) knows in
      let two = p.does w m values one.after l holders still in
      let stays : two.after first_value ≡ least_left counter next rest values =
      two.others first_value (λ e. omega (arith, e)) (λ e. omega (arith, e)) (λ e. omega (arith, e)) ∙ one.value in
      let zero : two.after zero_register ≡ 0 =
      two.others zero_register (λ e. omega (arith, e)) (λ e. omega (arith, e)) (λ e. omega (arith, e)) ∙ knows-zero w.hart scope at one.after still in
      let three = z.does w m two.after l zero (subst (λ n. n < 2 ^ 32) (sym stays) (least-small counter next rest values))
      (subst (λ n. n < 2 ^ 32) (sym two.value) (left-small counter first values)) in
      record {
        after = three.after;
        line = line-then w (x.insns ++ p.insns) z.insns f two.after three.after m m m
            (line-then w x.insns p.insns f one.after two.after m m m one.line two.line) three.line;
        value = three.value ∙ ap (λ n. word.minimum n (two.after b)) stays ∙ ap (word.minimum (least_left counter next rest values)) two.value;
        others = λ q apart address s1 s2.
            three.others q apart s1 s2 ∙ two.others q address s1 s2 ∙ one.others q apart address s1 s2;
      };
})

-- ---- groups

equal : (n k : ℕ) → (n == k) ≡ true → n ≡ k
equal n k t = grind (arith, nat_tests)

none-some : {own : LaneGroup} → None ≡ Some own → ⊥
none-some e = absurd (cc e)

abbrev or-this : LaneGroup → Option LaneGroup → LaneGroup
or-this other None = other
or-this other (Some own) = own

lanes-are : (count : ℕ) (a group : LaneGroup) → count ≡ 4 * registers a → Some a ≡ Some group → count ≡ 4 * registers group
lanes-are count a group n e = subst (λ g. count ≡ 4 * registers g) (ap (or-this group) e) n

-- a group has as many lanes as a loop that it is for has iterations
pub group-count : (count : ℕ) (group : LaneGroup) → group_of_lanes count ≡ Some group → count ≡ 4 * registers group
group-count count group e = by-four (count == 4) refl e
  where
    by-sixteen : (t : Bool) → (count == 16) ≡ t → (if t then Some groups.Four else None) ≡ Some group → count ≡ 4 * registers group
    by-sixteen true is k = lanes-are count groups.Four group (equal count 16 is) k
    by-sixteen false is k = absurd (none-some k)

    by-eight : (t : Bool) → (count == 8) ≡ t → (if t then Some groups.Two else (if count == 16 then Some groups.Four else None)) ≡ Some group
        → count ≡ 4 * registers group
    by-eight true is k = lanes-are count groups.Two group (equal count 8 is) k
    by-eight false is k = by-sixteen (count == 16) refl k

    by-four : (t : Bool) → (count == 4) ≡ t
        → (if t then Some groups.One else (if count == 8 then Some groups.Two else (if count == 16 then Some groups.Four else None))) ≡ Some group
        → count ≡ 4 * registers group
    by-four true is k = lanes-are count groups.One group (equal count 4 is) k
    by-four false is k = by-eight (count == 8) refl k
