-- Values that are made in parts of a run's lanes.
use Rattle.std.proofs.Common.{◌≡◌, ℕ, ◌+◌, ◌-◌, ◌*◌, ◌%◌, ◌^◌, ◌<◌, ◌≤◌, List, [], ◌∷◌, ◌++◌, Bool, true, false, refl, ap, ◌∙◌, sym, subst, arith, inl, inr}
use Rattle.std.specs.Prelude.{◌⊎◌, if◌then◌else◌, min, nat_lt}
use Rattle.std.specs.List.{AllByRecursion}
use Rattle.std.proofs.Math.Nat.{min-eq_left, min-eq_right}
use Rattle.std.proofs.lemmas.Bool.{cases_lt, ltb-true, ltb-false}
use Rattle.rv_insn.specs.declared.instructions.Insn.TheVariants.{Alu, Vector}
use Rattle.rv_insn.specs.declared.operations.AluOp.TheVariants as alus
use Rattle.rv_insn.specs.declared.vector_instructions.VectorInsn.TheVariants as v
use Rattle.hart_core.specs.Scalar.{computed, one_if}
use Rattle.vector_unit.specs.Vector.{most_elements}
use Rattle.loop_ir.specs.declared.expressions.Expr.{Expr}
use Rattle.loop_ir.specs.Counters.{Values, with}
use Rattle.loop_ir.specs.Expressions.{value}
use Rattle.multi_hart_laws.specs.Paths.{configure, lane}
use Rattle.multi_hart_laws.proofs.Configurations.{configure-at, configure-by}
use Rattle.multi_hart_laws.proofs.Paths.{line-then}
use Rattle.task_code_scalar.specs.declared.layouts.Places.{Places}
use Rattle.task_code_scalar.specs.Evaluation.{Loads}
use Rattle.task_code_scalar.specs.Words.{Emits}
use Rattle.task_code_scalar.proofs.Spelling.{emits_then}
use Rattle.task_code_scalar.proofs.Values.{alu-sets}
use Rattle.task_code_registers.specs.declared.scopes.Held.{Held}
use Rattle.task_code_registers.specs.Emitting.{Makes}
use Rattle.task_code_registers.specs.Registers.{address_register, first_value, zero_register}
use Rattle.task_code_registers.specs.Scopes.{AreHolders, IsKept, Knows}
use Rattle.task_code_registers.proofs.Knowing.{MayHold, kept-apart, kept-low, knows-still, knows-zero, may-hold}
use Rattle.task_code_registers.proofs.Striding.{form-loop_invariant}
use Rattle.task_code_loops.specs.Beginning.{variable}
use Rattle.task_code_loops.proofs.Knowledge.{knows-with, knows-without, stands-at, variable-value}
use Rattle.task_code_lanes.specs.declared.groups.LaneGroup.{LaneGroup}
use Rattle.task_code_lanes.specs.declared.groups.LaneGroup.TheVariants as groups
use Rattle.task_code_lanes.specs.Groups.{registers, slot, slots, vtype_of}
use Rattle.task_code_lanes.specs.Leaving.{HasLanes}
use Rattle.task_code_lanes.proofs.Configured.{configured-others, few-lanes, has-lanes, most, supported}
use Rattle.task_code_lanes.proofs.Slots.{slot-lies}
use Rattle.task_code_lane_values.specs.declared.vectorized.VectorLanes.{VectorLanes}
use Rattle.task_code_lane_values.specs.Leaving.{MakesLanes}
use Rattle.task_code_lane_values.proofs.Composing.{kept-under, lanes-under}
use Rattle.task_code_vector_loops.specs.declared.left.Left.{Left}
use Rattle.task_code_vector_loops.specs.declared.parts.LaneParts.{LaneParts}
use Rattle.task_code_vector_loops.specs.inner.Going.{GoesOn, IsFurther}
use Rattle.task_code_vector_loops.specs.inner.Making.{Configures, MakesLeast}
use Rattle.task_code_vector_loops.specs.inner.Parting.{ConfiguresPart, IsReady, MakesPart, MakesRun, count_of, further_of, part_lanes}
use Rattle.task_code_vector_loops.specs.Runs.{all_lanes, group_lanes, least_left, left_lanes}
use Rattle.task_code_vector_loops.proofs.Counting.{all-of, lanes-configured, least-small}
use Rattle.task_code_vector_loops.proofs.Pointing.{address-free}
use Rattle.task_code_vector_loops.proofs.Sharing.{value-free}

-- ---- how many lanes a part has

-- the first of them, and how many there are
record AreNumbers (from most count first number : ℕ) : Type 0 where
  some : 1 ≤ number
  within : first + number ≤ count
  all : (i : ℕ) → from ≤ i → i < count → i < from + most → (first ≡ from) × (i < from + number)

-- the lesser of two is one of them
lesser : (a b : ℕ) → ((min a b ≡ a) × (a ≤ b)) ⊎ ((min a b ≡ b) × (b ≤ a))
lesser a b = by (cases_lt b a)
  where
    by : (b < a) ⊎ (a ≤ b) → ((min a b ≡ a) × (a ≤ b)) ⊎ ((min a b ≡ b) × (b ≤ a))
    by (inl less) = inr (min-eq_right (omega (arith, less)), omega (arith, less))
    by (inr most) = inl (min-eq_left most, most)

-- where iterations are left after this many, they begin there
later : (from most all left : ℕ) → from < left → 1 ≤ most → from + most ≤ all → AreNumbers from most (min left all) from (min (left - from) most)
later from most all left less some inside =
    let a = lesser left all in
    let b = lesser (left - from) most in
    record {
      some = omega (arith, b, less, some);
      within = omega (arith, a, b, less, inside);
      all = λ i low below inside-part. (refl, omega (arith, a, b, low, below, inside-part, less));
    }

-- and else they are the first ones
earlier : (from most all left : ℕ) → left ≤ from → 1 ≤ min left all → 1 ≤ most → from + most ≤ all
    → AreNumbers from most (min left all) 0 (min left most)
earlier from most all left less one some inside =
    let a = lesser left all in
    let b = lesser left most in
    record {
      some = omega (arith, a, b, one, some);
      within = omega (arith, a, b, inside);
      all = λ i low below inside-part. absurd (omega (arith, a, low, below, less, inside));
    }

some-lanes : (group : LaneGroup) → 1 ≤ 4 * registers group
some-lanes group = let s = slot-lies group 0 (some-slot group) in let f = s.few in omega (arith, f)
  where
    some-slot : (g : LaneGroup) → 0 < slots g
    some-slot groups.One = omega arith
    some-slot groups.Two = omega arith
    some-slot groups.Four = omega arith

-- as instructions leave them
numbers-are : (from most all left : ℕ) → left < 2 ^ 32 → from + most ≤ all → all ≤ 16 → 1 ≤ min left all → 1 ≤ most
    → AreNumbers from most (min left all) ((computed alus.Sltu from left * from) % 2 ^ 32)
    (min (computed alus.Sub left ((computed alus.Sltu from left * from) % 2 ^ 32)) most)
numbers-are from most all left small inside few one some = by-test (nat_lt from left) refl
  where
    by-test : (t : Bool) → nat_lt from left ≡ t
        → AreNumbers from most (min left all) ((one_if t * from) % 2 ^ 32) (min ((left + (2 ^ 32 - (one_if t * from) % 2 ^ 32)) % 2 ^ 32) most)
    by-test true is =
        let less = ltb-true from left is in
        let start : (1 * from) % 2 ^ 32 ≡ from = omega (arith, inside, few) in
        let rest : (left + (2 ^ 32 - from)) % 2 ^ 32 ≡ left - from = omega (arith, less, small) in
        subst (λ s. AreNumbers from most (min left all) s (min ((left + (2 ^ 32 - s)) % 2 ^ 32) most)) (sym start)
        (subst (λ r. AreNumbers from most (min left all) from (min r most)) (sym rest) (later from most all left less some inside))
    by-test false is =
        let more = ltb-false from left is in
        let start : (0 * from) % 2 ^ 32 ≡ 0 = omega arith in
        let rest : (left + (2 ^ 32 - 0)) % 2 ^ 32 ≡ left = omega (arith, small) in
        subst (λ s. AreNumbers from most (min left all) s (min ((left + (2 ^ 32 - s)) % 2 ^ 32) most)) (sym start)
        (subst (λ r. AreNumbers from most (min left all) 0 (min r most)) (sym rest)
        (earlier from most all left (omega (arith, more)) one some inside))

-- ---- code that configures them

module _ (lane_parts : LaneParts) (ready : IsReady lane_parts) (from : ℕ)
    (inside : from + part_lanes lane_parts ≤ all_lanes lane_parts.lanes) where
  abbrev scope : List Held
  scope = lane_parts.scope.now

  abbrev q : ℕ
  q = lane_parts.register

  may : MayHold q
  may = may-hold q ready.free.0

  -- where all iterations are left
  pub whole-part : (c0 c1 c2 : List ℕ) → lane_parts.left.now ≡ [] → Makes c0 c1 2 q (λ f. from)
      → Emits c1 c2 (Vector (v.Vsetivli 0 (group_lanes lane_parts.group) (vtype_of lane_parts.group)) ∷ []) → ConfiguresPart c0 c2 lane_parts from
  whole-part c0 c1 c2 none x z = record {
    insns = x.insns ++ (Vector (v.Vsetivli 0 (group_lanes lane_parts.group) (vtype_of lane_parts.group)) ∷ []);
    emits = emits_then x.emits z;
    does = λ w m values f l holders knows one.
        let high = may.high in
        let last = Vector (v.Vsetivli 0 (group_lanes lane_parts.group) (vtype_of lane_parts.group)) ∷ [] in
        let a = x.does w m f l (knows-zero w.hart scope (with lane_parts.lanes.counter 0 values) f knows) in
        let n = min (group_lanes lane_parts.group) (most_elements (vtype_of lane_parts.group)) in
        let e = all-of lane_parts.group in
        let behind = configure a.after n (vtype_of lane_parts.group) in
        let count : count_of lane_parts values ≡ all_lanes lane_parts.lanes = ap
        (λ k. left_lanes lane_parts.lanes k values) none in
        record {
          after = behind;
          line = line-then w x.insns last f a.after behind m m m a.line
              (configure-at w a.after m l (group_lanes lane_parts.group) (vtype_of lane_parts.group)
              (supported lane_parts.group));
          first = from;
          number = part_lanes lane_parts;
          at = configured-others a.after n (vtype_of lane_parts.group) q (omega (arith, high)) ∙ a.value;
          has = subst (λ k. HasLanes lane_parts.group k behind) e
              (has-lanes lane_parts.group a.after n (omega (arith, e)));
          some = some-lanes lane_parts.group;
          few = omega arith;
          within = omega (arith, count, inside);
          all = λ i low below inside-part. (refl, inside-part);
          keeps = λ r kept.
              let u = kept-apart scope r holders kept in
              configured-others a.after n (vtype_of lane_parts.group) r (kept-low scope r ready.registers kept) ∙ a.others r (ready.free.1 r kept) u.0 u.1;
          lanes_stay = λ r up.
              lanes-configured a.after n (vtype_of lane_parts.group) r up
              ∙ a.others r (λ e. omega (arith, e, up, high)) (λ e. omega (arith, e, up)) (λ e. omega (arith, e, up));
        };
  }

  -- and where some are
  pub rest-part : (first : Left) (others : List Left) (c0 c1 c2 c3 c4 c5 c6 : List ℕ) → lane_parts.left.now ≡ first ∷ others → Makes c0 c1 2 q (λ f. from)
      → MakesLeast c1 c2 scope lane_parts.lanes.counter first others → Emits c2 c3 (Alu alus.Sltu address_register q first_value ∷ [])
      → Makes c3 c4 3 q (λ f. (f address_register * from) % 2 ^ 32) → Emits c4 c5 (Alu alus.Sub first_value first_value q ∷ [])
      → Emits c5 c6 (Vector (v.Vsetvli 0 first_value (vtype_of lane_parts.group)) ∷ [])
      → ConfiguresPart c0 c6 lane_parts from
  rest-part first others c0 c1 c2 c3 c4 c5 c6 is x y e1 z e2 e3 =
      let i1 = Alu alus.Sltu address_register q first_value ∷ [] in
      let i2 = Alu alus.Sub first_value first_value q ∷ [] in
      let i3 = Vector (v.Vsetvli 0 first_value (vtype_of lane_parts.group)) ∷ [] in
      record {
        insns = x.insns ++ (y.insns ++ (i1 ++ (z.insns ++ (i2 ++ i3))));
        emits = emits_then x.emits (emits_then y.emits (emits_then e1 (emits_then z.emits (emits_then e2 e3))));
        does = λ w m values f l holders knows one.
            let high = may.high in
            let counter = lane_parts.lanes.counter in
            let at0 = with counter 0 values in
            let left = least_left counter first others values in
            let start = (computed alus.Sltu from left * from) % 2 ^ 32 in
            let a = x.does w m f l (knows-zero w.hart scope at0 f knows) in
            let ka = knows-still w.hart scope at0 f a.after
            (λ r kept. let u = kept-apart scope r holders kept in a.others r (ready.free.1 r kept) u.0 u.1) knows in
            let b = y.does w m values a.after l holders ka in
            let qb : b.after q ≡ from = b.others q (λ e. omega (arith, e, high)) may.third may.first may.second ∙ a.value in
            let d1 = alu-sets w m l alus.Sltu b.after address_register q first_value from left (omega arith) (omega arith) (omega (arith, high))
            (omega arith) qb b.value in
            let zero : d1.after zero_register ≡ 0 =
            d1.others zero_register (λ e. omega (arith, e))
            ∙ b.others zero_register (λ e. omega (arith, e)) (λ e. omega (arith, e)) (λ e. omega (arith, e)) (λ e. omega (arith, e))
            ∙ knows-zero w.hart scope at0 a.after ka in
            let d2 = z.does w m d1.after l zero in
            let q2 : d2.after q ≡ start = d2.value ∙ ap (λ n. (n * from) % 2 ^ 32) d1.value in
            let v2 : d2.after first_value ≡ left =
            d2.others first_value (λ e. omega (arith, e, high)) (λ e. omega (arith, e)) (λ e. omega (arith, e))
            ∙ d1.others first_value (λ e. omega (arith, e)) ∙ b.value in
            let d3 = alu-sets w m l alus.Sub d2.after first_value first_value q left start (omega arith) (omega arith) (omega arith) (omega (arith, high))
            v2 q2 in
            let asked = computed alus.Sub left start in
            let n = min (d3.after first_value) (most_elements (vtype_of lane_parts.group)) in
            let many : n ≡ min asked (part_lanes lane_parts) =
            ap (λ k. min k (most_elements (vtype_of lane_parts.group))) d3.value ∙ ap (λ k. min asked k)
            (most lane_parts.group) in
            let low = lesser asked (part_lanes lane_parts) in
            let behind = configure d3.after n (vtype_of lane_parts.group) in
            let count : count_of lane_parts values ≡ min left (all_lanes lane_parts.lanes) = ap (λ k. left_lanes lane_parts.lanes k values) is in
            let are = subst (λ k. AreNumbers from (part_lanes lane_parts) k start (min asked (part_lanes lane_parts)))
            (sym count)
            (numbers-are from (part_lanes lane_parts) (all_lanes lane_parts.lanes) left (least-small counter first others values) inside (few-lanes lane_parts.lanes.group)
            (subst (λ k. 1 ≤ k) count one) (some-lanes lane_parts.group)) in
            record {
              after = behind;
              line = line-then w x.insns (y.insns ++ (i1 ++ (z.insns ++ (i2 ++ i3)))) f a.after behind m m m a.line
                  (line-then w y.insns (i1 ++ (z.insns ++ (i2 ++ i3))) a.after b.after behind m m m b.line
                  (line-then w i1 (z.insns ++ (i2 ++ i3)) b.after d1.after behind m m m d1.line
                  (line-then w z.insns (i2 ++ i3) d1.after d2.after behind m m m d2.line
                  (line-then w i2 i3 d2.after d3.after behind m m m d3.line
                  (configure-by w d3.after m l first_value (vtype_of lane_parts.group) (omega arith) (omega arith) (supported lane_parts.group))))));
              first = start;
              number = min asked (part_lanes lane_parts);
              at = configured-others d3.after n (vtype_of lane_parts.group) q (omega (arith, high)) ∙ d3.others q (λ e. omega (arith, e, high)) ∙ q2;
              has = subst (λ k. HasLanes lane_parts.group k behind) many (has-lanes lane_parts.group d3.after n (omega (arith, many, low)));
              some = are.some;
              few = omega (arith, low);
              within = are.within;
              all = are.all;
              keeps = λ r kept.
                  let u = kept-apart scope r holders kept in
                  configured-others d3.after n (vtype_of lane_parts.group) r (kept-low scope r ready.registers kept) ∙ d3.others r (value-free scope holders r kept)
                  ∙ d2.others r (ready.free.1 r kept) u.0 u.1 ∙ d1.others r (address-free scope holders r kept)
                  ∙ b.others r (value-free scope holders r kept) (address-free scope holders r kept) u.0 u.1 ∙ a.others r (ready.free.1 r kept) u.0 u.1;
              lanes_stay = λ r up.
                  lanes-configured d3.after n (vtype_of lane_parts.group) r up ∙ d3.others r (λ e. omega (arith, e, up))
                  ∙ d2.others r (λ e. omega (arith, e, up, high)) (λ e. omega (arith, e, up)) (λ e. omega (arith, e, up))
                  ∙ d1.others r (λ e. omega (arith, e, up))
                  ∙ b.others r (λ e. omega (arith, e, up)) (λ e. omega (arith, e, up)) (λ e. omega (arith, e, up)) (λ e. omega (arith, e, up))
                  ∙ a.others r (λ e. omega (arith, e, up, high)) (λ e. omega (arith, e, up)) (λ e. omega (arith, e, up));
            };
      }

  -- ---- values

  abbrev there : ℕ → Values → Values
  there b values = with lane_parts.by b values

  goes-on : (b i : ℕ) (values : Values) → GoesOn (further_of lane_parts) (with lane_parts.lanes.counter (b + i) values) (with lane_parts.lanes.counter i (there b values))
  goes-on b i values = record {
    by = b;
    iteration = i;
    here = values;
    there = there b values;
    apart = ready.apart;
    values_are = refl;
    moved_are = refl;
    at = stands-at lane_parts.by b values;
    same = λ counter other. ap (λ t. if t then b else values counter) other;
  }

  abbrev small-lanes : VectorLanes
  small-lanes = record { counter = lane_parts.lanes.counter; group = lane_parts.group }

  knows-inner : (hart b : ℕ) (values : Values) (f : ℕ → ℕ) → b < 2 ^ 32 → f q ≡ b → Knows hart scope (with lane_parts.lanes.counter 0 values) f
      → Knows hart lane_parts.inner.now (with lane_parts.lanes.counter 0 (there b values)) f
  knows-inner hart b values f small is knows =
      let counter = lane_parts.lanes.counter in
      let none = ap (λ t. if t then true else false) ready.apart in
      let form = form-loop_invariant counter 0 hart (there b values) (variable lane_parts.by) none ∙ variable-value lane_parts.by hart b values small in
      let others = knows-with counter 0 hart scope (there b values) f ready.loop_invariant (knows-with lane_parts.by b hart scope values f ready.lacks
      (knows-without counter 0 hart scope values f ready.loop_invariant knows)) in
      subst (λ held. Knows hart held (with counter 0 (there b values)) f) (sym ready.inner_is) (is ∙ sym form, others)

  holders-inner : AreHolders scope → AreHolders lane_parts.inner.now
  holders-inner holders = subst AreHolders (sym ready.inner_is) (inl ready.free.0, (ready.free.1, holders))

  kept-inner : (r : ℕ) → IsKept scope r → IsKept lane_parts.inner.now r
  kept-inner r kept = subst (λ held. IsKept held r) (sym ready.inner_is) (inr kept)

  pub part-made : (k : ℕ) (c0 c1 c2 : List ℕ) → k < slots lane_parts.group → ConfiguresPart c0 c1 lane_parts from
      → MakesLanes c1 c2 lane_parts.places.now lane_parts.inner.now small-lanes k lane_parts.made.now → MakesPart c0 c2 lane_parts k from (from + part_lanes lane_parts)
  part-made k c0 c1 c2 in-stack x y = record {
    insns = x.insns ++ y.insns;
    emits = emits_then x.emits y.emits;
    does = λ e further w m values reads f l are holders knows one loaded.
        let counter = lane_parts.lanes.counter in
        let a = x.does w m values f l holders knows one in
        let at0 = with counter 0 values in
        let within = a.within in
        let word : a.first < 2 ^ 32 = let c = count-small values in omega (arith, within, c) in
        let b = y.does w m (there a.first values) reads a.number a.after l are (holders-inner holders)
        (knows-inner w.hart a.first values a.after word a.at (knows-still w.hart scope at0 f a.after a.keeps knows)) a.has a.some a.few
        (λ j less. subst (AllByRecursion (Loads w lane_parts.places.now m reads)) (sym (further.loads_are reads _ _ (goes-on a.first j values)))
        (loaded (a.first + j) (omega (arith, within, less)))) in
        record {
          after = b.after;
          line = line-then w x.insns y.insns f a.after b.after m m m a.line b.line;
          value = λ i low below inside-part.
              let z = a.all i low below inside-part in
              let begin = z.0 in
              let end = z.1 in
              let same : a.first + (i - from) ≡ i = omega (arith, begin, low) in
              b.value (i - from) (omega (arith, low, end)) ∙ further.value_is reads _ _ (goes-on a.first (i - from) values)
              ∙ ap (λ n. value reads (with counter n values) e) same;
          small = λ i low below inside-part.
              let z = a.all i low below inside-part in
              let begin = z.0 in
              let end = z.1 in
              let same : a.first + (i - from) ≡ i = omega (arith, begin, low) in
              subst (λ n. n < 2 ^ 32) (further.value_is reads _ _ (goes-on a.first (i - from) values) ∙ ap (λ n. value reads (with counter n values) e) same)
              (b.small (i - from) (omega (arith, low, end)));
          keeps = λ r kept.
              b.keeps r (kept-under lane_parts.group k lane_parts.inner.now r (holders-inner holders) (kept-inner r kept)) ∙ a.keeps r kept;
          below = λ r low high. b.keeps r (inr (inr (low, high))) ∙ a.lanes_stay r (omega (arith, low));
        };
  }
    where
      count-small : (values : Values) → count_of lane_parts values ≤ 16
      count-small values = by lane_parts.left.now
        where
          by : (left : List Left) → left_lanes lane_parts.lanes left values ≤ 16
          by [] = few-lanes lane_parts.lanes.group
          by (first ∷ others) =
              let a = lesser (least_left lane_parts.lanes.counter first others values) (all_lanes lane_parts.lanes) in
              let b = few-lanes lane_parts.lanes.group in
              omega (arith, a, b)

-- ---- one part after the other

module _ (lane_parts : LaneParts) where
  pub parts-then : (k from : ℕ) (c0 c1 c2 : List ℕ) → k < slots lane_parts.group → MakesPart c0 c1 lane_parts k from (from + part_lanes lane_parts)
      → MakesPart c1 c2 lane_parts (k + 1) (from + part_lanes lane_parts) (all_lanes lane_parts.lanes) → MakesPart c0 c2 lane_parts k from (all_lanes lane_parts.lanes)
  parts-then k from c0 c1 c2 in-stack x y = record {
    insns = x.insns ++ y.insns;
    emits = emits_then x.emits y.emits;
    does = λ e further w m values reads f l are holders knows one loaded.
        let s = slot-lies lane_parts.group k in-stack in
        let next = s.next in
        let low-slot = s.low in
        let a = x.does e further w m values reads f l are holders knows one loaded in
        let ka = knows-still w.hart lane_parts.scope.now (with lane_parts.lanes.counter 0 values) f a.after a.keeps
        knows in
        let b = y.does e further w m values reads a.after l are holders ka one loaded in
        record {
          after = b.after;
          line = line-then w x.insns y.insns f a.after b.after m m m a.line b.line;
          value = λ i low below upto. elim (cases_lt i (from + part_lanes lane_parts)) [
            | inl c ↦ b.below (lane (slot lane_parts.group k) (i - from)) (omega (arith, low-slot)) (omega (arith, next, c, low)) ∙ a.value i low below c
            | inr d ↦
                let same : lane (slot lane_parts.group k) (i - from) ≡ lane (slot lane_parts.group (k + 1)) (i - (from + part_lanes lane_parts)) = omega (arith, next, d) in
                ap b.after same ∙ b.value i d below upto
          ];
          small = λ i low below upto. elim (cases_lt i (from + part_lanes lane_parts)) [
            | inl c ↦ a.small i low below c
            | inr d ↦ b.small i d below upto
          ];
          keeps = λ r kept. b.keeps r kept ∙ a.keeps r kept;
          below = λ r low high. b.below r low (omega (arith, next, high)) ∙ a.below r low high;
        };
  }

  -- ---- with lanes for all configured after them

  pub run-of-parts : (s k : ℕ) (e : Expr) (c0 c1 c2 : List ℕ) → IsFurther (further_of lane_parts) e lane_parts.made.now → slot lane_parts.group s ≡ slot lane_parts.lanes.group k
      → slot lane_parts.group 0 ≤ slot lane_parts.lanes.group 0 → MakesPart c0 c1 lane_parts s 0
      (all_lanes lane_parts.lanes)
      → Configures c1 c2 lane_parts.scope.now lane_parts.lanes (left_lanes lane_parts.lanes lane_parts.left.now)
      → MakesRun c0 c2 lane_parts.places.now lane_parts.scope.now lane_parts.lanes
      (left_lanes lane_parts.lanes lane_parts.left.now) k e
  run-of-parts s k e c0 c1 c2 further at above x y = record {
    insns = x.insns ++ y.insns;
    emits = emits_then x.emits y.emits;
    does = λ w m values reads f l are holders knows one few loaded.
        let a = x.does e further w m values reads f l are holders knows one loaded in
        let ka = knows-still w.hart lane_parts.scope.now (with lane_parts.lanes.counter 0 values) f a.after a.keeps
        knows in
        let b = y.does w m values a.after l holders ka in
        record {
          after = b.after;
          line = line-then w x.insns y.insns f a.after b.after m m m a.line b.line;
          has = b.has;
          value = λ i less.
              let same : lane (slot lane_parts.lanes.group k) i ≡ lane (slot lane_parts.group s) (i - 0) = omega
              (arith, at) in
              b.lanes_stay (lane (slot lane_parts.lanes.group k) i) (omega arith) ∙ ap a.after same ∙ a.value i (omega arith) less (omega (arith, less, few));
          small = λ i less. a.small i (omega arith) less (omega (arith, less, few));
          keeps = λ r kept. b.keeps r kept ∙ a.keeps r kept;
          below = λ r low high. b.lanes_stay r (omega (arith, low)) ∙ a.below r (omega (arith, low, above)) (omega (arith, high, at));
        };
  }

-- ---- all lanes at once

pub values-run : (places : Places) (scope : List Held) (vector_lanes : VectorLanes) (count : Values → ℕ) (e : Expr) (c0 c1 c2 : List ℕ)
    → Configures c0 c1 scope vector_lanes count → MakesLanes c1 c2 places scope vector_lanes 0 e → MakesRun c0 c2 places scope vector_lanes count 0 e
values-run places scope vector_lanes count e c0 c1 c2 x y = record {
  insns = x.insns ++ y.insns;
  emits = emits_then x.emits y.emits;
  does = λ w m values reads f l are holders knows one few loaded.
      let a = x.does w m values f l holders knows in
      let ka = knows-still w.hart scope (with vector_lanes.counter 0 values) f a.after a.keeps knows in
      let b = y.does w m values reads (count values) a.after l are holders ka a.has one few loaded in
      record {
        after = b.after;
        line = line-then w x.insns y.insns f a.after b.after m m m a.line b.line;
        has = lanes-under w m l vector_lanes.group (count values) 0 a.after b.after b.keeps a.has;
        value = b.value;
        small = b.small;
        keeps = λ r kept. b.keeps r (kept-under vector_lanes.group 0 scope r holders kept) ∙ a.keeps r kept;
        below = λ r low high. absurd (omega (arith, low, high));
      };
}
