-- Code after which lanes have the addresses of a store's points.
use Rattle.std.proofs.Common.{◌≡◌, ℕ, ◌+◌, ◌*◌, ◌%◌, ◌^◌, ◌<◌, ◌≤◌, List, [], ◌∷◌, ◌++◌, length, refl, ap, ◌∙◌, sym, subst, arith, inl, inr}
use Rattle.std.specs.List.{AllByRecursion}
use Rattle.rv_insn.specs.declared.instructions.Insn.{Insn}
use Rattle.rv_insn.specs.declared.vector_instructions.Addressing.{Addressing}
use Rattle.rv_insn.specs.declared.vector_instructions.Addressing.TheVariants as addressings
use Rattle.halide_pipeline.specs.declared.expressions.Operation.TheVariants as op
use Rattle.halide_pipeline.specs.Pixel.{Reads}
use Rattle.halide_pipeline.specs.Words as word
use Rattle.loop_ir.specs.declared.expressions.Expr.{Expr}
use Rattle.loop_ir.specs.declared.expressions.Expr.TheVariants as expressions
use Rattle.loop_ir.specs.declared.expressions.Linear.{Linear}
use Rattle.loop_ir.specs.declared.statements.Store.{Store}
use Rattle.loop_ir.specs.Counters.{Values, with}
use Rattle.loop_ir.specs.Expressions.{value, loads, linear_value}
use Rattle.multi_hart_laws.specs.Alone.{World}
use Rattle.multi_hart_laws.specs.Paths.{IsGroup, Line, lane}
use Rattle.multi_hart_laws.specs.LaneMemory.{offset_at, OffsetsFit}
use Rattle.multi_hart_laws.proofs.Paths.{line-then}
use Rattle.task_code_scalar.specs.declared.layouts.BufferLayout.{BufferLayout}
use Rattle.task_code_scalar.specs.declared.layouts.Places.{Places}
use Rattle.task_code_scalar.specs.Code.{address, pixel_bytes}
use Rattle.task_code_scalar.specs.Evaluation.{ArePlaces, Loads}
use Rattle.task_code_scalar.specs.Words.{Emits}
use Rattle.task_code_scalar.proofs.Spelling.{emits_then}
use Rattle.task_code_registers.specs.declared.scopes.AffineForm.{AffineForm}
use Rattle.task_code_registers.specs.declared.scopes.Held.{Held}
use Rattle.task_code_registers.specs.Emitting.{Makes}
use Rattle.task_code_registers.specs.Points.{IsPoint}
use Rattle.task_code_registers.specs.Registers.{address_register, first_value}
use Rattle.task_code_registers.specs.Scopes.{AreHolders, IsKept, Knows, form_value}
use Rattle.task_code_registers.specs.Strides.{strides}
use Rattle.task_code_registers.proofs.Knowing.{knows-still, knows-zero}
use Rattle.task_code_values.specs.Making.{IsBelow}
use Rattle.task_code_values.specs.Operands.{IsSum}
use Rattle.task_code_values.proofs.Evaluating.{loads_binary, value_binary, value_number}
use Rattle.task_code_values.proofs.Standing.{below-apart, kept-below}
use Rattle.task_code_names.proofs.Alike.{loads_number}
use Rattle.task_code_lanes.specs.declared.groups.LaneGroup.{LaneGroup}
use Rattle.task_code_lanes.specs.declared.groups.LaneGroup.TheVariants as groups
use Rattle.task_code_lanes.specs.Groups.{registers, slot, slots}
use Rattle.task_code_lanes.proofs.Slots.{slot-lies}
use Rattle.task_code_lanes.specs.Leaving.{HasLanes}
use Rattle.task_code_lane_values.specs.declared.vectorized.VectorLanes.{VectorLanes}
use Rattle.task_code_lane_values.specs.Leaving.{MakesDistances}
use Rattle.task_code_lane_values.proofs.Composing.{kept-under, lane-below, lanes-scalar, lanes-under}
use Rattle.task_code_lane_values.proofs.Gathering.{number-reaches}
use Rattle.task_code_lane_values.proofs.Loading.{form-goes}
use Rattle.task_code_vector_loops.specs.inner.Far.{IsDistance, IsProduct, MakesFar}
use Rattle.task_code_vector_loops.specs.inner.Making.{MakesPointer}
use Rattle.task_code_vector_loops.specs.inner.Parting.{LoadsEach, MakesRun}
use Rattle.task_code_vector_loops.specs.Runs.{all_lanes}

-- straight code after which lanes lie where points do, and that keeps the first group
pub record Aims (w : World) (m : List ℕ) (is : List Insn) (scope : List Held) (f : ℕ → ℕ) (group : LaneGroup) (b : ℕ) (addressing : Addressing) (n : ℕ)
    (layout : BufferLayout) (x y : ℕ → ℕ) : Type 0 where
  pub after : ℕ → ℕ
  pub line : Line w is f m after m
  pub has : HasLanes group n after
  pub keeps : (q : ℕ) → IsKept scope q → after q ≡ f q
  pub stays : (i : ℕ) → i < n → after (lane (slot group 0) i) ≡ f (lane (slot group 0) i)
  pub reaches : (k : ℕ) → k < n → address layout w.hart (x k) (y k) < 2 ^ 32
      → (after b + offset_at after addressing k) % 2 ^ 32 ≡ address layout w.hart (x k) (y k)

-- appended code makes lanes' addresses those of a store's points, from what registers hold in the first iteration
pub record MakesAims (old new : List ℕ) (places : Places) (scope : List Held) (lanes_of : VectorLanes) (count : Values → ℕ) (store : Store) (layout : BufferLayout)
    (b : ℕ) (addressing : Addressing) : Type 0 where
  pub insns : List Insn
  pub emits : Emits old new insns
  pub low : b < 32
  pub fit : OffsetsFit (registers lanes_of.group) addressing
  pub does : (w : World) (m : List ℕ) (values : Values) (reads : Reads) (f : ℕ → ℕ) → length m ≡ w.size → ArePlaces places → AreHolders scope
      → Knows w.hart scope (with lanes_of.counter 0 values) f → HasLanes lanes_of.group (count values) f → 1 ≤ count values
      → count values ≤ all_lanes lanes_of → LoadsEach places lanes_of store.x w m reads values (count values)
      → LoadsEach places lanes_of store.y w m reads values (count values)
      → Aims w m insns scope f lanes_of.group b addressing (count values) layout (λ k. value reads (with lanes_of.counter k values) store.x)
      (λ k. value reads (with lanes_of.counter k values) store.y)

-- ---- points at two sums

module _ (places : Places) (scope : List Held) (lanes_of : VectorLanes) (count : Values → ℕ) (store : Store) (x y : Linear) (form : AffineForm) (layout : BufferLayout)
    (ex : IsSum store.x x) (ey : IsSum store.y y) (point : IsPoint layout x y form) (stride : ℕ) (es : stride ≡ strides lanes_of.counter form.sum.terms % 2 ^ 32) where
  -- where an iteration's point lies
  spot-is : (hart k : ℕ) (values : Values) (reads : Reads)
      → address layout hart (value reads (with lanes_of.counter k values) store.x) (value reads (with lanes_of.counter k values) store.y) < 2 ^ 32
      → (form_value hart (with lanes_of.counter 0 values) form + k * stride) % 2 ^ 32
      ≡ address layout hart (value reads (with lanes_of.counter k values) store.x) (value reads (with lanes_of.counter k values) store.y)
  spot-is hart k values reads low =
      let at = with lanes_of.counter k values in
      let a = address layout hart (value reads at store.x) (value reads at store.y) in
      let g : a % 2 ^ 32 ≡ a = omega (arith, low) in
      form-goes lanes_of.counter k stride hart values form es ∙ point.value hart at
      ∙ ap (λ i. address layout hart i (linear_value at y) % 2 ^ 32) (sym (ex.value_is reads at))
      ∙ ap (λ j. address layout hart (value reads at store.x) j % 2 ^ 32) (sym (ey.value_is reads at)) ∙ g

  -- one after the other
  pub dense-aims : (b : ℕ) (c1 c2 : List ℕ) → stride ≡ 4 → MakesPointer c1 c2 scope lanes_of.counter b form
      → MakesAims c1 c2 places scope lanes_of count store layout b addressings.UnitStride
  dense-aims b c1 c2 four t = record {
    insns = t.insns;
    emits = t.emits;
    low = t.source.0;
    fit = tt;
    does = λ w m values reads f l are holders knows has some few mx my.
        let c = t.does w m w.hart values f l holders knows in
        let same : (q : ℕ) → IsBelow first_value q → c.after q ≡ f q =
        (λ q h. let d = below-apart first_value address_register q (inl refl) h in c.others q d.0 d.1.0 d.1.1) in
        record {
          after = c.after;
          line = c.line;
          has = lanes-scalar w m l lanes_of.group (count values) f c.after same has;
          keeps = λ q h. same q (kept-below scope q 20 (omega arith) holders h);
          stays = λ i less. same (lane (slot lanes_of.group 0) i) (lane-below (slot lanes_of.group 0) i);
          reaches = λ k lt low.
              ap (λ i. (i + k * 4) % 2 ^ 32) c.value
              ∙ ap (λ i. (form_value w.hart (with lanes_of.counter 0 values) form + k * i) % 2 ^ 32) (sym four) ∙ spot-is w.hart k values reads low;
        };
  }

  -- at a stride
  pub strided-aims : (b : ℕ) (c1 c2 c3 : List ℕ) → Makes c1 c2 2 first_value (λ f. stride) → MakesPointer c2 c3 scope lanes_of.counter b form
      → MakesAims c1 c3 places scope lanes_of count store layout b (addressings.Strided first_value)
  strided-aims b c1 c2 c3 s t = record {
    insns = s.insns ++ t.insns;
    emits = emits_then s.emits t.emits;
    low = t.source.0;
    fit = omega arith;
    does = λ w m values reads f l are holders knows has some few mx my.
        let first = with lanes_of.counter 0 values in
        let a = s.does w m f l (knows-zero w.hart scope first f knows) in
        let same : (q : ℕ) → IsBelow first_value q → a.after q ≡ f q =
        (λ q h. let d = below-apart first_value first_value q (inr (refl, omega arith)) h in a.others q d.0 d.1.0 d.1.1) in
        let ka = knows-still w.hart scope first f a.after (λ q h. same q (kept-below scope q 20 (omega arith) holders h)) knows in
        let c = t.does w m w.hart values a.after l holders ka in
        let by : c.after first_value ≡ stride = c.others first_value (λ e. omega (arith, e)) (λ e. omega (arith, e)) (λ e. omega (arith, e)) ∙ a.value in
        let v = form_value w.hart first form in
        let both : (q : ℕ) → IsBelow first_value q → c.after q ≡ f q =
        (λ q h. let d = below-apart first_value address_register q (inl refl) h in c.others q d.0 d.1.0 d.1.1 ∙ same q h) in
        record {
          after = c.after;
          line = line-then w s.insns t.insns f a.after c.after m m m a.line c.line;
          has = lanes-scalar w m l lanes_of.group (count values) f c.after both has;
          keeps = λ q h. both q (kept-below scope q 20 (omega arith) holders h);
          stays = λ i less. both (lane (slot lanes_of.group 0) i) (lane-below (slot lanes_of.group 0) i);
          reaches = λ k lt low.
              let p = k * stride in
              let g : (v + p % 2 ^ 32) % 2 ^ 32 ≡ (v + p) % 2 ^ 32 = omega arith in
              ap (λ i. (i + (k * c.after first_value) % 2 ^ 32) % 2 ^ 32) c.value ∙ ap (λ i. (v + (k * i) % 2 ^ 32) % 2 ^ 32) by ∙ g
              ∙ spot-is w.hart k values reads low;
        };
  }

-- ---- points that lie anywhere

pub two-slots : (group : LaneGroup) → 1 < slots group
two-slots groups.One = omega arith
two-slots groups.Two = omega arith
two-slots groups.Four = omega arith

pub scattered-aims : (places : Places) (scope : List Held) (lanes_of : VectorLanes) (count : Values → ℕ) (store : Store) (zero : Linear) (form : AffineForm)
    (layout : BufferLayout) (b u : ℕ) (c1 c2 c3 : List ℕ) → 1 < slots lanes_of.group → ((values : Values) → linear_value values zero ≡ 0) → IsPoint layout zero zero form
    → u ≡ slot lanes_of.group 1 → MakesFar c1 c2 places scope lanes_of count layout store.x store.y → MakesPointer c2 c3 scope lanes_of.counter b form
    → MakesAims c1 c3 places scope lanes_of count store layout b (addressings.Indexed u)
scattered-aims places scope lanes_of count store zero form layout b u c1 c2 c3 in-stack none point eu d t = record {
  insns = d.insns ++ t.insns;
  emits = emits_then d.emits t.emits;
  low = t.source.0;
  fit = let lies = slot-lies lanes_of.group 1 in-stack in subst (IsGroup (registers lanes_of.group)) (sym eu) lies.is_group;
  does = λ w m values reads f l are holders knows has some few mx my.
      let group = lanes_of.group in
      let first = with lanes_of.counter 0 values in
      let a = d.does w m values reads f l are holders knows has some few mx my in
      let ka = knows-still w.hart scope first f a.after a.keeps knows in
      let c = t.does w m w.hart values a.after l holders ka in
      let zv = linear_value first zero in
      let far : c.after b ≡ address layout w.hart 0 0 % 2 ^ 32 =
      c.value ∙ point.value w.hart first ∙ ap (λ i. address layout w.hart i zv % 2 ^ 32) (none first)
      ∙ ap (λ j. address layout w.hart 0 j % 2 ^ 32) (none first) in
      let lanes-stay : (i : ℕ) → c.after (lane u i) ≡ a.after (lane (slot group 1) i) =
      (λ i. ap (λ r. c.after (lane r i)) eu
      ∙ c.others (lane (slot group 1) i) (λ e. omega (arith, e)) (λ e. omega (arith, e)) (λ e. omega (arith, e))) in
      let same : (q : ℕ) → IsBelow first_value q → c.after q ≡ a.after q =
      (λ q h. let g = below-apart first_value address_register q (inl refl) h in c.others q g.0 g.1.0 g.1.1) in
      let lies = slot-lies group 0 (omega (arith, in-stack)) in
      let next = lies.next in
      record {
        after = c.after;
        line = line-then w d.insns t.insns f a.after c.after m m m a.line c.line;
        has = lanes-scalar w m l group (count values) a.after c.after same a.has;
        keeps = λ q h. same q (kept-below scope q 20 (omega arith) holders h) ∙ a.keeps q h;
        stays = λ i less.
            same (lane (slot group 0) i) (lane-below (slot group 0) i)
            ∙ a.below (lane (slot group 0) i) (omega arith) (omega (arith, next, few, less));
        reaches = λ k lt low.
            let at = with lanes_of.counter k values in
            ap (λ i. (i + c.after (lane u k)) % 2 ^ 32) far
            ∙ ap (λ i. (address layout w.hart 0 0 % 2 ^ 32 + i) % 2 ^ 32) (lanes-stay k ∙ a.value k lt)
            ∙ number-reaches layout w.hart (value reads at store.x) (value reads at store.y) low;
      };
}

-- ---- how far they lie

-- with all lanes at once
pub far-at-once : (places : Places) (scope : List Held) (lanes_of : VectorLanes) (count : Values → ℕ) (layout : BufferLayout) (x y : Expr) (c1 c2 : List ℕ)
    → MakesDistances c1 c2 places scope lanes_of 1 layout x y → MakesFar c1 c2 places scope lanes_of count layout x y
far-at-once places scope lanes_of count layout x y c1 c2 d = record {
  insns = d.insns;
  emits = d.emits;
  does = λ w m values reads f l are holders knows has some few mx my.
      let group = lanes_of.group in
      let a = d.does w m values reads (count values) f l are holders knows has some few mx my in
      record {
        after = a.after;
        line = a.line;
        has = lanes-under w m l group (count values) 1 f a.after a.keeps has;
        value = a.value;
        small = a.small;
        keeps = λ q h. a.keeps q (kept-under group 1 scope q holders h);
        below = λ q low high. a.keeps q (inr (inr (low, high)));
      };
}

both-all : {A : Type 0} (P : A → Type 0) (xs ys : List A) → AllByRecursion P xs → AllByRecursion P ys → AllByRecursion P (xs ++ ys)
both-all P [] ys all more = more
both-all P (x ∷ xs) ys all more = (all.0, both-all P xs ys all.1 more)

-- and in parts
pub far-in-parts : (places : Places) (scope : List Held) (lanes_of : VectorLanes) (count : Values → ℕ) (layout : BufferLayout) (x y expression : Expr) (c1 c2 : List ℕ)
    → IsDistance layout x y expression → MakesRun c1 c2 places scope lanes_of count 1 expression → MakesFar c1 c2 places scope lanes_of count layout x y
far-in-parts places scope lanes_of count layout x y expression c1 c2 is d = record {
  insns = d.insns;
  emits = d.emits;
  does = λ w m values reads f l are holders knows has some few mx my.
      let at : ℕ → Values = (λ i. with lanes_of.counter i values) in
      let a = d.does w m values reads f l are holders knows some few
      (λ i less. subst (AllByRecursion (Loads w places m reads)) (sym (is.loads_are reads (at i)))
      (both-all (Loads w places m reads) (loads reads (at i) x) (loads reads (at i) y) (mx i less) (my i less))) in
      record {
        after = a.after;
        line = a.line;
        has = a.has;
        value = λ i less. a.value i less ∙ is.value_is reads (at i);
        small = λ i less. subst (λ n. n < 2 ^ 32) (is.value_is reads (at i)) (a.small i less);
        keeps = a.keeps;
        below = a.below;
      };
}

-- ---- distances as expressions

pub product-is : (e first second : Expr) (number : ℕ) → first ≡ e → second ≡ expressions.Number number
    → IsProduct e number (expressions.Binary op.Multiply first second)
product-is e first second number ef es = record {
  value_is = λ reads values.
      value_binary reads values op.Multiply first second
      ∙ ap (λ n. word.multiply n (value reads values second)) (ap (value reads values) ef)
      ∙ ap (word.multiply (value reads values e)) (ap (value reads values) es ∙ value_number reads values number);
  loads_are = λ reads values.
      loads_binary reads values op.Multiply first second
      ∙ ap (λ l. l ++ loads reads values second) (ap (loads reads values) ef)
      ∙ ap (λ l. loads reads values e ++ l) (ap (loads reads values) es ∙ loads_number reads values number)
      ∙ append-nil (loads reads values e);
}
  where
    append-nil : {A : Type 0} (l : List A) → l ++ [] ≡ l
    append-nil [] = refl
    append-nil (first ∷ others) = ap (λ l. first ∷ l) (append-nil others)

pub distance-is : (layout : BufferLayout) (x y column row before first second expression : Expr) (bytes : ℕ) → column ≡ x → row ≡ y → IsProduct row layout.width before
    → first ≡ column → second ≡ before → bytes ≡ pixel_bytes layout.pixels → IsProduct (expressions.Binary op.Add first second) bytes expression
    → IsDistance layout x y expression
unfolding word.add word.multiply
distance-is layout x y column row before first second expression bytes ex ey rows ef es eb is = record {
  value_is = λ reads values.
      let a : value reads values first ≡ value reads values x = ap (value reads values) (ef ∙ ex) in
      let b : value reads values second ≡ (value reads values y * layout.width) % 2 ^ 32 =
      ap (value reads values) es ∙ rows.value_is reads values ∙ ap (λ (e : Expr). (value reads values e * layout.width) % 2 ^ 32) ey in
      is.value_is reads values
      ∙ ap (λ n. (n * bytes) % 2 ^ 32) (value_binary reads values op.Add first second)
      ∙ ap (λ n. ((n + value reads values second) % 2 ^ 32 * bytes) % 2 ^ 32) a
      ∙ ap (λ n. ((value reads values x + n) % 2 ^ 32 * bytes) % 2 ^ 32) b
      ∙ ap (λ n. ((value reads values x + (value reads values y * layout.width) % 2 ^ 32) % 2 ^ 32 * n) % 2 ^ 32) eb;
  loads_are = λ reads values.
      is.loads_are reads values ∙ loads_binary reads values op.Add first second
      ∙ ap (λ l. l ++ loads reads values second) (ap (loads reads values) (ef ∙ ex))
      ∙ ap (λ l. loads reads values x ++ l) (ap (loads reads values) es ∙ rows.loads_are reads values ∙ ap (loads reads values) ey);
}
