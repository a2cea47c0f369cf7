-- Pixels of a row that all iterations have, and pixels that lie anywhere.
use Rattle.std.proofs.Common.{◌≡◌, ℕ, ◌+◌, ◌*◌, ◌%◌, ◌^◌, ◌<◌, List, [], ◌∷◌, ◌++◌, refl, true, ap, mul_assoc, mul_comm, ◌∙◌, sym, subst, arith, inl, inr}
use Rattle.std.proofs.Math.Nat.{mul-add}
use Rattle.std.proofs.lemmas.Nat.{mul-mod_second}
use Rattle.std.specs.List.{AllByRecursion}
use Rattle.rv_insn.specs.declared.instructions.Insn.TheVariants.{Alu, Vector}
use Rattle.rv_insn.specs.declared.operations.AluOp.TheVariants as alus
use Rattle.rv_insn.specs.declared.vector_instructions.VectorInsn.TheVariants as v
use Rattle.rv_insn.specs.declared.vector_operations.ShiftViOp.TheVariants as shifts
use Rattle.lanes.specs.Words as lanes
use Rattle.halide_pipeline.specs.declared.expressions.Operation.TheVariants as op
use Rattle.halide_pipeline.specs.declared.expressions.Source.{Source}
use Rattle.halide_pipeline.specs.Words as word
use Rattle.halide_pipeline.specs.Pixel.{Reads}
use Rattle.loop_ir.specs.declared.expressions.Expr.{Expr}
use Rattle.loop_ir.specs.declared.expressions.Expr.TheVariants as e
use Rattle.loop_ir.specs.declared.expressions.Linear.{Linear}
use Rattle.loop_ir.specs.Counters.{Values, with}
use Rattle.loop_ir.specs.Expressions.{value, loads, linear_value, sum_of}
use Rattle.multi_hart_laws.specs.Alone.{World}
use Rattle.multi_hart_laws.specs.Paths.{lane}
use Rattle.multi_hart_laws.proofs.Paths.{line-then, stay}
use Rattle.multi_hart_laws.proofs.VectorRows as vector
use Rattle.task_code_scalar.specs.declared.layouts.Pixels.{Pixels}
use Rattle.task_code_scalar.specs.declared.layouts.Pixels.TheVariants as pixels
use Rattle.task_code_scalar.specs.declared.layouts.BufferLayout.{BufferLayout}
use Rattle.task_code_scalar.specs.declared.layouts.Places.{Places}
use Rattle.task_code_scalar.specs.Code.{address, place_of, pixel_bytes}
use Rattle.task_code_scalar.specs.Evaluation.{Loads, LoadsAt}
use Rattle.task_code_scalar.specs.Words.{Emits}
use Rattle.task_code_scalar.proofs.Spelling.{emits_then, emits-none}
use Rattle.task_code_scalar.proofs.Values.{alu-sets}
use Rattle.task_code_registers.specs.declared.scopes.AffineForm.{AffineForm}
use Rattle.task_code_registers.specs.declared.scopes.Held.{Held}
use Rattle.task_code_registers.specs.Emitting.{Makes}
use Rattle.task_code_registers.specs.Holding.{IsAt}
use Rattle.task_code_registers.specs.Points.{IsPoint}
use Rattle.task_code_registers.specs.Registers.{address_register, first_value}
use Rattle.task_code_registers.specs.Scopes.{form_value}
use Rattle.task_code_registers.specs.Strides.{strides, others_of}
use Rattle.task_code_registers.proofs.Knowing.{knows-still, knows-zero, working-free}
use Rattle.task_code_registers.proofs.Striding.{linear-with}
use Rattle.task_code_values.specs.Making.{IsBelow, MakesHeld}
use Rattle.task_code_values.specs.Operands.{IsSum}
use Rattle.task_code_values.proofs.Standing.{kept-below, below-apart}
use Rattle.task_code_lanes.specs.declared.groups.LaneGroup.{LaneGroup}
use Rattle.task_code_lanes.specs.Groups.{registers, slots, slot}
use Rattle.task_code_lanes.proofs.Slots.{slot-lies}
use Rattle.task_code_lanes.proofs.Rows as rows
use Rattle.task_code_lane_values.specs.declared.vectorized.VectorLanes.{VectorLanes}
use Rattle.task_code_lane_values.specs.Leaving.{MakesDistances, MakesLanes, distance}
use Rattle.task_code_lane_values.specs.inner.Parts.{IsLoopInvariant, LoadsAlong, LoadsFrom, MakesEach, MakesScalar, MakesInvariant}
use Rattle.task_code_lane_values.specs.inner.Parts.{Nothing, AnyWord, ComputesOne, ComputesBy, ComputesTwo, MakesRowPointer}
use Rattle.task_code_lane_values.proofs.Arms.{May, each-of, lanes-of, load-has, load-first, load-second, load-value}
use Rattle.task_code_lane_values.proofs.Composing.{each-one, each-by, each-two, left-of, scalar-as}
use Rattle.task_code_lane_values.proofs.Loading.{pointer-scalar, each-dense, each-gathered}

-- ---- arithmetic

row-number : (place b x y hart : ℕ) (p : BufferLayout) → pixel_bytes p.pixels ≡ b
    → (address p hart x 0 % 2 ^ 32 + (y * ((b * p.width) % 2 ^ 32)) % 2 ^ 32) % 2 ^ 32 ≡ address p hart x y % 2 ^ 32
row-number place b x y hart p eb =
    let s = p.start + p.distance * hart in
    let w = p.width in
    let e1 = mul-mod_second y (b * w) (2 ^ 32) in
    let e2 : y * (b * w) ≡ b * (y * w) = sym (mul_assoc y b w) ∙ ap (λ k. k * w) (mul_comm y b) ∙ mul_assoc b y w in
    let e3 : b * (y * w + x) ≡ b * (y * w) + b * x = mul-add b (y * w) x in
    let z : 0 * w + x ≡ x = omega arith in
    let a = b * (y * w) in
    let c = b * x in
    let g : ((s + c) % 2 ^ 32 + a % 2 ^ 32) % 2 ^ 32 ≡ (s + (a + c)) % 2 ^ 32 = omega arith in
    ap (λ k. ((s + k * (0 * w + x)) % 2 ^ 32 + (y * ((b * w) % 2 ^ 32)) % 2 ^ 32) % 2 ^ 32) eb ∙ ap (λ k. ((s + b * k) % 2 ^ 32 + (y *
    ((b * w) % 2 ^ 32)) % 2 ^ 32) % 2 ^ 32) z
    ∙ ap (λ k. ((s + c) % 2 ^ 32 + k) % 2 ^ 32) (e1 ∙ ap (λ n. n % 2 ^ 32) e2) ∙ g ∙ ap (λ k. (s + k) % 2 ^ 32) (sym e3)
    ∙ ap (λ k. (s + k * (y * w + x)) % 2 ^ 32) (sym eb)

column-number : (t : Pixels) (s q x : ℕ) → s + pixel_bytes t * (q + x) < 2 ^ 32
    → ((s + pixel_bytes t * (q + 0)) % 2 ^ 32 + (x * pixel_bytes t) % 2 ^ 32) % 2 ^ 32 ≡ s + pixel_bytes t * (q + x)
column-number pixels.Words s q x low = omega (arith, low)
column-number pixels.Bytes s q x low = omega (arith, low)

row-number-goes : (t : Pixels) (s q x c i : ℕ) → c ≡ (x + i) % 2 ^ 32 → s + pixel_bytes t * (q + c) < 2 ^ 32
    → ((s + pixel_bytes t * (q + x)) % 2 ^ 32 + i * pixel_bytes t) % 2 ^ 32 ≡ s + pixel_bytes t * (q + c)
row-number-goes pixels.Words s q x c i ec low = omega (arith, ec, low)
row-number-goes pixels.Bytes s q x c i ec low = omega (arith, ec, low)

all-number : (t : Pixels) (s q x : ℕ) → s + pixel_bytes t * (q + x) < 2 ^ 32
    → ((s + pixel_bytes t * 0) % 2 ^ 32 + ((x + q % 2 ^ 32) % 2 ^ 32 * pixel_bytes t) % 2 ^ 32) % 2 ^ 32 ≡ s + pixel_bytes t * (q + x)
all-number pixels.Words s q x low = omega (arith, low)
all-number pixels.Bytes s q x low = omega (arith, low)

-- a pixel's distance from the beginning of its row
pub column-reaches : (p : BufferLayout) (hart x y : ℕ) → address p hart x y < 2 ^ 32
    → (address p hart 0 y % 2 ^ 32 + (x * pixel_bytes p.pixels) % 2 ^ 32) % 2 ^ 32 ≡ address p hart x y
column-reaches p hart x y low = column-number p.pixels (p.start + p.distance * hart) (y * p.width) x low

-- and where it goes on from pixel to pixel
pub row-reaches : (p : BufferLayout) (hart x c y i : ℕ) → c ≡ (x + i) % 2 ^ 32 → address p hart c y < 2 ^ 32
    → (address p hart x y % 2 ^ 32 + i * pixel_bytes p.pixels) % 2 ^ 32 ≡ address p hart c y
row-reaches p hart x c y i ec low = row-number-goes p.pixels (p.start + p.distance * hart) (y * p.width) x c i ec low

-- from numbers of pixels
pub number-reaches : (p : BufferLayout) (hart x y : ℕ) → address p hart x y < 2 ^ 32
    → (address p hart 0 0 % 2 ^ 32 + ((x + (y * p.width) % 2 ^ 32) % 2 ^ 32 * pixel_bytes p.pixels) % 2 ^ 32) % 2 ^ 32 ≡ address p hart x y
number-reaches p hart x y low =
    let s = p.start + p.distance * hart in
    let q = y * p.width in
    let z : 0 * p.width + 0 ≡ 0 = omega arith in
    ap (λ n. ((s + pixel_bytes p.pixels * n) % 2 ^ 32 + ((x + q % 2 ^ 32) % 2 ^ 32 * pixel_bytes p.pixels) % 2 ^ 32) % 2 ^ 32) z ∙ all-number p.pixels s q x low

-- ---- pointers to a column of the first iteration and a row

module _ (places : Places) (scope : List Held) (vector_lanes : VectorLanes) (layout : BufferLayout) (x : Linear)
    (y : Expr) where
  abbrev spot : ℕ → Reads → Values → ℕ
  spot hart reads values = address layout hart (linear_value (with vector_lanes.counter 0 values) x) (value reads (with vector_lanes.counter 0 values) y) % 2 ^ 32

  pub pointer-sum : (row : Linear) (form start : AffineForm) (most s : ℕ) (c0 c1 : List ℕ) → IsSum y row → IsPoint layout x row form → IsAt vector_lanes.counter 0 form start
      → MakesHeld c0 c1 most scope address_register s (λ hart values. form_value hart values start) → MakesRowPointer c0 c1 places scope vector_lanes s layout x y
  pointer-sum row form start most s c0 c1 sum point at p =
      let a = scalar-as scope vector_lanes s c0 c1 Nothing (λ hart reads values. form_value hart (with vector_lanes.counter 0 values) form) spot
      (λ hart reads values. point.value hart (with vector_lanes.counter 0 values)
      ∙ ap (λ n. address layout hart (linear_value (with vector_lanes.counter 0 values) x) n % 2 ^ 32) (sym (sum.value_is reads (with vector_lanes.counter 0 values))))
      (pointer-scalar scope vector_lanes form start most s c0 c1 at p) in
      record {
        insns = a.insns;
        emits = a.emits;
        source = a.source;
        does = λ w m values reads f l holders knows may. a.does w m values reads f l holders knows tt;
      }

  pub pointer-register : (zero : Linear) (form start : AffineForm) (bytes row most t b : ℕ) (c0 c1 c2 c3 c4 : List ℕ) → ((values : Values)
      → linear_value values zero ≡ 0) → bytes ≡ pixel_bytes layout.pixels
      → row ≡ word.multiply bytes layout.width → IsPoint layout x zero form → IsAt vector_lanes.counter 0 form start → MakesInvariant c0 c1 places scope vector_lanes t y
      → Makes c1 c2 3 first_value (λ f. (f t * row) % 2 ^ 32) → MakesHeld c2 c3 most scope address_register b (λ hart values. form_value hart values start)
      → Emits c3 c4 (Alu alus.Add address_register b first_value ∷ []) → MakesRowPointer c0 c4 places scope vector_lanes address_register layout x y
  unfolding word.multiply
  pointer-register zero form start bytes row most t b c0 c1 c2 c3 c4 none eb er point at s p q z = record {
    insns = s.insns ++ (p.insns ++ (q.insns ++ (Alu alus.Add address_register b first_value ∷ [])));
    emits = emits_then s.emits (emits_then p.emits (emits_then q.emits z));
    source = (omega arith, ((λ g. omega (arith, g)), (λ g. omega (arith, g))));
    does = λ w m values reads f l holders knows may.
        let first = with vector_lanes.counter 0 values in
        let add = Alu alus.Add address_register b first_value ∷ [] in
        let i1 = s.does w m values reads f l holders knows may in
        let k1 = knows-still w.hart scope first f i1.after (λ n h. i1.keeps n (kept-below scope n 20 (omega arith) holders h)) knows in
        let i2 = p.does w m i1.after l (knows-zero w.hart scope first i1.after k1) in
        let same2 : (n : ℕ) → IsBelow first_value n → i2.after n ≡ i1.after n = (λ n h. let d = below-apart first_value first_value n (inr
        (refl, omega arith)) h in i2.others n d.0 d.1.0 d.1.1) in
        let k2 = knows-still w.hart scope first i1.after i2.after (λ n h. same2 n (kept-below scope n 20 (omega arith) holders h)) k1 in
        let i3 = q.does w m w.hart first i2.after l holders (working-free scope address_register holders (inl (omega arith, omega arith))) k2 in
        let e20 : i3.after first_value ≡ (i1.after t * row) % 2 ^ 32 = i3.others first_value (λ g. omega (arith, g)) (λ g. omega (arith, g)) (λ g. omega
        (arith, g)) ∙ i2.value in
        let i4 = alu-sets w m l alus.Add i3.after address_register b first_value (i3.after b) (i3.after first_value) (omega arith)
        (omega arith) q.source.0 (omega arith) refl refl in
        let xv = linear_value first x in
        let yv = value reads first y in
        let efv : form_value w.hart first start ≡ address layout w.hart xv 0 % 2 ^ 32 = at.value w.hart 0 values ∙ point.value w.hart first ∙ ap
        (λ n. address layout w.hart xv n % 2 ^ 32) (none first) in
        let is : (i3.after b + i3.after first_value) % 2 ^ 32 ≡ spot w.hart reads values =
        ap (λ n. (n + i3.after first_value) % 2 ^ 32) (i3.value ∙ efv) ∙ ap (λ n. (address layout w.hart xv 0 % 2 ^ 32 + n) % 2 ^ 32) (e20 ∙ ap (λ n.
        (n * row) % 2 ^ 32) i1.value ∙ ap (λ n. (yv * n) % 2 ^ 32) er)
        ∙ row-number 0 bytes xv yv w.hart layout (sym eb) in
        record {
          after = i4.after;
          line = line-then w s.insns (p.insns ++ (q.insns ++ add)) f i1.after i4.after m m m i1.line (line-then w p.insns
              (q.insns ++ add) i1.after i2.after i4.after m m m i2.line
              (line-then w q.insns add i2.after i3.after i4.after m m m i3.line i4.line));
          value = i4.value ∙ is;
          small = let g : spot w.hart reads values < 2 ^ 32 = omega arith in g;
          keeps = λ n h.
              let d = below-apart first_value address_register n (inl refl) h in
              i4.others n d.0 ∙ i3.others n d.0 d.1.0 d.1.1 ∙ same2 n h ∙ i1.keeps n h;
        };
  }

-- ---- lanes

pub times-four-made : (group : LaneGroup) (k : ℕ) → k < slots group → (c0 c1 : List ℕ) → Emits c0 c1 (Vector (v.ShiftVi shifts.Vsll (slot group k)
    (slot group k) 2 true) ∷ [])
    → ComputesOne c0 c1 group k (λ x. (x * 4) % 2 ^ 32)
times-four-made group k in-stack c0 c1 z = record {
  insns = Vector (v.ShiftVi shifts.Vsll (slot group k) (slot group k) 2 true) ∷ [];
  emits = z;
  does = λ w m n f x l has hx lx.
      let lies = slot-lies group k in-stack in
      left-of w m l group n (Vector (v.ShiftVi shifts.Vsll (slot group k) (slot group k) 2 true) ∷ []) f k (λ i. (x i * 4) % 2 ^ 32) (λ i b. omega arith)
      (rows.last w m l group n k lies (rows.writes w m l group n (λ i. (x i * 4) % 2 ^ 32) (λ i. lanes.shift_left 32 (f (lane (slot group k) i)) 2) has
      (vector.shift-vi w f m l (registers group) has.configured shifts.Vsll (slot group k) (slot group k) 2 lies.is_group lies.is_group) (λ i b. ap (λ y.
      (y * 4) % 2 ^ 32) (hx i b))));
}

pub offsets-words : (group : LaneGroup) (k : ℕ) → k < slots group → (own_pixels : Pixels) (a : ℕ) (c0 c1 : List ℕ) → own_pixels ≡ pixels.Words → a ≡ slot group k
    → Emits c0 c1 (Vector (v.ShiftVi shifts.Vsll a a 2 true) ∷ []) → ComputesOne c0 c1 group k (λ x. (x * pixel_bytes own_pixels) % 2 ^ 32)
offsets-words group k in-stack own_pixels a c0 c1 is ea z =
    subst (λ p. ComputesOne c0 c1 group k (λ x. (x * pixel_bytes p) % 2 ^ 32)) (sym is)
    (times-four-made group k in-stack c0 c1 (subst (λ y. Emits c0 c1 (Vector (v.ShiftVi shifts.Vsll y y 2 true) ∷ [])) ea z))

pub offsets-bytes : (group : LaneGroup) (k : ℕ) (own_pixels : Pixels) (c : List ℕ) → own_pixels ≡ pixels.Bytes → ComputesOne c c group k (λ x. (x * pixel_bytes own_pixels) % 2 ^ 32)
offsets-bytes group k own_pixels c is = subst (λ p. ComputesOne c c group k (λ x. (x * pixel_bytes p) % 2 ^ 32)) (sym is) (record {
  insns = [];
  emits = emits-none c;
  does = λ w m n f x l has hx lx.
      record {
        after = f;
        line = λ at s. stay w at f m;
        value = λ i b. let low = lx i b in let g : x i ≡ (x i * 1) % 2 ^ 32 = omega (arith, low) in hx i b ∙ g;
        small = λ i b. omega arith;
        keeps = λ q h. refl;
      };
})

-- ---- how far points lie from the first one

module _ (places : Places) (scope : List Held) (vector_lanes : VectorLanes) (k : ℕ) (layout : BufferLayout) (x y : Expr)
  where
    -- distances are numbers in lanes
    pub distances-each : (c0 c1 : List ℕ) → MakesDistances c0 c1 places scope vector_lanes k layout x y
        → MakesEach c0 c1 places scope vector_lanes k
        (λ w m reads values i. AllByRecursion (Loads w places m reads)
        (loads reads (with vector_lanes.counter i values) x)
        × AllByRecursion (Loads w places m reads) (loads reads (with vector_lanes.counter i values) y))
        (λ reads values i. distance layout (value reads (with vector_lanes.counter i values) x) (value reads (with vector_lanes.counter i values) y))
    distances-each c0 c1 a = record {
      insns = a.insns;
      emits = a.emits;
      does = λ w m values reads n f l are holders knows has some few may.
          a.does w m values reads n f l are holders knows has some few (λ i lt. (may i lt).0) (λ i lt. (may i lt).1);
    }

    -- from columns and rows in lanes
    pub distances-made : (s : ℕ) (c0 c1 c2 c3 c4 c5 c6 : List ℕ) → k + 1 < slots vector_lanes.group
        → MakesScalar c2 c3 scope vector_lanes s Nothing (λ hart reads values. layout.width)
        → ComputesBy c3 c4 vector_lanes.group (k + 1) s AnyWord (word.applied op.Multiply) → ComputesTwo c4 c5 vector_lanes.group k (word.applied op.Add)
        → ComputesOne c5 c6 vector_lanes.group k (λ x. (x * pixel_bytes layout.pixels) % 2 ^ 32)
        → MakesLanes c0 c1 places scope vector_lanes k x → MakesLanes c1 c2 places scope vector_lanes (k + 1) y → MakesDistances c0 c6 places scope vector_lanes k layout x y
    unfolding word.add word.multiply
    distances-made s c0 c1 c2 c3 c4 c5 c6 next width product plus four first second =
        let in-stack : k < slots vector_lanes.group = omega (arith, next) in
        let MayOf : Expr → World → List ℕ → Reads → Values → ℕ → Type 0 = May places scope vector_lanes k in-stack in
        let vx : Reads → Values → ℕ → ℕ = (λ reads values i. value reads (with vector_lanes.counter i values) x) in
        let vy : Reads → Values → ℕ → ℕ = (λ reads values i. value reads (with vector_lanes.counter i values) y) in
        let scaled = each-by places scope vector_lanes (k + 1) next s c1 c2 c3 c4 (MayOf y) Nothing vy (λ reads values. layout.width) AnyWord (word.applied op.Multiply)
        (each-of places scope vector_lanes k in-stack c1 c2 (k + 1) y second) width product (λ reads values small. tt) in
        let numbers = each-two places scope vector_lanes k in-stack c0 c1 c4 c5 (MayOf x) (λ w m reads values i. MayOf y w m reads values i × Nothing w m reads
        values) vx
        (λ reads values i. word.applied op.Multiply (vy reads values i) layout.width) (word.applied op.Add)
        (each-of places scope vector_lanes k in-stack c0 c1 k x first) scaled plus in
        let a = each-one places scope vector_lanes k in-stack c0 c5 c6 (λ w m reads values i. MayOf x w m reads values i ×
        (MayOf y w m reads values i × Nothing w m reads values))
        (λ reads values i. word.applied op.Add (vx reads values i) (word.applied op.Multiply (vy reads values i) layout.width)) (λ n.
        (n * pixel_bytes layout.pixels) % 2 ^ 32) numbers four in
        record {
          insns = a.insns;
          emits = a.emits;
          does = λ w m values reads n f l are holders knows has some few may-x may-y.
              a.does w m values reads n f l are holders knows has some few (λ i lt. (may-x i lt, (may-y i lt, tt)));
        }

module _ (places : Places) (scope : List Held) (vector_lanes : VectorLanes) (k : ℕ) (in-stack : k < slots vector_lanes.group) (source : Source) (layout : BufferLayout)
    (ep : layout ≡ place_of places source)
  where
    abbrev Left : List ℕ → List ℕ → ℕ → Expr → Type 0
    Left c0 c1 j x = MakesLanes c0 c1 places scope vector_lanes j x

    abbrev At : ℕ → Values → Expr → Reads → ℕ
    At i values x reads = value reads (with vector_lanes.counter i values) x

    abbrev HasPoint : Expr → Expr → World → List ℕ → Reads → Values → ℕ → Type 0
    HasPoint x y w m reads values i =
        LoadsAt w (place_of places source) m (value reads (with vector_lanes.counter i values) x) (value reads (with vector_lanes.counter i values) y)
        (reads source (value reads (with vector_lanes.counter i values) x)
        (value reads (with vector_lanes.counter i values) y))

    -- columns in lanes, of a row that all iterations have
    pub gather-made : (zero : Linear) (b : ℕ) (c1 c2 c3 c4 : List ℕ) (y : Expr) → ((values : Values) → linear_value values zero ≡ 0) → IsLoopInvariant vector_lanes.counter y
        → ComputesOne c1 c2 vector_lanes.group k (λ x. (x * pixel_bytes layout.pixels) % 2 ^ 32) → MakesRowPointer c2 c3 places scope vector_lanes b layout zero y
        → LoadsFrom c3 c4 vector_lanes.group k b layout.pixels
        → (c0 : List ℕ) (x : Expr) → Left c0 c1 k x → Left c0 c4 k (e.Load source x y)
    gather-made zero b c1 c2 c3 c4 y none loop_invariant t p z c0 x first =
        let pointer : ℕ → Reads → Values → ℕ = (λ hart reads values. address layout hart (linear_value (with vector_lanes.counter 0 values) zero) (value reads
        (with vector_lanes.counter 0 values) y) % 2 ^ 32) in
        let mb : World → List ℕ → Reads → Values → Type 0 = (λ w m reads values. AllByRecursion (Loads w places m reads) (loads reads
        (with vector_lanes.counter 0 values) y)) in
        lanes-of places scope vector_lanes k in-stack c0 c4 (e.Load source x y)
        (λ w m reads values i. May places scope vector_lanes k in-stack x w m reads values i × (mb w m reads values × HasPoint x y w m reads values i))
        (λ reads values i. reads source (value reads (with vector_lanes.counter i values) x) (value reads (with vector_lanes.counter i values) y))
        (λ w m reads values n some all i lt. (
          load-first places scope vector_lanes k in-stack source x y w m reads values i (all i lt),
          (
            load-second places scope vector_lanes k in-stack source x y w m reads values 0
                (all 0 (omega (arith, some))),
            load-has places scope vector_lanes k in-stack source
                x y w m reads values i (all i lt),
          ),
        ))
        (λ reads values i. sym (load-value places scope vector_lanes k in-stack source x y reads values i))
        (each-gathered places scope vector_lanes k in-stack source layout ep (λ reads values i. value reads (with vector_lanes.counter i values) x)
        (λ reads values i. value reads (with vector_lanes.counter i values) y)
        b c0 c2 c3 c4 (May places scope vector_lanes k in-stack x) mb (λ reads values i. (value reads (with vector_lanes.counter i values) x * pixel_bytes layout.pixels) % 2
        ^ 32) pointer
        (λ hart reads values i low.
        let xv = value reads (with vector_lanes.counter i values) x in
        ap (λ c. (address layout hart c (value reads (with vector_lanes.counter 0 values) y) % 2 ^ 32 + (xv * pixel_bytes layout.pixels) % 2 ^ 32) % 2 ^ 32) (none
        (with vector_lanes.counter 0 values))
        ∙ ap (λ r. (address layout hart 0 r % 2 ^ 32 + (xv * pixel_bytes layout.pixels) % 2 ^ 32) % 2 ^ 32) (sym (loop_invariant reads values i))
        ∙ column-reaches layout hart xv (value reads (with vector_lanes.counter i values) y) low)
        (each-one places scope vector_lanes k in-stack c0 c1 c2 (May places scope vector_lanes k in-stack x) (λ reads values i. value reads (with vector_lanes.counter i values) x)
        (λ n. (n * pixel_bytes layout.pixels) % 2 ^ 32)
        (each-of places scope vector_lanes k in-stack c0 c1 k x first) t) p z)

    -- columns that go on by one, of such a row
    pub row-made : (column : Linear) (b stride : ℕ) (c0 c1 c2 : List ℕ) (x y : Expr) → IsSum x column
        → stride ≡ strides vector_lanes.counter column.terms % 2 ^ 32 → stride ≡ 1
        → IsLoopInvariant vector_lanes.counter y
        → MakesRowPointer c0 c1 places scope vector_lanes b layout column y
        → LoadsAlong c1 c2 vector_lanes.group k b layout.pixels
        → Left c0 c2 k (e.Load source x y)
    row-made column b stride c0 c1 c2 x y sum es one loop_invariant p z =
        let pointer : ℕ → Reads → Values → ℕ = (λ hart reads values. address layout hart (linear_value (with vector_lanes.counter 0 values) column) (value reads
        (with vector_lanes.counter 0 values) y) % 2 ^ 32) in
        let mb : World → List ℕ → Reads → Values → Type 0 = (λ w m reads values. AllByRecursion (Loads w places m reads) (loads reads
        (with vector_lanes.counter 0 values) y)) in
        let e1 : 1 ≡ strides vector_lanes.counter column.terms % 2 ^ 32 = sym one ∙ es in
        let goes : (values : Values) (i : ℕ) → linear_value (with vector_lanes.counter i values) column ≡ (linear_value
        (with vector_lanes.counter 0 values) column + i) % 2 ^ 32 =
        (λ values i.
        let a = column.number + sum_of values (others_of vector_lanes.counter column.terms) in
        let g : (a + i * 1) % 2 ^ 32 ≡ ((a + 0 * 1) % 2 ^ 32 + i) % 2 ^ 32 = omega arith in
        linear-with vector_lanes.counter i 1 values column e1 ∙ g ∙ ap (λ n. (n + i) % 2 ^ 32) (sym (linear-with vector_lanes.counter 0 1 values column e1))) in
        lanes-of places scope vector_lanes k in-stack c0 c2 (e.Load source x y)
        (λ w m reads values i. mb w m reads values × HasPoint x y w m reads values i)
        (λ reads values i. reads source (value reads (with vector_lanes.counter i values) x) (value reads (with vector_lanes.counter i values) y))
        (λ w m reads values n some all i lt. (
          load-second places scope vector_lanes k in-stack source x y w m reads values 0 (all 0 (omega (arith, some))),
          load-has places scope vector_lanes k in-stack source x
              y w m reads values i (all i lt),
        ))
        (λ reads values i. sym (load-value places scope vector_lanes k in-stack source x y reads values i))
        (each-dense places scope vector_lanes k in-stack source layout ep (λ reads values i. value reads (with vector_lanes.counter i values) x)
        (λ reads values i. value reads (with vector_lanes.counter i values) y)
        b c0 c1 c2 mb pointer
        (λ hart reads values i low.
        ap (λ r. (address layout hart (linear_value (with vector_lanes.counter 0 values) column) r % 2 ^ 32 + i * pixel_bytes layout.pixels) % 2 ^ 32) (sym
        (loop_invariant reads values i))
        ∙ row-reaches layout hart (linear_value (with vector_lanes.counter 0 values) column) (value reads (with vector_lanes.counter i values) x) (value reads
        (with vector_lanes.counter i values) y) i
        (sum.value_is reads (with vector_lanes.counter i values) ∙ goes values i) low) p z)

    -- columns and rows in lanes
    pub scattered-made : (zero : Linear) (form start : AffineForm) (most b : ℕ) (c6 c7 c8 : List ℕ) → ((values : Values) → linear_value values zero ≡ 0)
        → IsPoint layout zero zero form → IsAt vector_lanes.counter 0 form start
        → MakesHeld c6 c7 most scope address_register b (λ hart values. form_value hart values start)
        → LoadsFrom c7 c8 vector_lanes.group k b layout.pixels
        → (c0 : List ℕ) (x y : Expr) → MakesDistances c0 c6 places scope vector_lanes k layout x y → Left c0 c8 k (e.Load source x y)
    scattered-made zero form start most b c6 c7 c8 none point at p z c0 x y far =
        let MayOf : Expr → World → List ℕ → Reads → Values → ℕ → Type 0 = May places scope vector_lanes k in-stack in
        let pointer : ℕ → Reads → Values → ℕ = (λ hart reads values. form_value hart (with vector_lanes.counter 0 values) form) in
        let vx : Reads → Values → ℕ → ℕ = (λ reads values i. value reads (with vector_lanes.counter i values) x) in
        let vy : Reads → Values → ℕ → ℕ = (λ reads values i. value reads (with vector_lanes.counter i values) y) in
        lanes-of places scope vector_lanes k in-stack c0 c8 (e.Load source x y)
        (λ w m reads values i. (MayOf x w m reads values i × MayOf y w m reads values i) × (Nothing w m reads values × HasPoint x y w m reads values i))
        (λ reads values i. reads source (value reads (with vector_lanes.counter i values) x) (value reads (with vector_lanes.counter i values) y))
        (λ w m reads values n some all i lt. (
          (
            load-first places scope vector_lanes k in-stack source x y w m reads values i (all i lt),
            load-second places scope vector_lanes k in-stack source x y w m reads
                values i (all i lt),
          ),
          (tt, load-has places scope vector_lanes k in-stack source x y w m reads values i (all i lt)),
        ))
        (λ reads values i. sym (load-value places scope vector_lanes k in-stack source x y reads values i))
        (each-gathered places scope vector_lanes k in-stack source layout ep vx vy
        b c0 c6 c7 c8 (λ w m reads values i. MayOf x w m reads values i × MayOf y w m reads values i) Nothing
        (λ reads values i. distance layout (vx reads values i) (vy reads values i)) pointer
        (λ hart reads values i low.
        let zv = linear_value (with vector_lanes.counter 0 values) zero in
        let o = distance layout (vx reads values i) (vy reads values i) in
        ap (λ n. (n + o) % 2 ^ 32) (point.value hart (with vector_lanes.counter 0 values) ∙ ap (λ c. address layout hart c zv % 2 ^ 32) (none (with vector_lanes.counter 0 values))
        ∙ ap (λ r. address layout hart 0 r % 2 ^ 32) (none (with vector_lanes.counter 0 values)))
        ∙ number-reaches layout hart (vx reads values i) (vy reads values i) low)
        (distances-each places scope vector_lanes k layout x y c0 c6 far) (pointer-scalar scope vector_lanes form start most b c6 c7 at p) z)

    -- as the emitters call them
    pub row-as : (column : Linear) (b : ℕ) (c0 c1 c2 : List ℕ) (x y : Expr) → IsSum x column → strides vector_lanes.counter column.terms % 2 ^ 32 ≡ 1
        → IsLoopInvariant vector_lanes.counter y
        → MakesRowPointer c0 c1 places scope vector_lanes b layout column y → LoadsAlong c1 c2 vector_lanes.group k b layout.pixels → Left c0 c2 k (e.Load source x y)
    row-as column b c0 c1 c2 x y sum one loop_invariant p z = row-made column b (strides vector_lanes.counter column.terms % 2 ^ 32) c0 c1 c2 x y sum refl one loop_invariant p z
