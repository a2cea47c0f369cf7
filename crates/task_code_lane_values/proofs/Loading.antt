-- Lanes that are pixels.
use Rattle.std.proofs.Common.{◌≡◌, ℕ, ◌+◌, ◌*◌, ◌%◌, ◌^◌, ◌<◌, List, ◌++◌, refl, ap, ◌∙◌, sym, subst, arith, inl, inr}
use Rattle.halide_pipeline.specs.declared.expressions.Operation.TheVariants as op
use Rattle.halide_pipeline.specs.Words as word
use Rattle.task_code_scalar.specs.declared.layouts.Pixels.TheVariants as pixels
use Rattle.task_code_registers.specs.Emitting.{Makes}
use Rattle.task_code_registers.proofs.Knowing.{working-free}
use Rattle.task_code_values.specs.Making.{IsBelow}
use Rattle.task_code_values.proofs.Standing.{kept-below, below-apart}
use Rattle.halide_pipeline.specs.declared.expressions.Source.{Source}
use Rattle.halide_pipeline.specs.Pixel.{Reads}
use Rattle.loop_ir.specs.declared.expressions.Counter.{Counter}
use Rattle.loop_ir.specs.declared.expressions.Linear.{Linear}
use Rattle.loop_ir.specs.Counters.{Values, with}
use Rattle.loop_ir.specs.Expressions.{linear_value, sum_of}
use Rattle.multi_hart_laws.specs.Alone.{World}
use Rattle.multi_hart_laws.specs.Paths.{lane}
use Rattle.multi_hart_laws.proofs.Paths.{line-then}
use Rattle.task_code_scalar.specs.declared.layouts.BufferLayout.{BufferLayout}
use Rattle.task_code_scalar.specs.declared.layouts.Places.{Places}
use Rattle.task_code_scalar.specs.Code.{address, pixel_bytes, place_of}
use Rattle.task_code_scalar.specs.Evaluation.{LoadsAt}
use Rattle.task_code_scalar.proofs.Spelling.{emits_then}
use Rattle.task_code_registers.specs.declared.scopes.AffineForm.{AffineForm}
use Rattle.task_code_registers.specs.declared.scopes.Held.{Held}
use Rattle.task_code_registers.specs.Holding.{IsAt}
use Rattle.task_code_registers.specs.Points.{IsPoint}
use Rattle.task_code_registers.specs.Registers.{address_register, first_value}
use Rattle.task_code_registers.specs.Scopes.{form_value}
use Rattle.task_code_registers.specs.Strides.{strides, others_of}
use Rattle.task_code_registers.proofs.Knowing.{form-small, knows-still, knows-zero}
use Rattle.task_code_registers.proofs.Striding.{linear-with}
use Rattle.task_code_values.specs.Making.{MakesHeld}
use Rattle.task_code_lanes.specs.Groups.{slots, slot}
use Rattle.task_code_lane_values.specs.declared.vectorized.VectorLanes.{VectorLanes}
use Rattle.task_code_lane_values.specs.inner.Parts.{LoadsAlong, LoadsFrom, LoadsPoint, LoadsStrided, MakesScalar, MakesEach, MakesPoint, Nothing, NothingEach}
use Rattle.task_code_lane_values.proofs.Composing.{each-as, kept-under, lane-below, lanes-scalar, lanes-under, scalar-held, scalar-as, under-below}

-- ---- forms that go along with a loop variable

pub form-goes : (counter : Counter) (i stride hart : ℕ) (values : Values) (affine_form : AffineForm) → stride ≡ strides counter affine_form.sum.terms % 2 ^ 32
    → (form_value hart (with counter 0 values) affine_form + i * stride) % 2 ^ 32 ≡ form_value hart
    (with counter i values) affine_form
unfolding form_value
form-goes counter i stride hart values affine_form es =
    let a = affine_form.sum.number + sum_of values (others_of counter affine_form.sum.terms) in
    let h = hart * affine_form.per_hart in
    let p = i * stride in
    let z : a + 0 * stride ≡ a = omega arith in
    let first = linear-with counter 0 stride values affine_form.sum es ∙ ap (λ n. n % 2 ^ 32) z in
    let g : ((a % 2 ^ 32 + h) % 2 ^ 32 + p) % 2 ^ 32 ≡ ((a + p) % 2 ^ 32 + h) % 2 ^ 32 = omega arith in
    ap (λ n. ((n + h) % 2 ^ 32 + p) % 2 ^ 32) first ∙ g ∙ ap (λ n. (n + h) % 2 ^ 32) (sym (linear-with counter i stride values affine_form.sum es))

-- ---- pointers

-- a register points where a form is in the first iteration
pub pointer-scalar : (scope : List Held) (vector_lanes : VectorLanes) (form start : AffineForm) (most s : ℕ) (c0 c1 : List ℕ) → IsAt vector_lanes.counter 0 form start
    → MakesHeld c0 c1 most scope address_register s (λ hart values. form_value hart values start)
    → MakesScalar c0 c1 scope vector_lanes s Nothing (λ hart reads values. form_value hart
    (with vector_lanes.counter 0 values) form)
pointer-scalar scope vector_lanes form start most s c0 c1 at x =
    scalar-as scope vector_lanes s c0 c1 Nothing (λ hart reads values. form_value hart (with vector_lanes.counter 0 values) start) (λ hart reads values. form_value hart
    (with vector_lanes.counter 0 values) form)
    (λ hart reads values. at.value hart 0 values)
    (scalar-held scope vector_lanes most s c0 c1 (λ hart values. form_value hart values start) (λ hart values. form-small hart values start) x)

-- ---- pixels from a pointer on

module _ (places : Places) (scope : List Held) (vector_lanes : VectorLanes) (k : ℕ) (in-stack : k < slots vector_lanes.group) (source : Source) (layout : BufferLayout)
    (ep : layout ≡ place_of places source)
    (xs ys : Reads → Values → ℕ → ℕ) where
  abbrev pixel : Reads → Values → ℕ → ℕ
  pixel reads values i = reads source (xs reads values i) (ys reads values i)

  -- what memory has to have in an iteration
  abbrev Has : World → List ℕ → Reads → Values → ℕ → Type 0
  Has w m reads values i = LoadsAt w (place_of places source) m (xs reads values i) (ys reads values i) (pixel reads values i)

  has-as : (w : World) (m : List ℕ) (reads : Reads) (values : Values) (i : ℕ) → Has w m reads values i → LoadsAt w layout m (xs reads values i)
      (ys reads values i) (pixel reads values i)
  has-as w m reads values i a = subst (λ q. LoadsAt w q m (xs reads values i) (ys reads values i) (pixel reads values i)) (sym ep) a

  abbrev Reaches : (ℕ → Reads → Values → ℕ) → (Reads → Values → ℕ → ℕ) → Type 0
  Reaches pointer offset =
      (hart : ℕ) (reads : Reads) (values : Values) (i : ℕ) → address layout hart (xs reads values i) (ys reads values i) < 2 ^ 32
      → (pointer hart reads values + offset reads values i) % 2 ^ 32 ≡ address layout hart (xs reads values i) (ys reads values i)

  -- one after the other
  pub each-dense : (b : ℕ) (c0 c1 c2 : List ℕ) (mb : World → List ℕ → Reads → Values → Type 0) (pointer : ℕ → Reads → Values → ℕ)
      → Reaches pointer (λ reads values i. i * pixel_bytes layout.pixels)
      → MakesScalar c0 c1 scope vector_lanes b mb pointer
      → LoadsAlong c1 c2 vector_lanes.group k b layout.pixels
      → MakesEach c0 c2 places scope vector_lanes k (λ w m reads values i. mb w m reads values × Has w m reads values i)
      pixel
  each-dense b c0 c1 c2 mb pointer reach p z = record {
    insns = p.insns ++ z.insns;
    emits = emits_then p.emits z.emits;
    does = λ w m values reads n f l are holders knows has some few may.
        let t = p.does w m values reads f l holders knows (may 0 (omega (arith, some))).0 in
        let ht = lanes-scalar w m l vector_lanes.group n f t.after t.keeps has in
        let can : (i : ℕ) → i < n → LoadsAt w layout m (xs reads values i) (ys reads values i) (pixel reads values i) = (λ i lt. has-as w m reads values i
        (may i lt).1) in
        let u = z.does w m n t.after (xs reads values) (ys reads values) (pixel reads values) layout l ht refl can
        (λ i lt. ap (λ q. (q + i * pixel_bytes layout.pixels) % 2 ^ 32) t.value ∙ reach w.hart reads values i (can i lt).low) in
        record {
          after = u.after;
          line = line-then w p.insns z.insns f t.after u.after m m m t.line u.line;
          value = u.value;
          small = u.small;
          keeps = λ q h. u.keeps q h ∙ t.keeps q (under-below vector_lanes.group k q h);
        };
  }

  -- at distances
  pub each-gathered : (b : ℕ) (c0 c1 c2 c3 : List ℕ) (ma : World → List ℕ → Reads → Values → ℕ → Type 0) (mb : World → List ℕ → Reads → Values → Type 0)
      (offset : Reads → Values → ℕ → ℕ) (pointer : ℕ → Reads → Values → ℕ) → Reaches pointer offset → MakesEach c0 c1 places scope vector_lanes k ma offset
      → MakesScalar c1 c2 scope vector_lanes b mb pointer
      → LoadsFrom c2 c3 vector_lanes.group k b layout.pixels
      → MakesEach c0 c3 places scope vector_lanes k (λ w m reads values i. ma w m reads values i × (mb w m reads values × Has w m reads values i)) pixel
  each-gathered b c0 c1 c2 c3 ma mb offset pointer reach a p z = record {
    insns = a.insns ++ (p.insns ++ z.insns);
    emits = emits_then a.emits (emits_then p.emits z.emits);
    does = λ w m values reads n f l are holders knows has some few may.
        let first = with vector_lanes.counter 0 values in
        let s = a.does w m values reads n f l are holders knows has some few (λ i lt. (may i lt).0) in
        let ks = knows-still w.hart scope first f s.after (λ q h. s.keeps q (kept-under vector_lanes.group k scope q holders h)) knows in
        let hs = lanes-under w m l vector_lanes.group n k f s.after s.keeps has in
        let t = p.does w m values reads s.after l holders ks (may 0 (omega (arith, some))).1.0 in
        let kt = knows-still w.hart scope first s.after t.after (λ q h. t.keeps q (under-below vector_lanes.group 0 q (kept-under vector_lanes.group 0 scope q holders h))) ks in
        let ht = lanes-scalar w m l vector_lanes.group n s.after t.after t.keeps hs in
        let can : (i : ℕ) → i < n → LoadsAt w layout m (xs reads values i) (ys reads values i) (pixel reads values i) = (λ i lt. has-as w m reads values i
        (may i lt).1.1) in
        let u = z.does w m n t.after (xs reads values) (ys reads values) (pixel reads values) (offset reads values) layout l ht
        (knows-zero w.hart scope first t.after kt) refl can
        (λ i lt. t.keeps (lane (slot vector_lanes.group k) i) (lane-below (slot vector_lanes.group k) i) ∙ s.value i lt)
        (λ i lt. ap (λ q. (q + offset reads values i) % 2 ^ 32) t.value ∙ reach w.hart reads values i (can i lt).low) in
        record {
          after = u.after;
          line = line-then w a.insns (p.insns ++ z.insns) f s.after u.after m m m s.line (line-then w p.insns z.insns s.after t.after u.after m m m t.line
              u.line);
          value = u.value;
          small = u.small;
          keeps = λ q h. u.keeps q h ∙ t.keeps q (under-below vector_lanes.group k q h) ∙ s.keeps q h;
        };
  }

-- ---- the point at two sums

module _ (places : Places) (scope : List Held) (vector_lanes : VectorLanes) (k : ℕ) (in-stack : k < slots vector_lanes.group) (source : Source) (x y : Linear) (layout : BufferLayout)
    (ep : layout ≡ place_of places source)
    (form : AffineForm) (point : IsPoint layout x y form) (stride : ℕ) (es : stride ≡ strides vector_lanes.counter form.sum.terms % 2 ^ 32) where
  abbrev xs : Reads → Values → ℕ → ℕ
  xs reads values i = linear_value (with vector_lanes.counter i values) x

  abbrev ys : Reads → Values → ℕ → ℕ
  ys reads values i = linear_value (with vector_lanes.counter i values) y

  -- where an iteration's pixel lies
  spot-is : (hart i : ℕ) (values : Values) → address layout hart (linear_value (with vector_lanes.counter i values) x) (linear_value
      (with vector_lanes.counter i values) y) < 2 ^ 32
      → (form_value hart (with vector_lanes.counter 0 values) form + i * stride) % 2 ^ 32 ≡ address layout hart (linear_value (with vector_lanes.counter i values) x)
      (linear_value (with vector_lanes.counter i values) y)
  spot-is hart i values low =
      let a = address layout hart (linear_value (with vector_lanes.counter i values) x) (linear_value (with vector_lanes.counter i values) y) in
      let g : a % 2 ^ 32 ≡ a = omega (arith, low) in
      form-goes vector_lanes.counter i stride hart values form es ∙ point.value hart
      (with vector_lanes.counter i values) ∙ g

  pub dense-made : (most b : ℕ) (start : AffineForm) (c0 c1 c2 : List ℕ) → stride ≡ pixel_bytes layout.pixels → IsAt vector_lanes.counter 0 form start
      → MakesHeld c0 c1 most scope address_register b (λ hart values. form_value hart values start) → LoadsAlong c1 c2 vector_lanes.group k b layout.pixels
      → MakesPoint c0 c2 places scope vector_lanes k source x y
  dense-made most b start c0 c1 c2 is at p z =
      each-as places scope vector_lanes k c0 c2 (λ w m reads values i. Nothing w m reads values × LoadsPoint places source vector_lanes.counter x y w m reads values i)
      (LoadsPoint places source vector_lanes.counter x y)
      (λ reads values i. reads source (xs reads values i) (ys reads values i)) (λ w m reads values n some all i lt. (tt, all i lt))
      (each-dense places scope vector_lanes k in-stack source layout ep xs ys b c0 c1 c2 Nothing (λ hart reads values. form_value hart (with vector_lanes.counter 0 values) form)
      (λ hart reads values i low. ap (λ q. (form_value hart (with vector_lanes.counter 0 values) form + i * q) % 2 ^ 32) (sym is) ∙ spot-is hart i values low)
      (pointer-scalar scope vector_lanes form start most b c0 c1 at p) z)

  -- this many strides further
  far : (p i : ℕ) → (p + (i * stride) % 2 ^ 32) % 2 ^ 32 ≡ (p + i * stride) % 2 ^ 32
  far p i = let t = i * stride in let g : (p + t % 2 ^ 32) % 2 ^ 32 ≡ (p + t) % 2 ^ 32 = omega arith in g

  -- words at a stride
  pub strided-made : (most b : ℕ) (start : AffineForm) (c0 c1 c2 c3 : List ℕ) → layout.pixels ≡ pixels.Words → IsAt vector_lanes.counter 0 form start
      → Makes c0 c1 2 first_value (λ f. stride) → MakesHeld c1 c2 most scope address_register b (λ hart values. form_value hart values start)
      → LoadsStrided c2 c3 vector_lanes.group k b first_value → MakesPoint c0 c3 places scope vector_lanes k source x y
  strided-made most b start c0 c1 c2 c3 words at s p z = record {
    insns = s.insns ++ (p.insns ++ z.insns);
    emits = emits_then s.emits (emits_then p.emits z.emits);
    does = λ w m values reads n f l are holders knows has some few may.
        let first = with vector_lanes.counter 0 values in
        let xv : ℕ → ℕ = (λ i. xs reads values i) in
        let yv : ℕ → ℕ = (λ i. ys reads values i) in
        let i1 = s.does w m f l (knows-zero w.hart scope first f knows) in
        let same1 : (q : ℕ) → IsBelow first_value q → i1.after q ≡ f q = (λ q h. let d = below-apart first_value first_value q (inr (refl, omega arith)) h in
        i1.others q d.0 d.1.0 d.1.1) in
        let k1 = knows-still w.hart scope first f i1.after (λ q h. same1 q (kept-below scope q 20 (omega arith) holders h)) knows in
        let i2 = p.does w m w.hart first i1.after l holders (working-free scope address_register holders (inl (omega arith, omega arith))) k1 in
        let same2 : (q : ℕ) → IsBelow first_value q → i2.after q ≡ i1.after q = (λ q h. let d = below-apart first_value address_register q (inl refl) h in
        i2.others q d.0 d.1.0 d.1.1) in
        let has2 = lanes-scalar w m l vector_lanes.group n f i2.after (λ q h. same2 q h ∙ same1 q h) has in
        let by : i2.after first_value ≡ stride = i2.others first_value (λ g. omega (arith, g)) (λ g. omega (arith, g)) (λ g. omega (arith, g)) ∙ i1.value in
        let can : (i : ℕ) → i < n → LoadsAt w layout m (xv i) (yv i) (reads source (xv i) (yv i)) =
        (λ i lt. subst (λ q. LoadsAt w q m (xv i) (yv i) (reads source (xv i) (yv i))) (sym ep) (may i lt)) in
        let u = z.does w m n i2.after xv yv (λ i. reads source (xv i) (yv i)) layout l has2 words can
        (λ i lt. ap (λ q. (q + (i * i2.after first_value) % 2 ^ 32) % 2 ^ 32) (i2.value ∙ at.value w.hart 0 values)
        ∙ ap (λ q. (form_value w.hart first form + (i * q) % 2 ^ 32) % 2 ^ 32) by
        ∙ far (form_value w.hart first form) i ∙ spot-is w.hart i values (can i lt).low) in
        record {
          after = u.after;
          line = line-then w s.insns (p.insns ++ z.insns) f i1.after u.after m m m i1.line
              (line-then w p.insns z.insns i1.after i2.after u.after m m m i2.line u.line);
          value = u.value;
          small = u.small;
          keeps = λ q h. let below = under-below vector_lanes.group k q h in u.keeps q h ∙ same2 q below ∙ same1 q
              below;
        };
  }

  -- pixels at a stride
  pub stepped-made : (most b : ℕ) (start : AffineForm) (c0 c1 c2 c3 : List ℕ)
      → ((all : Places) → MakesEach c0 c1 all scope vector_lanes k NothingEach (λ reads values i. word.applied op.Multiply i stride)) → IsAt vector_lanes.counter 0 form start
      → MakesHeld c1 c2 most scope address_register b (λ hart values. form_value hart values start) → LoadsFrom c2 c3 vector_lanes.group k b layout.pixels
      → MakesPoint c0 c3 places scope vector_lanes k source x y
  unfolding word.multiply
  stepped-made most b start c0 c1 c2 c3 steps at p z =
      each-as places scope vector_lanes k c0 c3
      (λ w m reads values i. NothingEach w m reads values i × (Nothing w m reads values × LoadsPoint places source vector_lanes.counter x y w m reads values i))
      (LoadsPoint places source vector_lanes.counter x y)
      (λ reads values i. reads source (xs reads values i) (ys reads values i)) (λ w m reads values n some all i lt. (tt, (tt, all i lt)))
      (each-gathered places scope vector_lanes k in-stack source layout ep xs ys b c0 c1 c2 c3 NothingEach Nothing
      (λ reads values i. word.applied op.Multiply i stride) (λ hart reads values. form_value hart (with vector_lanes.counter 0 values) form)
      (λ hart reads values i low. far (form_value hart (with vector_lanes.counter 0 values) form) i ∙ spot-is hart i
      values low)
      (steps places) (pointer-scalar scope vector_lanes form start most b c1 c2 at p) z)
