-- Addresses of points whose indexes may be computed, and stores there.
use Rattle.std.proofs.Common.{◌≡◌, ℕ, ◌+◌, ◌*◌, ◌%◌, ◌^◌, ◌<◌, List, [], ◌∷◌, ◌++◌, length, refl, ap, ◌∙◌, sym, subst, arith, inl, inr}
use Rattle.std.specs.Prelude.{◌≢◌, ◌⊎◌}
use Rattle.rv_insn.specs.declared.instructions.Insn.TheVariants.{Alu}
use Rattle.rv_insn.specs.declared.operations.AluOp.TheVariants as alus
use Rattle.halide_pipeline.specs.Words as word
use Rattle.loop_ir.specs.declared.expressions.Linear.{Linear}
use Rattle.loop_ir.specs.Counters.{Values}
use Rattle.loop_ir.specs.Expressions.{linear_value}
use Rattle.multi_hart_laws.proofs.Paths.{line-then}
use Rattle.task_code_scalar.specs.declared.layouts.BufferLayout.{BufferLayout}
use Rattle.task_code_scalar.specs.Code.{address, pixel_bytes}
use Rattle.task_code_scalar.specs.Words.{Emits}
use Rattle.task_code_scalar.proofs.Spelling.{emits_then, emits-none}
use Rattle.task_code_scalar.proofs.Values.{alu-sets}
use Rattle.task_code_registers.specs.declared.scopes.AffineForm.{AffineForm}
use Rattle.task_code_registers.specs.declared.scopes.Held.{Held}
use Rattle.task_code_registers.specs.Emitting.{Makes, MakesFormAddress, sum_words}
use Rattle.task_code_registers.specs.Points.{IsPoint}
use Rattle.task_code_registers.specs.Registers.{scratch, second_scratch, address_register, IsSource}
use Rattle.task_code_registers.specs.Scopes.{Knows, AreHolders, IsKept}
use Rattle.task_code_registers.proofs.Knowing.{knows-zero, knows-still, working-free}
use Rattle.task_code_registers.proofs.Making.{puts-none, short-then, term-more, base-most}
use Rattle.task_code_values.specs.declared.points.PointIndex.{PointIndex}
use Rattle.task_code_values.specs.declared.points.PointIndex.TheVariants as indexes
use Rattle.task_code_values.specs.Making.{IsStack}
use Rattle.task_code_values.specs.Operands.{IsIndex, StandsIn, IsOperand, index_words}
use Rattle.task_code_values.specs.Scattering.{register_part, sum_part, column_words, HasSource, IsSumPart, StandsBeside, row_bytes, with_rows}
use Rattle.task_code_values.specs.Scattering.{ReachesBehind, ReachesPoint}
use Rattle.task_code_values.proofs.Pointing.{zero-held, row-bytes, stack-place}
use Rattle.task_code_values.proofs.Standing.{kept-below, below-apart}

-- ---- parts of indexes

pub sum-itself : (index : PointIndex) (new_sum linear : Linear) → index ≡ indexes.Sum new_sum → linear ≡ new_sum
    → IsSumPart index linear
sum-itself index new_sum linear ei em = subst (λ i. IsSumPart i linear) (sym ei) (subst (λ m. IsSumPart (indexes.Sum new_sum) m) (sym em) (record {
  value_is = λ values. refl;
  few = omega arith;
  few_columns = omega arith;
  have = λ scope have. have;
}))

pub sum-none : (index : PointIndex) (s : ℕ) (new_sum : Linear) → index ≡ indexes.Register s → ((values : Values) → linear_value values new_sum ≡ 0)
    → length new_sum.terms ≡ 0 → IsSumPart index new_sum
sum-none index s new_sum ei none few = subst (λ i. IsSumPart i new_sum) (sym ei) (record {
  value_is = none;
  few = omega (arith, few);
  few_columns = omega (arith, few);
  have = λ scope have. zero-held scope new_sum few;
})

-- an index is both of its parts
both-parts : (index : PointIndex) (values : Values) (f : ℕ → ℕ) (v : ℕ) → IsIndex values f index v → register_part index f + sum_part index values ≡ v
both-parts (indexes.Sum own) values f v is = let g : 0 + linear_value values own ≡ linear_value values own = omega arith in g ∙ is
both-parts (indexes.Register s) values f v is = let g : f s + 0 ≡ f s = omega arith in g ∙ is

-- ---- bytes

pub columns-none : (index : PointIndex) (new_sum : Linear) (r b : ℕ) (c0 c1 : List ℕ) → index ≡ indexes.Sum new_sum → Makes c0 c1 2 r (λ f. 0)
    → Makes c0 c1 (column_words index) r (λ f. (register_part index f * b) % 2 ^ 32)
columns-none index new_sum r b c0 c1 ei x =
    let z : 0 ≡ (0 * b) % 2 ^ 32 = omega arith in
    subst (λ i. Makes c0 c1 (column_words i) r (λ f. (register_part i f * b) % 2 ^ 32)) (sym ei) (subst (λ n. Makes c0 c1 2 r (λ f. n)) z x)

pub columns-some : (index : PointIndex) (s r b : ℕ) (c0 c1 : List ℕ) → index ≡ indexes.Register s → Makes c0 c1 1 r (λ f. (f s * b) % 2 ^ 32)
    → Makes c0 c1 (column_words index) r (λ f. (register_part index f * b) % 2 ^ 32)
columns-some index s r b c0 c1 ei x = subst (λ i. Makes c0 c1 (column_words i) r (λ f. (register_part i f * b) % 2 ^ 32)) (sym ei) x

pub rows-none : (layout : BufferLayout) (index : PointIndex) (new_sum : Linear) (r : ℕ) (c : List ℕ) → index ≡ indexes.Sum new_sum → Makes c c 4 r (with_rows layout index r)
rows-none layout index new_sum r c ei = subst (λ i. Makes c c 4 r (with_rows layout i r)) (sym ei) (record {
  insns = [];
  emits = emits-none c;
  short = omega arith;
  does = λ w m f l zero. puts-none w m l f r (f r) refl;
})

pub rows-some : (layout : BufferLayout) (index : PointIndex) (t r bytes n : ℕ) (c0 c1 c2 : List ℕ) → IsStack r → index ≡ indexes.Register t
    → bytes ≡ pixel_bytes layout.pixels → n ≡ word.multiply bytes layout.width → Makes c0 c1 3 second_scratch (λ f. (f t * n) % 2 ^ 32)
    → Emits c1 c2 (Alu alus.Add r r second_scratch ∷ []) → Makes c0 c2 4 r (with_rows layout index r)
unfolding word.multiply
rows-some layout index t r bytes n c0 c1 c2 is ei eb en x y =
    let p = stack-place r is in
    let e : n ≡ row_bytes layout = en ∙ ap (λ b. (b * layout.width) % 2 ^ 32) eb in
    subst (λ i. Makes c0 c2 4 r (with_rows layout i r)) (sym ei)
    (subst (λ k. Makes c0 c2 4 r (λ f. (f r + f t * k) % 2 ^ 32)) e (term-more r t n c0 c1 c2 p.0.0 p.0.1 p.1.0 p.1.1 x y))

-- a source is one of its index
pub source-of : (scope : List Held) (r : ℕ) (index : PointIndex) → StandsIn scope r index → HasSource index
source-of scope r (indexes.Sum own) stands = tt
source-of scope r (indexes.Register s) stands = stands.1.0

pub source-beside : (scope : List Held) (r : ℕ) (index : PointIndex) → StandsBeside scope r index → HasSource index
source-beside scope r (indexes.Sum own) stands = tt
source-beside scope r (indexes.Register t) stands = stands.0

-- what is in the register above another one
pub stands-above : (scope : List Held) (r : ℕ) (index : PointIndex) → StandsIn scope (r + 1) index → StandsBeside scope r index
stands-above scope r (indexes.Sum own) stands = tt
stands-above scope r (indexes.Register t) stands = (stands.1.0, by stands.1.1)
  where
    by : IsOperand scope (r + 1) (r + 1) t → (t ≢ r) ⊎ IsKept scope t
    by (inl e) = inl (λ g. omega (arith, e, g))
    by (inr (inl e)) = inl (λ g. omega (arith, e, g))
    by (inr (inr h)) = inr h

pub source-is : (index : PointIndex) (s : ℕ) → index ≡ indexes.Register s → HasSource index → IsSource s
source-is index s e has = subst HasSource e has

-- ---- addresses

module _ (scope : List Held) (layout : BufferLayout) (r : ℕ) (is : IsStack r) where
  -- this many bytes after
  pub reached-behind : (x y : Linear) (form : AffineForm) (base offset : ℕ) (c0 c1 c2 : List ℕ)
      → IsPoint layout x y form
      → MakesFormAddress c0 c1 scope form address_register (record { register = base; offset = offset }) → Emits c1 c2 (Alu alus.Add r r base ∷ [])
      → ReachesBehind c0 c2 scope layout x y r offset
  reached-behind x y form base offset c0 c1 c2 point a z = record {
    insns = a.insns ++ (Alu alus.Add r r base ∷ []);
    emits = emits_then a.emits z;
    short =
        let few = point.few in
        let most = base-most form.per_hart in
        short-then a.insns (Alu alus.Add r r base ∷ []) (sum_words form.per_hart form.sum.terms) 1 (7 + 4 * (length x.terms + length y.terms)) a.short
        (omega arith) (omega (arith, few, most));
    fits = a.fits;
    small = a.small;
    does = λ w m values f at l holders knows eat.
        let from = is.0 in
        let high = is.1 in
        let n15 : r ≢ address_register = (λ e. omega (arith, e, from)) in
        let n13 : r ≢ scratch = (λ e. omega (arith, e, from)) in
        let n14 : r ≢ second_scratch = (λ e. omega (arith, e, from)) in
        let free = working-free scope address_register holders (inl (omega arith, omega arith)) in
        let t = a.does w m w.hart values f l holders free knows in
        let b = t.after base in
        let p = address layout w.hart (linear_value values x) (linear_value values y) in
        let eb : (b + offset) % 2 ^ 32 ≡ p % 2 ^ 32 = t.value ∙ point.value w.hart values in
        let i = alu-sets w m l alus.Add t.after r r base (f r) b (omega (arith, from)) high high a.low (t.others r n15 n13 n14) refl in
        record {
          after = i.after;
          line = line-then w a.insns (Alu alus.Add r r base ∷ []) f t.after i.after m m m t.line i.line;
          value = ap (λ n. (n + offset) % 2 ^ 32) i.value ∙ moved (f r) b offset p eb ∙ eat;
          keeps = λ q k.
              let d = below-apart r address_register q (inl refl) k in
              i.others q (below-apart r r q (inr (refl, high)) k).0 ∙ t.others q d.0 d.1.0 d.1.1;
        };
  }
    where
      moved : (n b o p : ℕ) → (b + o) % 2 ^ 32 ≡ p % 2 ^ 32 → ((n + b) % 2 ^ 32 + o) % 2 ^ 32 ≡ (n + p) % 2 ^ 32
      moved n b o p e = omega (arith, e)

  abbrev b : ℕ
  b = pixel_bytes layout.pixels

  -- all bytes together
  spread : (hart xr xs yr ys : ℕ) → xr * b + yr * (b * layout.width) + address layout hart xs ys ≡ address layout hart (xr + xs) (yr + ys)
  spread hart xr xs yr ys = omega arith

  whole-bytes : (hart xr xs yr ys : ℕ) → address layout hart (xr + xs) (yr + ys) < 2 ^ 32
      → (((xr * b) % 2 ^ 32 + yr * row_bytes layout) % 2 ^ 32 + address layout hart xs ys) % 2 ^ 32 ≡ address layout hart (xr + xs) (yr + ys)
  whole-bytes hart xr xs yr ys low =
      let e = row-bytes yr (b * layout.width) in
      let g = spread hart xr xs yr ys in
      joined (xr * b) (yr * row_bytes layout) (yr * (b * layout.width)) (address layout hart xs ys) (address layout hart (xr + xs) (yr + ys)) e g low
    where
      joined : (n p q a whole : ℕ) → p % 2 ^ 32 ≡ q % 2 ^ 32 → n + q + a ≡ whole → whole < 2 ^ 32 → ((n % 2 ^ 32 + p) % 2 ^ 32 + a) % 2 ^ 32 ≡ whole
      joined n p q a whole e g l = omega (arith, e, g, l)

  -- what is beside r stays where r is made
  row-stays : (row : PointIndex) (f g : ℕ → ℕ) → AreHolders scope → StandsBeside scope r row
      → ((q : ℕ) → q ≢ r → q ≢ scratch → q ≢ second_scratch → g q ≡ f q) → register_part row g ≡ register_part row f
  row-stays (indexes.Sum own) f g holders stands same = refl
  row-stays (indexes.Register t) f g holders stands same = same t (apart stands.1) stands.0.1.0 stands.0.1.1
    where
      apart : (t ≢ r) ⊎ IsKept scope t → t ≢ r
      apart (inl n) = n
      apart (inr h) = working-free scope r holders (inr is) t h

  rows-are : (row : PointIndex) (f : ℕ → ℕ) → f r < 2 ^ 32 → with_rows layout row r f ≡ (f r + register_part row f * row_bytes layout) % 2 ^ 32
  rows-are (indexes.Sum own) f small = let g : f r ≡ (f r + 0 * row_bytes layout) % 2 ^ 32 = omega (arith, small) in g
  rows-are (indexes.Register t) f small = refl

  pub point-reached : (column row : PointIndex) (x y : Linear) (offset : ℕ) (c0 c1 c2 c3 : List ℕ) → StandsBeside scope r row → IsSumPart column x
      → IsSumPart row y → Makes c0 c1 (column_words column) r (λ f. (register_part column f * b) % 2 ^ 32) → Makes c1 c2 4 r (with_rows layout row r)
      → ReachesBehind c2 c3 scope layout x y r offset → ReachesPoint c0 c3 scope layout column row r offset
  point-reached column row x y offset c0 c1 c2 c3 stands px py u v z = record {
    insns = u.insns ++ (v.insns ++ z.insns);
    emits = emits_then u.emits (emits_then v.emits z.emits);
    short =
        let nx = px.few_columns in
        let ny = py.few in
        let n = 7 + 4 * (length x.terms + length y.terms) in
        let rest = short-then v.insns z.insns 4 n (4 + n) v.short z.short (omega arith) in
        short-then u.insns (v.insns ++ z.insns) (column_words column) (4 + n) (index_words column + index_words row + 12) u.short rest (omega (arith, nx, ny));
    fits = z.fits;
    small = z.small;
    does = λ w m values f xv yv l holders knows ex ey low.
        let hart = w.hart in
        let xr = register_part column f in
        let yr = register_part row f in
        let a1 = u.does w m f l (knows-zero hart scope values f knows) in
        let k1 = known hart values f a1.after holders a1.others knows in
        let a2 = v.does w m a1.after l (knows-zero hart scope values a1.after k1) in
        let k2 = known hart values a1.after a2.after holders a2.others k1 in
        let small : a1.after r < 2 ^ 32 = subst (λ n. n < 2 ^ 32) (sym a1.value) (omega arith) in
        let er : a2.after r ≡ ((xr * b) % 2 ^ 32 + yr * row_bytes layout) % 2 ^ 32 =
        a2.value ∙ rows-are row a1.after small
        ∙ ap (λ n. (n + register_part row a1.after * row_bytes layout) % 2 ^ 32) a1.value
        ∙ ap (λ n. ((xr * b) % 2 ^ 32 + n * row_bytes layout) % 2 ^ 32) (row-stays row f a1.after holders stands a1.others) in
        let bx = both-parts column values f xv ex in
        let by = both-parts row values f yv ey in
        let whole : address layout hart (xr + sum_part column values) (yr + sum_part row values) ≡ address layout hart xv yv =
        ap (λ i. address layout hart i (yr + sum_part row values)) bx ∙ ap (address layout hart xv) by in
        let e : (a2.after r + address layout hart (linear_value values x) (linear_value values y)) % 2 ^ 32 ≡ address layout hart xv yv =
        ap (λ n. (n + address layout hart (linear_value values x) (linear_value values y)) % 2 ^ 32) er
        ∙ ap (λ i. (((xr * b) % 2 ^ 32 + yr * row_bytes layout) % 2 ^ 32 + address layout hart i (linear_value values y)) % 2 ^ 32) (px.value_is values)
        ∙ ap (λ j. (((xr * b) % 2 ^ 32 + yr * row_bytes layout) % 2 ^ 32 + address layout hart (sum_part column values) j) % 2 ^ 32) (py.value_is values)
        ∙ whole-bytes hart xr (sum_part column values) yr (sum_part row values) (subst (λ n. n < 2 ^ 32) (sym whole) low) ∙ whole in
        let a3 = z.does w m values a2.after (address layout hart xv yv) l holders k2 e in
        record {
          after = a3.after;
          line = line-then w u.insns (v.insns ++ z.insns) f a1.after a3.after m m m a1.line
              (line-then w v.insns z.insns a1.after a2.after a3.after m m m a2.line a3.line);
          value = a3.value;
          keeps = λ q k.
              let d = below-apart r r q (inr (refl, is.1)) k in
              a3.keeps q k ∙ a2.others q d.0 d.1.0 d.1.1 ∙ a1.others q d.0 d.1.0 d.1.1;
        };
  }
    where
      known : (hart : ℕ) (values : Values) (f g : ℕ → ℕ) → AreHolders scope → ((q : ℕ) → q ≢ r → q ≢ scratch → q ≢ second_scratch → g q ≡ f q)
          → Knows hart scope values f → Knows hart scope values g
      known hart values f g holders same knows =
          knows-still hart scope values f g
          (λ q h. let d = below-apart r r q (inr (refl, is.1)) (kept-below scope q r is.0 holders h) in same q d.0 d.1.0 d.1.1) knows
