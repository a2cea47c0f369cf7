-- Loads of points.
use Rattle.std.proofs.Common.{◌≡◌, ℕ, ◌+◌, ◌*◌, ◌%◌, ◌^◌, ◌<◌, ◌≤◌, List, [], ◌∷◌, ◌++◌, length, true, false, refl, ap, ◌∙◌, sym, subst, arith, inl, inr}
use Rattle.std.specs.Prelude.{◌≢◌, ◌⊎◌, nat_lt, pos}
use Rattle.std.proofs.Math.Nat.{mul-add, mul_comm, mul_assoc}
use Rattle.std.proofs.lemmas.Nat.{mul-mod_second}
use Rattle.std.proofs.lemmas.Bool.Decides.{nat_tests}
use Rattle.rv_insn.specs.declared.instructions.Insn.{Insn}
use Rattle.rv_insn.specs.declared.instructions.Insn.TheVariants.{Load, Alu, AluImm, Shift}
use Rattle.rv_insn.specs.declared.operations.AluOp.TheVariants as alus
use Rattle.rv_insn.specs.declared.operations.AluImmOp.TheVariants as alu_imms
use Rattle.rv_insn.specs.declared.operations.ShiftOp.TheVariants as shifts
use Rattle.memory.specs.Access.{number_in}
use Rattle.hart_core.specs.Scalar.{plus, load_size, loaded, extended}
use Rattle.halide_pipeline.specs.Words as word
use Rattle.loop_ir.specs.declared.expressions.Linear.{Linear}
use Rattle.loop_ir.specs.declared.expressions.Term.{Term}
use Rattle.loop_ir.specs.Counters.{Values}
use Rattle.loop_ir.specs.Expressions.{linear_value}
use Rattle.multi_hart_laws.specs.Alone.{World}
use Rattle.multi_hart_laws.specs.Paths.{update, Line}
use Rattle.multi_hart_laws.proofs.Paths.{update-same, update-other, line-then}
use Rattle.multi_hart_laws.proofs.Jumps as rules
use Rattle.task_code_scalar.specs.declared.layouts.Pixels.{Pixels}
use Rattle.task_code_scalar.specs.declared.layouts.Pixels.TheVariants as pixels
use Rattle.task_code_scalar.specs.declared.layouts.BufferLayout.{BufferLayout}
use Rattle.task_code_scalar.specs.Code.{lower, address, pixel_bytes}
use Rattle.task_code_scalar.specs.Evaluation.{LoadsAt, load_op}
use Rattle.task_code_scalar.specs.Words.{Emits}
use Rattle.task_code_scalar.proofs.Spelling.{emits_then}
use Rattle.task_code_scalar.proofs.Values.{alu-sets, imm-sets, shift-sets}
use Rattle.task_code_registers.specs.declared.scopes.AffineForm.{AffineForm}
use Rattle.task_code_registers.specs.declared.scopes.Held.{Held}
use Rattle.task_code_registers.specs.Emitting.{Fits, Makes, MakesFormAddress, sum_words}
use Rattle.task_code_registers.specs.Points.{IsPoint}
use Rattle.task_code_registers.specs.Registers.{scratch, second_scratch, address_register, IsPlace, IsSource}
use Rattle.task_code_registers.specs.Scopes.{Knows, AreHolders, have_registers}
use Rattle.task_code_registers.proofs.Knowing.{knows-zero, knows-still, working-free}
use Rattle.task_code_registers.proofs.Making.{puts-set, short-then, base-most}
use Rattle.task_code_values.specs.declared.points.PointIndex.{PointIndex}
use Rattle.task_code_values.specs.declared.points.PointIndex.TheVariants as indexes
use Rattle.task_code_values.specs.Making.{IsStack, IsBelow, Leaves}
use Rattle.task_code_values.specs.Operands.{IsOperand, StandsIn, MakesPixel}
use Rattle.task_code_values.specs.Points.{HaveIndex, HasPixel, LoadsPoint, LoadsBehind}
use Rattle.task_code_values.proofs.Standing.{kept-below, below-apart, below-more}

-- ---- offsets

pub small-lower : (v : ℕ) → Fits v → v < 2 ^ 32 → extended (lower v) ≡ v
small-lower v (inl a) l =
    let t : nat_lt (v % 4096) 2048 ≡ true = let e : v % 4096 < 2048 = omega (arith, a) in grind (arith, nat_tests, e) in
    rw t (omega (arith, a, l))
small-lower v (inr b) l =
    let t : nat_lt (v % 4096) 2048 ≡ false = let e : 2048 ≤ v % 4096 = omega (arith, b, l) in grind (arith, nat_tests, e) in
    rw t (omega (arith, b, l))

pub at-offset : (n offset a : ℕ) → Fits offset → offset < 2 ^ 32 → (n + offset) % 2 ^ 32 ≡ a → plus n (lower offset) ≡ a
at-offset n offset a fit small e = ap (λ k. (n + k) % 2 ^ 32) (small-lower offset fit small) ∙ e

pub own-word : (n : ℕ) → n < 2 ^ 32 → n % 2 ^ 32 ≡ n
own-word n l = omega (arith, l)

pixel-loaded : (p : Pixels) (n : ℕ) → loaded (load_op p) n ≡ n
pixel-loaded pixels.Words n = refl
pixel-loaded pixels.Bytes n = refl

-- ---- a load

module _ (w : World) (m : List ℕ) (l : length m ≡ w.size) where
  pub fetched : (layout : BufferLayout) (f : ℕ → ℕ) (r base offset a pixel : ℕ) → IsStack r → base < 32 → Fits offset → offset < 2 ^ 32
      → (f base + offset) % 2 ^ 32 ≡ a → HasPixel w layout m a pixel → Leaves w m (Load (load_op layout.pixels) r base (lower offset) ∷ []) f r r pixel
  fetched layout f r base offset a pixel is lb fit small e has =
      let low = is.0 in
      let high = is.1 in
      let op = load_op layout.pixels in
      let v = loaded op (number_in w.text m (load_size op) a) in
      let line = rules.load w f m l op r base a (lower offset) (omega (arith, low)) high lb (at-offset (f base) offset a fit small e) has.may in
      record {
        after = update f r v;
        line = line;
        value = update-same f r v ∙ pixel-loaded layout.pixels _ ∙ has.holds;
        small = has.is_word;
        keeps = λ q k. update-other f r v q (below-apart r r q (inr (refl, high)) k).0;
      }

-- code that changes the address register or r, and then code that keeps what is below
pub leaves-behind : (w : World) (m : List ℕ) (is js : List Insn) (f g : ℕ → ℕ) (r s v : ℕ) → Line w is f m g m → ((q : ℕ) → IsBelow r q → g q ≡ f q)
    → Leaves w m js g r s v → Leaves w m (is ++ js) f r s v
leaves-behind w m is js f g r s v line same a = record {
  after = a.after;
  line = line-then w is js f g a.after m m m line a.line;
  value = a.value;
  small = a.small;
  keeps = λ q k. a.keeps q k ∙ same q k;
}

module _ (scope : List Held) (layout : BufferLayout) (x y : Linear) (form : AffineForm) (r base offset : ℕ) (is : IsStack r) (point : IsPoint layout x y form) where
  -- at two sums
  pub point-loaded : (c0 c1 c2 : List ℕ) → MakesFormAddress c0 c1 scope form r (record { register = base; offset = offset })
      → Emits c1 c2 (Load (load_op layout.pixels) r base (lower offset) ∷ []) → LoadsPoint c0 c2 scope layout x y r
  point-loaded c0 c1 c2 a z = record {
    insns = a.insns ++ (Load (load_op layout.pixels) r base (lower offset) ∷ []);
    emits = emits_then a.emits z;
    short =
        let few = point.few in
        let most = base-most form.per_hart in
        short-then a.insns (Load (load_op layout.pixels) r base (lower offset) ∷ []) (sum_words form.per_hart form.sum.terms) 1
        (7 + 4 * (length x.terms + length y.terms)) a.short (omega arith) (omega (arith, few, most));
    does = λ w m values f pixel l holders knows has.
        let free = working-free scope r holders (inr is) in
        let t = a.does w m w.hart values f l holders free knows in
        let e = t.value ∙ point.value w.hart values ∙ own-word (address layout w.hart (linear_value values x) (linear_value values y)) has.low in
        let u = fetched w m l layout t.after r base offset (address layout w.hart (linear_value values x) (linear_value values y)) pixel is a.low
        a.fits a.small e has in
        leaves-behind w m a.insns (Load (load_op layout.pixels) r base (lower offset) ∷ []) f t.after r r pixel t.line
        (λ q k. let b = below-apart r r q (inr (refl, is.1)) k in t.others q b.0 b.1.0 b.1.1) u;
  }

  -- and this many bytes after
  pub behind-loaded : (c0 c1 c2 c3 : List ℕ) → MakesFormAddress c0 c1 scope form address_register (record { register = base; offset = offset })
      → Emits c1 c2 (Alu alus.Add r r base ∷ []) → Emits c2 c3 (Load (load_op layout.pixels) r r (lower offset) ∷ []) → LoadsBehind c0 c3 scope layout x y r
  behind-loaded c0 c1 c2 c3 a y1 z = record {
    insns = a.insns ++ (Alu alus.Add r r base ∷ Load (load_op layout.pixels) r r (lower offset) ∷ []);
    emits = emits_then a.emits (emits_then y1 z);
    short =
        let few = point.few in
        let most = base-most form.per_hart in
        short-then a.insns (Alu alus.Add r r base ∷ Load (load_op layout.pixels) r r (lower offset) ∷ []) (sum_words form.per_hart form.sum.terms) 2
        (8 + 4 * (length x.terms + length y.terms)) a.short (omega arith) (omega (arith, few, most));
    does = λ w m values f at pixel l holders knows eat has.
        let low = is.0 in
        let high = is.1 in
        let n15 : r ≢ address_register = (λ e. omega (arith, e, low)) in
        let n13 : r ≢ scratch = (λ e. omega (arith, e, low)) in
        let n14 : r ≢ second_scratch = (λ e. omega (arith, e, low)) in
        let free = working-free scope address_register holders (inl (omega arith, omega arith)) in
        let t = a.does w m w.hart values f l holders free knows in
        let e-r = t.others r n15 n13 n14 in
        let b = t.after base in
        let p = address layout w.hart (linear_value values x) (linear_value values y) in
        let eb : (b + offset) % 2 ^ 32 ≡ p % 2 ^ 32 = t.value ∙ point.value w.hart values in
        let i = alu-sets w m l alus.Add t.after r r base (f r) b (omega (arith, low)) high high a.low e-r refl in
        let e : (i.after r + offset) % 2 ^ 32 ≡ at = ap (λ n. (n + offset) % 2 ^ 32) i.value ∙ moved (f r) b offset p eb ∙ eat in
        let u = fetched w m l layout i.after r r offset at pixel is high a.fits a.small e has in
        let second = leaves-behind w m (Alu alus.Add r r base ∷ []) (Load (load_op layout.pixels) r r (lower offset) ∷ []) t.after i.after r r pixel i.line
        (λ q k. i.others q (below-apart r r q (inr (refl, high)) k).0) u in
        leaves-behind w m a.insns (Alu alus.Add r r base ∷ Load (load_op layout.pixels) r r (lower offset) ∷ []) f t.after r r pixel t.line
        (λ q k. let d = below-apart r address_register q (inl refl) k in t.others q d.0 d.1.0 d.1.1) second;
  }
    where
      moved : (n b o p : ℕ) → (b + o) % 2 ^ 32 ≡ p % 2 ^ 32 → ((n + b) % 2 ^ 32 + o) % 2 ^ 32 ≡ (n + p) % 2 ^ 32
      moved n b o p e = omega (arith, e)

-- ---- bytes of pixels and of rows

pub scaled-words : (r s : ℕ) (c0 c1 : List ℕ) → IsPlace r × IsSource s → Emits c0 c1 (Shift shifts.Slli r s 2 ∷ [])
    → Makes c0 c1 1 r (λ f. (f s * 4) % 2 ^ 32)
scaled-words r s c0 c1 requires x = record {
  insns = Shift shifts.Slli r s 2 ∷ [];
  emits = x;
  short = omega arith;
  does = λ w m f l zero. puts-set w m l refl (shift-sets w m l shifts.Slli f r s 2 (f s) requires.0.0.0 requires.0.0.1 requires.1.0 refl);
}

pub scaled-bytes : (r s : ℕ) (c0 c1 : List ℕ) → IsPlace r × IsSource s → Emits c0 c1 (AluImm alu_imms.Addi r s (pos 0) ∷ [])
    → Makes c0 c1 1 r (λ f. (f s * 1) % 2 ^ 32)
scaled-bytes r s c0 c1 requires x = record {
  insns = AluImm alu_imms.Addi r s (pos 0) ∷ [];
  emits = x;
  short = omega arith;
  does = λ w m f l zero.
      let v = f s in
      let g : (v + 0) % 2 ^ 32 ≡ (v * 1) % 2 ^ 32 = omega arith in
      puts-set w m l g (imm-sets w m l alu_imms.Addi f r s (pos 0) (f s) requires.0.0.0 requires.0.0.1 requires.1.0 refl);
}

pub scaled-as : (p q : Pixels) (r s : ℕ) (c0 c1 : List ℕ) → q ≡ p → Makes c0 c1 1 r (λ f. (f s * pixel_bytes p) % 2 ^ 32)
    → Makes c0 c1 1 r (λ f. (f s * pixel_bytes q) % 2 ^ 32)
scaled-as p q r s c0 c1 e x = subst (λ k. Makes c0 c1 1 r (λ f. (f s * pixel_bytes k) % 2 ^ 32)) (sym e) x

-- ---- addresses from numbers of bytes

spread-out : (b w x y : ℕ) → y * (b * w) + x * b ≡ b * (y * w + x)
spread-out b w x y =
    let one : y * (b * w) ≡ b * (y * w) = sym (mul_assoc y b w) ∙ ap (λ k. k * w) (mul_comm y b) ∙ mul_assoc b y w in
    let two : x * b ≡ b * x = mul_comm x b in
    ap (λ k. k + x * b) one ∙ ap (λ k. b * (y * w) + k) two ∙ sym (mul-add b (y * w) x)

pub row-bytes : (y row : ℕ) → (y * (row % 2 ^ 32)) % 2 ^ 32 ≡ (y * row) % 2 ^ 32
row-bytes y row = mul-mod_second y row (2 ^ 32)

no-rows : (w x : ℕ) → 0 * w + x ≡ x
no-rows w x = let z : 0 * w ≡ 0 = omega arith in ap (λ n. n + x) z ∙ (let g : 0 + x ≡ x = omega arith in g)

module _ (layout : BufferLayout) (hart x y : ℕ) (low : address layout hart x y < 2 ^ 32) where
  abbrev b : ℕ
  b = pixel_bytes layout.pixels

  abbrev start : ℕ
  start = layout.start + layout.distance * hart

  abbrev whole : ℕ
  whole = address layout hart x y

  parts : whole ≡ start + (y * (b * layout.width) + x * b)
  parts = ap (λ n. start + n) (sym (spread-out b layout.width x y))

  grouped-rows : (p q n : ℕ) → p % 2 ^ 32 ≡ q % 2 ^ 32 → whole ≡ q + n → (p % 2 ^ 32 + n) % 2 ^ 32 ≡ whole
  grouped-rows p q n e g = omega (arith, e, g, low)

  first-rows : (v : ℕ) → v ≡ 0 → ((y * ((b * layout.width) % 2 ^ 32)) % 2 ^ 32 + address layout hart x v) % 2 ^ 32 ≡
      whole
  first-rows v none =
      let e : address layout hart x v ≡ start + b * x = ap (λ n. start + b * (n * layout.width + x)) none ∙ ap (λ n. start + b * n) (no-rows layout.width x) in
      let c : x * b ≡ b * x = mul_comm x b in
      let r = y * (b * layout.width) in
      let g : whole ≡ r + (start + b * x) = parts ∙ (let k : start + (r + x * b) ≡ r + (start + x * b) = omega arith in k) ∙ ap (λ n. r + (start + n)) c in
      ap (λ n. ((y * ((b * layout.width) % 2 ^ 32)) % 2 ^ 32 + n) % 2 ^ 32) e
      ∙ grouped-rows (y * ((b * layout.width) % 2 ^ 32)) r (start + b * x) (row-bytes y (b * layout.width)) g

  pub first-columns : (v : ℕ) → v ≡ 0 → ((x * b) % 2 ^ 32 + address layout hart v y) % 2 ^ 32 ≡ whole
  first-columns v none =
      let n = y * layout.width in
      let z : n + 0 ≡ n = omega arith in
      let e : address layout hart v y ≡ start + b * n = ap (λ k. start + b * (n + k)) none ∙ ap (λ k. start + b * k) z
      in
      let c : y * (b * layout.width) ≡ b * n = sym (mul_assoc y b layout.width) ∙ ap (λ k. k * layout.width) (mul_comm y b) ∙ mul_assoc b y layout.width in
      let g : whole ≡ x * b + (start + b * n) = parts ∙ ap (λ k. start + (k + x * b)) c ∙ (let k : start + (b * n + x * b) ≡ x * b + (start + b * n)
      = omega arith in k) in
      ap (λ k. ((x * b) % 2 ^ 32 + k) % 2 ^ 32) e ∙ grouped-rows (x * b) (x * b) (start + b * n) refl g

  both-added : (p q k n : ℕ) → q % 2 ^ 32 ≡ k % 2 ^ 32 → whole ≡ n + (k + p) → ((p % 2 ^ 32 + q % 2 ^ 32) % 2 ^ 32 + n) % 2 ^ 32 ≡ whole
  both-added p q k n e g = omega (arith, e, g, low)

  pub both-first : (u v : ℕ) → u ≡ 0 → v ≡ 0
      → (((x * b) % 2 ^ 32 + (y * ((b * layout.width) % 2 ^ 32)) % 2 ^ 32) % 2 ^ 32 + address layout hart u v) % 2 ^ 32 ≡ whole
  both-first u v eu ev =
      let r = (x * b) % 2 ^ 32 + (y * ((b * layout.width) % 2 ^ 32)) % 2 ^ 32 in
      let z : b * 0 ≡ 0 = omega arith in
      let s : start + 0 ≡ start = omega arith in
      let e : address layout hart u v ≡ start =
      ap (λ k. start + b * (v * layout.width + k)) eu ∙ ap (λ k. start + b * (k * layout.width + 0)) ev ∙ ap (λ k. start + b * k) (no-rows layout.width 0)
      ∙ ap (λ k. start + k) z ∙ s in
      ap (λ k. (r % 2 ^ 32 + k) % 2 ^ 32) e
      ∙ both-added (x * b) (y * ((b * layout.width) % 2 ^ 32)) (y * (b * layout.width)) start (row-bytes y (b * layout.width)) parts

-- ---- indexes

pub can-pixel : (w : World) (layout : BufferLayout) (m : List ℕ) (x y pixel : ℕ) → LoadsAt w layout m x y pixel → HasPixel w layout m (address layout w.hart x y) pixel
can-pixel w layout m x y pixel can = record { low = can.low; may = can.may; holds = can.holds; is_word = can.is_word }

-- a sum that is 0
pub record IsZero (new_sum : Linear) : Type 0 where
  pub none : (values : Values) → linear_value values new_sum ≡ 0
  pub few : length new_sum.terms ≡ 0

module _ (scope : List Held) (layout : BufferLayout) (r : ℕ) (is : IsStack r) where
  abbrev Pixel : List ℕ → List ℕ → PointIndex → PointIndex → Type 0
  Pixel c0 c1 column row = MakesPixel c0 c1 scope layout column row r

  pub pixel-as : (column row x y : PointIndex) (c0 c1 : List ℕ) → column ≡ x → row ≡ y → Pixel c0 c1 x y → Pixel c0 c1 column row
  pixel-as column row x y c0 c1 ex ey z = subst (λ k. Pixel c0 c1 k row) (sym ex) (subst (λ k. Pixel c0 c1 x k) (sym ey) z)

  pub pixel-sums : (x y : Linear) (c0 c1 : List ℕ) → LoadsPoint c0 c1 scope layout x y r → Pixel c0 c1 (indexes.Sum x) (indexes.Sum y)
  pixel-sums x y c0 c1 z = record {
    insns = z.insns;
    emits = z.emits;
    short = let k = z.short in omega (arith, k);
    does = λ w m values f xv yv pixel l holders knows ex ey lx ly can.
        z.does w m values f pixel l holders knows (subst (λ i. HasPixel w layout m (address layout w.hart i (linear_value values y)) pixel) (sym ex)
        (subst (λ j. HasPixel w layout m (address layout w.hart xv j) pixel) (sym ey) (can-pixel w layout m xv yv pixel can)));
  }

  -- the scope is known after code that changes r and the scratch registers
  known-behind : (own : ℕ) → (r ≡ own) ⊎ (r + 1 ≡ own) → own < 32 → (hart : ℕ) (values : Values) (f g : ℕ → ℕ) → AreHolders scope
      → ((q : ℕ) → q ≢ own → q ≢ scratch → q ≢ second_scratch → g q ≡ f q) → Knows hart scope values f → Knows hart scope values g
  known-behind own o high hart values f g holders same knows =
      let low = is.0 in
      knows-still hart scope values f g
      (λ q h. let k = kept-below scope q own (omega (arith, o, low)) holders h in let b = below-apart own own q (inr (refl, high)) k in same q b.0
      b.1.0 b.1.1) knows

  pub pixel-row : (x zero : Linear) (t : ℕ) (c0 c1 c2 : List ℕ) → IsZero zero
      → Makes c0 c1 3 r (λ f. (f t * ((pixel_bytes layout.pixels * layout.width) % 2 ^ 32)) % 2 ^ 32) → LoadsBehind c1 c2 scope layout x zero r
      → Pixel c0 c2 (indexes.Sum x) (indexes.Register t)
  pixel-row x zero t c0 c1 c2 nil y z = record {
    insns = y.insns ++ z.insns;
    emits = emits_then y.emits z.emits;
    short = let n = nil.few in short-then y.insns z.insns 3 (8 + 4 * (length x.terms + length zero.terms)) (2 + 4 * length x.terms + 0 + 13) y.short
        z.short (omega (arith, n));
    does = λ w m values f xv yv pixel l holders knows ex ey lx ly can.
        let row = (pixel_bytes layout.pixels * layout.width) % 2 ^ 32 in
        let a = y.does w m f l (knows-zero w.hart scope values f knows) in
        let k = known-behind r (inl refl) is.1 w.hart values f a.after holders a.others knows in
        let e : (a.after r + address layout w.hart (linear_value values x) (linear_value values zero)) % 2 ^ 32 ≡ address layout w.hart xv yv =
        ap (λ n. (n + address layout w.hart (linear_value values x) (linear_value values zero)) % 2 ^ 32) (a.value ∙ ap (λ n. (n * row) % 2 ^ 32) ey)
        ∙ ap (λ i. ((yv * row) % 2 ^ 32 + address layout w.hart i (linear_value values zero)) % 2 ^ 32) ex
        ∙ first-rows layout w.hart xv yv can.low (linear_value values zero) (nil.none values) in
        let u = z.does w m values a.after (address layout w.hart xv yv) pixel l holders k e (can-pixel w layout m xv yv pixel can) in
        leaves-behind w m y.insns z.insns f a.after r r pixel a.line (λ q h. let b = below-apart r r q (inr (refl, is.1)) h in a.others q b.0 b.1.0 b.1.1) u;
  }

  pub pixel-column : (y zero : Linear) (s : ℕ) (c0 c1 c2 : List ℕ) → IsZero zero → Makes c0 c1 1 r (λ f. (f s * pixel_bytes layout.pixels) % 2 ^ 32)
      → LoadsBehind c1 c2 scope layout zero y r → Pixel c0 c2 (indexes.Register s) (indexes.Sum y)
  pixel-column y zero s c0 c1 c2 nil x z = record {
    insns = x.insns ++ z.insns;
    emits = emits_then x.emits z.emits;
    short = let n = nil.few in short-then x.insns z.insns 1 (8 + 4 * (length zero.terms + length y.terms)) (0 + (2 + 4 * length y.terms) + 13)
        x.short z.short (omega (arith, n));
    does = λ w m values f xv yv pixel l holders knows ex ey lx ly can.
        let b = pixel_bytes layout.pixels in
        let a = x.does w m f l (knows-zero w.hart scope values f knows) in
        let k = known-behind r (inl refl) is.1 w.hart values f a.after holders a.others knows in
        let e : (a.after r + address layout w.hart (linear_value values zero) (linear_value values y)) % 2 ^ 32 ≡ address layout w.hart xv yv =
        ap (λ n. (n + address layout w.hart (linear_value values zero) (linear_value values y)) % 2 ^ 32) (a.value ∙ ap (λ n. (n * b) % 2 ^ 32) ex)
        ∙ ap (λ j. ((xv * b) % 2 ^ 32 + address layout w.hart (linear_value values zero) j) % 2 ^ 32) ey
        ∙ first-columns layout w.hart xv yv can.low (linear_value values zero) (nil.none values) in
        let u = z.does w m values a.after (address layout w.hart xv yv) pixel l holders k e (can-pixel w layout m xv yv pixel can) in
        leaves-behind w m x.insns z.insns f a.after r r pixel a.line (λ q h. let d = below-apart r r q (inr (refl, is.1)) h in a.others q d.0 d.1.0 d.1.1) u;
  }

  pub pixel-both : (zero : Linear) (s t : ℕ) (c0 c1 c2 c3 c4 : List ℕ) → IsZero zero → StandsIn scope (r + 1) (indexes.Register t)
      → Makes c0 c1 1 r (λ f. (f s * pixel_bytes layout.pixels) % 2 ^ 32)
      → Makes c1 c2 3 (r + 1) (λ f. (f t * ((pixel_bytes layout.pixels * layout.width) % 2 ^ 32)) % 2 ^ 32) → Emits c2 c3 (Alu alus.Add r r (r + 1) ∷ [])
      → LoadsBehind c3 c4 scope layout zero zero r → Pixel c0 c4 (indexes.Register s) (indexes.Register t)
  pixel-both zero s t c0 c1 c2 c3 c4 nil stands x y o z = record {
    insns = x.insns ++ (y.insns ++ ((Alu alus.Add r r (r + 1) ∷ []) ++ z.insns));
    emits = emits_then x.emits (emits_then y.emits (emits_then o z.emits));
    short =
        let n = nil.few in
        let tail = short-then (Alu alus.Add r r (r + 1) ∷ []) z.insns 1 (8 + 4 * (length zero.terms + length zero.terms)) 9 (omega arith) z.short
        (omega (arith, n)) in
        let both = short-then y.insns ((Alu alus.Add r r (r + 1) ∷ []) ++ z.insns) 3 9 12 y.short tail (omega arith) in
        short-then x.insns (y.insns ++ ((Alu alus.Add r r (r + 1) ∷ []) ++ z.insns)) 1 12 13 x.short both (omega arith);
    does = λ w m values f xv yv pixel l holders knows ex ey lx ly can.
        let low = is.0 in
        let high = is.1 in
        let next = stands.0.1 in
        let source = stands.1.0 in
        let b = pixel_bytes layout.pixels in
        let row = (pixel_bytes layout.pixels * layout.width) % 2 ^ 32 in
        let tr = t-apart holders stands.1.1 in
        let r-next : r ≢ r + 1 = (λ e. omega (arith, e)) in
        let r13 : r ≢ scratch = (λ e. omega (arith, e, low)) in
        let r14 : r ≢ second_scratch = (λ e. omega (arith, e, low)) in
        let a = x.does w m f l (knows-zero w.hart scope values f knows) in
        let k = known-behind r (inl refl) high w.hart values f a.after holders a.others knows in
        let c = y.does w m a.after l (knows-zero w.hart scope values a.after k) in
        let k2 = known-behind (r + 1) (inr refl) next w.hart values a.after c.after holders c.others k in
        let vr = c.others r r-next r13 r14 ∙ a.value ∙ ap (λ n. (n * b) % 2 ^ 32) ex in
        let vt = c.value ∙ ap (λ n. (n * row) % 2 ^ 32) (a.others t tr source.1.0 source.1.1 ∙ ey) in
        let i = alu-sets w m l alus.Add c.after r r (r + 1) ((xv * b) % 2 ^ 32) ((yv * row) % 2 ^ 32) (omega (arith, low)) high high next vr vt in
        let k3 = known-behind r (inl refl) high w.hart values c.after i.after holders (λ q n1 n2 n3. i.others q n1) k2 in
        let e : (i.after r + address layout w.hart (linear_value values zero) (linear_value values zero)) % 2 ^ 32 ≡ address layout w.hart xv yv =
        ap (λ n. (n + address layout w.hart (linear_value values zero) (linear_value values zero)) % 2 ^ 32) i.value
        ∙ both-first layout w.hart xv yv can.low (linear_value values zero) (linear_value values zero) (nil.none values) (nil.none values) in
        let u = z.does w m values i.after (address layout w.hart xv yv) pixel l holders k3 e (can-pixel w layout m xv yv pixel can) in
        let first = leaves-behind w m (Alu alus.Add r r (r + 1) ∷ []) z.insns c.after i.after r r pixel i.line
        (λ q h. i.others q (below-apart r r q (inr (refl, high)) h).0) u in
        let second = leaves-behind w m y.insns ((Alu alus.Add r r (r + 1) ∷ []) ++ z.insns) a.after c.after r r pixel c.line
        (λ q h. let d = below-apart (r + 1) (r + 1) q (inr (refl, next)) (below-more r (r + 1) q (omega arith) h) in
        let h1 = h.1 in c.others q (λ g. omega (arith, g, h1, next)) d.1.0 d.1.1) first in
        leaves-behind w m x.insns (y.insns ++ ((Alu alus.Add r r (r + 1) ∷ []) ++ z.insns)) f a.after r r pixel a.line
        (λ q h. let d = below-apart r r q (inr (refl, high)) h in a.others q d.0 d.1.0 d.1.1) second;
  }
    where
      t-apart : AreHolders scope → IsOperand scope (r + 1) (r + 1) t → t ≢ r
      t-apart holders (inl e) g = omega (arith, e, g)
      t-apart holders (inr (inl e)) g = omega (arith, e, g)
      t-apart holders (inr (inr h)) g = working-free scope r holders (inr is) t h g

-- ---- as the emitter calls them

pub rows-made : (layout : BufferLayout) (bytes row r s : ℕ) (c0 c1 : List ℕ) → bytes ≡ pixel_bytes layout.pixels → row ≡ word.multiply bytes layout.width
    → Makes c0 c1 3 r (λ f. (f s * row) % 2 ^ 32) → Makes c0 c1 3 r (λ f. (f s * ((pixel_bytes layout.pixels * layout.width) % 2 ^ 32)) % 2 ^ 32)
unfolding word.multiply
rows-made layout bytes row r s c0 c1 eb er x =
    let e : row ≡ (pixel_bytes layout.pixels * layout.width) % 2 ^ 32 = er ∙ ap (λ b. (b * layout.width) % 2 ^ 32) eb in
    subst (λ k. Makes c0 c1 3 r (λ f. (f s * k) % 2 ^ 32)) e x

pub zero-sum : (new_sum : Linear) → ((values : Values) → linear_value values new_sum ≡ 0) → length new_sum.terms ≡ 0
    → IsZero new_sum
zero-sum new_sum none few = record { none = none; few = few }

pub zero-held : (scope : List Held) (new_sum : Linear) → length new_sum.terms ≡ 0
    → have_registers scope new_sum.terms ≡ true
zero-held scope new_sum few = by new_sum.terms few
  where
    by : (terms : List Term) → length terms ≡ 0 → have_registers scope terms ≡ true
    by [] e = refl
    by (first ∷ others) e = absurd (omega (arith, e))

-- an index's sum has registers where the index has
pub have-sum : (scope : List Held) (index : PointIndex) (new_sum : Linear) → index ≡ indexes.Sum new_sum → HaveIndex scope index → have_registers scope new_sum.terms ≡ true
have-sum scope index new_sum e have = subst (λ k. HaveIndex scope k) e have

-- a register's
pub stands-register : (scope : List Held) (r s : ℕ) (index : PointIndex) → index ≡ indexes.Register s → StandsIn scope r index
    → StandsIn scope r (indexes.Register s)
stands-register scope r s index e is = subst (λ k. StandsIn scope r k) e is

pub stack-place : (r : ℕ) → IsStack r → IsPlace r
stack-place r is =
    let low = is.0 in
    let high = is.1 in
    ((omega (arith, low), high), ((λ e. omega (arith, low, e)), (λ e. omega (arith, low, e))))

pub column-as : (scope : List Held) (buffer_layout layout : BufferLayout) (r : ℕ) (column x row : PointIndex) (c0 c1 : List ℕ) → layout ≡ buffer_layout → column ≡ x
    → MakesPixel c0 c1 scope layout x row r → MakesPixel c0 c1 scope buffer_layout column row r
column-as scope buffer_layout layout r column x row c0 c1 ep e z = subst
    (λ k. MakesPixel c0 c1 scope buffer_layout k row r) (sym e)
    (subst (λ p. MakesPixel c0 c1 scope p x row r) ep z)

pub rows-requires : (scope : List Held) (r t : ℕ) (row : PointIndex) → row ≡ indexes.Register t → IsStack r → StandsIn scope (r + 1) row
    → IsPlace (r + 1) × IsSource t
rows-requires scope r t row e is stands =
    let k = stands-register scope (r + 1) t row e stands in
    (stack-place (r + 1) k.0, k.1.0)

pub add-requires : (scope : List Held) (r t : ℕ) (row : PointIndex) → row ≡ indexes.Register t → IsStack r → StandsIn scope (r + 1) row
    → (r < 32) × (r < 32) × (r + 1 < 32)
add-requires scope r t row e is stands =
    let k = stands-register scope (r + 1) t row e stands in
    (is.1, is.1, k.0.1)
