-- What a task touches lies so that its code may touch it.
use Rattle.std.proofs.Common.{◌≡◌, ℕ, zero, suc, ◌+◌, ◌-◌, ◌*◌, ◌/◌, ◌%◌, ◌^◌, ◌<◌, ◌≤◌, List, Option, Some, None, true, false, Bool, refl, ap, ◌∙◌, sym, subst}
use Rattle.std.proofs.Common.{arith, inl, inr}
use Rattle.std.specs.Prelude.{◌⊎◌, ◌==◌, slice_get, if◌then◌else◌}
use Rattle.std.proofs.lemmas.Bool.{cases_Bool, cases_lt, cases_eq, ne_eqb}
use Rattle.std.proofs.lemmas.Bool.Decides.{nat_tests}
use Rattle.std.proofs.lemmas.Nat.{div-mul-add, mod-mul-add}
use Rattle.std.proofs.Math.Nat.{mul-le-mul_right}
use Rattle.memory.specs.Access.{most_bytes, Size, Word, Byte, touched}
use Rattle.hart_core.specs.Scalar.{one_access, load_size}
use Rattle.multi_hart.specs.Run.{Within}
use Rattle.halide_pipeline.specs.declared.expressions.Source.{Source}
use Rattle.halide_pipeline.specs.declared.expressions.Source.TheVariants as sources
use Rattle.halide_pipeline.specs.Pipelines.{Pipeline}
use Rattle.halide_pipeline.specs.Points.{Point}
use Rattle.schedule.specs.declared.schedules.Schedule.{Schedule}
use Rattle.multi_hart_laws.specs.Uses.{Use, Fixed, Owned, Private, Task, MayRead, MayWrite}
use Rattle.multi_hart_laws.specs.Alone.{World}
use Rattle.multi_hart_laws.specs.Paths.{Readable, MayBeWritten}
use Rattle.bounds.specs.declared.boxes.SourceBox.{SourceBox}
use Rattle.bounds.specs.Extents.{box_in, extent, points}
use Rattle.bounds.specs.Layout.{data_start, frame_bytes, laid_in, laid_out}
use Rattle.bounds_weights.specs.Weight.{has_frames, needs}
use Rattle.loop_ir.specs.Buffers.{Points}
use Rattle.bounds.specs.Parts.{Part, Sizes, Input as InputPart, Root, Copies, Frame, sizes_of}
use Rattle.bounds.specs.Finding.{frames_at}
use Rattle.bounds.proofs.Finding.{frames-found}
use Rattle.task_code_scalar.specs.declared.layouts.Pixels.{Pixels}
use Rattle.task_code_scalar.specs.declared.layouts.Pixels.TheVariants as pixels
use Rattle.task_code_scalar.specs.declared.layouts.BufferLayout.{BufferLayout}
use Rattle.task_code_scalar.specs.Code.{place_of, pixel_bytes, address, frames_of, frame_words}
use Rattle.task_code_scalar.specs.Evaluation.{load_op, word_start}
use Rattle.task_code_scalar.specs.Layout.{IsAt, MayStore, MayLoad, OwnsFrame, Laid}
use Rattle.task_code_scalar.proofs.FrameUses.{frames-lie}
use Rattle.vector_codegen_laws.specs.Uses.{Owners, greatest, use_of_owner, use_of, width_in, points_in, width_of, copy_bytes}
use Rattle.vector_codegen_laws.specs.Points.{RootPoint, PrivatePoint, InputPoint, part, address_at, IsWordOf}
use Rattle.vector_codegen_laws.specs.Settings.{OneOwner, places, size, uses, task_world, IsWritten, IsLoaded, Touches, TasksAreLaid}
use Rattle.vector_codegen_laws.proofs.Listing.{privates-four}
use Rattle.vector_codegen_laws.proofs.There.{within, privates-start, total-four, roots-are-there, copies-are-there, word-inputs-are-there}
use Rattle.vector_codegen_laws.proofs.There.{byte-inputs-are-there, byte-words-are-there, root-place, copies-place, input-place-is}

-- ---- owners

pub greatest-is : (count : ℕ) (test : ℕ → Bool) (n : ℕ) → n < count → test n ≡ true → ((m : ℕ) → m < count → test m ≡ true → m ≡ n)
    → greatest count test ≡ Some n
greatest-is zero test n l is one = absurd (omega (arith, l))
greatest-is (suc count) test n l is one = elim (cases_Bool (test count)) [
  | inl t ↦ rw t (ap Some (one count (omega arith) t))
  | inr f ↦
      let apart : n < count = lower f in
      rw f (greatest-is count test n apart is (λ m k e. one m (omega (arith, k)) e))
]
  where
    lower : test count ≡ false → n < count
    lower f = elim (cases_lt n count) [
      | inl b ↦ b
      | inr b ↦ let e : n ≡ count = omega (arith, l, b) in let c : true ≡ false = sym is ∙ ap test e ∙ f in absurd (cc c)
    ]

-- ---- points by their numbers

pub quarter : (k byte : ℕ) → byte < 4 → (4 * k + byte) / 4 ≡ k
quarter k byte l = omega (arith, l)

pub column-of : (w x y byte : ℕ) → x < w → byte < 4 → (4 * (y * w + x) + byte) / 4 % w ≡ x
column-of w x y byte l b = ap (λ n. n % w) (quarter (y * w + x) byte b) ∙ mod-mul-add y w x l

pub row-of : (w x y byte : ℕ) → x < w → byte < 4 → (4 * (y * w + x) + byte) / 4 / w ≡ y
row-of w x y byte l b = ap (λ n. n / w) (quarter (y * w + x) byte b) ∙ div-mul-add y w x l

record SamePoint (x y x' y' : ℕ) : Type 0 where
  column : x' ≡ x
  row : y' ≡ y

same-point : (w w' x y x' y' : ℕ) → w ≡ w' → x < w → x' < w' → y * w + x ≡ y' * w' + x' → SamePoint x y x' y'
same-point w w' x y x' y' e l m same = record {
  column = sym (mod-mul-add y' w' x' m) ∙ (ap (λ n. n % w') (sym same) ∙ (ap (λ v. (y * w + x) % v) (sym e) ∙ mod-mul-add y w x l));
  row = sym (div-mul-add y' w' x' m) ∙ (ap (λ n. n / w') (sym same) ∙ (ap (λ v. (y * w + x) / v) (sym e) ∙ div-mul-add y w x l));
}

-- a point's coordinates are no greater than its address
record Below (bound x y : ℕ) : Type 0 where
  column : x ≤ bound
  row : y ≤ bound

coordinates : (bytes start step w x y : ℕ) → 1 ≤ bytes → x < w → Below (start + step + bytes * (y * w + x)) x y
coordinates bytes start step w x y b l =
    let wide : y * 1 ≤ y * w = below y in
    let one : y * 1 ≡ y = omega arith in
    let more : 1 * (y * w + x) ≤ bytes * (y * w + x) = mul-le-mul_right {m = 1} {n = bytes} (y * w + x) b in
    let all : 1 * (y * w + x) ≡ y * w + x = omega arith in
    record { column = omega (arith, more, all); row = omega (arith, more, all, wide, one) }
  where
    below : (n : ℕ) → n * 1 ≤ n * w
    below n =
        let a : 1 * n ≤ w * n = mul-le-mul_right {m = 1} {n = w} n (omega (arith, l)) in
        let b : 1 * n ≡ n * 1 = omega arith in
        let c : w * n ≡ n * w = omega arith in
        omega (arith, a, b, c)

-- ---- what bytes of points are for

module _ (boxes : List (Option SourceBox)) (number : ℕ) (owners : Owners) where
  abbrev pub root_use : ℕ → ℕ → ℕ → Use
  root_use func x y = if func == owners.func then use_of_owner (greatest owners.tasks (λ task. owners.owns task x y)) else Fixed

  pub root-use : (func offset x y w : ℕ) → width_of boxes func ≡ w → offset / 4 % w ≡ x → offset / 4 / w ≡ y → use_of boxes number owners (Root func offset)
      ≡ root_use func x y
  root-use func offset x y w ew ex ey =
      ap (λ v. root_use func (offset / 4 % v) (offset / 4 / v)) ew ∙ (ap (λ c. root_use func c (offset / 4 / w)) ex ∙ ap (λ r. root_use func x r) ey)

  pub own-use : (task func x y : ℕ) → OneOwner owners → task < owners.tasks → func ≡ owners.func → owners.owns task x y ≡ true → root_use func x y ≡ Owned task
  own-use task func x y one l f e =
      let t : (func == owners.func) ≡ true = grind (arith, nat_tests) in
      rw t (ap use_of_owner (greatest-is owners.tasks (λ n. owners.owns n x y) task l e (λ m k i. one x y m task k l i e)))

  pub other-use : (func x y : ℕ) → (func ≡ owners.func → ⊥) → root_use func x y ≡ Fixed
  other-use func x y d = ap (λ t. if t then use_of_owner (greatest owners.tasks (λ task. owners.owns task x y)) else Fixed) (ne_eqb func owners.func d)

  copy-use : (func n hart rest : ℕ) → copy_bytes boxes func ≡ 4 * n → rest < 4 * n → use_of boxes number owners (Copies func (4 * n * hart + rest))
      ≡ Private hart
  copy-use func n hart rest e l =
      let swapped : 4 * n * hart + rest ≡ hart * (4 * n) + rest = omega arith in
      ap (λ b. Private ((4 * n * hart + rest) / b)) e ∙ ap Private (ap (λ o. o / (4 * n)) swapped ∙ div-mul-add hart (4 * n) rest l)

-- ---- bytes of a word

four-within : (P : ℕ → Type 0) (a : ℕ) → ((byte : ℕ) → byte < 4 → P (a + byte)) → Within P (touched (one_access Word a))
four-within P a f =
    let e : a + 0 ≡ a = omega arith in
    (subst P e (f 0 (omega arith)), (f 1 (omega arith), (f 2 (omega arith), (f 3 (omega arith), tt))))

record Met (P Q : ℕ → Part) (bytes : ℕ) : Type 0 where
  i : ℕ
  j : ℕ
  i_below : i < 4
  j_below : j < bytes
  same : P i ≡ Q j

met : (part_at : ℕ → Part) (P Q : ℕ → Part) (a b bytes : ℕ) → ((i : ℕ) → i < 4 → part_at (a + i) ≡ P i) → ((j : ℕ) → j < bytes → part_at (b + j) ≡ Q j)
    → 0 < bytes → b < a + 4 → a < b + bytes → Met P Q bytes
met part_at P Q a b bytes f g some l m = elim (cases_lt a b) [
  | inl c ↦
      let i : b - a < 4 = omega (arith, l, c) in
      let e : a + (b - a) ≡ b + 0 = omega (arith, c) in
      record { i = b - a; j = 0; i_below = i; j_below = some; same = sym (f (b - a) i) ∙ (ap part_at e ∙ g 0 some) }
  | inr c ↦
      let j : a - b < bytes = omega (arith, m, c) in
      let e : a + 0 ≡ b + (a - b) = omega (arith, c) in
      record { i = 0; j = a - b; i_below = omega arith; j_below = j; same = sym (f 0 (omega arith)) ∙ (ap part_at e ∙ g (a - b) j) }
]

abbrev place_in : Part → ℕ
place_in (Root place offset) = place
place_in (Copies place offset) = place
place_in _ = 0

abbrev offset_in : Part → ℕ
offset_in (Root place offset) = offset
offset_in (Copies place offset) = offset
offset_in _ = 0

some_or : SourceBox → Option (Option SourceBox) → SourceBox
some_or other None = other
some_or other (Some None) = other
some_or other (Some (Some own)) = own

box-of : (own own' : SourceBox) → Some (Some own) ≡ Some (Some own') → own ≡ own'
unfolding some_or
box-of own own' q = ap (some_or own) q

same-box : (boxes : List (Option SourceBox)) (func func' : ℕ) (own own' : SourceBox) → func ≡ func' → slice_get boxes func ≡ Some (Some own)
    → slice_get boxes func' ≡ Some (Some own') → own ≡ own'
same-box boxes func func' own own' e f g = box-of own own' (sym f ∙ (ap (λ n. slice_get boxes n) e ∙ g))

-- ---- all fields

module _ (pipeline : Pipeline) (schedule : Schedule) (boxes : List (Option SourceBox)) (number : ℕ) (owners : Owners) (text : List ℕ) (task hart : ℕ)
    (few : hart < 8) (below : task < owners.tasks) (one : OneOwner owners) (fits : size pipeline schedule boxes ≤ most_bytes) where
  abbrev world : World
  world = task_world pipeline schedule boxes number owners text task hart

  abbrev at : Source → ℕ → ℕ → ℕ
  at source x y = address_at pipeline schedule boxes hart source x y

  abbrev uses_of : ℕ → Use
  uses_of a = uses pipeline schedule boxes number owners a

  abbrev part_of : ℕ → Part
  part_of a = part pipeline schedule boxes a

  -- ---- the parts of points

  abbrev root_part : (func x y : ℕ) → RootPoint pipeline schedule boxes func x y → ℕ → Part
  root_part func x y p byte = Root func (4 * (y * extent p.own.x + x) + byte)

  abbrev copy_part : (func x y : ℕ) → PrivatePoint pipeline schedule boxes func x y → ℕ → Part
  copy_part func x y p byte = Copies func (4 * points p.own * hart + (4 * (y * extent p.own.x + x) + byte))

  root-there : (func x y : ℕ) → (p : RootPoint pipeline schedule boxes func x y)
      → IsWordOf pipeline schedule boxes (at (sources.Func func) x y) (root_part func x y p)
  root-there func x y p = roots-are-there pipeline schedule boxes hart func x y p

  copy-there : (func x y : ℕ) → (p : PrivatePoint pipeline schedule boxes func x y)
      → IsWordOf pipeline schedule boxes (at (sources.Func func) x y) (copy_part func x y p)
  copy-there func x y p = copies-are-there pipeline schedule boxes hart func x y few p

  -- ---- what they are for

  root-byte : (func x y : ℕ) → (p : RootPoint pipeline schedule boxes func x y) → (byte : ℕ) → byte < 4 → uses_of (at (sources.Func func) x y + byte)
      ≡ root_use boxes number owners func x y
  root-byte func x y p byte l =
      ap (use_of boxes number owners) ((root-there func x y p).parts byte l)
      ∙ root-use boxes number owners func (4 * (y * extent p.own.x + x) + byte) x y (extent p.own.x) (ap (λ b. width_in (box_in b)) p.box_is)
      (column-of (extent p.own.x) x y byte p.column l)
      (row-of (extent p.own.x) x y byte p.column l)

  pub copy-byte : (func x y : ℕ) → (p : PrivatePoint pipeline schedule boxes func x y) → (byte : ℕ) → byte < 4 → uses_of (at (sources.Func func) x y + byte)
      ≡ Private hart
  copy-byte func x y p byte l =
      let k = y * extent p.own.x + x in
      let n = points p.own in
      let low : k < n = within (extent p.own.x) (extent p.own.y) x y p.column p.row in
      ap (use_of boxes number owners) ((copy-there func x y p).parts byte l)
      ∙ copy-use boxes number owners func n hart (4 * k + byte) (ap (λ b. 4 * points_in (box_in b)) p.box_is) (omega (arith, low, l))

  -- ---- words

  writable : (a : ℕ) (part_at : ℕ → Part) (purpose : Use) → IsWordOf pipeline schedule boxes a part_at → ((byte : ℕ) → byte < 4 → uses_of (a + byte) ≡ purpose)
      → MayWrite (Task task) hart purpose → MayBeWritten world Word a
  writable a part_at purpose w u may = record {
    aligned = w.aligned;
    above = w.above;
    below = w.below;
    may = four-within (λ b. MayWrite (Task task) hart (uses_of b)) a (λ byte l. subst (λ v. MayWrite (Task task) hart v) (sym (u byte l)) may);
  }

  readable : (a : ℕ) (part_at : ℕ → Part) (purpose : Use) → IsWordOf pipeline schedule boxes a part_at → ((byte : ℕ) → byte < 4 → uses_of (a + byte) ≡ purpose)
      → MayRead (Task task) hart purpose → Readable world Word a
  readable a part_at purpose w u may = record {
    aligned = w.aligned;
    above = w.above;
    below = w.below;
    may = four-within (λ b. MayRead (Task task) hart (uses_of b)) a (λ byte l. subst (λ v. MayRead (Task task) hart v) (sym (u byte l)) may);
  }

  lower : (a : ℕ) → a + 1 ≤ data_start + size pipeline schedule boxes → a < 2 ^ 32
  lower a l = omega (arith, l, fits)

  root-lower : (func x y : ℕ) → RootPoint pipeline schedule boxes func x y → at (sources.Func func) x y < 2 ^ 32
  root-lower func x y p = let b = (root-there func x y p).below in lower (at (sources.Func func) x y) (omega (arith, b))

  copy-lower : (func x y : ℕ) → PrivatePoint pipeline schedule boxes func x y → at (sources.Func func) x y < 2 ^ 32
  copy-lower func x y p = let b = (copy-there func x y p).below in lower (at (sources.Func func) x y) (omega (arith, b))

  -- ---- stores

  stored : (func x y : ℕ) → IsWritten pipeline schedule boxes number owners task func x y → MayStore world (places pipeline schedule boxes) func x y
  stored func x y (inl r) = record {
    are_words = ap (λ (z : BufferLayout). z.pixels) (root-place pipeline schedule boxes func x y r.0);
    low = root-lower func x y r.0;
    may = writable (at (sources.Func func) x y) (root_part func x y r.0) (Owned task) (root-there func x y r.0)
        (λ byte l. root-byte func x y r.0 byte l ∙ own-use boxes number owners task func x y one below r.1.0 r.1.1) refl;
  }
  stored func x y (inr p) = record {
    are_words = ap (λ (z : BufferLayout). z.pixels) (copies-place pipeline schedule boxes func x y p);
    low = copy-lower func x y p;
    may = writable (at (sources.Func func) x y) (copy_part func x y p) (Private hart) (copy-there func x y p) (copy-byte func x y p) refl;
  }

  -- ---- loads

  -- the coordinates of a point in front of the end of the data
  near : (place : BufferLayout) (x y : ℕ) → x < place.width → address place hart x y < 2 ^ 32 → Below (2 ^ 32 - 1) x y
  near place x y l m = by_pixels place.pixels m
    where
      by_pixels : (p : Pixels) → place.start + place.distance * hart + pixel_bytes p * (y * place.width + x) < 2 ^ 32 → Below (2 ^ 32 - 1) x y
      by_pixels pixels.Words k =
          let c = coordinates 4 place.start (place.distance * hart) place.width x y (omega arith) l in
          let c0 = c.column in
          let c1 = c.row in
          record { column = omega (arith, c0, k); row = omega (arith, c1, k) }
      by_pixels pixels.Bytes k =
          let c = coordinates 1 place.start (place.distance * hart) place.width x y (omega arith) l in
          let c0 = c.column in
          let c1 = c.row in
          record { column = omega (arith, c0, k); row = omega (arith, c1, k) }

  loadable : (source : Source) (x y w : ℕ) (s : Size) → (place_of (places pipeline schedule boxes) source).width ≡ w → x < w
      → load_size (load_op (place_of (places pipeline schedule boxes) source).pixels) ≡ s
      → at source x y < 2 ^ 32 → Readable world s (at source x y) → Readable world Word (word_start (at source x y))
      → MayLoad world (places pipeline schedule boxes) (record { source = source; x = x; y = y })
  loadable source x y w s wide l size_is low may whole =
      let c = near (place_of (places pipeline schedule boxes) source) x y (omega (arith, wide, l)) low in
      let c0 = c.column in
      let c1 = c.row in
      record {
        column = omega (arith, c0);
        row = omega (arith, c1);
        low = low;
        may = subst (λ z. Readable world z (at source x y)) (sym size_is) may;
        whole = whole;
      }

  -- a word holds itself
  itself : (a : ℕ) → Readable world Word a → Readable world Word (word_start a)
  itself a may = let o = may.aligned in let e : a ≡ a / 4 * 4 = omega (arith, o) in subst (Readable world Word) e may

  root-loaded : (func x y : ℕ) → RootPoint pipeline schedule boxes func x y → (func ≡ owners.func → owners.owns task x y ≡ true)
      → Readable world Word (at (sources.Func func) x y)
  root-loaded func x y r own = elim (cases_eq func owners.func) [
    | inl e ↦ readable (at (sources.Func func) x y) (root_part func x y r) (Owned task) (root-there func x y r) (λ byte l. root-byte func x y r byte l
        ∙ own-use boxes number owners task func x y one below e (own e)) refl
    | inr d ↦ readable (at (sources.Func func) x y) (root_part func x y r) Fixed (root-there func x y r) (λ byte l. root-byte func x y r byte l
        ∙ other-use boxes number owners func x y d) tt
  ]

  input-loaded : (place x y : ℕ) → (p : InputPoint pipeline schedule boxes place x y) → (is_bytes : Bool) → p.input.is_bytes ≡ is_bytes
      → MayLoad world (places pipeline schedule boxes) (record { source = sources.Input place; x = x; y = y })
  input-loaded place x y p false e =
      let there = word-inputs-are-there pipeline schedule boxes hart place x y p e in
      let is = input-place-is pipeline schedule boxes place x y p false e in
      let b = there.below in
      let may = readable (at (sources.Input place) x y) (λ byte. InputPart place (4 * (y * p.input.width + x) + byte)) Fixed there
      (λ byte l. ap (use_of boxes number owners) (there.parts byte l)) tt in
      loadable (sources.Input place) x y p.input.width Word (ap (λ (z : BufferLayout). z.width) is) p.column (ap (λ (z : BufferLayout). load_size (load_op z.pixels)) is)
      (lower (at (sources.Input place) x y) (omega (arith, b))) may (itself (at (sources.Input place) x y) may)
  input-loaded place x y p true e =
      let there = byte-inputs-are-there pipeline schedule boxes hart place x y p e in
      let is = input-place-is pipeline schedule boxes place x y p true e in
      let b = there.below in
      loadable (sources.Input place) x y p.input.width Byte (ap (λ (z : BufferLayout). z.width) is) p.column (ap (λ (z : BufferLayout). load_size (load_op z.pixels)) is)
      (lower (at (sources.Input place) x y) b)
      (record {
        aligned = omega arith;
        above = there.above;
        below = there.below;
        may = (subst (λ v. MayRead (Task task) hart v) (sym (ap (use_of boxes number owners) there.is_part)) tt, tt);
      })
      (let held = byte-words-are-there pipeline schedule boxes hart place x y p e in
      readable (word_start (at (sources.Input place) x y)) (λ byte. InputPart place ((y * p.input.width + x) / 4 * 4 + byte)) Fixed held
      (λ byte l. ap (use_of boxes number owners) (held.parts byte l)) tt)

  pub loaded_at : (source : Source) (x y : ℕ) → IsLoaded pipeline schedule boxes number owners task source x y
      → MayLoad world (places pipeline schedule boxes) (record { source = source; x = x; y = y })
  loaded_at (sources.Input place) x y p = input-loaded place x y p p.input.is_bytes refl
  loaded_at (sources.Func func) x y (inl r) =
      let is = root-place pipeline schedule boxes func x y r.0 in
      loadable (sources.Func func) x y (extent r.0.own.x) Word (ap (λ (z : BufferLayout). z.width) is) r.0.column (ap (λ (z : BufferLayout). load_size (load_op z.pixels)) is)
      (root-lower func x y r.0) (root-loaded func x y r.0 r.1)
      (itself (at (sources.Func func) x y) (root-loaded func x y r.0 r.1))
  loaded_at (sources.Func func) x y (inr p) =
      let is = copies-place pipeline schedule boxes func x y p in
      let may = readable (at (sources.Func func) x y) (copy_part func x y p) (Private hart) (copy-there func x y p) (copy-byte func x y p) refl in
      loadable (sources.Func func) x y (extent p.own.x) Word (ap (λ (z : BufferLayout). z.width) is) p.column (ap (λ (z : BufferLayout). load_size (load_op z.pixels)) is)
      (copy-lower func x y p) may
      (itself (at (sources.Func func) x y) may)

  -- ---- bytes that meet

  abbrev bytes_at : Source → ℕ
  bytes_at source = pixel_bytes (place_of (places pipeline schedule boxes) source).pixels

  -- one point is written and one is loaded: a word of these parts, and a number of those
  abbrev Meet : (ℕ → Part) → ℕ → ℕ → ℕ → Source → ℕ → ℕ → Type 0
  Meet P func x y source x' y' = at source x' y' < at (sources.Func func) x y + 4 → at (sources.Func func) x y < at source x' y' + bytes_at source
      → IsAt (record { source = source; x = x'; y = y' }) func x y

  no-input : (func x y place x' y' : ℕ) (P : ℕ → Part) → ((i : ℕ) → i < 4 → part_of (at (sources.Func func) x y + i) ≡ P i)
      → ((i offset : ℕ) → P i ≡ InputPart place offset → ⊥)
      → (p : InputPoint pipeline schedule boxes place x' y') → (is_bytes : Bool) → p.input.is_bytes ≡ is_bytes → Meet P func x y (sources.Input place) x' y'
  no-input func x y place x' y' P f none p false e l m =
      let there = word-inputs-are-there pipeline schedule boxes hart place x' y' p e in
      let is = input-place-is pipeline schedule boxes place x' y' p false e in
      let four : bytes_at (sources.Input place) ≡ 4 = ap (λ (z : BufferLayout). pixel_bytes z.pixels) is in
      let k = met part_of P (λ j. InputPart place (4 * (y' * p.input.width + x') + j)) (at (sources.Func func) x y) (at (sources.Input place) x' y') 4 f
      there.parts (omega arith) l (omega (arith, m, four)) in
      absurd (none k.i (4 * (y' * p.input.width + x') + k.j) k.same)
  no-input func x y place x' y' P f none p true e l m =
      let there = byte-inputs-are-there pipeline schedule boxes hart place x' y' p e in
      let is = input-place-is pipeline schedule boxes place x' y' p true e in
      let single : bytes_at (sources.Input place) ≡ 1 = ap (λ (z : BufferLayout). pixel_bytes z.pixels) is in
      let k = met part_of P (λ j. InputPart place (y' * p.input.width + x')) (at (sources.Func func) x y) (at (sources.Input place) x' y') 1 f
      (λ j s. let z : at (sources.Input place) x' y' + j ≡ at (sources.Input place) x' y' = omega (arith, s) in ap part_of z
      ∙ there.is_part) (omega arith) l (omega (arith, m, single)) in
      absurd (none k.i (y' * p.input.width + x') k.same)

  root-four : (func x y : ℕ) → RootPoint pipeline schedule boxes func x y → bytes_at (sources.Func func) ≡ 4
  root-four func x y p = ap (λ (z : BufferLayout). pixel_bytes z.pixels) (root-place pipeline schedule boxes func x y p)

  copy-four : (func x y : ℕ) → PrivatePoint pipeline schedule boxes func x y → bytes_at (sources.Func func) ≡ 4
  copy-four func x y p = ap (λ (z : BufferLayout). pixel_bytes z.pixels) (copies-place pipeline schedule boxes func x y p)

  meet-funcs : (func x y func' x' y' : ℕ) (P Q : ℕ → Part) → ((i : ℕ) → i < 4 → part_of (at (sources.Func func) x y + i) ≡ P i)
      → ((i : ℕ) → i < 4 → part_of (at (sources.Func func') x' y' + i) ≡ Q i)
      → bytes_at (sources.Func func') ≡ 4 → at (sources.Func func') x' y' < at (sources.Func func) x y + 4
      → at (sources.Func func) x y < at (sources.Func func') x' y' + bytes_at (sources.Func func') → Met P Q 4
  meet-funcs func x y func' x' y' P Q f g four l m = met part_of P Q (at (sources.Func func) x y) (at (sources.Func func') x' y') 4 f g (omega arith) l
      (omega (arith, m, four))

  is-at : (func x y func' x' y' : ℕ) → func ≡ func' → SamePoint x y x' y' → IsAt (record { source = sources.Func func'; x = x'; y = y' }) func x y
  is-at func x y func' x' y' e s = record { source_is = ap sources.Func (sym e); column_is = s.column; row_is = s.row }

  root-root : (func x y func' x' y' : ℕ) → (p : RootPoint pipeline schedule boxes func x y) → (q : RootPoint pipeline schedule boxes func' x' y')
      → Meet (root_part func x y p) func x y (sources.Func func') x' y'
  root-root func x y func' x' y' p q l m =
      let k = meet-funcs func x y func' x' y' (root_part func x y p) (root_part func' x' y' q) (root-there func x y p).parts (root-there func' x' y' q).parts
      (root-four func' x' y' q) l m in
      let f : func ≡ func' = ap place_in k.same in
      let o : 4 * (y * extent p.own.x + x) + k.i ≡ 4 * (y' * extent q.own.x + x') + k.j = ap offset_in k.same in
      let i = k.i_below in
      let j = k.j_below in
      let n : y * extent p.own.x + x ≡ y' * extent q.own.x + x' = omega (arith, o, i, j) in
      let b = same-box boxes func func' p.own q.own f p.box_is q.box_is in
      is-at func x y func' x' y' f (same-point (extent p.own.x) (extent q.own.x) x y x' y' (ap (λ (z : SourceBox). extent z.x) b) p.column q.column n)

  copy-copy : (func x y func' x' y' : ℕ) → (p : PrivatePoint pipeline schedule boxes func x y) → (q : PrivatePoint pipeline schedule boxes func' x' y')
      → Meet (copy_part func x y p) func x y (sources.Func func') x' y'
  copy-copy func x y func' x' y' p q l m =
      let k = meet-funcs func x y func' x' y' (copy_part func x y p) (copy_part func' x' y' q) (copy-there func x y p).parts (copy-there func' x' y' q).parts
      (copy-four func' x' y' q) l m in
      let f : func ≡ func' = ap place_in k.same in
      let o : 4 * points p.own * hart + (4 * (y * extent p.own.x + x) + k.i) ≡ 4 * points q.own * hart + (4 * (y' * extent q.own.x + x') + k.j) =
      ap offset_in k.same in
      let b = same-box boxes func func' p.own q.own f p.box_is q.box_is in
      let front : 4 * points p.own * hart ≡ 4 * points q.own * hart = ap (λ (z : SourceBox). 4 * points z * hart) b in
      let i = k.i_below in
      let j = k.j_below in
      let n : y * extent p.own.x + x ≡ y' * extent q.own.x + x' = numbers (4 * points p.own * hart) (4 * points q.own * hart) (y * extent p.own.x + x)
      (y' * extent q.own.x + x') k.i k.j front o i j in
      is-at func x y func' x' y' f (same-point (extent p.own.x) (extent q.own.x) x y x' y' (ap (λ (z : SourceBox). extent z.x) b) p.column q.column n)
    where
      numbers : (a b m n i j : ℕ) → a ≡ b → a + (4 * m + i) ≡ b + (4 * n + j) → i < 4 → j < 4 → m ≡ n
      numbers a b m n i j e o l m' = omega (arith, e, o, l, m')

  apart_at : (func x y : ℕ) (source : Source) (x' y' : ℕ) → IsWritten pipeline schedule boxes number owners task func x y
      → IsLoaded pipeline schedule boxes number owners task source x' y'
      → at source x' y' < at (sources.Func func) x y + 4 → at (sources.Func func) x y < at source x' y' + bytes_at source
      → IsAt (record { source = source; x = x'; y = y' }) func x y
  apart_at func x y (sources.Input place) x' y' (inl r) p l m =
      no-input func x y place x' y' (root_part func x y r.0) (root-there func x y r.0).parts (λ i offset e. cc e) p p.input.is_bytes refl l m
  apart_at func x y (sources.Input place) x' y' (inr c) p l m =
      no-input func x y place x' y' (copy_part func x y c) (copy-there func x y c).parts (λ i offset e. cc e) p p.input.is_bytes refl l m
  apart_at func x y (sources.Func func') x' y' (inl r) (inl q) l m = root-root func x y func' x' y' r.0 q.0 l m
  apart_at func x y (sources.Func func') x' y' (inl r) (inr c) l m =
      let k = meet-funcs func x y func' x' y' (root_part func x y r.0) (copy_part func' x' y' c) (root-there func x y r.0).parts
      (copy-there func' x' y' c).parts (copy-four func' x' y' c) l m in
      let e = k.same in
      absurd (cc e)
  apart_at func x y (sources.Func func') x' y' (inr c) (inl q) l m =
      let k = meet-funcs func x y func' x' y' (copy_part func x y c) (root_part func' x' y' q.0) (copy-there func x y c).parts
      (root-there func' x' y' q.0).parts (root-four func' x' y' q.0) l m in
      let e = k.same in
      absurd (cc e)
  apart_at func x y (sources.Func func') x' y' (inr c) (inr d) l m = copy-copy func x y func' x' y' c d l m

  -- ---- the hart's frame

  beside : (a bytes start : ℕ) (P : ℕ → Part) → ((j : ℕ) → j < bytes → part_of (a + j) ≡ P j) → ((j owner : ℕ) → P j ≡ Frame owner → ⊥) → 0 < bytes
      → ((n : ℕ) → n < 4096 → part_of (start + n) ≡ Frame hart) → (a + bytes ≤ start) ⊎ (start + 4096 ≤ a)
  beside a bytes start P f none some g = elim (cases_lt start (a + bytes)) [
    | inr b ↦ inl b
    | inl b ↦ elim (cases_lt a (start + 4096)) [
      | inr d ↦ inr d
      | inl d ↦ elim (cases_lt a start) [
        | inl l ↦
            let j : start - a < bytes = omega (arith, l, b) in
            let e : a + (start - a) ≡ start + 0 = omega (arith, l) in
            absurd (none (start - a) hart (sym (f (start - a) j) ∙ (ap part_of e ∙ g 0 (omega arith))))
        | inr l ↦
            let n : a - start < 4096 = omega (arith, l, d) in
            let e : a + 0 ≡ start + (a - start) = omega (arith, l) in
            absurd (none 0 hart (sym (f 0 some) ∙ (ap part_of e ∙ g (a - start) n)))
      ]
    ]
  ]

  module _ (start : ℕ) (g : (n : ℕ) → n < 4096 → part_of (start + n) ≡ Frame hart) where
    beside-input : (place x y : ℕ) → (p : InputPoint pipeline schedule boxes place x y) → (is_bytes : Bool) → p.input.is_bytes ≡ is_bytes
        → (at (sources.Input place) x y + bytes_at (sources.Input place) ≤ start) ⊎ (start + 4096 ≤ at (sources.Input place) x y)
    beside-input place x y p false e =
        let there = word-inputs-are-there pipeline schedule boxes hart place x y p e in
        let four : bytes_at (sources.Input place) ≡ 4 = ap (λ (z : BufferLayout). pixel_bytes z.pixels) (input-place-is pipeline schedule boxes place x y p false e) in
        subst (λ n. (at (sources.Input place) x y + n ≤ start) ⊎ (start + 4096 ≤ at (sources.Input place) x y)) (sym four)
        (beside (at (sources.Input place) x y) 4 start (λ j. InputPart place (4 * (y * p.input.width + x) + j)) there.parts (λ j owner k. cc k) (omega arith) g)
    beside-input place x y p true e =
        let there = byte-inputs-are-there pipeline schedule boxes hart place x y p e in
        let single : bytes_at (sources.Input place) ≡ 1 = ap (λ (z : BufferLayout). pixel_bytes z.pixels) (input-place-is pipeline schedule boxes place x y p true e)
        in
        subst (λ n. (at (sources.Input place) x y + n ≤ start) ⊎ (start + 4096 ≤ at (sources.Input place) x y)) (sym single)
        (beside (at (sources.Input place) x y) 1 start (λ j. InputPart place (y * p.input.width + x))
        (λ j s. let z : at (sources.Input place) x y + j ≡ at (sources.Input place) x y = omega (arith, s) in ap part_of z ∙ there.is_part) (λ j owner k. cc k)
        (omega arith) g)

    beside-word : (func x y : ℕ) (P : ℕ → Part) → bytes_at (sources.Func func) ≡ 4 → ((j : ℕ) → j < 4 → part_of (at (sources.Func func) x y + j) ≡ P j)
        → ((j owner : ℕ) → P j ≡ Frame owner → ⊥)
        → (at (sources.Func func) x y + bytes_at (sources.Func func) ≤ start) ⊎ (start + 4096 ≤ at (sources.Func func) x y)
    beside-word func x y P four f none =
        subst (λ n. (at (sources.Func func) x y + n ≤ start) ⊎ (start + 4096 ≤ at (sources.Func func) x y)) (sym four) (beside (at (sources.Func func) x y) 4
        start P f none (omega arith) g)

    beside-point : (source : Source) (x y : ℕ) → IsLoaded pipeline schedule boxes number owners task source x y → (at source x y + bytes_at source ≤ start)
        ⊎ (start + 4096 ≤ at source x y)
    beside-point (sources.Input place) x y p = beside-input place x y p p.input.is_bytes refl
    beside-point (sources.Func func) x y (inl r) = beside-word func x y (root_part func x y r.0) (root-four func x y r.0) (root-there func x y r.0).parts
        (λ j owner k. cc k)
    beside-point (sources.Func func) x y (inr c) = beside-word func x y (copy_part func x y c) (copy-four func x y c) (copy-there func x y c).parts
        (λ j owner k. cc k)

  abbrev own_sizes : Sizes
  own_sizes = sizes_of pipeline schedule boxes

  abbrev own_start : ℕ
  own_start = frames_at own_sizes + 4096 * hart

  frame-part : (n : ℕ) → n < 4096 → part_of (own_start + n) ≡ Frame hart
  frame-part n l =
      let e : frames_at own_sizes + 4096 * hart + n ≡ frames_at own_sizes + (4096 * hart + n) = omega arith in
      let d : (4096 * hart + n) / 4096 ≡ hart = omega (arith, l) in
      ap part_of e ∙ (frames-found own_sizes (4096 * hart + n) ∙ ap Frame d)

  frames-four : frames_at own_sizes % 4 ≡ 0
  frames-four =
      let a = privates-start pipeline schedule boxes in
      let b = total-four own_sizes.privates (privates-four schedule.standings boxes) in
      omega (arith, a, b)

  frames-are : (laid_out pipeline schedule boxes).frames ≡ frames_at own_sizes
  unfolding laid_in
  frames-are = refl

  frames-end : (laid_out pipeline schedule boxes).has_frames ≡ true → frames_at own_sizes + 32768 ≤ data_start + size pipeline schedule boxes
  unfolding laid_in
  frames-end e = let k : frame_bytes (has_frames (needs pipeline schedule)) ≡ 32768 = ap frame_bytes e in omega (arith, k)

  owned-frame : (loaded : Point → Bool) → ((point : Point) → loaded point ≡ true → IsLoaded pipeline schedule boxes number owners task point.source point.x
      point.y)
      → (has : Bool) → (laid_out pipeline schedule boxes).has_frames ≡ has → 0 < frame_words (places pipeline schedule boxes).frames
      → OwnsFrame world (places pipeline schedule boxes) loaded
  owned-frame loaded may false e some =
      let f : frame_words (places pipeline schedule boxes).frames ≡ 0 = ap (λ b. frame_words (if b then Some (laid_out pipeline schedule boxes).frames
      else None)) e in
      absurd (omega (arith, some, f))
  owned-frame loaded may true e some =
      let f : frames_of (places pipeline schedule boxes).frames ≡ frames_at own_sizes =
      ap (λ b. frames_of (if b then Some (laid_out pipeline schedule boxes).frames else None)) e ∙ frames-are in
      let four = frames-four in
      let ends = frames-end e in
      let begin : data_start ≤ frames_at own_sizes = omega arith in
      record {
        task = task;
        job_is = refl;
        aligned = omega (arith, f, four);
        above = omega (arith, f, begin);
        below = omega (arith, f, ends, few);
        low = omega (arith, fits);
        uses = λ byte l m.
            let n : byte - own_start < 4096 = omega (arith, l, m, f) in
            let z : byte ≡ own_start + (byte - own_start) = omega (arith, l, f) in
            ap uses_of z ∙ ap (use_of boxes number owners) (frame-part (byte - own_start) n);
        apart = λ point can.
            subst (λ s. (at point.source point.x point.y + bytes_at point.source ≤ s + 4096 * hart)
            ⊎ (s + 4096 * hart + 4096 ≤ at point.source point.x point.y)) (sym f)
            (beside-point own_start frame-part point.source point.x point.y (may point can));
      }

  all_laid : (written : Points) (loaded : Point → Bool) → Touches pipeline schedule boxes number owners task written loaded
      → Laid world (places pipeline schedule boxes) written loaded
  all_laid written loaded touches = record {
    stores = λ func x y e. stored func x y (touches.writes func x y e);
    loads = λ point e. loaded_at point.source point.x point.y (touches.loads point e);
    apart = λ func x y point e f l m. apart_at func x y point.source point.x point.y (touches.writes func x y e) (touches.loads point f) l m;
    frame = frames-lie world (places pipeline schedule boxes) loaded (owned-frame loaded touches.loads (laid_out pipeline schedule boxes).has_frames refl);
  }

pub tasks-are-laid : (pipeline : Pipeline) (schedule : Schedule) (boxes : List (Option SourceBox)) (number : ℕ) (owners : Owners)
    → TasksAreLaid pipeline schedule boxes number owners
tasks-are-laid pipeline schedule boxes number owners text task hart few below one fits written loaded touches =
    all_laid pipeline schedule boxes number owners text task hart few below one fits written loaded touches
