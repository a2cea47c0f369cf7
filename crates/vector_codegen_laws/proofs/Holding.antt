-- What memory holds before and after a task.
use Rattle.std.proofs.Common.{◌≡◌, ℕ, zero, suc, ◌+◌, ◌*◌, ◌/◌, ◌%◌, ◌^◌, ◌<◌, ◌≤◌, List, [], ◌∷◌, Option, Some, None, true, false, Bool, refl, ap, ◌∙◌, sym}
use Rattle.std.proofs.Common.{subst, arith, inl, inr}
use Rattle.std.specs.Prelude.{◌==◌, nat_le, slice_get, slice_index, if◌then◌else◌}
use Rattle.std.specs.Int.{w8, from_le_bytes}
use Rattle.std.proofs.lemmas.Bool.{cases_Bool, cases_lt, cases_eq, ne_eqb}
use Rattle.std.proofs.lemmas.Bool.Decides.{nat_tests}
use Rattle.std.proofs.lemmas.Nat.{div-mul-add, mod-mul-add}
use Rattle.std.proofs.Math.Nat.{mul-le-mul_right}
use Rattle.memory.specs.Access.{byte_at, AreBytes, Size, Word, number_in, word_at}
use Rattle.hart_core.specs.Scalar.{load_size}
use Rattle.halide_pipeline.specs.declared.expressions.Source.{Source}
use Rattle.halide_pipeline.specs.declared.expressions.Source.TheVariants as sources
use Rattle.halide_pipeline.specs.Pipelines.{Pipeline}
use Rattle.halide_pipeline.specs.Pixel.{Planes, reads_of}
use Rattle.halide_pipeline.specs.Points.{Point}
use Rattle.schedule.specs.declared.schedules.Schedule.{Schedule}
use Rattle.schedule.specs.declared.placements.ComputeLevel.{ComputeLevel}
use Rattle.schedule.specs.declared.placements.ComputeLevel.TheVariants as standpoints
use Rattle.schedule.specs.declared.placements.FuncPlacement.{FuncPlacement}
use Rattle.bounds_ranges.specs.Laws.{AnswerWords}
use Rattle.multi_hart_laws.specs.Uses.{Use, Control as ForControl, Fixed, Owned, Given}
use Rattle.bounds.specs.declared.boxes.SourceBox.{SourceBox}
use Rattle.bounds.specs.Extents.{box_in, extent, points}
use Rattle.bounds.specs.Layout.{placed, root_bytes, root_sizes}
use Rattle.loop_ir.specs.Buffers.{Points}
use Rattle.bounds.specs.Parts.{Part, Control, Input as InputPart, Root, Copies, Frame, Outside, sizes_of}
use Rattle.bounds.specs.Finding.{roots_at}
use Rattle.bounds.proofs.Finding.{roots-lie}
use Rattle.task_code_scalar.specs.declared.layouts.BufferLayout.{BufferLayout}
use Rattle.task_code_scalar.specs.Code.{address}
use Rattle.task_code_scalar.specs.Evaluation.{load_op}
use Rattle.task_code_scalar.specs.Layout.{func_point, size_of}
use Rattle.task_code_scalar.specs.Doing.{HoldsFuncs}
use Rattle.vector_codegen_laws.specs.Uses.{Owners, greatest, use_of_owner, use_of, width_in, width_of, byte_of, input_byte, byte_in}
use Rattle.vector_codegen_laws.specs.Points.{RootPoint, InputPoint, part, address_at}
use Rattle.vector_codegen_laws.specs.Settings.{places, uses, IsLoaded}
use Rattle.vector_codegen_laws.specs.Held.{funcs_in, HasInputs, setting, IsTask, MemoryHoldsFuncs, TasksFindTheirs, TasksLeaveTheirs}
use Rattle.vector_codegen_laws.proofs.Laying.{column-of, row-of, root-use, root_use, own-use, other-use, loaded_at}
use Rattle.vector_codegen_laws.proofs.Numbers.{word-bytes, bytes-word, word-small}
use Rattle.vector_codegen_laws.proofs.There.{roots-are-there, word-inputs-are-there, byte-inputs-are-there, root-place, copies-place, input-place-is}

single-byte : (b n : ℕ) → b ≡ n → n < 256 → from_le_bytes w8 (b ∷ []) ≡ n
single-byte b n e l = omega (arith, e)

last-two : (k byte : ℕ) → byte < 4 → (4 * k + byte) % 4 ≡ byte
last-two k byte l = omega (arith, l)

-- ---- the owner that is found

some_number : Option ℕ → ℕ → ℕ
some_number None other = other
some_number (Some n) other = n

number-of : (a b : ℕ) → Some a ≡ Some b → a ≡ b
unfolding some_number
number-of a b q = ap (λ o. some_number o 0) q

pub greatest-found : (count : ℕ) (test : ℕ → Bool) (n : ℕ) → greatest count test ≡ Some n → (n < count) × (test n ≡ true)
greatest-found zero test n e = absurd (cc e)
greatest-found (suc count) test n e = elim (cases_Bool (test count)) [
  | inl t ↦
      let q : Some count ≡ Some n = sym (ap (λ b. if b then Some count else greatest count test) t) ∙ e in
      let same : count ≡ n = number-of count n q in
      (omega (arith, same), ap test (sym same) ∙ t)
  | inr f ↦
      let q : greatest count test ≡ Some n = sym (ap (λ b. if b then Some count else greatest count test) f) ∙ e in
      let r = greatest-found count test n q in
      let l = r.0 in
      (omega (arith, l), r.1)
]

use_owner : Use → ℕ
use_owner (Owned task) = task
use_owner _ = 0

owner-of : (found : Option ℕ) (task : ℕ) → use_of_owner found ≡ Owned task → found ≡ Some task
unfolding use_owner
owner-of None task e = absurd (cc e)
owner-of (Some n) task e = ap Some (ap use_owner e)

module _ (pipeline : Pipeline) (schedule : Schedule) (boxes : List (Option SourceBox)) (number : ℕ) (owners : Owners) where
  -- a byte that a task owns is one of a point that it owns
  pub record OwnByte (task address : ℕ) : Type 0 where
    pub offset : ℕ
    pub part_is : part pipeline schedule boxes address ≡ Root owners.func offset
    pub owned : owners.owns task (offset / 4 % width_of boxes owners.func) (offset / 4 / width_of boxes owners.func) ≡ true

  own-at : (task address : ℕ) (p : Part) → part pipeline schedule boxes address ≡ p → use_of boxes number owners p ≡ Owned task → OwnByte task address
  own-at task address (Control phase) e u = elim (cases_Bool (nat_le phase number)) [
    | inl t ↦ let q : ForControl ≡ Owned task = sym (ap (λ b. if b then ForControl else Fixed) t) ∙ u in absurd (cc q)
    | inr f ↦ let q : Fixed ≡ Owned task = sym (ap (λ b. if b then ForControl else Fixed) f) ∙ u in absurd (cc q)
  ]
  own-at task address (InputPart place offset) e u = absurd (cc u)
  own-at task address (Root func offset) e u =
      let found = λ (n : ℕ). greatest owners.tasks (λ k. owners.owns k (offset / 4 % width_of boxes n) (offset / 4 / width_of boxes n)) in
      elim (cases_eq func owners.func) [
        | inl f ↦
            let t : (func == owners.func) ≡ true = grind (arith, nat_tests) in
            let q : use_of_owner (found func) ≡ Owned task = sym (ap (λ b. if b then use_of_owner (found func) else Fixed) t) ∙ u in
            let r : found owners.func ≡ Some task = ap found (sym f) ∙ owner-of (found func) task q in
            record {
              offset = offset;
              part_is = e ∙ ap (λ n. Root n offset) f;
              owned = (greatest-found owners.tasks (λ k. owners.owns k (offset / 4 % width_of boxes owners.func) (offset / 4 / width_of boxes owners.func)) task
                  r).1;
            }
        | inr d ↦
            let q : Fixed ≡ Owned task = sym (ap (λ b. if b then use_of_owner (found func) else Fixed) (ne_eqb func owners.func d)) ∙ u in
            absurd (cc q)
      ]
  own-at task address (Copies place offset) e u = absurd (cc u)
  own-at task address (Frame owner) e u = absurd (cc u)
  own-at task address Outside e u = absurd (cc u)

  pub own-byte : (task address : ℕ) → uses pipeline schedule boxes number owners address ≡ Owned task → OwnByte task address
  own-byte task address u = own-at task address (part pipeline schedule boxes address) refl u

module _ (pipeline : Pipeline) (schedule : Schedule) (boxes : List (Option SourceBox)) (hart : ℕ) where
  -- ---- points of roots

  -- a byte of the box of a Func at root is one of the point that has its number
  record Is (address func x y offset : ℕ) : Type 0 where
    byte : ℕ
    byte_below : byte < 4
    byte_is : offset % 4 ≡ byte
    address_is : address ≡ address_at pipeline schedule boxes hart (sources.Func func) x y + byte

  root-at : (a func offset x y : ℕ) → part pipeline schedule boxes a ≡ Root func offset → (p : RootPoint pipeline schedule boxes func x y)
      → offset / 4 % width_of boxes func ≡ x → offset / 4 / width_of boxes func ≡ y
      → Is a func x y offset
  root-at a func offset x y e p ex ey =
      let w = extent p.own.x in
      let wide : width_of boxes func ≡ w = ap (λ b. width_in (box_in b)) p.box_is in
      let lies = roots-lie (sizes_of pipeline schedule boxes) a func offset e in
      let start = slice_index (placed (roots_at (sizes_of pipeline schedule boxes)) (sizes_of pipeline schedule boxes).roots) func in
      let here : address_at pipeline schedule boxes hart (sources.Func func) x y ≡ start + 0 * hart + 4 * (y * w + x) = ap (λ z. address z hart x y)
      (root-place pipeline schedule boxes func x y p) in
      let column : offset / 4 % w ≡ x = ap (λ v. offset / 4 % v) (sym wide) ∙ ex in
      let row : offset / 4 / w ≡ y = ap (λ v. offset / 4 / v) (sym wide) ∙ ey in
      let k : y * w + x ≡ offset / 4 = numbered (offset / 4) w x y p.column column row in
      let there = lies.address_is in
      record {
        byte = offset % 4;
        byte_below = omega arith;
        byte_is = refl;
        address_is = omega (arith, there, here, k);
      }
    where
      numbered : (n w x y : ℕ) → x < w → n % w ≡ x → n / w ≡ y → y * w + x ≡ n
      numbered n w x y l c r =
          let some : 0 < w = omega (arith, l) in
          let whole : w * (n / w) + n % w ≡ n = omega (arith, some) in
          let swapped : y * w ≡ w * y = omega arith in
          let mine : w * y ≡ w * (n / w) = ap (λ i. w * i) (sym r) in
          omega (arith, whole, swapped, mine, c)

module _ (pipeline : Pipeline) (schedule : Schedule) (boxes : List (Option SourceBox)) (number : ℕ) (owners : Owners) where
  abbrev part_of : ℕ → Part
  part_of a = part pipeline schedule boxes a

  module _ (task hart : ℕ) (it : IsTask pipeline schedule boxes number owners task hart) where
    abbrev at : Source → ℕ → ℕ → ℕ
    at source x y = address_at pipeline schedule boxes hart source x y

    -- ---- any memory holds some Funcs

    module _ (text memory : List ℕ) (bytes : AreBytes memory) (inputs earlier : Planes) (answer : AnswerWords pipeline.inputs (reads_of inputs earlier))
        (has : HasInputs pipeline schedule boxes text memory inputs) where
      input-bytes : (place x y : ℕ) → (p : InputPoint pipeline schedule boxes place x y) → p.input.is_bytes ≡ false → (byte : ℕ) → byte < 4
          → byte_at text memory (at (sources.Input place) x y + byte) ≡ byte_of (inputs place x y) byte
      input-bytes place x y p e byte l =
          let there = word-inputs-are-there pipeline schedule boxes hart place x y p e in
          let w = p.input.width in
          let o = 4 * (y * w + x) + byte in
          has (at (sources.Input place) x y + byte) place o (there.parts byte l)
          ∙ (ap (λ i. input_byte i place inputs o) p.input_is
          ∙ (ap (λ b. if b then inputs place (o % w) (o / w) else byte_of (inputs place (o / 4 % w) (o / 4 / w)) (o % 4)) e
          ∙ (ap (λ i. byte_of (inputs place i (o / 4 / w)) (o % 4)) (column-of w x y byte p.column l)
          ∙ (ap (λ j. byte_of (inputs place x j) (o % 4)) (row-of w x y byte p.column l) ∙ ap (byte_of (inputs place x y)) (last-two (y * w + x) byte l)))))

      input-byte : (place x y : ℕ) → (p : InputPoint pipeline schedule boxes place x y) → p.input.is_bytes ≡ true
          → byte_at text memory (at (sources.Input place) x y) ≡ inputs place x y
      input-byte place x y p e =
          let there = byte-inputs-are-there pipeline schedule boxes hart place x y p e in
          let w = p.input.width in
          let o = y * w + x in
          has (at (sources.Input place) x y) place o there.is_part
          ∙ (ap (λ i. input_byte i place inputs o) p.input_is
          ∙ (ap (λ b. if b then inputs place (o % w) (o / w) else byte_of (inputs place (o / 4 % w) (o / 4 / w)) (o % 4)) e
          ∙ (ap (λ i. inputs place i (o / w)) (mod-mul-add y w x p.column) ∙ ap (λ j. inputs place x j) (div-mul-add y w x p.column))))

      input-holds : (place x y : ℕ) → (p : InputPoint pipeline schedule boxes place x y) → (is_bytes : Bool) → p.input.is_bytes ≡ is_bytes
          → inputs place x y < 2 ^ 32
          → number_in text memory (size_of (places pipeline schedule boxes) (record { source = sources.Input place; x = x; y = y })) (at (sources.Input place) x
          y) ≡ inputs place x y
      input-holds place x y p false e l =
          ap (λ (z : BufferLayout). number_in text memory (load_size (load_op z.pixels)) (at (sources.Input place) x y)) (input-place-is pipeline schedule boxes place
          x y p false e)
          ∙ bytes-word text memory (at (sources.Input place) x y) (inputs place x y) l (input-bytes place x y p e)
      input-holds place x y p true e l =
          ap (λ (z : BufferLayout). number_in text memory (load_size (load_op z.pixels)) (at (sources.Input place) x y)) (input-place-is pipeline schedule boxes place
          x y p true e)
          ∙ single-byte (byte_at text memory (at (sources.Input place) x y)) (inputs place x y) (input-byte place x y p e) (answer.bytes place p.input
          p.input_is e x y)

      func-holds : (func x y : ℕ) → (s : Size) → s ≡ Word → number_in text memory s (at (sources.Func func) x y) ≡ funcs_in pipeline schedule boxes text memory
          hart func x y
      func-holds func x y s e = ap (λ z. number_in text memory z (at (sources.Func func) x y)) e

      holds-at : (source : Source) (x y : ℕ) → IsLoaded pipeline schedule boxes number owners task source x y
          → number_in text memory (size_of (places pipeline schedule boxes) (record { source = source; x = x; y = y })) (at source x y)
          ≡ reads_of inputs (funcs_in pipeline schedule boxes text memory hart) source x y
      holds-at (sources.Input place) x y p =
          let may = loaded_at pipeline schedule boxes number owners text task hart it.few_harts it.below it.one_owner it.fits (sources.Input place) x y p in
          input-holds place x y p p.input.is_bytes refl (answer.words (sources.Input place) x y may.column may.row)
      holds-at (sources.Func func) x y (inl r) =
          func-holds func x y (size_of (places pipeline schedule boxes) (func_point func x y)) (ap (λ (z : BufferLayout). load_size (load_op z.pixels))
          (root-place pipeline schedule boxes func x y r.0))
      holds-at (sources.Func func) x y (inr p) =
          func-holds func x y (size_of (places pipeline schedule boxes) (func_point func x y)) (ap (λ (z : BufferLayout). load_size (load_op z.pixels))
          (copies-place pipeline schedule boxes func x y p))

    -- ---- what a task finds

    finds : (text memory : List ℕ) (inputs start : Planes) → ((address : ℕ) → Given task (uses pipeline schedule boxes number owners address)
        → byte_at text memory address ≡ byte_in pipeline.inputs boxes inputs start (part_of address))
        → (func x y : ℕ) → RootPoint pipeline schedule boxes func x y → (func ≡ owners.func → owners.owns task x y ≡ true) → start func x y < 2 ^ 32
        → funcs_in pipeline schedule boxes text memory hart func x y ≡ start func x y
    finds text memory inputs start given func x y p own l = bytes-word text memory (at (sources.Func func) x y) (start func x y) l each
      where
        may : Given task (root_use boxes number owners func x y)
        may = elim (cases_eq func owners.func) [
          | inl e ↦ subst (λ u. Given task u) (sym (own-use boxes number owners task func x y it.one_owner it.below e (own e))) refl
          | inr d ↦ subst (λ u. Given task u) (sym (other-use boxes number owners func x y d)) tt
        ]

        each : (byte : ℕ) → byte < 4 → byte_at text memory (at (sources.Func func) x y + byte) ≡ byte_of (start func x y) byte
        each byte b =
            let w = extent p.own.x in
            let o = 4 * (y * w + x) + byte in
            let wide : width_of boxes func ≡ w = ap (λ z. width_in (box_in z)) p.box_is in
            let there = (roots-are-there pipeline schedule boxes hart func x y p).parts byte b in
            let purpose : uses pipeline schedule boxes number owners (at (sources.Func func) x y + byte) ≡ root_use boxes number owners func x y =
            ap (use_of boxes number owners) there ∙ root-use boxes number owners func o x y w wide (column-of w x y byte p.column b) (row-of w x y byte p.column
            b) in
            given (at (sources.Func func) x y + byte) (subst (λ u. Given task u) (sym purpose) may)
            ∙ (ap (byte_in pipeline.inputs boxes inputs start) there
            ∙ (ap (λ v. byte_of (start func (o / 4 % v) (o / 4 / v)) (o % 4)) wide
            ∙ (ap (λ i. byte_of (start func i (o / 4 / w)) (o % 4)) (column-of w x y byte p.column b)
            ∙ (ap (λ j. byte_of (start func x j) (o % 4)) (row-of w x y byte p.column b) ∙ ap (byte_of (start func x y)) (last-two (y * w + x) byte b)))))

    -- ---- what it leaves

    module _ (text left : List ℕ) (harts : ℕ) (inputs funcs result : Planes) (points written : Points) (loaded : Point → Bool) (bytes : AreBytes left)
        (holds : HoldsFuncs (setting pipeline schedule boxes number owners text harts task hart inputs points written loaded) left funcs)
        (there : (x y : ℕ) → owners.owns task x y ≡ true → RootPoint pipeline schedule boxes owners.func x y)
        (load : (x y : ℕ) → owners.owns task x y ≡ true → loaded (func_point owners.func x y) ≡ true)
        (same : (x y : ℕ) → owners.owns task x y ≡ true → funcs owners.func x y ≡ result owners.func x y) where
      owned-word : (x y : ℕ) → owners.owns task x y ≡ true → word_at text left (at (sources.Func owners.func) x y) ≡ result owners.func x y
      owned-word x y e =
          let size_is = ap (λ (z : BufferLayout). load_size (load_op z.pixels)) (root-place pipeline schedule boxes owners.func x y (there x y e)) in
          sym (ap (λ z. number_in text left z (at (sources.Func owners.func) x y)) size_is) ∙ (holds.holds (func_point owners.func x y) (load x y e)
          ∙ same x y e)

      leaves : (address : ℕ) → uses pipeline schedule boxes number owners address ≡ Owned task
          → byte_at text left address ≡ byte_in pipeline.inputs boxes inputs result (part_of address)
      leaves address own =
          let o = own-byte pipeline schedule boxes number owners task address own in
          let x = o.offset / 4 % width_of boxes owners.func in
          let y = o.offset / 4 / width_of boxes owners.func in
          let i = root-at pipeline schedule boxes hart address owners.func o.offset x y o.part_is (there x y o.owned) refl refl in
          ap (byte_at text left) i.address_is
          ∙ (word-bytes text left (at (sources.Func owners.func) x y) (result owners.func x y) i.byte bytes (owned-word x y o.owned) i.byte_below
          ∙ (ap (byte_of (result owners.func x y)) (sym i.byte_is) ∙ sym (ap (byte_in pipeline.inputs boxes inputs result) o.part_is)))

-- a byte that a task owns lies in the word of its point
pub own-byte-lies : (pipeline : Pipeline) (schedule : Schedule) (boxes : List (Option SourceBox)) (number : ℕ) (owners : Owners) (task hart : ℕ) (address : ℕ)
    → (o : OwnByte pipeline schedule boxes number owners task address)
    → RootPoint pipeline schedule boxes owners.func (o.offset / 4 % width_of boxes owners.func) (o.offset / 4 / width_of boxes owners.func)
    → let here = address_at pipeline schedule boxes hart (sources.Func owners.func) (o.offset / 4 % width_of boxes owners.func) (o.offset / 4 / width_of boxes
    owners.func) in
    (here ≤ address) × (address < here + 4)
own-byte-lies pipeline schedule boxes number owners task hart address o p =
    let i = root-at pipeline schedule boxes hart address owners.func o.offset (o.offset / 4 % width_of boxes owners.func) (o.offset / 4 / width_of boxes
    owners.func) o.part_is p refl refl in
    let e = i.address_is in
    let l = i.byte_below in
    (omega (arith, e), omega (arith, e, l))

pub memory-holds-funcs : (pipeline : Pipeline) (schedule : Schedule) (boxes : List (Option SourceBox)) (number : ℕ) (owners : Owners)
    → MemoryHoldsFuncs pipeline schedule boxes number owners
memory-holds-funcs pipeline schedule boxes number owners text memory harts task hart inputs earlier points written loaded it size_is bytes answer has may =
    record {
      size = size_is;
      are_bytes = bytes;
      are_words = λ place x y lx ly. word-small text memory (address_at pipeline schedule boxes hart (sources.Func place) x y) bytes;
      holds = λ point e. holds-at pipeline schedule boxes number owners task hart it text memory bytes inputs earlier answer has point.source point.x point.y
          (may point e);
    }

pub tasks-find-theirs : (pipeline : Pipeline) (schedule : Schedule) (boxes : List (Option SourceBox)) (number : ℕ) (owners : Owners)
    → TasksFindTheirs pipeline schedule boxes number owners
tasks-find-theirs pipeline schedule boxes number owners text memory task hart inputs start it given func x y p own l = finds pipeline schedule boxes number
    owners task hart it text memory inputs start given func x y p own l

pub tasks-leave-theirs : (pipeline : Pipeline) (schedule : Schedule) (boxes : List (Option SourceBox)) (number : ℕ) (owners : Owners)
    → TasksLeaveTheirs pipeline schedule boxes number owners
tasks-leave-theirs pipeline schedule boxes number owners text left harts task hart inputs funcs result points written loaded it bytes holds there load same
    address own =
    leaves pipeline schedule boxes number owners task hart it text left harts inputs funcs result points written loaded bytes holds there load same address own

-- ---- each byte of the box of a Func at root is one of a point

record RootFound (standings : List FuncPlacement) (boxes : List (Option SourceBox)) (place offset : ℕ) : Type 0 where
  standing : FuncPlacement
  standing_is : slice_get standings place ≡ Some standing
  at_root : standing.place ≡ standpoints.Root
  own : SourceBox
  box_is : slice_get boxes place ≡ Some (Some own)
  below : offset < points own * 4

no-size : (place offset : ℕ) → offset < slice_index [] place → ⊥
no-size zero offset l = omega (arith, l)
no-size (suc place) offset l = omega (arith, l)

first-found : (s : FuncPlacement) (ss : List FuncPlacement) (own : Option SourceBox) (bs : List (Option SourceBox)) (offset : ℕ) (place : ComputeLevel) → s.place ≡ place
    → offset < root_bytes place own → RootFound (s ∷ ss) (own ∷ bs) 0 offset
first-found s ss (Some own) bs offset standpoints.Root e l = record { standing = s; standing_is = refl; at_root = e; own = own; box_is = refl; below = l }
first-found s ss None bs offset standpoints.Root e l = absurd (omega (arith, l))
first-found s ss own bs offset (standpoints.At at) e l = absurd (omega (arith, l))
first-found s ss own bs offset standpoints.Inlined e l = absurd (omega (arith, l))
first-found s ss own bs offset standpoints.Nowhere e l = absurd (omega (arith, l))

root-found : (standings : List FuncPlacement) (boxes : List (Option SourceBox)) (place offset : ℕ) → offset < slice_index (root_sizes standings boxes) place
    → RootFound standings boxes place offset
root-found [] boxes place offset l = absurd (no-size place offset l)
root-found (s ∷ ss) [] place offset l = absurd (no-size place offset l)
root-found (s ∷ ss) (b ∷ bs) zero offset l = first-found s ss b bs offset s.place refl l
root-found (s ∷ ss) (b ∷ bs) (suc place) offset l =
    let r = root-found ss bs place offset l in
    record { standing = r.standing; standing_is = r.standing_is; at_root = r.at_root; own = r.own; box_is = r.box_is; below = r.below }

record InBox (w h k : ℕ) : Type 0 where
  column : k % w < w
  row : k / w < h

in-box : (w h k : ℕ) → k < w * h → InBox w h k
in-box zero h k l = let z : 0 * h ≡ 0 = omega arith in absurd (omega (arith, l, z))
in-box (suc v) h k l = elim (cases_lt (k / suc v) h) [
  | inl b ↦ record { column = mod-below; row = b }
  | inr b ↦
      let less : h * suc v ≤ k / suc v * suc v = mul-le-mul_right {m = h} {n = k / suc v} (suc v) b in
      let whole : suc v * (k / suc v) + k % suc v ≡ k = omega arith in
      let swapped : suc v * (k / suc v) ≡ k / suc v * suc v = omega arith in
      let other : suc v * h ≡ h * suc v = omega arith in
      absurd (omega (arith, l, less, whole, swapped, other))
]
  where
    mod-below : k % suc v < suc v
    mod-below = omega arith

pub root-byte-point : (pipeline : Pipeline) (schedule : Schedule) (boxes : List (Option SourceBox)) (address place offset : ℕ)
    → part pipeline schedule boxes address ≡ Root place offset
    → RootPoint pipeline schedule boxes place (offset / 4 % width_of boxes place) (offset / 4 / width_of boxes place)
root-byte-point pipeline schedule boxes address place offset e =
    let lies = roots-lie (sizes_of pipeline schedule boxes) address place offset e in
    let r = root-found schedule.standings boxes place offset lies.below in
    let w = extent r.own.x in
    let wide : width_of boxes place ≡ w = ap (λ b. width_in (box_in b)) r.box_is in
    let small = r.below in
    let i = in-box w (extent r.own.y) (offset / 4) (omega (arith, small)) in
    subst (λ v. RootPoint pipeline schedule boxes place (offset / 4 % v) (offset / 4 / v)) (sym wide)
    (record { standing = r.standing; standing_is = r.standing_is; at_root = r.at_root; own = r.own; box_is = r.box_is; column = i.column; row = i.row })
