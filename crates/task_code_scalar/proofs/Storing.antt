-- What memory holds after a point is stored.
use Rattle.std.proofs.Common.{◌≡◌, ℕ, ◌+◌, ◌^◌, ◌<◌, ◌≤◌, List, [], ◌∷◌, length, Bool, true, false, refl, ap, ◌∙◌, sym, subst, arith, inl, inr}
use Rattle.std.specs.Prelude.{◌⊎◌, ◌==◌, ◌&&◌, if◌then◌else◌}
use Rattle.std.specs.Int.{w32, to_le_bytes}
use Rattle.std.proofs.lemmas.Bool.{cases_eq, cases_lt, and_right}
use Rattle.std.proofs.lemmas.Bool.Decides.{nat_tests}
use Rattle.std.proofs.lemmas.List.{append-nil}
use Rattle.memory.specs.Access.{byte_at, put, NotIn, AreBytes, Byte, Word, number_in, put_number, touched, number_of}
use Rattle.memory.proofs.Putting.{length-put, byte-put}
use Rattle.memory.proofs.StaysBytes.{put-bytes, number-bytes}
use Rattle.memory.proofs.Words.{word-put, word-other}
use Rattle.multi_hart_laws.specs.Scalar.{load_size, one_access}
use Rattle.halide_pipeline.specs.declared.expressions.Source.{Source}
use Rattle.halide_pipeline.specs.declared.expressions.Source.TheVariants as sources
use Rattle.halide_pipeline.specs.Pixel.{Planes, reads_of}
use Rattle.halide_pipeline.specs.Points.{Point}
use Rattle.loop_ir.specs.Buffers.{Points, put as put_point}
use Rattle.multi_hart_laws.specs.Alone.{World}
use Rattle.multi_hart_laws.specs.Run.{is_in}
use Rattle.multi_hart_laws.specs.Paths.{stored_at}
use Rattle.task_code_scalar.specs.declared.layouts.Pixels.{Pixels}
use Rattle.task_code_scalar.specs.declared.layouts.Pixels.TheVariants as pixels
use Rattle.task_code_scalar.specs.declared.layouts.Places.{Places}
use Rattle.task_code_scalar.specs.Code.{place_of, pixel_bytes, address}
use Rattle.task_code_scalar.specs.Evaluation.{load_op}
use Rattle.task_code_scalar.specs.Layout.{func_point, address_of, bytes_of, size_of, Laid, Holds, IsElsewhere, AreWords}
use Rattle.task_code_scalar.proofs.Evaluation.{chosen-below}

-- ---- bytes

pub stored-is : (memory : List ℕ) (a v : ℕ) → stored_at memory Word a v ≡ put_number memory Word a v
stored-is memory a v = ap (put memory (a ∷ (a + 1) ∷ (a + 2) ∷ (a + 3) ∷ [])) (append-nil (to_le_bytes w32 v))

far : (x a : ℕ) → (x < a) ⊎ (a + 4 ≤ x) → NotIn x (a ∷ (a + 1) ∷ (a + 2) ∷ (a + 3) ∷ [])
far x a o = ((λ e. omega (arith, o, e)), ((λ e. omega (arith, o, e)), ((λ e. omega (arith, o, e)), ((λ e. omega (arith, o, e)), tt))))

pub byte-other : (text memory : List ℕ) (a v x : ℕ) → (x < a) ⊎ (a + 4 ≤ x) → byte_at text (put_number memory Word a v) x ≡ byte_at text memory x
byte-other text memory a v x o = byte-put text memory (a ∷ (a + 1) ∷ (a + 2) ∷ (a + 3) ∷ []) (to_le_bytes w32 v) x (far x a o)

pub size-stays : (memory : List ℕ) (a v : ℕ) → length (put_number memory Word a v) ≡ length memory
size-stays memory a v = length-put memory (a ∷ (a + 1) ∷ (a + 2) ∷ (a + 3) ∷ []) (to_le_bytes w32 v)

pub bytes-stay : (memory : List ℕ) (a v : ℕ) → AreBytes memory → AreBytes (put_number memory Word a v)
bytes-stay memory a v are = put-bytes memory (a ∷ (a + 1) ∷ (a + 2) ∷ (a + 3) ∷ []) (to_le_bytes w32 v) are (number-bytes Word v)

-- the four places are touched
pub is-touched : (a c : ℕ) → a ≤ c → c < a + 4 → is_in c (touched (one_access Word a)) ≡ true
is-touched a c low high = elim (cases_eq c a) [
  | inl e ↦ let t : (c == a) ≡ true = grind (arith, nat_tests) in rw t refl
  | inr n0 ↦
      let t0 : (c == a) ≡ false = grind (arith, nat_tests, n0) in
      elim (cases_eq c (a + 1)) [
        | inl e ↦ let t : (c == a + 1) ≡ true = grind (arith, nat_tests) in rw (t0, t) refl
        | inr n1 ↦
            let t1 : (c == a + 1) ≡ false = grind (arith, nat_tests, n1) in
            elim (cases_eq c (a + 2)) [
              | inl e ↦ let t : (c == a + 2) ≡ true = grind (arith, nat_tests) in rw (t0, t1, t) refl
              | inr n2 ↦
                  let t2 : (c == a + 2) ≡ false = grind (arith, nat_tests, n2) in
                  let e : c ≡ a + 3 = omega (arith, low, high, n0, n1, n2) in
                  let t : (c == a + 3) ≡ true = grind (arith, nat_tests) in
                  rw (t0, t1, t2, t) refl
            ]
      ]
]

-- ---- numbers

-- a number that shares no byte with a word that is put stays
pub number-other : (p : Pixels) (text memory : List ℕ) (a c v : ℕ) → (c + pixel_bytes p ≤ a) ⊎ (a + 4 ≤ c)
    → number_in text (put_number memory Word a v) (load_size (load_op p)) c ≡ number_in text memory (load_size (load_op p)) c
number-other pixels.Words text memory a c v o = word-other text memory a v c o
number-other pixels.Bytes text memory a c v o = ap (λ b. number_of Byte (b ∷ [])) (byte-other text memory a v c
    (elim o [ inl x ↦ inl (omega (arith, x)) | inr x ↦ inr x ]))

-- ---- planes

put-here : (points : Points) (func x y v : ℕ) (funcs : Planes) → points func x y ≡ true → put_point points func x y v funcs func x y ≡ v
put-here points func x y v funcs there =
    let t : (func == func && (x == x && y == y)) ≡ true = grind (arith, nat_tests) in
    rw (there, t) refl

missed : (place func i x j y : ℕ) → (place ≡ func → i ≡ x → j ≡ y → ⊥) → (place == func && (i == x && j == y)) ≡ false
missed place func i x j y never = elim (cases_eq place func) [
  | inl e ↦ elim (cases_eq i x) [
    | inl f ↦ elim (cases_eq j y) [
      | inl g ↦ absurd (never e f g)
      | inr n ↦ grind (arith, nat_tests, n)
    ]
    | inr n ↦ grind (arith, nat_tests, n)
  ]
  | inr n ↦ grind (arith, nat_tests, n)
]

put-away : (points : Points) (func x y v : ℕ) (inputs funcs : Planes) (source : Source) (i j : ℕ) → (source ≡ sources.Func func → i ≡ x → j ≡ y → ⊥)
    → reads_of inputs (put_point points func x y v funcs) source i j ≡ reads_of inputs funcs source i j
put-away points func x y v inputs funcs (sources.Input place) i j never = refl
put-away points func x y v inputs funcs (sources.Func place) i j never =
    let t = missed place func i x j y (λ e f g. never (ap sources.Func e) f g) in
    let u : (points func x y && (place == func && (i == x && j == y))) ≡ false = and_right (points func x y) _ t in
    ap (λ b. if b then v else funcs place i j) u

pub words-put : (points : Points) (func x y v : ℕ) (funcs : Planes) → AreWords funcs → v < 2 ^ 32 → AreWords (put_point points func x y v funcs)
words-put points func x y v funcs are small place i j li lj = chosen-below (points func x y && (place == func && (i == x && j == y))) v (funcs place i j)
    (2 ^ 32) small (are place i j li lj)

-- ---- a store

module _ (w : World) (places : Places) (written : Points) (loaded : Point → Bool) (laid : Laid w places written loaded) where
  abbrev spot : ℕ → ℕ → ℕ → ℕ
  spot func x y = address_of w places (func_point func x y)

  -- the point itself
  at-it : (points : Points) (inputs funcs : Planes) (memory : List ℕ) (func x y v : ℕ) → written func x y ≡ true → points func x y ≡ true
      → length memory ≡ w.size → v < 2 ^ 32
      → (source : Source) (i j : ℕ) → sources.Func func ≡ source → x ≡ i → y ≡ j
      → number_in w.text (put_number memory Word (spot func x y) v) (load_size (load_op (place_of places source).pixels)) (address (place_of places source)
      w.hart i j)
      ≡ reads_of inputs (put_point points func x y v funcs) source i j
  at-it points inputs funcs memory func x y v is there size small source i j es ei ej =
      let may = laid.stores func x y is in
      let can = may.may in
      let m' = put_number memory Word (spot func x y) v in
      let low = can.above in
      let high = can.below in
      let one : number_in w.text m' Word (spot func x y) ≡ v = word-put w.text memory (spot func x y) v low (omega (arith, high, size)) small in
      let two : number_in w.text m' (load_size (load_op (place_of places (sources.Func func)).pixels)) (spot func x y) ≡ v =
      subst (λ p. number_in w.text m' (load_size (load_op p)) (spot func x y) ≡ v) (sym may.are_words) one in
      let three = two ∙ sym (put-here points func x y v funcs there) in
      subst (λ s. number_in w.text m' (load_size (load_op (place_of places s).pixels)) (address (place_of places s) w.hart i j)
      ≡ reads_of inputs (put_point points func x y v funcs) s i j) es
      (subst (λ a. number_in w.text m' (load_size (load_op (place_of places (sources.Func func)).pixels)) (address (place_of places (sources.Func func)) w.hart
      a j) ≡ put_point points func x y v funcs func a j) ei
      (subst (λ b. number_in w.text m' (load_size (load_op (place_of places (sources.Func func)).pixels)) (address (place_of places (sources.Func func)) w.hart
      x b) ≡ put_point points func x y v funcs func x b) ej three))

  pub stored-holds : (points : Points) (inputs funcs : Planes) (memory : List ℕ) (func x y v : ℕ) → written func x y ≡ true → points func x y ≡ true
      → length memory ≡ w.size → v < 2 ^ 32
      → Holds w places loaded memory (reads_of inputs funcs)
      → Holds w places loaded (put_number memory Word (spot func x y) v) (reads_of inputs (put_point points func x y v funcs))
  stored-holds points inputs funcs memory func x y v is there size small holds point can =
      let a = spot func x y in
      let c = address_of w places point in
      let k = bytes_of places point in
      elim (cases_lt c (a + 4)) [
        | inl l ↦ elim (cases_lt a (c + k)) [
          | inl h ↦
              let s = laid.apart func x y point is can l h in
              at-it points inputs funcs memory func x y v is there size small point.source point.x point.y (sym s.source_is) (sym s.column_is) (sym s.row_is)
          | inr h ↦ away (inl h)
        ]
        | inr l ↦ away (inr l)
      ]
    where
      some : (p : Pixels) → 1 ≤ pixel_bytes p
      some pixels.Words = omega arith
      some pixels.Bytes = omega arith

      away : (address_of w places point + bytes_of places point ≤ spot func x y) ⊎ (spot func x y + 4 ≤ address_of w places point)
          → number_in w.text (put_number memory Word (spot func x y) v) (size_of places point) (address_of w places point)
          ≡ reads_of inputs (put_point points func x y v funcs) point.source point.x point.y
      away o =
          let n = some (place_of places point.source).pixels in
          let never : point.source ≡ sources.Func func → point.x ≡ x → point.y ≡ y → ⊥ = λ es ei ej.
          let e : address_of w places point ≡ spot func x y =
          ap (λ s. address (place_of places s) w.hart point.x point.y) es ∙ ap (λ i. address (place_of places (sources.Func func)) w.hart i point.y) ei
          ∙ ap (λ j. address (place_of places (sources.Func func)) w.hart x j) ej in
          omega (arith, e, o, n) in
          number-other (place_of places point.source).pixels w.text memory (spot func x y) (address_of w places point) v o
          ∙ holds point can
          ∙ sym (put-away points func x y v inputs funcs point.source point.x point.y never)

  pub others-stay : (memory : List ℕ) (func x y v byte : ℕ) → written func x y ≡ true → IsElsewhere w places written byte
      → byte_at w.text (put_number memory Word (spot func x y) v) byte ≡ byte_at w.text memory byte
  others-stay memory func x y v byte is elsewhere = byte-other w.text memory (spot func x y) v byte (elsewhere.points func x y is)
