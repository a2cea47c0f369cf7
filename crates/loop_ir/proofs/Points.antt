-- A point of a buffer that is written.
use Rattle.std.proofs.Common.{◌≡◌, ◌≢◌, ℕ, suc, ◌+◌, ◌*◌, ◌/◌, ◌<◌, ◌≤◌, true, false, List, length, set, get_or, refl, sym, ap, ◌∙◌, arith, Some, inl, inr}
use Rattle.std.proofs.Common.{get_or-set_same, get_or-set_other, length-set}
use Rattle.std.specs.Prelude.{if◌then◌else◌, ◌==◌, ◌&&◌, nat_lt, slice_get, slice_index, slice_set}
use mathlib.Core.Path.{fun_ext}
use Rattle.std.proofs.lemmas.Bool.{cases_lt, cases_eq}
use Rattle.std.proofs.lemmas.Bool.Decides.{nat_tests}
use Rattle.std.proofs.lemmas.Nat.{div-mul-add}
use Rattle.std.proofs.lemmas.Option.{slice_get-get_or, slice_get_past}
use Rattle.std.proofs.Math.Nat.{mul-le-mul_right}
use Rattle.halide_pipeline.specs.Pixel.{Planes}
use Rattle.loop_ir.specs.Buffers.{BufferContents, has_point, has_point_of_any, plane_of, plane_of_any, planes, points_of, Points, put}

-- ---- rows of a buffer

same_row : (width x y i j : ℕ) → x < width → i < width → j * width + i ≡ y * width + x → j ≡ y
same_row width x y i j below_x below_i e = sym (div-mul-add j width i below_i) ∙ ap (λ n. n / width) e ∙ div-mul-add y width x below_x

within : (width height x y : ℕ) → x < width → y < height → y * width + x < width * height
within width height x y below_x below_y =
    let next : suc y ≤ height = omega arith in
    let row : suc y * width ≡ y * width + width = omega arith in
    let swapped : height * width ≡ width * height = omega arith in
    omega (arith, row, swapped, mul-le-mul_right {m = suc y} {n = height} width next)

inside : (width height x y pixel i j : ℕ) (pixels : List ℕ) → x < width → y < height → i < width → length pixels ≡ width * height
    → get_or (set pixels (y * width + x) pixel) (j * width + i) 0 ≡ (if i == x && j == y then pixel else get_or pixels (j * width + i) 0)
inside width height x y pixel i j pixels below_x below_y below_i full = elim (cases_eq (j * width + i) (y * width + x)) [
  | inl e ↦
      let rows : j ≡ y = same_row width x y i j below_x below_i e in
      let starts : j * width ≡ y * width = ap (λ n. n * width) rows in
      let columns : i ≡ x = omega (arith, e, starts) in
      let hit : (i == x && j == y) ≡ true = grind (arith, nat_tests) in
      let there : y * width + x < length pixels = omega (arith, full, within width height x y below_x below_y) in
      rw (hit, e) (get_or-set_same pixels (y * width + x) pixel 0 there)
  | inr apart ↦
      let other : (i ≡ x → j ≡ y → ⊥) = λ p q. apart (ap (λ n. j * width + n) p ∙ ap (λ n. n * width + x) q) in
      let missed : (i == x && j == y) ≡ false = elim (cases_eq i x) [
        | inl p ↦ elim (cases_eq j y) [ inl q ↦ absurd (other p q) | inr q ↦ grind (arith, nat_tests, q) ]
        | inr p ↦ grind (arith, nat_tests, p)
      ] in
      rw missed (get_or-set_other pixels (y * width + x) (j * width + i) pixel 0 apart)
]

at_point : (width height x y pixel i j : ℕ) (pixels : List ℕ) → x < width → y < height → length pixels ≡ width * height
    → (if nat_lt i width && nat_lt j height then slice_index (slice_set pixels (y * width + x) pixel) (j * width + i) else 0)
    ≡ (if (nat_lt x width && nat_lt y height) && (i == x && j == y) then pixel else (if nat_lt i width && nat_lt j height then slice_index pixels
    (j * width + i) else 0))
at_point width height x y pixel i j pixels below_x below_y full =
    let has_x : nat_lt x width ≡ true = grind (arith, nat_tests) in
    let has_y : nat_lt y height ≡ true = grind (arith, nat_tests) in
    elim (cases_lt i width) [
      | inl below_i ↦ elim (cases_lt j height) [
        | inl below_j ↦
            let has_i : nat_lt i width ≡ true = grind (arith, nat_tests) in
            let has_j : nat_lt j height ≡ true = grind (arith, nat_tests) in
            rw (has_x, has_y, has_i, has_j) (inside width height x y pixel i j pixels below_x below_y below_i full)
        | inr above ↦
            let other : j ≢ y = λ e. absurd (omega (arith, e)) in
            grind (arith, nat_tests, other)
      ]
      | inr above ↦
          let other : i ≢ x = λ e. absurd (omega (arith, e)) in
          grind (arith, nat_tests, other)
    ]

-- so a buffer with one point written holds this
pub written : (width height x y pixel : ℕ) (pixels : List ℕ) → x < width → y < height → length pixels ≡ width * height
    → plane_of (record { width = width; height = height; pixels = slice_set pixels (y * width + x) pixel })
    ≡ (λ i j. if has_point (record { width = width; height = height; pixels = pixels }) x y && (i == x && j == y) then pixel
    else plane_of (record { width = width; height = height; pixels = pixels }) i j)
written width height x y pixel pixels below_x below_y full =
    fun_ext (λ i. fun_ext (λ j. at_point width height x y pixel i j pixels below_x below_y full))

-- ---- a list of buffers, one of which is changed

get_changed : (buffers : List BufferContents) (buffer_index : ℕ) (buffer_contents default : BufferContents) → buffer_index < length buffers → slice_get (set buffers buffer_index buffer_contents) buffer_index
    ≡ Some buffer_contents
get_changed buffers buffer_index buffer_contents default below =
    let still : buffer_index < length (set buffers buffer_index buffer_contents) = omega
    (arith, length-set buffers buffer_index buffer_contents) in
    slice_get-get_or (set buffers buffer_index buffer_contents) buffer_index default still ∙ ap Some (get_or-set_same buffers buffer_index buffer_contents default below)

get_other : (buffers : List BufferContents) (buffer_index other : ℕ) (buffer_contents : BufferContents) → other ≢ buffer_index → slice_get (set buffers buffer_index buffer_contents) other
    ≡ slice_get buffers other
get_other buffers buffer_index other buffer_contents apart = elim (cases_lt other (length buffers)) [
  | inl below ↦
      let still : other < length (set buffers buffer_index buffer_contents) = omega
      (arith, length-set buffers buffer_index buffer_contents) in
      slice_get-get_or (set buffers buffer_index buffer_contents) other buffer_contents still ∙ ap Some (get_or-set_other buffers buffer_index other buffer_contents buffer_contents apart)
      ∙ sym (slice_get-get_or buffers other buffer_contents below)
  | inr above ↦ slice_get_past (set buffers buffer_index buffer_contents) other (omega (arith, length-set buffers buffer_index buffer_contents)) ∙ sym (slice_get_past buffers other above)
]

elsewhere : (points : Points) (buffer_index x y pixel : ℕ) (all : Planes) (place i j : ℕ)
    → (place == buffer_index) ≡ false
    → all place i j ≡ put points buffer_index x y pixel all place i j
elsewhere points buffer_index x y pixel all place i j apart =
    elim (points buffer_index x y) as (λ there. all place i j ≡ (if there && (place == buffer_index && (i == x && j == y)) then pixel else all place i j))
    [ true ↦ rw apart refl | false ↦ refl ]

put_at : (buffers : List BufferContents) (buffer_index x y pixel : ℕ) (new default : BufferContents)
    → buffer_index < length buffers
    → plane_of new ≡ (λ i j. if has_point (get_or buffers buffer_index default) x y && (i == x && j == y) then pixel else plane_of (get_or buffers buffer_index default) i j)
    → (place i j : ℕ) → planes (slice_set buffers buffer_index new) place i j ≡ put (points_of buffers) buffer_index x y pixel (planes buffers) place i j
put_at buffers buffer_index x y pixel new default below changed place i j =
    let old : BufferContents = get_or buffers buffer_index default in
    let found : slice_get buffers buffer_index ≡ Some old = slice_get-get_or buffers buffer_index default below in
    elim (cases_eq place buffer_index) [
      | inl e ↦
          let same : (place == buffer_index) ≡ true = grind (arith, nat_tests) in
          let left : planes (slice_set buffers buffer_index new) place i j ≡ plane_of new i j =
          ap (λ n. plane_of_any (slice_get (set buffers buffer_index new) n) i j) e ∙ ap (λ o. plane_of_any o i j) (get_changed buffers buffer_index new old below) in
          let right : planes buffers place i j ≡ plane_of old i j =
          ap (λ n. plane_of_any (slice_get buffers n) i j) e ∙ ap (λ o. plane_of_any o i j) found in
          let there : points_of buffers buffer_index x y ≡ has_point old x y = ap (λ o. has_point_of_any o x y) found in
          left ∙ ap (λ (plane : ℕ → ℕ → ℕ). plane i j) changed ∙ rw (same, right, there) refl
      | inr apart ↦
          let other : (place == buffer_index) ≡ false = grind (arith, nat_tests, apart) in
          ap (λ o. plane_of_any o i j) (get_other buffers buffer_index place new apart) ∙ elsewhere (points_of buffers) buffer_index x y pixel (planes buffers) place i j other
    ]

pub put_one : (buffers : List BufferContents) (buffer_index x y pixel : ℕ) (new default : BufferContents)
    → buffer_index < length buffers
    → plane_of new ≡ (λ i j. if has_point (get_or buffers buffer_index default) x y && (i == x && j == y) then pixel else plane_of (get_or buffers buffer_index default) i j)
    → planes (slice_set buffers buffer_index new) ≡ put (points_of buffers) buffer_index x y pixel (planes buffers)
put_one buffers buffer_index x y pixel new default below changed =
    fun_ext (λ place. fun_ext (λ i. fun_ext (λ j. put_at buffers buffer_index x y pixel new default below changed place
    i j)))

pub put_none : (buffers : List BufferContents) (buffer_index x y pixel : ℕ) → length buffers ≤ buffer_index
    → planes buffers ≡ put (points_of buffers) buffer_index x y pixel (planes buffers)
put_none buffers buffer_index x y pixel above =
    let missing : points_of buffers buffer_index x y ≡ false = ap (λ o. has_point_of_any o x y) (slice_get_past buffers buffer_index above) in
    fun_ext (λ place. fun_ext (λ i. fun_ext (λ j. rw missing refl)))

pub points_stay : (buffers : List BufferContents) (buffer_index : ℕ) (new default : BufferContents)
    → buffer_index < length buffers
    → has_point new ≡ has_point (get_or buffers buffer_index default)
    → points_of (slice_set buffers buffer_index new) ≡ points_of buffers
points_stay buffers buffer_index new default below same = fun_ext (λ place. elim (cases_eq place buffer_index) [
  | inl e ↦
      ap (λ n. has_point_of_any (slice_get (set buffers buffer_index new) n)) e ∙ ap has_point_of_any (get_changed buffers buffer_index new new below)
      ∙ same ∙ sym (ap (λ n. has_point_of_any (slice_get buffers n)) e ∙ ap has_point_of_any (slice_get-get_or buffers buffer_index default below))
  | inr apart ↦ ap has_point_of_any (get_other buffers buffer_index place new apart)
])
