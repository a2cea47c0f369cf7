-- A table holds the sizes of the loops of its splits.
use Rattle.std.proofs.Common.{◌≡◌, ℕ, zero, suc, ◌+◌, ◌-◌, ◌*◌, ◌^◌, ◌<◌, ◌≤◌, Bool, true, false, not, List, [], ◌∷◌, ◌++◌, length, get_or, take, drop, None}
use Rattle.std.proofs.Common.{refl, sym, ap, subst, ◌∙◌, arith, inl, inr, length-append}
use Rattle.std.specs.Prelude.{◌&&◌, ◌||◌, nat_le, slice_get}
use Rattle.std.specs.List.{AllByRecursion, list_all}
use Rattle.std.specs.Int.{div_ceil}
use Rattle.std.proofs.lemmas.Bool.{cases_eq, eq-eqb, ne_eqb}
use Rattle.std.proofs.lemmas.Grind.{div_ceil_times}
use Rattle.std.proofs.lemmas.List.{append-nil}
use Rattle.std.proofs.lemmas.List.Folds.{list_all-append}
use Rattle.std.proofs.lemmas.Nat.{mul-le}
use Rattle.std.proofs.Math.Nat.{le-div_iff_mul-le, div-lt_iff_lt-mul}
use Rattle.schedule_lines.specs.declared.stages.LoopId.{LoopId}
use Rattle.schedule_lines.specs.declared.stages.LoopId.TheVariants as ids
use Rattle.schedule_lines.specs.declared.stages.Split.{Split}
use Rattle.schedule_lines.specs.Directives.{is_shift}
use Rattle.schedule_loops.specs.declared.extents.Extents.{Extents}
use Rattle.schedule_loops.specs.declared.sizes.LoopSize.{LoopSize}
use Rattle.schedule_loops.specs.declared.sizes.SizedSplit.{SizedSplit}
use Rattle.schedule_loops.specs.Visits.{Values, outer_extent, whole_counts, more_counts, counts_from, whole_strides, more_strides, strides_from, more_uneven}
use Rattle.schedule_loops.specs.Visits.{uneven_from, shift_fits, shifts_fit_from, IsFactor, AreSplits}
use Rattle.schedule_loops.specs.inner.Table.{looked_up, outer_of, inner_of, no_size, row_of, rows_from, splits_of, row_fits, IsTable, IsKept, stride_limit}
use Rattle.schedule_loops.specs.inner.Table.{AreBounded}
use Rattle.schedule_loops.proofs.Linear.{even}
use Rattle.schedule_loops.proofs.Lists.{first_of_rest, get_last, get_other}

-- ---- a quotient rounded up

pub ceiling : (a b : ℕ) → 1 ≤ b → div_ceil a b ≡ outer_extent a b
ceiling a b some =
    let t = div_ceil_times a b some in
    let up : div_ceil a b * b ≤ a + (b - 1) = omega (arith, t.1) in
    let low : div_ceil a b ≤ outer_extent a b = (le-div_iff_mul-le {k = b} {x = div_ceil a b} {y = a + (b - 1)} some).1 up in
    let e : suc (div_ceil a b) * b ≡ div_ceil a b * b + b = omega arith in
    let over : a + (b - 1) < suc (div_ceil a b) * b = omega (arith, t.0, e) in
    let high : outer_extent a b < suc (div_ceil a b) = (div-lt_iff_lt-mul {k = b} {x = a + (b - 1)} {y = suc (div_ceil a b)} some).1 over in
    omega (arith, low, high)

-- ---- each row

abbrev pub sized : Values → Values → (LoopId → Bool) → LoopId → LoopSize
sized counts strides uneven id = record { count = counts id; stride = strides id; is_uneven = uneven id }

-- the table holds these numbers
abbrev pub IsRight : Extents → List SizedSplit → Values → Values → (LoopId → Bool) → Type 0
IsRight extents rows counts strides uneven = (id : LoopId) → looked_up extents rows id ≡ sized counts strides uneven id

module _ (extents : Extents) (rows : List SizedSplit) (counts strides : Values) (uneven : LoopId → Bool) (right : IsRight extents rows counts strides uneven)
    (split : Split) where
  abbrev row : SizedSplit
  row = row_of (looked_up extents rows split.of) split

  abbrev of_split : LoopSize → SizedSplit
  of_split size = row_of size split

  outer_is : row.outer ≡ record {
    count = outer_extent (counts split.of) split.factor;
    stride = strides split.of * split.factor;
    is_uneven = uneven split.of
        || is_shift split.tail;
  }
  outer_is = ap (λ (size : LoopSize). (of_split size).outer) (right split.of)

  inner_is : row.inner ≡ record { count = split.factor; stride = strides split.of; is_uneven = uneven split.of }
  inner_is = ap (λ (size : LoopSize). (of_split size).inner) (right split.of)

  pub fits_is : row_fits row ≡ shift_fits counts split
  fits_is = ap (λ (size : LoopSize). not (is_shift split.tail) || nat_le split.factor size.count) (right split.of)

  right_outer : (at : ℕ) → looked_up extents (rows ++ row ∷ []) (ids.Outer at) ≡ sized (more_counts counts (length rows) split)
      (more_strides strides (length rows) split) (more_uneven uneven (length rows) split) (ids.Outer at)
  right_outer at = elim (cases_eq at (length rows)) [
    | inl e ↦ rw (eq-eqb at (length rows) e) (ap (λ (n : ℕ). outer_of (slice_get (rows ++ row ∷ []) n)) e ∙ ap outer_of (get_last rows row) ∙ outer_is)
    | inr d ↦ rw (ne_eqb at (length rows) d) (ap outer_of (get_other rows row at (λ e. d (sym e))) ∙ right (ids.Outer at))
  ]

  right_inner : (at : ℕ) → looked_up extents (rows ++ row ∷ []) (ids.Inner at) ≡ sized (more_counts counts (length rows) split)
      (more_strides strides (length rows) split) (more_uneven uneven (length rows) split) (ids.Inner at)
  right_inner at = elim (cases_eq at (length rows)) [
    | inl e ↦ rw (eq-eqb at (length rows) e) (ap (λ (n : ℕ). inner_of (slice_get (rows ++ row ∷ []) n)) e ∙ ap inner_of (get_last rows row) ∙ inner_is)
    | inr d ↦ rw (ne_eqb at (length rows) d) (ap inner_of (get_other rows row at (λ e. d (sym e))) ∙ right (ids.Inner at))
  ]

  pub right_more : IsRight extents (rows ++ row ∷ []) (more_counts counts (length rows) split) (more_strides strides (length rows) split)
      (more_uneven uneven (length rows) split)
  right_more (ids.Whole v) = right (ids.Whole v)
  right_more (ids.Outer at) = right_outer at
  right_more (ids.Inner at) = right_inner at

pub right_from : (splits : List Split) (extents : Extents) (rows : List SizedSplit) (place : ℕ) (counts strides : Values) (uneven : LoopId → Bool)
    → place ≡ length rows → IsRight extents rows counts strides uneven
    → IsRight extents (rows_from extents rows splits) (counts_from counts place splits) (strides_from strides place splits) (uneven_from uneven place splits)
right_from [] extents rows place counts strides uneven e right = right
right_from (split ∷ splits) extents rows place counts strides uneven e right =
    let row : SizedSplit = row_of (looked_up extents rows split.of) split in
    let longer : suc place ≡ length (rows ++ row ∷ []) = omega (arith, e, length-append rows (row ∷ [])) in
    right_from splits extents (rows ++ row_of (looked_up extents rows split.of) split ∷ []) (suc place) (more_counts counts place split)
    (more_strides strides place split) (more_uneven uneven place split) longer
    (subst (λ (n : ℕ). IsRight extents (rows ++ row_of (looked_up extents rows split.of) split ∷ []) (more_counts counts n split) (more_strides strides n split)
    (more_uneven uneven n split)) (sym e)
    (right_more extents rows counts strides uneven right split))

get_none : {A : Type 0} (i : ℕ) → slice_get {X = A} [] i ≡ None
get_none zero = refl
get_none (suc i) = refl

right_begun : (extents : Extents) → IsRight extents [] (whole_counts extents) whole_strides even
right_begun extents (ids.Whole v) = refl
right_begun extents (ids.Outer at) = ap outer_of (get_none at)
right_begun extents (ids.Inner at) = ap inner_of (get_none at)

-- a table has the sizes of the loops of its splits
pub right_table : (extents : Extents) (rows : List SizedSplit) → IsTable extents rows
    → IsRight extents rows (counts_from (whole_counts extents) 0 (splits_of rows)) (strides_from whole_strides 0 (splits_of rows))
    (uneven_from even 0 (splits_of rows))
right_table extents rows is =
    subst (λ (r : List SizedSplit). IsRight extents r (counts_from (whole_counts extents) 0 (splits_of rows)) (strides_from whole_strides 0 (splits_of rows))
    (uneven_from even 0 (splits_of rows))) is
    (right_from (splits_of rows) extents [] 0 (whole_counts extents) whole_strides even refl (right_begun extents))

-- ---- shifts

and_true : (a : Bool) → a ≡ (a && true)
and_true true = refl
and_true false = refl

and_regrouped : (a b c : Bool) → ((a && (b && true)) && c) ≡ (a && (b && c))
and_regrouped true true c = refl
and_regrouped true false c = refl
and_regrouped false b c = refl

pub fit_from : (splits : List Split) (extents : Extents) (rows : List SizedSplit) (place : ℕ) (counts strides : Values) (uneven : LoopId → Bool)
    → place ≡ length rows → IsRight extents rows counts strides uneven
    → list_all row_fits (rows_from extents rows splits) ≡ (list_all row_fits rows && shifts_fit_from counts place splits)
fit_from [] extents rows place counts strides uneven e right = and_true (list_all row_fits rows)
fit_from (split ∷ splits) extents rows place counts strides uneven e right =
    let row : SizedSplit = row_of (looked_up extents rows split.of) split in
    let longer : suc place ≡ length (rows ++ row ∷ []) = omega (arith, e, length-append rows (row ∷ [])) in
    fit_from splits extents (rows ++ row_of (looked_up extents rows split.of) split ∷ []) (suc place) (more_counts counts place split)
    (more_strides strides place split) (more_uneven uneven place split) longer
    (subst (λ (n : ℕ). IsRight extents (rows ++ row_of (looked_up extents rows split.of) split ∷ []) (more_counts counts n split) (more_strides strides n split)
    (more_uneven uneven n split)) (sym e)
    (right_more extents rows counts strides uneven right split))
    ∙ ap (λ (b : Bool). b && shifts_fit_from (more_counts counts place split) (suc place) splits) (list_all-append row_fits rows (row ∷ []))
    ∙ ap (λ (b : Bool). (list_all row_fits rows && (b && true)) && shifts_fit_from (more_counts counts place split) (suc place) splits)
    (fits_is extents rows counts strides uneven right split)
    ∙ and_regrouped (list_all row_fits rows) (shift_fits counts split) (shifts_fit_from (more_counts counts place split) (suc place) splits)

pub table_fits : (extents : Extents) (rows : List SizedSplit) → IsTable extents rows
    → list_all row_fits rows ≡ shifts_fit_from (whole_counts extents) 0 (splits_of rows)
table_fits extents rows is =
    ap (list_all row_fits) (sym is)
    ∙ fit_from (splits_of rows) extents [] 0 (whole_counts extents) whole_strides even refl (right_begun extents)

-- ---- strides stay small

pub bounded_begun : (extents : Extents) → AreBounded extents []
bounded_begun extents (ids.Whole v) = omega arith
bounded_begun extents (ids.Outer at) = let e : looked_up extents [] (ids.Outer at) ≡ no_size = ap outer_of (get_none at) in
    omega (arith, ap (λ (s : LoopSize). s.stride) e)
bounded_begun extents (ids.Inner at) = let e : looked_up extents [] (ids.Inner at) ≡ no_size = ap inner_of (get_none at) in
    omega (arith, ap (λ (s : LoopSize). s.stride) e)

module _ (extents : Extents) (rows : List SizedSplit) (bounded : AreBounded extents rows) (split : Split) (few : split.factor ≤ 64) where
  abbrev new : SizedSplit
  new = row_of (looked_up extents rows split.of) split

  last_limit : stride_limit (length (rows ++ new ∷ [])) ≡ stride_limit (length rows) * 64
  last_limit = let e : length (rows ++ new ∷ []) ≡ suc (length rows) = omega (arith, length-append rows (new ∷ [])) in ap stride_limit e

  pub new_stride : (looked_up extents rows split.of).stride * split.factor ≤ stride_limit (length rows) * 64
  new_stride = mul-le (looked_up extents rows split.of).stride split.factor (stride_limit (length rows)) 64 (bounded split.of) few

  still : (id : LoopId) → (looked_up extents rows id).stride ≤ stride_limit (length (rows ++ new ∷ []))
  still id = omega (arith, last_limit, bounded id)

  pub bounded_more : AreBounded extents (rows ++ new ∷ [])
  bounded_more (ids.Whole v) = still (ids.Whole v)
  bounded_more (ids.Outer at) = elim (cases_eq at (length rows)) [
    | inl e ↦
        let s : looked_up extents (rows ++ new ∷ []) (ids.Outer at) ≡ new.outer = ap (λ (n : ℕ). outer_of (slice_get (rows ++ new ∷ []) n)) e
        ∙ ap outer_of (get_last rows new) in
        omega (arith, ap (λ (size : LoopSize). size.stride) s, new_stride, last_limit)
    | inr d ↦
        let s : looked_up extents (rows ++ new ∷ []) (ids.Outer at) ≡ looked_up extents rows (ids.Outer at) =
        ap outer_of (get_other rows new at (λ e. d (sym e))) in
        omega (arith, ap (λ (size : LoopSize). size.stride) s, still (ids.Outer at))
  ]
  bounded_more (ids.Inner at) = elim (cases_eq at (length rows)) [
    | inl e ↦
        let s : looked_up extents (rows ++ new ∷ []) (ids.Inner at) ≡ new.inner = ap (λ (n : ℕ). inner_of (slice_get (rows ++ new ∷ []) n)) e
        ∙ ap inner_of (get_last rows new) in
        omega (arith, ap (λ (size : LoopSize). size.stride) s, still split.of)
    | inr d ↦
        let s : looked_up extents (rows ++ new ∷ []) (ids.Inner at) ≡ looked_up extents rows (ids.Inner at) =
        ap inner_of (get_other rows new at (λ e. d (sym e))) in
        omega (arith, ap (λ (size : LoopSize). size.stride) s, still (ids.Inner at))
  ]

pub limit_below : (n : ℕ) → n < 4 → stride_limit n * 64 < 2 ^ 32
limit_below zero l = omega arith
limit_below (suc zero) l = omega arith
limit_below (suc (suc zero)) l = omega arith
limit_below (suc (suc (suc zero))) l = omega arith
limit_below (suc (suc (suc (suc n)))) l = absurd (omega arith)

bounded_from : (splits : List Split) (extents : Extents) (rows : List SizedSplit) → AllByRecursion IsFactor splits → AreBounded extents rows
    → AreBounded extents (rows_from extents rows splits)
bounded_from [] extents rows factors bounded = bounded
bounded_from (split ∷ splits) extents rows factors bounded =
    bounded_from splits extents (rows ++ row_of (looked_up extents rows split.of) split ∷ []) factors.1 (bounded_more extents rows bounded split factors.0.few)

limit_most : (n : ℕ) → n ≤ 4 → stride_limit n ≤ 64 ^ 4
limit_most zero l = omega arith
limit_most (suc zero) l = omega arith
limit_most (suc (suc zero)) l = omega arith
limit_most (suc (suc (suc zero))) l = omega arith
limit_most (suc (suc (suc (suc zero)))) l = omega arith
limit_most (suc (suc (suc (suc (suc n))))) l = absurd (omega arith)

length_splits : (rows : List SizedSplit) → length (splits_of rows) ≡ length rows
length_splits [] = refl
length_splits (first ∷ rows) = omega (arith, length_splits rows)

-- each stride of a table is small
pub few_strides : (extents : Extents) (rows : List SizedSplit) → IsKept extents rows → (id : LoopId) → (looked_up extents rows id).stride ≤ 64 ^ 4
few_strides extents rows kept id =
    let b : AreBounded extents rows = subst (AreBounded extents) kept.table (bounded_from (splits_of rows) extents [] kept.splits.factors
    (bounded_begun extents)) in
    omega (arith, b id, limit_most (length rows) (omega (arith, length_splits rows, kept.splits.few)))

-- ---- a loop that makes the table

pub record RowsLeft (extents : Extents) (splits : List Split) (rows : List SizedSplit) (rest : List Split) : Type 0 where
  pub made : rows_from extents rows rest ≡ rows_from extents [] splits
  pub all : splits_of rows ++ rest ≡ splits
  pub factors : AllByRecursion IsFactor rest
  pub few : length rows + length rest ≤ 4
  pub bounded : AreBounded extents rows

splits_more : (rows : List SizedSplit) (added : SizedSplit) (rest : List Split) → splits_of (rows ++ added ∷ []) ++ rest ≡ splits_of rows ++ added.split ∷ rest
splits_more [] added rest = refl
splits_more (first ∷ rows) added rest = ap (λ (xs : List Split). first.split ∷ xs) (splits_more rows added rest)

pub one_more : (extents : Extents) (splits : List Split) (rows : List SizedSplit) (split : Split) (rest : List Split)
    → RowsLeft extents splits rows (split ∷ rest)
    → RowsLeft extents splits (rows ++ row_of (looked_up extents rows split.of) split ∷ []) rest
one_more extents splits rows split rest left = record {
  made = left.made;
  all = splits_more rows (row_of (looked_up extents rows split.of) split) rest ∙ left.all;
  factors = left.factors.1;
  few = omega (arith, left.few, length-append rows (row_of (looked_up extents rows split.of) split ∷ []));
  bounded = bounded_more extents rows left.bounded split left.factors.0.few;
}

-- where a loop takes the first of the splits that are left
module _ (extents : Extents) (splits : List Split) (rows : List SizedSplit) (rest : List Split) (other : Split) (some : 1 ≤ length rest)
    (left : RowsLeft extents splits rows rest) (seen : List SizedSplit) (size : LoopSize) (seen_is : seen ≡ rows)
    (size_is : size ≡ looked_up extents seen (get_or rest 0 other).of) where
  abbrev first : Split
  first = get_or rest 0 other

  found : size ≡ looked_up extents rows first.of
  found = size_is ∙ ap (λ (r : List SizedSplit). looked_up extents r first.of) seen_is

  parted : RowsLeft extents splits rows (first ∷ take (length rest - 1) (drop 1 rest))
  parted = subst (RowsLeft extents splits rows) (first_of_rest rest other some) left

  pub next_fits : size.stride * (get_or rest 0 other).factor < 2 ^ 32
  next_fits =
      let l : length rows < 4 = omega (arith, parted.few) in
      let s : size.stride * first.factor ≡ (looked_up extents rows first.of).stride * first.factor = ap (λ (z : LoopSize). z.stride * first.factor) found in
      omega (arith, s, new_stride extents rows parted.bounded first parted.factors.0.few, limit_below (length rows) l)

  pub next_row : (added : SizedSplit) (longer : List SizedSplit) → added ≡ row_of size (get_or rest 0 other) → longer ≡ rows ++ added ∷ []
      → RowsLeft extents splits longer (take (length rest - 1) (drop 1 rest))
  next_row added longer row_is new_is =
      subst (λ (r : List SizedSplit). RowsLeft extents splits r (take (length rest - 1) (drop 1 rest)))
      (sym (new_is ∙ ap (λ (r : SizedSplit). rows ++ r ∷ []) (row_is ∙ ap (λ (z : LoopSize). row_of z first) found)))
      (one_more extents splits rows first (take (length rest - 1) (drop 1 rest)) parted)

pub all_rows : (extents : Extents) (splits : List Split) (rows : List SizedSplit) → RowsLeft extents splits rows [] → splits_of rows ≡ splits
all_rows extents splits rows left = sym (append-nil (splits_of rows)) ∙ left.all

pub is_kept : (extents : Extents) (splits : List Split) (rows : List SizedSplit) → AreSplits splits → RowsLeft extents splits rows [] → IsKept extents rows
is_kept extents splits rows are left =
    let all : splits_of rows ≡ splits = all_rows extents splits rows left in
    record { table = ap (rows_from extents []) all ∙ sym left.made; splits = subst AreSplits (sym all) are }
