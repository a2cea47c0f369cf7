-- Pixels and slices that threads computed, put into one list.
use Rattle.std.proofs.Common.{◌≡◌, ℕ, zero, suc, ◌+◌, ◌<◌, length, get_or, arith, List, [], ◌∷◌, map, Vec, Result, Ok, Err, refl, sym, ap, subst}
use Rattle.std.specs.Prelude.{IfOk, MatchResult, Some, slice_get}
use Rattle.std.specs.List.{AllZip, Contains, range_with_len}
use Rattle.std.specs.declared.alloc.AllocError.{AllocError}
use Rattle.std.specs.declared.alloc.Global.{Global}
use Rattle.picture.specs.declared.scenes.Slice.{Slice}
use Rattle.picture.specs.declared.scenes.Table.{Table}
use Rattle.halide_pipeline.specs.Contents.{PictureContents}
use Rattle.halide_pipeline.specs.declared.definitions.Func.{Func}
use Rattle.halide_pipeline.specs.Pixel.{Plane}
use Rattle.picture.specs.inner.Evaluation.{AreBoxes, IsTable, IsSliceOf, AreSlicesOf}

zip_ok : {X : Type 0} (R : ℕ → X → Type 0) (places : List ℕ) (values : List X) → AllZip (λ at (r : Result X AllocError). IfOk r (R at)) places (map Ok values)
    → AllZip R places values
zip_ok R [] [] zip = zip
zip_ok R [] (value ∷ values) zip = zip
zip_ok R (at ∷ places) [] zip = zip
zip_ok R (at ∷ places) (value ∷ values) zip = (zip.0, zip_ok R places values zip.1)

pub collected : {X : Type 0} (R : ℕ → X → Type 0) (places : List ℕ) (results : List (Result X AllocError)) (answer : Result (Vec X Global) AllocError)
    → MatchResult answer (λ v. (values : List X) × (results ≡ map Ok values) × (v.items ≡ values)) (λ e. Contains results (Err e))
    → AllZip (λ at r. IfOk r (R at)) places results → IfOk answer (λ v. AllZip R places v.items)
collected {X} R places results (Ok v) made zip =
    let all = zip_ok R places made.0 (subst (λ (rs : List (Result X AllocError)). AllZip (λ at r. IfOk r (R at)) places rs) made.1 zip) in
    subst (λ (values : List X). AllZip R places values) (sym made.2) all
collected R places results (Err e) made zip = tt

-- what is zipped with the numbers from 0 on is as long, and has at each place what stands for its number
filled_from : (R : ℕ → ℕ → Type 0) (from count : ℕ) (values : List ℕ) → AllZip R (range_with_len from count) values → (length values ≡ count) × ((at : ℕ)
    → at < count → R (from + at) (get_or values at 0))
filled_from R from zero [] zip = (refl, λ at less. absurd (omega arith))
filled_from R from zero (value ∷ values) zip = absurd zip
filled_from R from (suc count) [] zip = absurd zip
filled_from R from (suc count) (value ∷ values) zip =
    let rest = filled_from R (from + 1) count values zip.1 in
    (ap suc rest.0, by_place R from count value values zip.0 rest.1)
  where
    by_place : (R : ℕ → ℕ → Type 0) (from count value : ℕ) (values : List ℕ) → R from value → ((at : ℕ) → at < count → R (from + 1 + at) (get_or values at 0))
        → (at : ℕ) → at < suc count → R (from + at) (get_or (value ∷ values) at 0)
    by_place R from count value values first rest zero less = let e : from + 0 ≡ from = omega arith in rw e first
    by_place R from count value values first rest (suc at) less = let e : from + suc at ≡ from + 1 + at = omega arith in rw e (rest at (omega arith))

-- what is zipped with numbers
each_zipped : {X : Type 0} (P : X → Type 0) (places : List ℕ) (values : List X) → AllZip (λ at s. P s) places values → (at : ℕ) (value : X)
    → slice_get values at ≡ Some value → P value
each_zipped P places [] zip at value is = absurd cc
each_zipped P [] (first ∷ values) zip at value is = absurd zip
each_zipped P (place ∷ places) (first ∷ values) zip zero value is = let e : first ≡ value = cc in subst P e zip.0
each_zipped P (place ∷ places) (first ∷ values) zip (suc at) value is = each_zipped P places values zip.1 at value is

pub slices_collected : (funcs : List Func) (pictures : List PictureContents) (func_index updates : ℕ) (places : List ℕ) (answer : Result (Vec Slice Global) AllocError)
    → IfOk answer (λ v. AllZip (λ at slice. IsSliceOf funcs pictures func_index updates slice) places v.items)
    → IfOk answer (λ v. AreSlicesOf funcs pictures func_index updates v.items)
slices_collected funcs pictures func_index updates places (Ok v) zip = record { each = each_zipped (IsSliceOf funcs pictures func_index updates) places v.items zip }
slices_collected funcs pictures func_index updates places (Err e) zip = tt

pub boxes_collected : (plane : Plane) (places : List ℕ) (answer : Result (Vec Table Global) AllocError)
    → IfOk answer (λ v. AllZip (λ at table. IsTable plane table) places v.items) → IfOk answer (λ v. AreBoxes plane v.items)
boxes_collected plane places (Ok v) zip = record { each = each_zipped (IsTable plane) places v.items zip }
boxes_collected plane places (Err e) zip = tt
