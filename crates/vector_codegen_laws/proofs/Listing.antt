-- What is at a place of the layout's lists.
use Rattle.std.proofs.Common.{◌≡◌, ℕ, zero, suc, ◌+◌, ◌*◌, ◌/◌, ◌%◌, ◌<◌, ◌≤◌, List, [], ◌∷◌, length, map, Option, Some, None, true, false, Bool, refl, ap, ◌∙◌}
use Rattle.std.proofs.Common.{arith}
use Rattle.std.specs.Prelude.{slice_get, slice_index, slice_index_or, if◌then◌else◌}
use Rattle.std.specs.List.{AllByRecursion}
use Rattle.halide_pipeline.specs.declared.definitions.Input.{Input}
use Rattle.schedule.specs.declared.placements.ComputeLevel.{ComputeLevel as Standpoint}
use Rattle.schedule.specs.declared.placements.ComputeLevel.TheVariants as standpoints
use Rattle.schedule.specs.declared.placements.FuncPlacement.{FuncPlacement}
use Rattle.bounds.specs.declared.boxes.SourceBox.{SourceBox}
use Rattle.bounds.specs.Extents.{points}
use Rattle.bounds.specs.Layout.{input_bytes, root_bytes, private_bytes, root_sizes, private_sizes, placed}
use Rattle.task_code_scalar.specs.Code.{nowhere}
use Rattle.vector_codegen_laws.specs.Places.{input_place, input_places, func_place, func_places}

pub there-below : {X : Type 0} (xs : List X) (k : ℕ) (x : X) → slice_get xs k ≡ Some x → k < length xs
there-below [] k x e = absurd (cc e)
there-below (y ∷ xs) zero x e = omega arith
there-below (y ∷ xs) (suc k) x e = let l = there-below xs k x e in omega (arith, l)

pub placed-length : (start : ℕ) (sizes : List ℕ) → length (placed start sizes) ≡ length sizes
placed-length start [] = refl
placed-length start (size ∷ sizes) = ap suc (placed-length (start + size) sizes)

-- ---- inputs

pub input-at : (ats : List ℕ) (inputs : List Input) (k : ℕ) (input : Input) → slice_get inputs k ≡ Some input → length inputs ≤ length ats
    → slice_index_or (input_places ats inputs) k nowhere ≡ input_place (slice_index ats k) input
input-at ats [] k input e l = absurd (cc e)
input-at [] (first ∷ inputs) k input e l = absurd (omega (arith, l))
input-at (at ∷ ats) (first ∷ inputs) zero input e l = let q : first ≡ input = cc e in ap (input_place at) q
input-at (at ∷ ats) (first ∷ inputs) (suc k) input e l = input-at ats inputs k input e (omega (arith, l))

pub input-size : (inputs : List Input) (k : ℕ) (input : Input) → slice_get inputs k ≡ Some input → slice_index (map input_bytes inputs) k ≡ input_bytes input
input-size [] k input e = absurd (cc e)
input-size (first ∷ inputs) zero input e = let q : first ≡ input = cc e in ap input_bytes q
input-size (first ∷ inputs) (suc k) input e = input-size inputs k input e

pub sizes-length : (inputs : List Input) → length (map input_bytes inputs) ≡ length inputs
sizes-length [] = refl
sizes-length (input ∷ inputs) = ap suc (sizes-length inputs)

rounded : (n : ℕ) → (n + 3) / 4 * 4 % 4 ≡ 0
rounded n = omega arith

input-four : (input : Input) (b : Bool) → (if b then (input.width * input.height + 3) / 4 * 4 else input.width * input.height * 4) % 4 ≡ 0
input-four input true = rounded (input.width * input.height)
input-four input false = omega arith

pub inputs-four : (inputs : List Input) → AllByRecursion (λ size. size % 4 ≡ 0) (map input_bytes inputs)
inputs-four [] = tt
inputs-four (input ∷ inputs) = (input-four input input.is_bytes, inputs-four inputs)

-- ---- Funcs

pub func-at : (standings : List FuncPlacement) (boxes : List (Option SourceBox)) (roots privates : List ℕ) (k : ℕ) (standing : FuncPlacement) (own : Option SourceBox)
    → slice_get standings k ≡ Some standing → slice_get boxes k ≡ Some own → k < length roots → k < length privates
    → slice_index_or (func_places standings boxes roots privates) k nowhere ≡ func_place standing.place own (slice_index roots k) (slice_index privates k)
func-at [] boxes roots privates k standing own e f l m = absurd (cc e)
func-at (s ∷ ss) [] roots privates k standing own e f l m = absurd (cc f)
func-at (s ∷ ss) (b ∷ bs) [] privates k standing own e f l m = absurd (omega (arith, l))
func-at (s ∷ ss) (b ∷ bs) (r ∷ rs) [] k standing own e f l m = absurd (omega (arith, m))
func-at (s ∷ ss) (b ∷ bs) (r ∷ rs) (q ∷ qs) zero standing own e f l m =
    let es : s ≡ standing = cc e in
    let eb : b ≡ own = cc f in
    ap (λ z. func_place z.place b r q) es ∙ ap (λ z. func_place standing.place z r q) eb
func-at (s ∷ ss) (b ∷ bs) (r ∷ rs) (q ∷ qs) (suc k) standing own e f l m = func-at ss bs rs qs k standing own e f (omega (arith, l)) (omega (arith, m))

pub root-size : (standings : List FuncPlacement) (boxes : List (Option SourceBox)) (k : ℕ) (standing : FuncPlacement) (own : Option SourceBox)
    → slice_get standings k ≡ Some standing → slice_get boxes k ≡ Some own
    → slice_index (root_sizes standings boxes) k ≡ root_bytes standing.place own
root-size [] boxes k standing own e f = absurd (cc e)
root-size (s ∷ ss) [] k standing own e f = absurd (cc f)
root-size (s ∷ ss) (b ∷ bs) zero standing own e f =
    let es : s ≡ standing = cc e in
    let eb : b ≡ own = cc f in
    ap (λ z. root_bytes z.place b) es ∙ ap (root_bytes standing.place) eb
root-size (s ∷ ss) (b ∷ bs) (suc k) standing own e f = root-size ss bs k standing own e f

pub private-size : (standings : List FuncPlacement) (boxes : List (Option SourceBox)) (k : ℕ) (standing : FuncPlacement) (own : Option SourceBox)
    → slice_get standings k ≡ Some standing → slice_get boxes k ≡ Some own
    → slice_index (private_sizes standings boxes) k ≡ private_bytes standing.place own
private-size [] boxes k standing own e f = absurd (cc e)
private-size (s ∷ ss) [] k standing own e f = absurd (cc f)
private-size (s ∷ ss) (b ∷ bs) zero standing own e f =
    let es : s ≡ standing = cc e in
    let eb : b ≡ own = cc f in
    ap (λ z. private_bytes z.place b) es ∙ ap (private_bytes standing.place) eb
private-size (s ∷ ss) (b ∷ bs) (suc k) standing own e f = private-size ss bs k standing own e f

pub root-below : (standings : List FuncPlacement) (boxes : List (Option SourceBox)) (k : ℕ) → k < length standings → k < length boxes
    → k < length (root_sizes standings boxes)
root-below [] boxes k l m = absurd (omega (arith, l))
root-below (s ∷ ss) [] k l m = absurd (omega (arith, m))
root-below (s ∷ ss) (b ∷ bs) zero l m = omega arith
root-below (s ∷ ss) (b ∷ bs) (suc k) l m = let r = root-below ss bs k (omega (arith, l)) (omega (arith, m)) in omega (arith, r)

pub private-below : (standings : List FuncPlacement) (boxes : List (Option SourceBox)) (k : ℕ) → k < length standings → k < length boxes
    → k < length (private_sizes standings boxes)
private-below [] boxes k l m = absurd (omega (arith, l))
private-below (s ∷ ss) [] k l m = absurd (omega (arith, m))
private-below (s ∷ ss) (b ∷ bs) zero l m = omega arith
private-below (s ∷ ss) (b ∷ bs) (suc k) l m = let r = private-below ss bs k (omega (arith, l)) (omega (arith, m)) in omega (arith, r)

root-four : (place : Standpoint) (own : Option SourceBox) → root_bytes place own % 4 ≡ 0
root-four standpoints.Root (Some own) = omega arith
root-four standpoints.Root None = refl
root-four standpoints.Inlined own = refl
root-four (standpoints.At at) own = refl
root-four standpoints.Nowhere own = refl

private-four : (place : Standpoint) (own : Option SourceBox) → private_bytes place own % 4 ≡ 0
private-four (standpoints.At at) (Some own) = let n = points own in let e : n * 4 * 8 ≡ 4 * (n * 8) = omega arith in omega (arith, e)
private-four (standpoints.At at) None = refl
private-four standpoints.Inlined own = refl
private-four standpoints.Root own = refl
private-four standpoints.Nowhere own = refl

pub roots-four : (standings : List FuncPlacement) (boxes : List (Option SourceBox)) → AllByRecursion (λ size. size % 4 ≡ 0) (root_sizes standings boxes)
roots-four [] boxes = tt
roots-four (s ∷ ss) [] = tt
roots-four (s ∷ ss) (b ∷ bs) = (root-four s.place b, roots-four ss bs)

pub privates-four : (standings : List FuncPlacement) (boxes : List (Option SourceBox)) → AllByRecursion (λ size. size % 4 ≡ 0) (private_sizes standings boxes)
privates-four [] boxes = tt
privates-four (s ∷ ss) [] = tt
privates-four (s ∷ ss) (b ∷ bs) = (private-four s.place b, privates-four ss bs)
