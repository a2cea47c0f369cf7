-- Reads of a table.
use Rattle.std.proofs.Common.{◌≡◌, ℕ, zero, suc, ◌+◌, ◌*◌, ◌^◌, ◌<◌, ◌≤◌, List, [], ◌∷◌, ◌++◌, length, Some, ◌⊎◌, inl, inr, subst, get_or, refl, sym}
use Rattle.std.proofs.Common.{ap, ◌∙◌, arith}
use Rattle.std.proofs.Math.Nat.{mul-le-mul_right}
use Rattle.halide_pipeline.specs.Words as word
use Rattle.picture.specs.declared.scenes.UpdatedPixels.{UpdatedPixels}
use Rattle.picture.specs.declared.scenes.Table.{Table}
use Rattle.halide_pipeline.specs.Pixel.{Plane}
use Rattle.picture.specs.inner.Evaluation.{IsTable, AreTablesOf, AreKnownOf, IsKnown, plane_in}
use Rattle.halide_pipeline.specs.Contents.{PictureContents}
use Rattle.halide_pipeline.specs.declared.definitions.Func.{Func}
use Rattle.std.specs.Prelude.{slice_get}

-- a corner, and what it takes from there
pub add-subtract : (x corner : ℕ) → x < 2 ^ 32 → corner < 2 ^ 32 → word.add corner (word.subtract x corner) ≡ x
unfolding word.add word.subtract
add-subtract x corner fits corner_fits = omega arith

pub pixel_at_place : (table : Table) (plane : Plane) (x y column row at : ℕ) → IsTable plane table → x < 2 ^ 32 → y < 2 ^ 32 → table.left < 2 ^ 32
    → table.top < 2 ^ 32
    → column ≡ word.subtract x table.left → row ≡ word.subtract y table.top → column < table.width → row < table.height → at ≡ row * table.pitch + column
    → (at < length table.pixels.items) × (get_or table.pixels.items at 0 ≡ plane x y)
pixel_at_place table plane x y column row at is fits_x fits_y fits_left fits_top column_is row_is wide high at_is =
    let w = table.pitch in
    let more : suc row * w ≤ table.height * w = mul-le-mul_right w high in
    let one : suc row * w ≡ row * w + w = omega arith in
    let turned : table.height * w ≡ w * table.height = omega arith in
    let within : row * w + column < length table.pixels.items = omega (arith, is.are.len, is.are.wide, wide, more, one, turned) in
    let there = is.are.each column row wide high
    ∙ ap (λ (n : ℕ). plane (word.add table.left n) (word.add table.top row)) column_is
    ∙ ap (λ (n : ℕ). plane (word.add table.left (word.subtract x table.left)) (word.add table.top n)) row_is
    ∙ ap (λ (n : ℕ). plane n (word.add table.top (word.subtract y table.top))) (add-subtract x table.left fits_x fits_left)
    ∙ ap (plane x) (add-subtract y table.top fits_y fits_top) in
    (omega (arith, within, at_is), ap (λ (n : ℕ). get_or table.pixels.items n 0) at_is ∙ there)

-- ---- tables, one after the other

-- an item after others
got : {X : Type 0} (tables : List X) (table : X) (func_index : ℕ) (other : X) → slice_get (tables ++ table ∷ []) func_index ≡ Some other
    → (slice_get tables func_index ≡ Some other) ⊎ ((func_index ≡ length tables) × (table ≡ other))
got [] table zero other at = inr (refl, cc)
got [] table (suc func_index) other at = absurd cc
got (first ∷ tables) table zero other at = inl at
got (first ∷ tables) table (suc func_index) other at = elim (got tables table func_index other at) [
  | inl before ↦ inl before
  | inr last ↦ inr (ap suc last.0, last.1)
]

pub one_more_table : (funcs : List Func) (pictures : List PictureContents) (tables next : List Table) (table : Table) → AreTablesOf funcs pictures tables
    → IsTable (plane_in funcs pictures (length tables)) table → next ≡ tables ++ table ∷ []
    → AreTablesOf funcs pictures next
one_more_table funcs pictures tables next table are is e =
    subst (λ (all : List Table). AreTablesOf funcs pictures all) (sym e) (record {
      each = λ func_index other at. by_place func_index other (got tables table func_index other
          at);
    })
  where
    by_place : (func_index : ℕ) (other : Table) → (slice_get tables func_index ≡ Some other) ⊎ ((func_index ≡ length tables) × (table ≡ other))
        → IsTable (plane_in funcs pictures func_index) other
    by_place func_index other (inl before) = are.each func_index other before
    by_place func_index other (inr last) =
        subst (λ (t : Table). IsTable (plane_in funcs pictures func_index) t) last.1 (subst (λ (at : ℕ). IsTable (plane_in funcs pictures at) table) (sym last.0) is)

-- an item of a list
pub item-is : {X : Type 0} (items : List X) (at : ℕ) (item : X) → item ≡ get_or items at item → at < length items → slice_get items at ≡ Some item
item-is [] at item is less = absurd (omega arith)
item-is (first ∷ items) zero item is less = cc
item-is (first ∷ items) (suc at) item is less = item-is items at item is (omega arith)

-- ---- what updates come to, one after the other

pub known-at : (funcs : List Func) (pictures : List PictureContents) (known : List UpdatedPixels) (at : ℕ) (one : UpdatedPixels) (func_index updates : ℕ)
    → AreKnownOf funcs pictures known
    → one ≡ get_or known at one → at < length known → one.own ≡ func_index → one.updates ≡ updates → IsKnown funcs pictures func_index updates one
known-at funcs pictures known at one func_index updates are is less own_is updates_is =
    subst (λ (n : ℕ). IsKnown funcs pictures n updates one) own_is
    (subst (λ (n : ℕ). IsKnown funcs pictures one.own n one) updates_is (are.each at one (item-is known at one is less)))

pub one_more_known : (funcs : List Func) (pictures : List PictureContents) (known next : List UpdatedPixels) (one : UpdatedPixels) → AreKnownOf funcs pictures known
    → IsKnown funcs pictures one.own one.updates one → next ≡ known ++ one ∷ [] → AreKnownOf funcs pictures next
one_more_known funcs pictures known next one are is e =
    subst (λ (all : List UpdatedPixels). AreKnownOf funcs pictures all) (sym e) (record { each = λ at other there. by_place at other (got known one at other there) })
  where
    by_place : (at : ℕ) (other : UpdatedPixels) → (slice_get known at ≡ Some other) ⊎ ((at ≡ length known) × (one ≡ other))
        → IsKnown funcs pictures other.own other.updates other
    by_place at other (inl before) = are.each at other before
    by_place at other (inr last) = subst (λ (k : UpdatedPixels). IsKnown funcs pictures k.own k.updates k) last.1 is
