-- Stores of runs without clamps that cut nothing off, where nothing is known of bytes.
use Rattle.std.proofs.Common.{◌≡◌, ℕ, List, [], ◌∷◌, ap, ◌∙◌, sym, subst, arith}
use Rattle.std.specs.Prelude.{slice_index_or}
use Rattle.halide_pipeline.specs.declared.expressions.Source.{Source}
use Rattle.halide_pipeline.specs.declared.expressions.Source.TheVariants as sources
use Rattle.halide_pipeline.specs.Pixel.{Reads}
use Rattle.halide_pipeline.specs.Points.{Point}
use Rattle.loop_ir.specs.declared.expressions.Expr.{Expr}
use Rattle.loop_ir.specs.declared.statements.Store.{Store}
use Rattle.loop_ir.specs.Counters.{Values}
use Rattle.loop_ir.specs.Expressions.{loads}
use Rattle.task_code_scalar.specs.declared.layouts.Places.{Places}
use Rattle.task_code_scalar.specs.Code.{nowhere, pixel_bytes, place_of}
use Rattle.task_code_loops.specs.declared.bounds.Bound.{Bound}
use Rattle.task_code_loops.specs.declared.known.KnownSum.{KnownSum}
use Rattle.task_code_loops.specs.Bounds.{AreBelow}
use Rattle.task_code_loops.specs.Known.{AreKnown}
use Rattle.task_code_clamps.specs.Clamps.{AreBytesAt}
use Rattle.task_code_clamps.specs.Clamps as clamps
use Rattle.task_code_clamps.specs.Ranges.{IsByte}
use Rattle.task_code_names.specs.declared.names.Named.{Named}
use Rattle.task_code_names.specs.Alike.{IsAlike, IsAlikeStore}
use Rattle.task_code_names.specs.Names.{AreNames, IsNamedStore}
use Rattle.task_code_names.proofs.Alike.{store-then}
use Rattle.task_code_statements.specs.declared.contexts.Context.{Context}
use Rattle.task_code_statements.specs.Contexts.{Meets}
use Rattle.task_code_statements.specs.Making.{IsUnclampedStore}

-- ---- buffers that hold no bytes

module _ (places : Places) (none : places.inputs ≡ []) where
  no-byte : (source : Source) (v : ℕ) → IsByte places source v
  no-byte (sources.Input k) v = λ bytes.
      let words : (place_of places (sources.Input k)).pixels ≡ nowhere.pixels = ap (λ inputs. (slice_index_or inputs k nowhere).pixels) none in
      let e : 4 ≡ 1 = ap pixel_bytes (sym words ∙ bytes) in
      omega (arith, e)
  no-byte (sources.Func k) v = tt

  no-bytes : (reads : Reads) (points : List Point) → AreBytesAt places reads points
  no-bytes reads [] = tt
  no-bytes reads (point ∷ points) = (no-byte point.source (reads point.source point.x point.y), no-bytes reads points)

  expr-below : (bounds : List Bound) (own made : Expr) → clamps.IsSame places bounds own made → IsAlike (AreBelow bounds) own made
  expr-below bounds own made is = record {
    value_is = λ reads values below. is.value_is reads values below (no-bytes reads (loads reads values own));
    loads_are = λ reads values below. is.loads_are reads values below (no-bytes reads (loads reads values own));
  }

  store-below : (bounds : List Bound) (own made : Store) → clamps.IsSameStore places bounds own made → IsAlikeStore (AreBelow bounds) own made
  store-below bounds own made is = record {
    func_is = is.func_is;
    column = expr-below bounds own.x made.x is.column;
    row = expr-below bounds own.y made.y is.row;
    pixel = expr-below bounds own.value made.value is.pixel;
  }

-- ---- where more is so

expr-under : (is_so more_so : Values → Type 0) (expression new_expression : Expr) → ((values : Values) → more_so values → is_so values) → IsAlike is_so expression new_expression
    → IsAlike more_so expression new_expression
expr-under is_so more_so expression new_expression so is = record {
  value_is = λ reads values more. is.value_is reads values (so values more);
  loads_are = λ reads values more. is.loads_are reads values (so values more);
}

store-under : (is_so more_so : Values → Type 0) (new_store made : Store) → ((values : Values) → more_so values → is_so values) → IsAlikeStore is_so new_store made
    → IsAlikeStore more_so new_store made
store-under is_so more_so new_store made so is = record {
  func_is = is.func_is;
  column = expr-under is_so more_so new_store.x made.x so is.column;
  row = expr-under is_so more_so new_store.y made.y so is.row;
  pixel = expr-under is_so more_so new_store.value made.value so is.pixel;
}

pub run-store : (places : Places) (context : Context) (known : List KnownSum) (bounds : List Bound) (names : List Named) (store plain new_store : Store)
    → places.inputs ≡ [] → known ≡ context.known.items → bounds ≡ context.bounds.items → names ≡ context.names.items
    → IsUnclampedStore places known bounds store plain → IsNamedStore names plain new_store → IsAlikeStore (Meets context) store new_store
run-store places context known bounds names store plain new_store none ek eb en is named =
    store-under (λ values. (AreKnown known values × AreBelow bounds values) × AreNames names values) (Meets context) store new_store
    (λ values meets. (
      (subst (λ k. AreKnown k values) (sym ek) meets.known, subst (λ b. AreBelow b values) (sym eb) meets.below),
      subst (λ n. AreNames n values) (sym en) meets.named,
    ))
    (store-then (λ values. AreKnown known values × AreBelow bounds values) (AreNames names) store plain new_store
    (store-then (AreKnown known) (AreBelow bounds) store is.middle plain is.by_others (store-below places none bounds is.middle plain is.without_clamps)) named)
