-- Which points a statement's run stores at, in terms of its parts.
use Rattle.std.proofs.Common.{◌≡◌, ℕ, zero, suc, Bool, true, false, refl, ap, ◌∙◌, sym, subst}
use Rattle.std.specs.Prelude.{◌==◌, ◌&&◌, ◌||◌, if◌then◌else◌, nat_lt}
use Rattle.halide_pipeline.specs.Pixel.{Planes, reads_of}
use Rattle.loop_ir.specs.declared.expressions.Counter.{Counter}
use Rattle.loop_ir.specs.declared.statements.LoopKind.{LoopKind}
use Rattle.loop_ir.specs.declared.statements.Store.{Store}
use Rattle.loop_ir.specs.declared.statements.Whole.{Whole}
use Rattle.loop_ir.specs.declared.statements.Stmt.{Stmt, ind-Stmt, fold-roll-Stmt, roll-Stmt, map-Stmt}
use Rattle.loop_ir.specs.declared.statements.Stmt.TheOpen.{Stmt-F}
use Rattle.loop_ir.specs.declared.statements.Stmt.TheOpen as layer
use Rattle.loop_ir.specs.declared.statements.Stmt.TheVariants.{rolls-Store, rolls-Sequence, rolls-For, rolls-Bind}
use Rattle.loop_ir.specs.declared.statements.Stmt.TheVariants as s
use Rattle.loop_ir.specs.Buffers.{Points}
use Rattle.loop_ir.specs.Counters.{Values, with}
use Rattle.loop_ir.specs.Expressions.{value}
use Rattle.loop_ir.specs.Running.{run, iterated, whole_value}
use Rattle.loop_ir.specs.Stores.{Trace, trace, trace_at, is_stored_by}
use Rattle.loop_ir.proofs.Trees.{run_store, run_sequence, run_for, run_bind}

-- points of Funcs
abbrev pub Hits : Type 1
Hits = ℕ → ℕ → ℕ → Type 0

-- what buffers hold so far, and whether the point was stored
abbrev mark : Planes → Bool → Trace
mark funcs is_stored = record { funcs = funcs; is_stored = is_stored }

or-false : (b : Bool) → b ≡ (b || false)
or-false true = refl
or-false false = refl

or-or : (a b c : Bool) → ((a || b) || c) ≡ (a || (b || c))
or-or true b c = refl
or-or false b c = refl

module _ (points : Points) (inputs : Planes) (func x y : ℕ) where
  abbrev traced : Stmt → Values → Trace → Trace
  traced = trace points inputs func x y

  abbrev pub hit : Stmt → Values → Planes → Bool
  hit statement values funcs = is_stored_by points inputs func x y statement values funcs

  trace-store : (store : Store) (values : Values) (t : Trace) → traced (s.Store store) values t ≡ trace_at points inputs func x y (layer.Store store) values t
  unfolding trace
  trace-store store values t =
      ap (λ statement. traced statement values t) (sym (rolls-Store store))
      ∙ ap (λ (made : Values → Trace → Trace). made values t) (fold-roll-Stmt (Values → Trace → Trace) (trace_at points inputs func x y) (layer.Store store))

  trace-sequence : (first second : Stmt) (values : Values) (t : Trace) → traced (s.Sequence first second) values t
      ≡ traced second values (traced first values t)
  unfolding trace
  trace-sequence first second values t =
      ap (λ statement. traced statement values t) (sym (rolls-Sequence first second))
      ∙ ap (λ (made : Values → Trace → Trace). made values t) (fold-roll-Stmt (Values → Trace
      → Trace) (trace_at points inputs func x y) (layer.Sequence first second))

  trace-for : (counter : Counter) (count : ℕ) (kind : LoopKind) (body : Stmt) (values : Values) (t : Trace)
      → traced (s.For counter count kind body) values t ≡ iterated count (λ iteration. traced body (with counter iteration values)) t
  unfolding trace
  trace-for counter count kind body values t =
      ap (λ statement. traced statement values t) (sym (rolls-For counter count kind body))
      ∙ ap (λ (made : Values → Trace → Trace). made values t) (fold-roll-Stmt (Values → Trace
      → Trace) (trace_at points inputs func x y) (layer.For counter count kind body))

  trace-bind : (counter : Counter) (whole : Whole) (extent : ℕ) (body : Stmt) (values : Values) (t : Trace)
      → traced (s.Bind counter whole extent body) values t ≡ (if nat_lt (whole_value whole values) extent then traced body
      (with counter (whole_value whole values) values) t else t)
  unfolding trace
  trace-bind counter whole extent body values t =
      ap (λ statement. traced statement values t) (sym (rolls-Bind counter whole extent body))
      ∙ ap (λ (made : Values → Trace → Trace). made values t) (fold-roll-Stmt (Values → Trace
      → Trace) (trace_at points inputs func x y) (layer.Bind counter whole extent body))

  -- its own run's points come after those so far
  abbrev Adds : Stmt → Type 0
  Adds statement = (values : Values) (funcs : Planes) (so_far : Bool) → traced statement values (mark funcs so_far)
      ≡ mark (run points inputs statement values funcs) (so_far || hit statement values funcs)

  pub hit-store : (store : Store) (values : Values) (funcs : Planes)
      → hit (s.Store store) values funcs ≡ (store.func == func && (value (reads_of inputs funcs) values store.x == x && value (reads_of inputs funcs) values
      store.y == y))
  hit-store store values funcs = ap (λ (t : Trace). t.is_stored) (trace-store store values (mark funcs false))

  adds-store : (store : Store) → Adds (s.Store store)
  adds-store store values funcs so_far =
      trace-store store values (mark funcs so_far)
      ∙ ap (λ p. mark p (so_far || (store.func == func && (value (reads_of inputs funcs) values store.x == x && value (reads_of inputs funcs) values store.y
      == y)))) (sym (run_store points inputs store values funcs))
      ∙ ap (λ b. mark (run points inputs (s.Store store) values funcs) (so_far || b)) (sym (hit-store store values funcs))

  both-parts : (first second : Stmt) → Adds first → Adds second → (values : Values) (funcs : Planes) (so_far : Bool)
      → traced (s.Sequence first second) values (mark funcs so_far)
      ≡ mark (run points inputs second values (run points inputs first values funcs)) ((so_far || hit first values funcs)
      || hit second values (run points inputs first values funcs))
  both-parts first second one two values funcs so_far =
      trace-sequence first second values (mark funcs so_far)
      ∙ ap (traced second values) (one values funcs so_far)
      ∙ two values (run points inputs first values funcs) (so_far || hit first values funcs)

  hit-both : (first second : Stmt) → Adds first → Adds second → (values : Values) (funcs : Planes)
      → hit (s.Sequence first second) values funcs ≡ (hit first values funcs || hit second values (run points inputs first values funcs))
  hit-both first second one two values funcs = ap (λ (t : Trace). t.is_stored) (both-parts first second one two values funcs false)

  adds-sequence : (first second : Stmt) → Adds first → Adds second → Adds (s.Sequence first second)
  adds-sequence first second one two values funcs so_far =
      both-parts first second one two values funcs so_far
      ∙ ap (λ p. mark p ((so_far || hit first values funcs) || hit second values (run points inputs first values funcs)))
      (sym (run_sequence points inputs first second values funcs))
      ∙ ap (mark (run points inputs (s.Sequence first second) values funcs))
      (or-or so_far (hit first values funcs) (hit second values (run points inputs first values funcs))
      ∙ ap (λ b. so_far || b) (sym (hit-both first second one two values funcs)))

  -- ---- iterations of a loop

  module _ (body : Stmt) (at : ℕ → Values) where
    abbrev pub made : ℕ → Planes → Planes
    made n funcs = iterated n (λ iteration. run points inputs body (at iteration)) funcs

    abbrev pub marked : ℕ → Trace → Trace
    marked n t = iterated n (λ iteration. traced body (at iteration)) t

    abbrev pub hit_before : ℕ → Planes → Bool
    hit_before n funcs = (marked n (mark funcs false)).is_stored

    iterations-add : (n : ℕ) → Adds body → (funcs : Planes) (so_far : Bool) → marked n (mark funcs so_far) ≡ mark (made n funcs) (so_far || hit_before n funcs)
    unfolding iterated
    iterations-add zero adds funcs so_far = ap (mark funcs) (or-false so_far)
    iterations-add (suc n) adds funcs so_far =
        let one = iterations-add n adds funcs so_far in
        let zero-one = iterations-add n adds funcs false in
        let next : hit_before (suc n) funcs ≡ (hit_before n funcs || hit body (at n) (made n funcs)) =
        ap (λ (t : Trace). (traced body (at n) t).is_stored) zero-one ∙ ap (λ (t : Trace). t.is_stored) (adds (at n) (made n funcs) (hit_before n funcs)) in
        ap (traced body (at n)) one
        ∙ adds (at n) (made n funcs) (so_far || hit_before n funcs)
        ∙ ap (mark (run points inputs body (at n) (made n funcs)))
        (or-or so_far (hit_before n funcs) (hit body (at n) (made n funcs)) ∙ ap (λ b. so_far || b) (sym next))

    hit-next : (n : ℕ) → Adds body → (funcs : Planes) → hit_before (suc n) funcs ≡ (hit_before n funcs || hit body (at n) (made n funcs))
    unfolding iterated
    hit-next n adds funcs =
        ap (λ (t : Trace). (traced body (at n) t).is_stored) (iterations-add n adds funcs false)
        ∙ ap (λ (t : Trace). t.is_stored) (adds (at n) (made n funcs) (hit_before n funcs))

    hit-none : (funcs : Planes) → hit_before zero funcs ≡ false
    unfolding iterated
    hit-none funcs = refl

  hit-iterations : (counter : Counter) (count : ℕ) (kind : LoopKind) (body : Stmt) (values : Values) (funcs : Planes)
      → hit (s.For counter count kind body) values funcs ≡ hit_before body (λ iteration. with counter iteration values) count funcs
  hit-iterations counter count kind body values funcs = ap (λ (t : Trace). t.is_stored) (trace-for counter count kind body values (mark funcs false))

  adds-for : (counter : Counter) (count : ℕ) (kind : LoopKind) (body : Stmt) → Adds body → Adds (s.For counter count kind body)
  adds-for counter count kind body adds values funcs so_far =
      trace-for counter count kind body values (mark funcs so_far)
      ∙ iterations-add body (λ iteration. with counter iteration values) count adds funcs so_far
      ∙ ap (λ p. mark p (so_far || hit_before body (λ iteration. with counter iteration values) count funcs)) (sym (run_for points inputs counter count kind body values
      funcs))
      ∙ ap (λ b. mark (run points inputs (s.For counter count kind body) values funcs) (so_far || b)) (sym (hit-iterations counter count kind body values funcs))

  hit-test : (counter : Counter) (whole : Whole) (extent : ℕ) (body : Stmt) (values : Values) (funcs : Planes)
      → hit (s.Bind counter whole extent body) values funcs ≡ (if nat_lt (whole_value whole values) extent then hit body
      (with counter (whole_value whole values) values) funcs else false)
  hit-test counter whole extent body values funcs =
      ap (λ (t : Trace). t.is_stored) (trace-bind counter whole extent body values (mark funcs false)) ∙ chosen (nat_lt (whole_value whole values) extent)
    where
      chosen : (t : Bool) → (if t then traced body (with counter (whole_value whole values) values) (mark funcs false) else mark funcs false).is_stored
          ≡ (if t then hit body (with counter (whole_value whole values) values) funcs else false)
      chosen true = refl
      chosen false = refl

  adds-bind : (counter : Counter) (whole : Whole) (extent : ℕ) (body : Stmt) → Adds body → Adds (s.Bind counter whole extent body)
  adds-bind counter whole extent body adds values funcs so_far =
      trace-bind counter whole extent body values (mark funcs so_far)
      ∙ chosen (nat_lt (whole_value whole values) extent)
      ∙ ap (λ p. mark p (so_far || (if nat_lt (whole_value whole values) extent then hit body (with counter (whole_value whole values) values) funcs
      else false))) (sym (run_bind points inputs counter whole extent body values funcs))
      ∙ ap (λ b. mark (run points inputs (s.Bind counter whole extent body) values funcs) (so_far || b)) (sym (hit-test counter whole extent body values funcs))
    where
      chosen : (t : Bool) → (if t then traced body (with counter (whole_value whole values) values) (mark funcs so_far) else mark funcs so_far)
          ≡ mark (if t then run points inputs body (with counter (whole_value whole values) values) funcs else funcs) (so_far
          || (if t then hit body (with counter (whole_value whole values) values) funcs else false))
      chosen true = adds (with counter (whole_value whole values) values) funcs so_far
      chosen false = ap (mark funcs) (or-false so_far)

  by-layer : (X : Type 0) (part : X → Stmt) → ((p : X) → Adds (part p)) → (l : Stmt-F X) → Adds (roll-Stmt (map-Stmt X Stmt part l))
  by-layer X part adds (layer.Store store) = subst Adds (sym (rolls-Store store)) (adds-store store)
  by-layer X part adds (layer.Sequence a b) = subst Adds (sym (rolls-Sequence (part a) (part b))) (adds-sequence (part a) (part b) (adds a) (adds b))
  by-layer X part adds (layer.For counter count kind a) = subst Adds (sym (rolls-For counter count kind (part a))) (adds-for counter count kind (part a)
      (adds a))
  by-layer X part adds (layer.Bind counter whole extent a) = subst Adds (sym (rolls-Bind counter whole extent (part a))) (adds-bind counter whole extent
      (part a) (adds a))

  adds-all : (statement : Stmt) → Adds statement
  adds-all = ind-Stmt Adds (λ l t is. subst (λ (k : Stmt-F Stmt). Adds (roll-Stmt k)) is (by-layer _ (λ e. e.0) (λ e. e.1) t))

  -- ---- what a run's points are

  pub hit-sequence : (first second : Stmt) (values : Values) (funcs : Planes)
      → hit (s.Sequence first second) values funcs ≡ (hit first values funcs || hit second values (run points inputs first values funcs))
  hit-sequence first second values funcs = hit-both first second (adds-all first) (adds-all second) values funcs

  pub hit-for : (counter : Counter) (count : ℕ) (kind : LoopKind) (body : Stmt) (values : Values) (funcs : Planes)
      → hit (s.For counter count kind body) values funcs ≡ hit_before body (λ iteration. with counter iteration values) count funcs
  hit-for = hit-iterations

  pub hit-later : (body : Stmt) (at : ℕ → Values) (n : ℕ) (funcs : Planes) → hit_before body at (suc n) funcs ≡ (hit_before body at n funcs
      || hit body (at n) (made body at n funcs))
  hit-later body at n funcs = hit-next body at n (adds-all body) funcs

  pub hit-first : (body : Stmt) (at : ℕ → Values) (funcs : Planes) → hit_before body at zero funcs ≡ false
  hit-first = hit-none

  pub hit-bind : (counter : Counter) (whole : Whole) (extent : ℕ) (body : Stmt) (values : Values) (funcs : Planes)
      → hit (s.Bind counter whole extent body) values funcs ≡ (if nat_lt (whole_value whole values) extent then hit body
      (with counter (whole_value whole values) values) funcs else false)
  hit-bind = hit-test
