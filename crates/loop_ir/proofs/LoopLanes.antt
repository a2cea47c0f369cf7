-- What the lanes of each kind of statement are, in terms of its parts, and that what they touch is what soundness asks about.
use Rattle.std.proofs.Common.{◌≡◌, ℕ, Bool, ap, sym, subst, ◌∙◌}
use Rattle.halide_pipeline.specs.Pixel.{Reads}
use Rattle.halide_pipeline.specs.Points.{Point}
use Rattle.loop_ir.specs.declared.expressions.Counter.{Counter}
use Rattle.loop_ir.specs.declared.statements.LoopKind.{LoopKind}
use Rattle.loop_ir.specs.declared.statements.Store.{Store}
use Rattle.loop_ir.specs.declared.statements.Whole.{Whole}
use Rattle.loop_ir.specs.declared.statements.Stmt.{Stmt, ind-Stmt, fold-roll-Stmt, roll-Stmt, map-Stmt}
use Rattle.loop_ir.specs.declared.statements.Stmt.TheOpen.{Stmt-F}
use Rattle.loop_ir.specs.declared.statements.Stmt.TheOpen as layer
use Rattle.loop_ir.specs.declared.statements.Stmt.TheVariants.{rolls-Store, rolls-Sequence, rolls-For, rolls-Bind}
use Rattle.loop_ir.specs.declared.statements.Stmt.TheVariants as s
use Rattle.loop_ir.specs.Buffers.{Points}
use Rattle.loop_ir.specs.Counters.{Values}
use Rattle.loop_ir.specs.Soundness.{is_sound, is_sound_at}
use Rattle.loop_ir.specs.LoopLanes.{LoopLanes, loop_lanes, lanes_at, LanesTouchWhatIsSound}

module _ (reads : Reads) where
  abbrev of : Stmt → LoopLanes
  of = loop_lanes reads

  pub lanes_store : (store : Store) → loop_lanes reads (s.Store store) ≡ lanes_at reads (layer.Store store)
  unfolding loop_lanes
  lanes_store store = ap of (sym (rolls-Store store)) ∙ fold-roll-Stmt LoopLanes (lanes_at reads) (layer.Store store)

  pub lanes_sequence : (first second : Stmt) → loop_lanes reads (s.Sequence first second) ≡ lanes_at reads (layer.Sequence (loop_lanes reads first)
      (loop_lanes reads second))
  unfolding loop_lanes
  lanes_sequence first second = ap of (sym (rolls-Sequence first second)) ∙ fold-roll-Stmt LoopLanes (lanes_at reads) (layer.Sequence first second)

  pub lanes_of_loop : (counter : Counter) (count : ℕ) (kind : LoopKind) (body : Stmt) → loop_lanes reads (s.For counter count kind body)
      ≡ lanes_at reads (layer.For counter count kind (loop_lanes reads body))
  unfolding loop_lanes
  lanes_of_loop counter count kind body = ap of (sym (rolls-For counter count kind body))
      ∙ fold-roll-Stmt LoopLanes (lanes_at reads) (layer.For counter count kind body)

  pub lanes_bind : (counter : Counter) (whole : Whole) (extent : ℕ) (body : Stmt) → loop_lanes reads (s.Bind counter whole extent body)
      ≡ lanes_at reads (layer.Bind counter whole extent (loop_lanes reads body))
  unfolding loop_lanes
  lanes_bind counter whole extent body = ap of (sym (rolls-Bind counter whole extent body))
      ∙ fold-roll-Stmt LoopLanes (lanes_at reads) (layer.Bind counter whole extent body)

  -- ---- what they touch

  module _ (written : Points) (loaded : Point → Bool) where
    abbrev Touches : LoopLanes → Values → Bool
    Touches own = own.touches written loaded

    abbrev Sound : Stmt → Values → Bool
    Sound = is_sound reads written loaded

    abbrev Holds : Stmt → Type 0
    Holds statement = Touches (loop_lanes reads statement) ≡ Sound statement

    by_fold : (level : Stmt-F Stmt) → Sound (roll-Stmt level) ≡ is_sound_at reads written loaded (map-Stmt Stmt (Values → Bool) Sound level)
    unfolding is_sound
    by_fold level = fold-roll-Stmt (Values → Bool) (is_sound_at reads written loaded) level

    at_store : (store : Store) → Holds (s.Store store)
    at_store store = ap Touches (lanes_store store) ∙ sym (by_fold (layer.Store store)) ∙ ap Sound (rolls-Store store)

    at_sequence : (first second : Stmt) → Holds first → Holds second → Holds (s.Sequence first second)
    at_sequence first second one two =
        ap Touches (lanes_sequence first second)
        ∙ ap {A = Values → Bool} {B = Values → Bool} (λ test. is_sound_at reads written loaded (layer.Sequence test (Touches (loop_lanes reads second)))) one
        ∙ ap {A = Values → Bool} {B = Values → Bool} (λ test. is_sound_at reads written loaded (layer.Sequence (Sound first) test)) two
        ∙ sym (by_fold (layer.Sequence first second)) ∙ ap Sound (rolls-Sequence first second)

    at_for : (counter : Counter) (count : ℕ) (kind : LoopKind) (body : Stmt) → Holds body → Holds (s.For counter count kind body)
    at_for counter count kind body holds =
        ap Touches (lanes_of_loop counter count kind body)
        ∙ ap {A = Values → Bool} {B = Values → Bool} (λ test. is_sound_at reads written loaded (layer.For counter count kind test)) holds
        ∙ sym (by_fold (layer.For counter count kind body)) ∙ ap Sound (rolls-For counter count kind body)

    at_bind : (counter : Counter) (whole : Whole) (extent : ℕ) (body : Stmt) → Holds body → Holds (s.Bind counter whole extent body)
    at_bind counter whole extent body holds =
        ap Touches (lanes_bind counter whole extent body)
        ∙ ap {A = Values → Bool} {B = Values → Bool} (λ test. is_sound_at reads written loaded (layer.Bind counter whole extent test)) holds
        ∙ sym (by_fold (layer.Bind counter whole extent body)) ∙ ap Sound (rolls-Bind counter whole extent body)

    by_layer : (X : Type 0) (part : X → Stmt) → ((x : X) → Holds (part x)) → (y : Stmt-F X) → Holds (roll-Stmt (map-Stmt X Stmt part y))
    by_layer X part holds (layer.Store store) = subst Holds (sym (rolls-Store store)) (at_store store)
    by_layer X part holds (layer.Sequence a b) = subst Holds (sym (rolls-Sequence (part a) (part b))) (at_sequence (part a) (part b) (holds a) (holds b))
    by_layer X part holds (layer.For counter count kind a) = subst Holds (sym (rolls-For counter count kind (part a))) (at_for counter count kind (part a)
        (holds a))
    by_layer X part holds (layer.Bind counter whole extent a) = subst Holds (sym (rolls-Bind counter whole extent (part a))) (at_bind counter whole extent
        (part a) (holds a))

    pub touches_are : (statement : Stmt) → Holds statement
    touches_are = ind-Stmt Holds (λ x y is. subst (λ (l : Stmt-F Stmt). Holds (roll-Stmt l)) is (by_layer _ (λ e. e.0) (λ e. e.1) y))

pub lanes_touch : LanesTouchWhatIsSound
lanes_touch reads written loaded statement values = ap (λ (test : Values → Bool). test values) (touches_are reads written loaded statement)
