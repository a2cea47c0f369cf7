-- Loops and splits around bodies keep it that lanes may be done at once.
use Rattle.std.proofs.Common.{◌≡◌, ℕ, zero, suc, ◌+◌, ◌-◌, ◌*◌, ◌<◌, ◌≤◌, ◌^◌, Bool, true, false, cond, List, [], ◌∷◌, ◌++◌, length, get_or, take, drop, refl}
use Rattle.std.proofs.Common.{sym, ap, subst, ◌∙◌, arith, true≢false}
use Rattle.std.specs.Prelude.{◌&&◌, ◌||◌, not, nat_le, nat_lt}
use Rattle.std.proofs.lemmas.Bool.Decides.{nat_tests}
use Rattle.std.proofs.Math.Nat.{mul-le-mul}
use Rattle.std.specs.List.{list_all, AllByRecursion}
use mathlib.Core.Path.{fun_ext}
use Rattle.halide_pipeline.specs.Pixel.{Reads}
use Rattle.halide_pipeline.specs.Points.{Point}
use Rattle.schedule_lines.specs.declared.stages.Loop.{Loop}
use Rattle.schedule_lines.specs.declared.stages.LoopId.{LoopId}
use Rattle.schedule_lines.specs.declared.stages.LoopId.TheVariants as ids
use Rattle.schedule_lines.specs.declared.stages.Split.{Split}
use Rattle.schedule_lines.specs.declared.stages.Tail.{Tail}
use Rattle.schedule_lines.specs.declared.stages.Tail.TheVariants as tails
use Rattle.schedule_lines.specs.Directives.{same_id}
use Rattle.schedule_loops.proofs.Ids.{same_id-true, same_id-self}
use Rattle.schedule_loops.proofs.Lists.{first_of_rest}
use Rattle.schedule_loops.specs.declared.extents.Extents.{Extents}
use Rattle.schedule_loops.specs.Visits as loops
use Rattle.schedule_loops.specs.Reach.{wholes}
use Rattle.schedule_loops.specs.Runs.{AreIterations, is_vectorized_loop}
use Rattle.schedule_loops.specs.Visits.{begin_of, whole_of, split_body, split_bodies}
use Rattle.loop_ir.specs.declared.expressions.Counter.{Counter}
use Rattle.loop_ir.specs.declared.statements.LoopKind.{LoopKind}
use Rattle.loop_ir.specs.declared.statements.Stmt.{Stmt}
use Rattle.loop_ir.specs.declared.statements.Stmt.TheOpen as layer
use Rattle.loop_ir.specs.declared.statements.Whole.{Whole}
use Rattle.loop_ir.specs.Counters.{Values, same_counter, with}
use Rattle.loop_ir.specs.LoopLanes.{LoopLanes, loop_lanes, lanes_at, may_be_at_once, is_lane_count, is_vectorized, everywhere, all_points, all_but, misses, are_apart}
use Rattle.loop_ir.specs.LoopLanes.{all_step_up, at_once_at}
use Rattle.loop_ir.specs.Running.{whole_value}
use Rattle.loop_ir.specs.Soundness.{every, is_sound}
use Rattle.loop_ir.proofs.LoopLanes.{touches_are}
use Rattle.lowering_nests.specs.Nests.{loops_of, put_loops, AreSmall, Repeats}
use Rattle.lowering_nests.specs.LoopLanes.{AllAreSmall, NeverFall, StepsUp, IsLeaf, MayBeAtOnce, LoadsNoneOf, MayBeVectorized, GoesAround, MayBeAround}
use Rattle.lowering_nests.specs.LoopLanes.{StoreMayBeVectorized, MayBeUnder}
use Rattle.lowering_nests.proofs.Repeating.{loops_with, sound_with}

-- ---- tests

every_passes : (n : ℕ) (test : ℕ → Bool) → ((iteration : ℕ) → iteration < n → test iteration ≡ true) → every n test ≡ true
unfolding every
every_passes zero test each = refl
every_passes (suc n) test each =
    ap (λ (b : Bool). b && test n) (every_passes n test (λ iteration below. each iteration (omega (arith, below)))) ∙ each n (omega arith)

and_true : (b : Bool) → (b && true) ≡ b
and_true true = refl
and_true false = refl

-- ---- counters that stay small, and iterations

pub small_with : (loop_counter : Counter) (n : ℕ) (values : Values) → n < 2 ^ 25 → AllAreSmall values → AllAreSmall (with loop_counter n values)
small_with loop_counter n values few are counter = by_test (same_counter counter loop_counter)
  where
    by_test : (b : Bool) → cond b n (values counter) < 2 ^ 25
    by_test true = few
    by_test false = are counter

module _ (counts : loops.Values) where
  iterations_with : (id : LoopId) (n : ℕ) → n < counts id → (all : List Loop) (iterations : loops.Values) → AreIterations counts all iterations
      → AreIterations counts all (loops.with id n iterations)
  iterations_with id n below [] iterations are = tt
  iterations_with id n below (first ∷ others) iterations are = (by_test (same_id first.id id) refl, iterations_with id n below others iterations are.1)
    where
      by_test : (b : Bool) → same_id first.id id ≡ b → cond b n (iterations first.id) < counts first.id
      by_test true e = subst (λ (i : LoopId). n < counts i) (sym (same_id-true first.id id e)) below
      by_test false e = are.0

  pub iterations_more : (stage_loop : Loop) (n : ℕ) → n < counts stage_loop.id → (outside : List Loop) (iterations : loops.Values) → AreIterations counts outside iterations
      → AreIterations counts (stage_loop ∷ outside) (loops.with stage_loop.id n iterations)
  iterations_more stage_loop n below outside iterations are =
      (subst (λ (b : Bool). cond b n (iterations stage_loop.id) < counts stage_loop.id) (sym (same_id-self stage_loop.id)) below, iterations_with stage_loop.id n below outside iterations are)

-- ---- loads of lanes

touches_none : (reads : Reads) (body : Stmt) (earlier later : Values)
    → (loop_lanes reads body).touches everywhere (misses (loop_lanes reads body) earlier) later ≡ is_sound reads everywhere (λ point. is_sound reads (all_but point)
    all_points body earlier) body later
touches_none reads body earlier later =
    ap (λ (test : Point → Bool). (loop_lanes reads body).touches everywhere test later)
    (fun_ext (λ (point : Point). ap (λ (own : Values → Bool). own earlier) (touches_are reads (all_but point) all_points body)))
    ∙ ap (λ (own : Values → Bool). own later) (touches_are reads everywhere (λ point. is_sound reads (all_but point) all_points body earlier) body)

-- ---- a loop

module _ (func : ℕ) (counts : loops.Values) (stage_loop : Loop) (body statement : Stmt) (kind : LoopKind) (kind_is : is_vectorized kind ≡ is_vectorized_loop stage_loop)
    (count : ℕ) (count_is : count ≡ counts stage_loop.id) (few : count < 2 ^ 25)
    (made_is : (reads : Reads) (values : Values) → may_be_at_once reads statement values ≡ at_once_at (layer.For (record { func = func; id = stage_loop.id }) count kind
    (loop_lanes reads body)) values) where
  abbrev at : Values → ℕ → Values
  at values iteration = with (record { func = func; id = stage_loop.id }) iteration values

  module _ (outside : List Loop) (inside : MayBeAtOnce func counts (stage_loop ∷ outside) body) (fine : is_vectorized_loop stage_loop ≡ true
      → MayBeVectorized func counts stage_loop outside body)
      (reads : Reads) (values : Values) (small : AllAreSmall values) (are : AreIterations counts outside (loops_of func values)) where
    in_task : (iteration : ℕ) → iteration < count → may_be_at_once reads body (at values iteration) ≡ true
    in_task iteration below =
        let l : iteration < counts stage_loop.id = omega (arith, below, count_is) in
        inside reads (at values iteration) (small_with (record { func = func; id = stage_loop.id }) iteration values (omega (arith, below, few)) small)
        (subst (AreIterations counts (stage_loop ∷ outside)) (sym (loops_with func stage_loop.id iteration values)) (iterations_more counts stage_loop iteration l outside (loops_of func values) are))

    abbrev at_once_part : Bool
    at_once_part = are_apart (loop_lanes reads body) (at values) count && all_step_up (loop_lanes reads body) (at values) count

    abbrev first_part : Bool → Bool
    first_part b = not b || (is_lane_count count && ((loop_lanes reads body).is_one_store && at_once_part))

    is_apart : MayBeVectorized func counts stage_loop outside body
        → are_apart (loop_lanes reads body) (at values) count ≡ true
    is_apart is = every_passes count _ (λ later below. every_passes later _ (λ earlier before.
        touches_none reads body (at values earlier) (at values later) ∙ is.apart reads values small are earlier later before (omega (arith, below, count_is))))

    lanes_never_fall : (iteration : ℕ) → NeverFall (at values iteration) (at values (iteration + 1))
    lanes_never_fall iteration counter = by_test (same_counter counter (record { func = func; id = stage_loop.id }))
      where
        by_test : (b : Bool) → cond b iteration (values counter) ≤ cond b (iteration + 1) (values counter)
        by_test true = omega arith
        by_test false = omega arith

    steps : MayBeVectorized func counts stage_loop outside body → all_step_up (loop_lanes reads body) (at values) count
        ≡ true
    steps is = every_passes (count - 1) _ (λ iteration below. is.steps_up reads (at values iteration) (at values (iteration + 1))
        (small_with (record { func = func; id = stage_loop.id }) iteration values (omega (arith, below, few)) small) (small_with (record { func = func; id = stage_loop.id })
        (iteration + 1) values (omega (arith, below, few)) small) (lanes_never_fall iteration))

    first_is : (b : Bool) → is_vectorized_loop stage_loop ≡ b → first_part b ≡ true
    first_is false e = refl
    first_is true e =
        let is = fine e in
        let n : is_lane_count count ≡ true = ap is_lane_count count_is ∙ is.count in
        ap (λ (b : Bool). b && ((loop_lanes reads body).is_one_store && at_once_part)) n
        ∙ ap (λ (b : Bool). b && at_once_part) (is.once reads) ∙ ap (λ (b : Bool). b && all_step_up (loop_lanes reads body) (at values) count) (is_apart is)
        ∙ steps is

    looped : may_be_at_once reads statement values ≡ true
    looped =
        made_is reads values
        ∙ ap (λ (b : Bool). first_part b && every count (λ iteration. may_be_at_once reads body (at values iteration))) (kind_is ∙ refl)
        ∙ ap (λ (b : Bool). b && every count (λ iteration. may_be_at_once reads body (at values iteration))) (first_is (is_vectorized_loop stage_loop) refl)
        ∙ every_passes count (λ iteration. may_be_at_once reads body (at values iteration)) in_task

  pub goes_around : GoesAround func counts stage_loop body statement
  goes_around outside inside fine reads values small are = looped outside inside fine reads values small are

-- ---- loops around a body

pub goes_around_more : (func : ℕ) (counts : loops.Values) (all : List Loop) (stage_loop : Loop) (statement inner body : Stmt) → 1 ≤ length all → stage_loop ≡ get_or all 0 stage_loop
    → GoesAround func counts stage_loop body inner
    → ((outside : List Loop) → MayBeAtOnce func counts (take (length all - 1) (drop 1 all) ++ outside) inner
    → MayBeAround func counts (take (length all - 1) (drop 1 all)) outside inner
    → MayBeAtOnce func counts outside statement)
    → (outside : List Loop) → MayBeAtOnce func counts (all ++ outside) body → MayBeAround func counts all outside body → MayBeAtOnce func counts outside statement
goes_around_more func counts all stage_loop statement inner body some is once others outside inside fine =
    let rest = take (length all - 1) (drop 1 all) in
    let front : stage_loop ∷ rest ≡ all = ap (λ (o : Loop). o ∷ rest) is ∙ sym (first_of_rest all stage_loop some) in
    let here : MayBeAtOnce func counts (stage_loop ∷ (rest ++ outside)) body = subst (λ (ls : List Loop). MayBeAtOnce func counts (ls ++ outside) body) (sym front)
    inside in
    let known : MayBeAround func counts (stage_loop ∷ rest) outside body = subst (λ (ls : List Loop). MayBeAround func counts ls outside body) (sym front) fine in
    others outside (once (rest ++ outside) here known.0) (not_vectorized rest known.1)
  where
    not_vectorized : (ls : List Loop) → AllByRecursion (λ other. is_vectorized_loop other ≡ false) ls → MayBeAround func counts ls outside inner
    not_vectorized [] none = tt
    not_vectorized (first ∷ others) none = (λ e. absurd (true≢false (sym e ∙ none.0)), none.1)

-- ---- splits

rising : (a b k : ℕ) → a ≤ b → a * k ≤ b * k
rising a b k l = mul-le-mul l (omega arith)

-- where an iteration of the outer loop begins doesn't fall
begin_rises : (tail : Tail) (factor extent a b : ℕ) → a ≤ b → begin_of tail factor extent a ≤ begin_of tail factor extent b
begin_rises tails.Guard factor extent a b l = rising a b factor l
begin_rises tails.Shift factor extent a b l = let r = rising a b factor l in omega (arith, r)

is_at_most : (a b : ℕ) → a ≤ b → nat_le a b ≡ true
is_at_most a b l = grind (arith, nat_tests, l)

is_below : (a b : ℕ) → nat_lt a b ≡ true → a < b
is_below a b t = grind (arith, nat_tests)

module _ (counter : Counter) (whole : Whole) (extent : ℕ) (body statement : Stmt)
    (made_is : (reads : Reads) → loop_lanes reads statement ≡ lanes_at reads (layer.Bind counter whole extent (loop_lanes reads body)))
    (few : extent < 2 ^ 25) (rises : (now next : Values) → AllAreSmall now → AllAreSmall next → NeverFall now next
    → whole_value whole now ≤ whole_value whole next) where
  never_fall_with : (a b : ℕ) (now next : Values) → a ≤ b → NeverFall now next → NeverFall (with counter a now) (with counter b next)
  never_fall_with a b now next l never other = by_test (same_counter other counter)
    where
      by_test : (t : Bool) → cond t a (now other) ≤ cond t b (next other)
      by_test true = l
      by_test false = never other

  steps_bound : StepsUp body → StepsUp statement
  steps_bound steps reads now next small_now small_next never = ap (λ (r : LoopLanes). r.steps_up now next) (made_is reads)
      ∙ by_test (nat_lt (whole_value whole next) extent) refl
    where
      up : whole_value whole now ≤ whole_value whole next
      up = rises now next small_now small_next never

      inner : whole_value whole next < extent → (loop_lanes reads body).steps_up (with counter (whole_value whole now) now) (with counter (whole_value whole next)
          next) ≡ true
      inner below =
          steps reads (with counter (whole_value whole now) now) (with counter (whole_value whole next) next)
          (small_with counter (whole_value whole now) now (omega (arith, up, below, few)) small_now) (small_with counter (whole_value whole next) next
          (omega (arith, below, few)) small_next)
          (never_fall_with (whole_value whole now) (whole_value whole next) now next up never)

      by_test : (t : Bool) → nat_lt (whole_value whole next) extent ≡ t
          → cond t (nat_le (whole_value whole now) (whole_value whole next) && (loop_lanes reads body).steps_up (with counter (whole_value whole now) now)
          (with counter (whole_value whole next) next)) true ≡ true
      by_test true e =
          ap (λ (b : Bool). b && (loop_lanes reads body).steps_up (with counter (whole_value whole now) now) (with counter (whole_value whole next) next))
          (is_at_most (whole_value whole now) (whole_value whole next) up)
          ∙ inner (is_below (whole_value whole next) extent e)
      by_test false e = refl

  pub leaf_bound : ((reads : Reads) (values : Values) → is_sound reads everywhere all_points statement values
      ≡ cond (nat_lt (whole_value whole values) extent) (is_sound reads everywhere all_points body (with counter (whole_value whole values) values)) true)
      → IsLeaf body → IsLeaf statement
  leaf_bound sound_is leaf = record {
    once = λ reads. ap (λ (r : LoopLanes). r.is_one_store) (made_is reads) ∙ leaf.once reads;
    steps_up = steps_bound leaf.steps_up;
    at_once = λ reads values.
        ap (λ (r : LoopLanes). r.may_be_at_once values) (made_is reads)
        ∙ by_test (nat_lt (whole_value whole values) extent) (may_be_at_once reads body (with counter (whole_value whole values) values))
        (leaf.at_once reads (with counter (whole_value whole values) values));
    touches = λ reads values.
        sound_is reads values
        ∙ by_test (nat_lt (whole_value whole values) extent) (is_sound reads everywhere all_points body (with counter (whole_value whole values) values))
        (leaf.touches reads (with counter (whole_value whole values) values));
  }
    where
      by_test : (test b : Bool) → b ≡ true → cond test b true ≡ true
      by_test true b is = is
      by_test false b is = refl

-- the value of a loop that is split, which is exact where counters are small
pub whole_rises : (func func_index : ℕ) (split : Split) (extent : ℕ) (whole : Whole)
    → ((values : Values) → AreSmall (loops_of func values)
    → whole_value whole values ≡ begin_of split.tail split.factor extent (loops_of func values (ids.Outer func_index)) + loops_of func values (ids.Inner func_index))
    → (now next : Values) → AllAreSmall now → AllAreSmall next → NeverFall now next → whole_value whole now ≤ whole_value whole next
whole_rises func func_index split extent whole exact now next small_now small_next never =
    let outer : Counter = record { func = func; id = ids.Outer func_index } in
    let inner : Counter = record { func = func; id = ids.Inner func_index } in
    let a = exact now (λ id. small_now (record { func = func; id = id })) in
    let b = exact next (λ id. small_next (record { func = func; id = id })) in
    let r = begin_rises split.tail split.factor extent (now outer) (next outer) (never outer) in
    let i = never inner in
    omega (arith, a, b, r, i)

data IsFew {A : Type 0} : List A → Type 0 where
  Nothing : IsFew []
  One : (x : A) → IsFew (x ∷ [])

few_bodies : {A : Type 0} (counts : loops.Values) (func_index : ℕ) (splits : List Split) (body : loops.Values → List A) → ((values : loops.Values)
    → IsFew (body values)) → (values : loops.Values) → IsFew (split_bodies counts func_index splits body values)
few_bodies counts func_index [] body few values = few values
few_bodies {A} counts func_index (split ∷ others) body few values =
    few_bodies (loops.more_counts counts func_index split) (suc func_index) others
    (split_body counts func_index split body)
    (λ at. by_test at (nat_lt (whole_of counts func_index split at) (counts split.of))) values
  where
    by_test : (at : loops.Values) (test : Bool) → IsFew (cond test (body (loops.with split.of (whole_of counts func_index split at) at)) [])
    by_test at true = few (loops.with split.of (whole_of counts func_index split at) at)
    by_test at false = Nothing

few_wholes : (extents : Extents) (splits : List Split) (values : loops.Values) → IsFew (wholes extents splits [] values)
few_wholes extents splits values = few_bodies (loops.whole_counts extents) 0 splits (λ whole. whole ∷ []) (λ whole. One whole) values

module _ (func : ℕ) (extents : Extents) (splits : List Split) (body leaf : Stmt) (repeats : Repeats func body leaf (wholes extents splits []))
    (leaf_is : IsLeaf leaf) where
  module _ (stage_loop : Loop) (outside : List Loop) (few : loops.counts extents splits stage_loop.id < 2 ^ 25) (store : StoreMayBeVectorized func extents splits stage_loop outside
      leaf)
      (reads : Reads) (values : Values) (small : AllAreSmall values) (are : AreIterations (loops.counts extents splits) outside (loops_of func values))
      (earlier later : ℕ) (before : earlier < later) (below : later < loops.counts extents splits stage_loop.id) where
    abbrev listed : ℕ → List loops.Values
    listed iteration = wholes extents splits [] (loops.with stage_loop.id iteration (loops_of func values))

    abbrev misses_in : List loops.Values → Point → Bool
    misses_in list point = list_all (λ inner. is_sound reads (all_but point) all_points leaf (put_loops func inner values)) list

    abbrev loads_none : List loops.Values → List loops.Values → Bool
    loads_none first second = list_all (λ inner. is_sound reads everywhere (misses_in first) leaf (put_loops func inner values)) second

    by_lists : (first second : List loops.Values) → IsFew first → IsFew second → listed earlier ≡ first → listed later ≡ second → loads_none first second ≡ true
    by_lists _ _ few_first Nothing e f = refl
    by_lists _ _ Nothing (One other) e f = and_true (is_sound reads everywhere all_points leaf (put_loops func other values))
        ∙ leaf_is.touches reads (put_loops func other values)
    by_lists _ _ (One one) (One other) e f =
        and_true (is_sound reads everywhere (misses_in (one ∷ [])) leaf (put_loops func other values))
        ∙ ap (λ (test : Point → Bool). is_sound reads everywhere test leaf (put_loops func other values))
        (fun_ext (λ (point : Point). and_true (is_sound reads (all_but point) all_points leaf (put_loops func one values))))
        ∙ store.apart reads values small are earlier later before below one other e f

    body_apart : LoadsNoneOf reads body (with (record { func = func; id = stage_loop.id }) earlier values) (with (record { func = func; id = stage_loop.id }) later values)
    body_apart =
        let counted : AreSmall (loops_of func values) = λ id. small (record { func = func; id = id }) in
        ap (λ (test : Point → Bool). is_sound reads everywhere test body (with (record { func = func; id = stage_loop.id }) later values))
        (fun_ext (λ (point : Point). sound_with func leaf body (wholes extents splits []) repeats stage_loop.id earlier (omega (arith, before, below, few)) values
        counted reads (all_but point) all_points))
        ∙ sound_with func leaf body (wholes extents splits []) repeats stage_loop.id later (omega (arith, below, few)) values counted reads everywhere
        (misses_in (listed earlier))
        ∙ by_lists (listed earlier) (listed later) (few_wholes extents splits (loops.with stage_loop.id earlier (loops_of func values))) (few_wholes extents splits
        (loops.with stage_loop.id later (loops_of func values))) refl refl

  pub may_be_vectorized : (stage_loop : Loop) (outside : List Loop) → loops.counts extents splits stage_loop.id < 2 ^ 25
      → ((reads : Reads) → (loop_lanes reads body).is_one_store ≡ true) → StepsUp body
      → StoreMayBeVectorized func extents splits stage_loop outside leaf → MayBeVectorized func (loops.counts extents splits) stage_loop outside body
  may_be_vectorized stage_loop outside few once steps store = record {
    count = store.count;
    once = once;
    steps_up = steps;
    apart = λ reads values small are earlier later before below. body_apart stage_loop outside few store reads values small are earlier later before below;
  }

pub nest_at_once : (func : ℕ) (extents : Extents) (splits : List Split) (inside : List Loop)
    (statement inner leaf : Stmt)
    → ((id : LoopId) → loops.counts extents splits id < 2 ^ 25)
    → Repeats func inner leaf (wholes extents splits []) → IsLeaf leaf → IsLeaf inner
    → ((outside : List Loop) → MayBeAtOnce func (loops.counts extents splits) (inside ++ outside) inner
    → MayBeAround func (loops.counts extents splits) inside outside inner → MayBeAtOnce func (loops.counts extents splits) outside statement)
    → (outside : List Loop) → MayBeUnder func extents splits inside outside leaf → MayBeAtOnce func (loops.counts extents splits) outside statement
nest_at_once func extents splits inside statement inner leaf few repeats leaf_is inner_is around outside under =
    around outside (λ reads values small are. inner_is.at_once reads values) (known inside under)
  where
    known : (ls : List Loop) → MayBeUnder func extents splits ls outside leaf → MayBeAround func (loops.counts extents splits) ls outside inner
    known [] is = tt
    known (own ∷ others) is = (
      λ e. may_be_vectorized func extents splits inner leaf repeats leaf_is own (others ++ outside) (few own.id)
          (λ reads. inner_is.once reads) inner_is.steps_up (is.0 e),
      is.1,
    )
