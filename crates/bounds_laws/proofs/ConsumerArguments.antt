-- What loops visit of an argument lies in its view.
use Rattle.std.proofs.Common.{◌≡◌, ℕ, zero, suc, ◌+◌, ◌-◌, ◌*◌, ◌<◌, ◌≤◌, Bool, true, false, cond, List, [], ◌∷◌, ◌++◌, length, take, drop, Option, Some, None}
use Rattle.std.proofs.Common.{refl, sym, subst, ap, ◌∙◌, arith}
use Rattle.std.specs.Prelude.{◌&&◌, ◌||◌, slice_get, nat_lt}
use Rattle.std.specs.List.{AllByRecursion}
use Rattle.std.proofs.lemmas.Bool.{ltb-false, or_parts, false≢true}
use Rattle.halide_pipeline.specs.declared.definitions.Func.{Func}
use Rattle.halide_pipeline.specs.declared.expressions.Variable.{Variable}
use Rattle.halide_pipeline.specs.declared.expressions.Variable.TheVariants as variables
use Rattle.halide_pipeline.specs.Expressions.{same_variable}
use Rattle.schedule_lines.specs.declared.stages.Loop.{Loop}
use Rattle.schedule_lines.specs.declared.stages.LoopId.TheVariants as ids
use Rattle.schedule_lines.specs.declared.stages.Split.{Split}
use Rattle.schedule_lines.specs.declared.stages.Stage.{Stage}
use Rattle.schedule_lines.specs.Making.{total}
use Rattle.schedule_loops.specs.declared.extents.Extents.{Extents}
use Rattle.schedule_loops.specs.Visits.{Values, counts, strides, is_uneven, extent_of}
use Rattle.schedule_loops.specs.Reach.{base, reach, has_uneven, IsReached, wholes}
use Rattle.schedule_loops.specs.Runs.{AreIterations}
use Rattle.schedule_loops.specs.Stages.{IsStageOf, first_loops, has_variable}
use Rattle.schedule_loops.proofs.Bounded.{within, reached}
use Rattle.schedule_loops.proofs.Making.{Stays, by_making, total-append, total_parts, bare_total}
use Rattle.bounds_ranges.specs.declared.bases.Multiple.{Multiple}
use Rattle.bounds_ranges.specs.declared.ranges.Range.{Range}
use Rattle.bounds_ranges.specs.Ranges.{no_base, zero_multiple, more_sum, less_sum, ends_of, fit}
use Rattle.bounds_ranges.specs.Laws.{Below, Lies}
use Rattle.bounds_ranges.proofs.Lying.{fit_lies, plain_lies}
use Rattle.bounds.specs.Extents.{extent, extents_of}
use Rattle.bounds_laws.specs.ConsumerLaws.{iteration_of, iteration_at, iterations_from, gone, IsGone, IsTakenTo, ConsumerArgumentsLie}
use Rattle.bounds_laws.specs.Laws.{LiesIn}
use Rattle.bounds.specs.Views.{last_of, last_at, lasts_in, consumer_loop, consumer_loop_in, consumer_view, consumer_view_in, multiple_of, multiple_at, base_in}
use Rattle.bounds.specs.Views.{argument, inner_count}

take_front : {A : Type 0} (xs ys : List A) → take (length xs) (xs ++ ys) ≡ xs
take_front [] ys = refl
take_front {A} (x ∷ xs) ys = ap (λ (zs : List A). x ∷ zs) (take_front xs ys)

drop_front : {A : Type 0} (xs ys : List A) → drop (length xs) (xs ++ ys) ≡ ys
drop_front [] ys = refl
drop_front (x ∷ xs) ys = drop_front xs ys

below_at : (at n : ℕ) → at < n → nat_lt at n ≡ true
below_at at n l = grind (arith, l)

above_at : (at n : ℕ) → n ≤ at → nat_lt at n ≡ false
above_at at n l = grind (arith, l)

-- ---- sums over loops but the first this many

module _ (splits : List Split) (variable : Variable) (iterations : Values) where
  value : Loop → ℕ
  value stage_loop = cond (same_variable stage_loop.variable variable)
      (strides splits stage_loop.id * iterations stage_loop.id) 0

  masked : ℕ → ℕ → List Loop → ℕ
  masked n at [] = 0
  masked n at (stage_loop ∷ others) = cond (nat_lt at n) 0 (value stage_loop) + masked n (at + 1) others

  behind : (n at : ℕ) (loops : List Loop) → n ≤ at → masked n at loops ≡ base splits variable iterations loops
  unfolding value masked
  behind n at [] l = refl
  behind n at (stage_loop ∷ others) l = rw (above_at at n l, behind n (at + 1) others (omega (arith, l))) refl

  masked_is : (n at : ℕ) (inside outside : List Loop) → n ≡ at + length inside → masked n at (inside ++ outside) ≡ base splits variable iterations outside
  unfolding value masked
  masked_is n at [] outside e = behind n at outside (omega (arith, e))
  masked_is n at (stage_loop ∷ inside) outside e =
      let l : nat_lt at n ≡ true = below_at at n (omega (arith, e)) in
      rw l (omega (arith, masked_is n (at + 1) inside outside (omega (arith, e))))

  term_same : (same : Bool) (stride iteration : ℕ) → (cond {A = Multiple} same (record { more = stride; less = 0 }) zero_multiple).more * iteration
      ≡ cond same (stride * iteration) 0
  term_same true stride iteration = refl
  term_same false stride iteration = omega arith

  term_at : (first : Bool) (stage_loop : Loop) → (cond first zero_multiple (multiple_of splits variable (Some stage_loop))).more * cond first 0 (iterations stage_loop.id)
      ≡ cond first 0 (value stage_loop)
  unfolding value
  term_at true stage_loop = omega arith
  term_at false stage_loop = term_same (same_variable stage_loop.variable variable) (strides splits stage_loop.id)
      (iterations stage_loop.id)

  none_at : (first : Bool) → (cond first zero_multiple (multiple_of splits variable None)).more * cond first 0 (iteration_of iterations None) ≡ 0
  none_at true = omega arith
  none_at false = omega arith

  less_same : (same : Bool) (stride : ℕ) → (cond {A = Multiple} same (record { more = stride; less = 0 }) zero_multiple).less ≡ 0
  less_same true stride = refl
  less_same false stride = refl

  less_at : (first : Bool) (stage_loop : Option Loop) → (cond first zero_multiple
      (multiple_of splits variable stage_loop)).less ≡ 0
  less_at true stage_loop = refl
  less_at false None = refl
  less_at false (Some stage_loop) = less_same (same_variable stage_loop.variable variable)
      (strides splits stage_loop.id)

  -- the sum over all five places
  more_is : (n : ℕ) (loops : List Loop) → length loops ≤ 5
      → more_sum (base_in splits loops variable n) (iterations_from n iterations loops) ≡ masked n 0 loops
  unfolding masked
  more_is n [] few = omega (arith, none_at (nat_lt 0 n), none_at (nat_lt 1 n), none_at (nat_lt 2 n), none_at (nat_lt 3 n), none_at (nat_lt 4 n))
  more_is n (a ∷ []) few = omega (arith, term_at (nat_lt 0 n) a, none_at (nat_lt 1 n), none_at (nat_lt 2 n), none_at (nat_lt 3 n), none_at (nat_lt 4 n))
  more_is n (a ∷ b ∷ []) few = omega (arith, term_at (nat_lt 0 n) a, term_at (nat_lt 1 n) b, none_at (nat_lt 2 n), none_at (nat_lt 3 n), none_at (nat_lt 4 n))
  more_is n (a ∷ b ∷ c ∷ []) few = omega (
    arith,
    term_at (nat_lt 0 n) a,
    term_at (nat_lt 1 n) b,
    term_at (nat_lt 2 n) c,
    none_at (nat_lt 3 n),
    none_at
        (nat_lt 4 n),
  )
  more_is n (a ∷ b ∷ c ∷ d ∷ []) few = omega (
    arith,
    term_at (nat_lt 0 n) a,
    term_at (nat_lt 1 n) b,
    term_at (nat_lt 2 n) c,
    term_at (nat_lt 3 n) d,
    none_at
        (nat_lt 4 n),
  )
  more_is n (a ∷ b ∷ c ∷ d ∷ e ∷ []) few =
      omega (arith, term_at (nat_lt 0 n) a, term_at (nat_lt 1 n) b, term_at (nat_lt 2 n) c, term_at (nat_lt 3 n) d, term_at (nat_lt 4 n) e)
  more_is n (a ∷ b ∷ c ∷ d ∷ e ∷ f ∷ loops) few = absurd (omega (arith, few))

  times_zero : (a b : ℕ) → a ≡ 0 → a * b ≡ 0
  times_zero a b e = rw e (omega arith)

  less_is : (n : ℕ) (loops : List Loop) → less_sum (base_in splits loops variable n) (iterations_from n iterations loops) ≡ 0
  less_is n loops =
      let zero_at : (at : ℕ) → (multiple_at splits loops variable n at).less * iteration_at n iterations loops at ≡ 0 =
      λ at. times_zero (multiple_at splits loops variable n at).less (iteration_at n iterations loops at) (less_at (nat_lt at n) (slice_get loops at)) in
      omega (arith, zero_at 0, zero_at 1, zero_at 2, zero_at 3, zero_at 4)

-- ---- iterations are up to the greatest

module _ (extents : Extents) (splits : List Split) (iterations : Values) where
  few_first : (test : Bool) (iteration count : ℕ) → (test ≡ false → iteration < count) → cond test 0 iteration ≤ count - 1
  few_first true iteration count l = omega arith
  few_first false iteration count l = let k : iteration < count = l refl in omega (arith, k)

  few_none : (test : Bool) → cond test 0 (iteration_of iterations None) ≤ last_of extents splits None
  few_none true = omega arith
  few_none false = omega arith

  iterations_at : (inside outside : List Loop) → AreIterations (counts extents splits) outside iterations
      → (at : ℕ) → length inside ≤ at → (stage_loop : Loop) → slice_get (inside ++ outside) at ≡ Some stage_loop → iterations stage_loop.id < counts extents splits stage_loop.id
  iterations_at [] [] are zero l stage_loop e = absurd cc
  iterations_at [] [] are (suc at) l stage_loop e = absurd cc
  iterations_at [] (first ∷ others) are zero l stage_loop e = subst (λ (o : Loop). iterations o.id < counts extents splits o.id) (it first stage_loop e) are.0
    where
      it : (a b : Loop) → Some a ≡ Some b → a ≡ b
      it a b e = cc
  iterations_at [] (first ∷ others) are (suc at) l stage_loop e = iterations_at [] others are.1 at (omega arith)
      stage_loop e
  iterations_at (first ∷ inside) outside are zero l stage_loop e = absurd (omega (arith, l))
  iterations_at (first ∷ inside) outside are (suc at) l stage_loop e = iterations_at inside outside are at (omega (arith, l)) stage_loop e

  iteration_below : (n : ℕ) (loops : List Loop) → ((at : ℕ) → n ≤ at → (stage_loop : Loop) → slice_get loops at ≡ Some stage_loop → iterations stage_loop.id < counts extents splits stage_loop.id)
      → (at : ℕ) (test : Bool) → nat_lt at n ≡ test → (marked_loop : Option Loop) → slice_get loops at ≡ marked_loop
      → cond test 0 (iteration_of iterations marked_loop) ≤ last_of extents splits marked_loop
  iteration_below n loops are at test t None e = few_none test
  iteration_below n loops are at test t (Some stage_loop) e = few_first test (iterations stage_loop.id) (counts extents splits stage_loop.id) (λ f. are at (ltb-false at n (t ∙ f)) stage_loop e)

  pub iterations_below : (inside outside loops : List Loop) → loops ≡ inside ++ outside → AreIterations (counts extents splits) outside iterations
      → Below (iterations_from (length inside) iterations loops) (lasts_in extents splits loops)
  iterations_below inside outside loops is are =
      let all : (at : ℕ) → length inside ≤ at → (stage_loop : Loop) → slice_get loops at ≡ Some stage_loop → iterations stage_loop.id < counts extents splits stage_loop.id =
      λ at l stage_loop e. iterations_at inside outside are at l stage_loop
      (ap (λ (ls : List Loop). slice_get ls at) (sym is) ∙ e) in
      let one : (at : ℕ) → iteration_at (length inside) iterations loops at ≤ last_at extents splits loops at =
      λ at. iteration_below (length inside) loops all at (nat_lt at (length inside)) refl (slice_get loops at) refl in
      (one 0, (one 1, (one 2, (one 3, (one 4, tt)))))

-- ---- a variable that no loop is over

over : Variable → Loop → ℕ
over variable stage_loop = cond (same_variable stage_loop.variable variable) 1 0

none_first : (variable : Variable) (start : List Loop) → has_variable variable start ≡ false → total (over variable) start ≡ 0
unfolding over
none_first variable [] none = refl
none_first variable (own ∷ others) none =
    let one : same_variable own.variable variable ≡ false = (or_parts (same_variable own.variable variable) (has_variable variable others) none).0 in
    let rest : has_variable variable others ≡ false = (or_parts (same_variable own.variable variable) (has_variable variable others) none).1 in
    rw one (omega (arith, none_first variable others rest))

none_stays : (is_update : Bool) (start : List Loop) (variable : Variable) → total (over variable) start ≡ 0
    → Stays is_update start (λ loops splits. total (over variable) loops ≡ 0)
unfolding over
none_stays is_update start variable none = record {
  begun = none;
  parted = λ before own after splits line is before_none.
      omega (arith, before_none, total_parts (over variable) before own after (length splits) line, total-append (over variable) before (own ∷ after));
  marked = λ loops new splits same is. omega (arith, is, bare_total (over variable) (λ own. refl) new loops same);
  moved = λ loops new splits same order is. omega (arith, is, same (over variable));
}

none_made : (func : Func) (stage : Stage) (variable : Variable) → IsStageOf func None stage → has_variable variable (first_loops func None) ≡ false
    → total (over variable) stage.loops ≡ 0
none_made func stage variable is none =
    by_making (λ loops splits. total (over variable) loops ≡ 0)
    (none_stays false (first_loops func None) variable (none_first variable (first_loops func None) none)) is.made

one_none : (test : Bool) (rest value more : ℕ) → cond test 1 0 + rest ≡ 0 → more ≡ 0 → cond test value 0 + more ≡ 0
one_none true rest value more e f = absurd (omega (arith, e))
one_none false rest value more e f = omega (arith, f)

base_none : (splits : List Split) (variable : Variable) (iterations : Values) (loops : List Loop) → total (over variable) loops ≡ 0
    → base splits variable iterations loops ≡ 0
unfolding over
base_none splits variable iterations [] none = refl
base_none splits variable iterations (own ∷ others) none =
    one_none (same_variable own.variable variable) (total (over variable) others) (strides splits own.id * iterations own.id) (base splits variable iterations others)
    none
    (base_none splits variable iterations others (omega (arith, none)))

odd_none : (test odd more : Bool) (rest : ℕ) → cond test 1 0 + rest ≡ 0 → more ≡ false → ((test && odd) || more) ≡ false
odd_none true odd more rest e f = absurd (omega (arith, e))
odd_none false odd more rest e f = f

uneven_none : (splits : List Split) (variable : Variable) (loops : List Loop) → total (over variable) loops ≡ 0 → has_uneven splits variable loops ≡ false
unfolding over
uneven_none splits variable [] none = refl
uneven_none splits variable (own ∷ others) none =
    odd_none (same_variable own.variable variable) (is_uneven splits own.id) (has_uneven splits variable others) (total (over variable) others) none
    (uneven_none splits variable others (omega (arith, none)))

-- ---- lists

each : {A : Type 0} (P Q R : A → Type 0) → ((x : A) → P x → Q x → R x) → (xs : List A) → AllByRecursion P xs → AllByRecursion Q xs → AllByRecursion R xs
each P Q R next [] all more = tt
each P Q R next (x ∷ xs) all more = (next x all.0 more.0, each P Q R next xs all.1 more.1)

every : {A : Type 0} (P : A → Type 0) → ((x : A) → P x) → (xs : List A) → AllByRecursion P xs
every P all [] = tt
every P all (x ∷ xs) = (all x, every P all xs)

-- ---- one argument

module _ (func : Func) (stage : Stage) (extents : Extents) (inside outside : List Loop) (iterations : Values) (is : IsStageOf func None stage)
    (loops_are : stage.loops ≡ inside ++ outside)
    (are : AreIterations (counts extents stage.splits) outside iterations) (lasts : List ℕ) (below : Below (iterations_from (length inside) iterations stage.loops) lasts)
    (variable : Variable) where
  abbrev Has : Bool
  Has = has_variable variable (first_loops func None)

  abbrev Odd : Bool
  Odd = has_uneven stage.splits variable outside

  -- what is known of a value
  record IsVisited (whole : Values) : Type 0 where
    pub bounded : Has ≡ true → whole (ids.Whole variable) < extent_of extents variable
    pub between : Has ≡ true → Odd ≡ false → IsReached extents stage.splits variable inside outside iterations whole

  abbrev visited : List Values
  visited = wholes extents stage.splits inside iterations

  visits_by : (has odd : Bool) → Has ≡ has → Odd ≡ odd → AllByRecursion IsVisited visited
  visits_by false odd h o = every IsVisited (λ whole. record {
    bounded = λ e. absurd (false≢true (sym h ∙ e));
    between = λ e none. absurd (false≢true (sym h
        ∙ e));
  }) visited
  visits_by true true h o =
      each (λ (whole : Values). whole (ids.Whole variable) < extent_of extents variable) (λ (whole : Values). Unit {0}) IsVisited
      (λ whole l u. record { bounded = λ e. l; between = λ e none. absurd (false≢true (sym none ∙ o)) }) visited
      (within func None extents stage inside outside variable iterations is loops_are h are) (every (λ (whole : Values). Unit {0}) (λ whole. tt) visited)
  visits_by true false h o =
      each (λ (whole : Values). whole (ids.Whole variable) < extent_of extents variable) (IsReached extents stage.splits variable inside outside iterations)
      IsVisited
      (λ whole l r. record { bounded = λ e. l; between = λ e none. r }) visited
      (within func None extents stage inside outside variable iterations is loops_are h are) (reached func None extents stage inside outside variable iterations is
      loops_are h are o)

  visits : AllByRecursion IsVisited visited
  visits = visits_by Has Odd refl refl

  abbrev Iterations : List ℕ
  Iterations = iterations_from (length inside) iterations stage.loops

  more : more_sum (base_in stage.splits stage.loops variable (length inside)) Iterations ≡ base stage.splits variable iterations outside
  more =
      more_is stage.splits variable iterations (length inside) stage.loops is.few
      ∙ (ap (λ (l : List Loop). masked stage.splits variable iterations (length inside) 0 l) loops_are
      ∙ masked_is stage.splits variable iterations (length inside) 0 inside outside (omega arith))

  less : less_sum (base_in stage.splits stage.loops variable (length inside)) Iterations ≡ 0
  less = less_is stage.splits variable iterations (length inside) stage.loops

  -- the view, by whether an uneven loop keeps its iteration
  abbrev Parted : Range → Bool → Range
  Parted range odd =
      cond odd (fit lasts no_base (ends_of range))
      (fit lasts (base_in stage.splits stage.loops variable (length inside)) (record {
        low = range.low;
        high = range.low + reach extents stage.splits variable
            inside;
      }))

  parted : (range : Range) → argument lasts extents stage.splits stage.loops (length inside) variable range ≡ Parted range Odd
  parted range =
      let outer : drop (length inside) stage.loops ≡ outside = ap (λ (l : List Loop). drop (length inside) l) loops_are ∙ drop_front inside outside in
      let inner : take (length inside) stage.loops ≡ inside = ap (λ (l : List Loop). take (length inside) l) loops_are ∙ take_front inside outside in
      ap (λ (o : List Loop). cond (has_uneven stage.splits variable o) (fit lasts no_base (ends_of range))
      (fit lasts (base_in stage.splits stage.loops variable (length inside)) (record {
        low = range.low;
        high = range.low + reach extents stage.splits variable
            (take (length inside) stage.loops);
      }))) outer
      ∙ ap (λ (i : List Loop). cond (has_uneven stage.splits variable outside) (fit lasts no_base (ends_of range))
      (fit lasts (base_in stage.splits stage.loops variable (length inside)) (record {
        low = range.low;
        high = range.low + reach extents stage.splits variable i;
      }))) inner

  none_outside : Has ≡ false → total (over variable) outside ≡ 0
  none_outside none =
      let all : total (over variable) (inside ++ outside) ≡ 0 = ap (λ (l : List Loop). total (over variable) l) (sym loops_are)
      ∙ none_made func stage variable is none in
      omega (arith, all, total-append (over variable) inside outside)

  -- the value goes from the least number so far
  abbrev Far : Bool → Values → ℕ
  Far has whole = cond has (whole (ids.Whole variable)) 0

  one_by : (has odd : Bool) → Has ≡ has → Odd ≡ odd → (range : Range) → extent_of extents variable ≡ extent range → (whole : Values) → IsVisited whole → (x : ℕ)
      → IsGone range (Far has whole) x
      → Lies lasts Iterations (Parted range odd) x
  one_by true true h o range extent_is whole is_visited x at =
      let l = is_visited.bounded h in
      plain_lies lasts Iterations below (ends_of range) x at.word (λ least great. (omega (arith, at.is), omega (arith, at.is, l, extent_is)))
  one_by true false h o range extent_is whole is_visited x at =
      let r = is_visited.between h o in
      fit_lies lasts Iterations below (base_in stage.splits stage.loops variable (length inside)) (record {
        low = range.low;
        high = range.low + reach extents
            stage.splits variable inside;
      }) x at.word
      (λ least great. (omega (arith, at.is, more, less, r.low), omega (arith, at.is, more, less, r.high)))
  one_by false true h o range extent_is whole is_visited x at = absurd (false≢true (sym (uneven_none stage.splits variable outside (none_outside h)) ∙ o))
  one_by false false h o range extent_is whole is_visited x at =
      let z = base_none stage.splits variable iterations outside (none_outside h) in
      fit_lies lasts Iterations below (base_in stage.splits stage.loops variable (length inside)) (record {
        low = range.low;
        high = range.low + reach extents
            stage.splits variable inside;
      }) x at.word
      (λ least great. (omega (arith, at.is, more, less, z), omega (arith, at.is, more, less, z)))

  one_lies : (range : Range) → extent_of extents variable ≡ extent range → (whole : Values) → IsVisited whole → (x : ℕ)
      → IsGone range (gone func variable whole) x
      → Lies lasts Iterations (argument lasts extents stage.splits stage.loops (length inside) variable range) x
  one_lies range extent_is whole is_visited x at =
      subst (λ (r : Range). Lies lasts Iterations r x) (sym (parted range)) (one_by Has Odd refl refl range extent_is whole is_visited x at)

-- ---- the point

pub consumer_arguments_lie : ConsumerArgumentsLie
unfolding consumer_loop_in consumer_view_in
consumer_arguments_lie func plan own id inside outside iterations is loops_are count_is are = (
  below,
  each (IsVisited func stage extents inside outside iterations is loops_are are lasts below variables.FirstArgument) (IsVisited func stage extents inside outside
      iterations is loops_are are lasts below variables.SecondArgument)
      (λ whole. (x y : ℕ) → IsTakenTo func own whole x y
      → LiesIn (iterations_from (length inside) iterations stage.loops) (consumer_view stage own (consumer_loop plan own id)) x y)
      (λ whole first second x y at.
      let at_count : (n : ℕ) → n ≡ length inside → LiesIn (iterations_from (length inside) iterations stage.loops) (consumer_view_in extents stage.splits stage.loops n
      own (consumer_loop plan own id)) x y =
      λ n e. subst (λ (m : ℕ). LiesIn (iterations_from (length inside) iterations stage.loops) (consumer_view_in extents stage.splits stage.loops m own
      (consumer_loop plan own id)) x y) (sym e)
      (record {
        first = one_lies func stage extents inside outside iterations is loops_are are lasts below variables.FirstArgument own.x refl whole first x at.first;
        second = one_lies func stage extents inside outside iterations is loops_are are lasts below variables.SecondArgument own.y refl whole second y at.second;
      }) in
      at_count (inner_count id stage.loops) (sym count_is))
      (wholes extents stage.splits inside iterations)
      (visits func stage extents inside outside iterations is loops_are are lasts below variables.FirstArgument)
      (visits func stage extents inside outside iterations is loops_are are lasts below variables.SecondArgument),
)
  where
    stage : Stage
    stage = plan.pure

    extents : Extents
    extents = extents_of own

    lasts : List ℕ
    lasts = lasts_in extents stage.splits stage.loops

    below : Below (iterations_from (length inside) iterations stage.loops) lasts
    below = iterations_below extents stage.splits iterations inside outside stage.loops loops_are are
