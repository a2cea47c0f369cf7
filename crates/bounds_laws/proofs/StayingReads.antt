-- In dimensions in place an update reads its own Func at the argument itself.
use Rattle.std.proofs.Common.{◌≡◌, ℕ, zero, suc, ◌<◌, ◌≤◌, Bool, true, false, not, cond, List, [], ◌∷◌, ◌++◌, Option, None, Some, ◌==◌, refl, sym, ap, subst}
use Rattle.std.proofs.Common.{◌∙◌, arith}
use Rattle.std.specs.Prelude.{◌&&◌, ◌||◌, nat_lt, slice_get}
use Rattle.std.specs.List.{AllByRecursion}
use Rattle.std.proofs.lemmas.Bool.{and_parts, ltb-true, eqb-true, eq-eqb}
use Rattle.halide_pipeline.specs.declared.definitions.Func.{Func}
use Rattle.halide_pipeline.specs.declared.definitions.Input.{Input}
use Rattle.halide_pipeline.specs.declared.definitions.Update.{Update}
use Rattle.halide_pipeline.specs.declared.expressions.Expr.{Expr, ind-Expr, fold-roll-Expr, roll-Expr, out-roll-Expr, map-Expr}
use Rattle.halide_pipeline.specs.declared.expressions.Expr.TheOpen.{Expr-F}
use Rattle.halide_pipeline.specs.declared.expressions.Expr.TheOpen as layer
use Rattle.halide_pipeline.specs.declared.expressions.Source.{Source}
use Rattle.halide_pipeline.specs.declared.expressions.Source.TheVariants as sources
use Rattle.halide_pipeline.specs.declared.expressions.Variable.{Variable}
use Rattle.halide_pipeline.specs.declared.expressions.Variable.TheVariants as variables
use Rattle.halide_pipeline.specs.WellFormed.{dimensions, is_first_in_place, is_second, is_second_in_place, IsWellFormed, IsUpdate, Placed, placed_at}
use Rattle.halide_pipeline.specs.WellFormed.{calls_in_place, is_own_call, is_alone, is_argument, is_update_variable, is_func_of, is_read, keeps, keeps_index}
use Rattle.halide_pipeline.specs.Expressions.{is_variable_at, is_variable}
use Rattle.halide_pipeline.specs.Pipelines.{Pipeline}
use Rattle.halide_pipeline.specs.declared.environments.Environment.{Environment}
use Rattle.halide_pipeline.specs.Pixel.{Reads, variable, at_reduction}
use Rattle.halide_pipeline.specs.Points.{Point, Seen}
use Rattle.halide_pipeline.proofs.Seeing.{all_both}
use Rattle.schedule_loops.proofs.Ids.{same_variable-true}
use Rattle.schedule.specs.declared.schedules.Schedule.{Schedule}
use Rattle.bounds_inlining.specs.Inlining.{none, second_of, arguments, answer, answered, through, through_at, inside, made_in, func_in, inlined, flagged}
use Rattle.bounds_inlining.specs.Laws.{AreFuncs, seen_variable}
use Rattle.bounds_inlining.specs.Values.{seeing, unread, second_points}
use Rattle.bounds_inlining.proofs.KeptFolds.{KeptLevels, kept_folds_related}
use Rattle.bounds_inlining.proofs.Steps.{inside_is}
use Rattle.bounds_weights.specs.Weight.{flags_of}
use Rattle.bounds_laws.specs.ConsumerLaws.{IsInPlace, OwnReadsStay}
use Rattle.bounds_laws.specs.Laws.{seen_in, second_seen, update_points}
use Rattle.bounds.specs.Boxes.{same_source}

-- a point of an input or of one of the first this many Funcs
abbrev pub IsBelow : ℕ → Source → Type 0
IsBelow count (sources.Input place) = Unit {0}
IsBelow count (sources.Func place) = place < count

abbrev pub AreBelow : ℕ → List Point → Type 0
AreBelow count points = AllByRecursion (λ (point : Point). IsBelow count point.source) points

still_below : (count more : ℕ) → count ≤ more → (s : Source) → IsBelow count s → IsBelow more s
still_below count more l (sources.Input place) below = tt
still_below count more l (sources.Func place) below = omega (arith, l, below)

weakened : {A : Type 0} (P Q : A → Type 0) → ((x : A) → P x → Q x) → (xs : List A) → AllByRecursion P xs → AllByRecursion Q xs
weakened P Q next [] all = tt
weakened P Q next (x ∷ xs) all = (next x all.0, weakened P Q next xs all.1)

-- ---- what is made of a call of an inlined Func reads no more than its arguments and its definition do

module _ (P : Point → Type 0) where
  abbrev All : List Point → Type 0
  All points = AllByRecursion P points

  abbrev Answers : Option (Seen → Option Seen → Seen) → Type 0
  Answers None = Unit {0}
  Answers (Some made) = (x : Seen) (y : Option Seen) → All x.points → All (second_points y) → All (made x y).points

  answers : (found : Option (Seen → Option Seen → Seen)) → Answers found → (other x : Seen) (y : Option Seen) → All other.points → All x.points
      → All (second_points y)
      → All (answered other x y found).points
  answers None answer other x y o p q = o
  answers (Some made) answer other x y o p q = answer x y p q

module _ (reads : Reads) (is_inlined : ℕ → Bool) (inputs : List Input) (funcs : List Func) (are : AreFuncs inputs funcs) where
  -- what expressions read that call the first this many Funcs
  abbrev pub Within : ℕ → Type 0
  Within count = (has : Variable → Bool) (vars : Variable → Seen) → ((v : Variable) → AreBelow count (vars v).points)
      → (e : Expr) → keeps (is_read inputs funcs count) has e ≡ true → AreBelow count (inlined (seeing reads) is_inlined funcs count vars e).points

  module _ (P : Point → Type 0) (count : ℕ) (lower : (point : Point) → IsBelow count point.source → P point) where
    abbrev Made : ℕ → Option Func → Option (Seen → Option Seen → Seen)
    Made func_index own_func = made_in (seeing reads) (inside (seeing reads) is_inlined funcs func_index) own_func

    made_by : (func_index : ℕ) → func_index ≤ count → Within func_index → (test : Bool) (own_func : Option Func) → slice_get funcs func_index ≡ own_func
        → Answers P (Made func_index (cond test own_func None))
    unfolding seeing
    made_by func_index few inner false own_func is = tt
    made_by func_index few inner true None is = tt
    made_by func_index few inner true (Some func) is = λ x y p q.
        let second = second_of (none (seeing reads)) y in
        let vars = arguments (none (seeing reads)) (unread x) (unread second) in
        let below : AreBelow func_index (inlined (seeing reads) is_inlined funcs func_index vars func.pure).points = inner (is_argument (dimensions func)) vars
        (by_variable x second) func.pure (are func_index func is).pure in
        all_both P x.points (second_points y ++ (inlined (seeing reads) is_inlined funcs func_index vars
        func.pure).points) p
        (all_both P (second_points y) (inlined (seeing reads) is_inlined funcs func_index vars func.pure).points q
        (weakened (λ (point : Point). IsBelow func_index point.source) P (λ point b. lower point (still_below func_index count few point.source b))
        (inlined (seeing reads) is_inlined funcs func_index vars func.pure).points below))
      where
        by_variable : (x second : Seen) (v : Variable) → AreBelow func_index (arguments (none (seeing reads)) (unread x) (unread second) v).points
        by_variable x second variables.FirstArgument = tt
        by_variable x second variables.SecondArgument = tt
        by_variable x second variables.FirstReduction = tt
        by_variable x second variables.SecondReduction = tt

    -- a call, by the first this many Funcs
    call : (more : ℕ) → ((func_index : ℕ) → func_index < more → func_index ≤ count) → ((func_index : ℕ) → func_index < more → Within func_index) → (s : Source) → IsBelow more s
        → (other x : Seen) (y : Option Seen)
        → All P other.points → All P x.points → All P (second_points y)
        → All P (answered other x y (answer (inside (seeing reads) is_inlined funcs more) s)).points
    call more few inner (sources.Input func_index) below other x y o p q = o
    call more few inner (sources.Func func_index) below other x y o p q =
        rw (inside_is (seeing reads) is_inlined funcs more func_index)
        (answers P (Made func_index (func_in funcs is_inlined more func_index)) (made_by func_index (few func_index below) (inner func_index below) (nat_lt func_index more
        && is_inlined func_index) (slice_get funcs func_index) refl) other x y o p q)

  is_below : (count : ℕ) (s : Source) (n : ℕ) → is_read inputs funcs count s n ≡ true → IsBelow count s
  is_below count (sources.Input func_index) n read = tt
  is_below count (sources.Func func_index) n read = ltb-true func_index count (and_parts (nat_lt func_index count) (is_func_of (slice_get funcs func_index) n) read).0

  module _ (count : ℕ) (inner : (func_index : ℕ) → func_index < count → Within func_index) (has : Variable → Bool) (vars : Variable → Seen) (are_vars : (v : Variable)
      → AreBelow count (vars v).points) where
    abbrev ReadsBelow : Seen → Unit {0} → Type 0
    ReadsBelow s u = AreBelow count s.points

    abbrev Below : Point → Type 0
    Below point = IsBelow count point.source

    both : (a b : List Point) → AreBelow count a → AreBelow count b → AreBelow count (a ++ b)
    both a b first second = all_both Below a b first second

    below_levels : KeptLevels ReadsBelow (is_read inputs funcs count) has (through_at (seeing reads) (inside (seeing reads) is_inlined funcs count) vars)
        (λ level. tt)
    unfolding seeing
    below_levels (layer.Number n) kept = tt
    below_levels (layer.Variable v) kept = are_vars v
    below_levels (layer.Binary op a b) kept = both a.left.points b.left.points a.is b.is
    below_levels (layer.Divide a n) kept = a.is
    below_levels (layer.Remainder a n) kept = a.is
    below_levels (layer.Select c a b) kept = both c.left.points (a.left.points ++ b.left.points) c.is (both a.left.points b.left.points a.is b.is)
    below_levels (layer.Call1 s a) kept =
        let l = is_below count s 1 kept in
        call Below count (λ point b. b) count (λ func_index b. omega (arith, b)) inner s l ((seeing reads).level (layer.Call1 s a.left)) a.left None
        (both a.left.points (record { source = s; x = a.left.value; y = 0 } ∷ []) a.is (l, tt)) a.is tt
    below_levels (layer.Call2 s a b) kept =
        let l = is_below count s 2 kept in
        call Below count (λ point b. b) count (λ func_index b. omega (arith, b)) inner s l ((seeing reads).level (layer.Call2 s a.left b.left)) a.left (Some b.left)
        (both (a.left.points ++ b.left.points) (record { source = s; x = a.left.value; y = b.left.value } ∷ []) (both a.left.points b.left.points a.is b.is)
        (l, tt)) a.is b.is

    below_in : (e : Expr) → keeps (is_read inputs funcs count) has e ≡ true → AreBelow count (inlined (seeing reads) is_inlined funcs count vars e).points
    unfolding through
    below_in e kept =
        kept_folds_related ReadsBelow (is_read inputs funcs count) has (through_at (seeing reads) (inside (seeing reads) is_inlined funcs count) vars)
        (λ level. tt) below_levels e kept

  pub within : (bound count : ℕ) → count ≤ bound → Within count
  within zero count few = below_in count (λ func_index l. absurd (omega (arith, few, l)))
  within (suc bound) count few = below_in count (λ func_index l. within bound func_index (omega (arith, few, l)))

  -- ---- a variable alone

  module _ (count : ℕ) (vars : Variable → Seen) where
    abbrev of : Expr → Seen
    of e = inlined (seeing reads) is_inlined funcs count vars e

    abbrev IsAlone : Expr → Type 0
    IsAlone e = (v : Variable) → is_variable v e ≡ true → of e ≡ vars v

    by_layer : (y : Expr-F Expr) → (v : Variable) → is_variable_at v y ≡ true → of (roll-Expr y) ≡ vars v
    unfolding through
    by_layer (layer.Variable own_func) v is =
        fold-roll-Expr Seen (through_at (seeing reads) (inside (seeing reads) is_inlined funcs count) vars) (layer.Variable own_func)
        ∙ ap vars (same_variable-true own_func v is)
    by_layer (layer.Number n) v is = absurd cc
    by_layer (layer.Binary op a b) v is = absurd cc
    by_layer (layer.Divide a n) v is = absurd cc
    by_layer (layer.Remainder a n) v is = absurd cc
    by_layer (layer.Select c a b) v is = absurd cc
    by_layer (layer.Call1 s a) v is = absurd cc
    by_layer (layer.Call2 s a b) v is = absurd cc

    rolled : (y : Expr-F Expr) → IsAlone (roll-Expr y)
    rolled y v is = by_layer y v (ap (is_variable_at v) (sym (out-roll-Expr y)) ∙ is)

    alone : (e : Expr) → IsAlone e
    alone = ind-Expr IsAlone (λ x y is. subst (λ (l : Expr-F Expr). IsAlone (roll-Expr l)) is (rolled (map-Expr _ Expr (λ e. e.0) y)))

-- ---- the right side of an update

module _ (pipeline : Pipeline) (schedule : Schedule) (rules : IsWellFormed pipeline) (reader : ℕ) (func : Func) (func_is : slice_get pipeline.funcs reader
    ≡ Some func)
    (at : ℕ) (update : Update) (update_is : slice_get func.updates at ≡ Some update) (reads : Reads) (number x y : ℕ) where
  formed_so : IsUpdate pipeline.inputs pipeline.funcs reader (dimensions func) update
  formed_so = (rules.funcs reader func func_is).updates at update update_is

  abbrev point : Environment
  point = at_reduction update number x y

  abbrev is_inlined : ℕ → Bool
  is_inlined = flagged (flags_of schedule.standings)

  abbrev first : Bool
  first = is_first_in_place update

  abbrev second : Bool
  second = is_second_in_place update

  -- a point of the own Func is in place
  abbrev Stays : Point → Type 0
  Stays own = same_source own.source (sources.Func reader) ≡ true → IsInPlace update x y own

  abbrev AllStay : List Point → Type 0
  AllStay points = AllByRecursion Stays points

  both_stay : (a b : List Point) → AllStay a → AllStay b → AllStay (a ++ b)
  both_stay a b p q = all_both Stays a b p q

  lower_stays : (own : Point) → IsBelow reader own.source → Stays own
  lower_stays own below = by_source own.source refl below
    where
      by_source : (s : Source) → own.source ≡ s → IsBelow reader s → Stays own
      by_source (sources.Input func_index) is below = λ e. absurd (apart (ap (λ (t : Source). same_source t (sources.Func reader)) (sym is) ∙ e))
        where
          apart : false ≡ true → ⊥
          apart e = cc
      by_source (sources.Func func_index) is below =
          λ e. absurd (omega (arith, below, eqb-true func_index reader (ap (λ (t : Source). same_source t (sources.Func reader)) (sym is) ∙ e)))

  abbrev deeper : (func_index : ℕ) → Within reads is_inlined pipeline.inputs pipeline.funcs rules.funcs func_index
  deeper func_index = within reads is_inlined pipeline.inputs pipeline.funcs rules.funcs func_index func_index
      (omega arith)

  -- what is known of a part: it is the variable alone that is said, and its own calls stay
  abbrev Knows : Placed → Seen → Type 0
  Knows p s = ((v : Variable) → is_alone v p.alone ≡ true → s.value ≡ variable point v) × (p.stays ≡ true → AllStay s.points)

  implied : (own held : Bool) → (not own || held) ≡ true → own ≡ true → held ≡ true
  implied true held e own = e
  implied false held e own = absurd cc

  own_call : (s : Source) → same_source s (sources.Func reader) ≡ true → is_own_call reader s ≡ true
  own_call (sources.Input func_index) e = absurd cc
  own_call (sources.Func func_index) e = eq-eqb reader func_index (sym (eqb-true func_index reader e))

  one_dimension : (index : Option Expr) → keeps_index (is_read pipeline.inputs pipeline.funcs reader) (is_update_variable (dimensions func) update.second)
      (dimensions func) index ≡ true
      → dimensions func ≡ 1 → is_second index ≡ true → ⊥
  one_dimension None kept one second = cc
  one_dimension (Some index) kept one second =
      let two = eqb-true (dimensions func) 2 (and_parts (dimensions func == 2) (keeps (is_read pipeline.inputs pipeline.funcs reader)
      (is_update_variable (dimensions func) update.second) index) kept).0 in
      absurd (omega (arith, one, two))

  -- a call with one index is of a Func of one dimension
  called_one : (s : Source) → is_read pipeline.inputs pipeline.funcs (suc reader) s 1 ≡ true → same_source s (sources.Func reader) ≡ true → dimensions func ≡ 1
  called_one (sources.Input func_index) read own = absurd cc
  called_one (sources.Func func_index) read own =
      let same : func_index ≡ reader = eqb-true func_index reader own in
      let is : is_func_of (slice_get pipeline.funcs func_index) 1 ≡ true = (and_parts (nat_lt func_index (suc reader)) (is_func_of (slice_get pipeline.funcs func_index) 1)
      read).1 in
      eqb-true (dimensions func) 1 (ap (λ (f : Option Func). is_func_of f 1) (sym (ap (λ (n : ℕ). slice_get pipeline.funcs n) same ∙ func_is)) ∙ is)

  levels : KeptLevels Knows (is_read pipeline.inputs pipeline.funcs (suc reader)) (is_update_variable (dimensions func) update.second)
      (placed_at reader first second) (through_at (seeing reads) (inside (seeing reads) is_inlined pipeline.funcs (suc reader)) (seen_variable point))
  unfolding seeing
  levels (layer.Number n) kept = (λ v e. absurd cc, λ e. tt)
  levels (layer.Variable own) kept = (λ v e. ap (variable point) (same_variable-true own v e), λ e. tt)
  levels (layer.Binary op a b) kept = (
    λ v e. absurd cc,
    λ e. let k = and_parts a.left.stays b.left.stays e in both_stay a.right.points b.right.points (a.is.1 k.0) (b.is.1 k.1),
  )
  levels (layer.Divide a n) kept = (λ v e. absurd cc, λ e. a.is.1 e)
  levels (layer.Remainder a n) kept = (λ v e. absurd cc, λ e. a.is.1 e)
  levels (layer.Select c a b) kept = (
    λ v e. absurd cc,
    λ e.
        let k = and_parts c.left.stays (a.left.stays && b.left.stays) e in
        let m = and_parts a.left.stays b.left.stays k.1 in
        both_stay c.right.points (a.right.points ++ b.right.points) (c.is.1 k.0) (both_stay a.right.points b.right.points (a.is.1 m.0) (b.is.1 m.1)),
  )
  levels (layer.Call1 s a) kept = (
    λ v e. absurd cc,
    λ e.
        let k = and_parts a.left.stays (not (is_own_call reader s) || (not first || is_alone variables.FirstArgument a.left.alone)) e in
        let one : Stays (record { source = s; x = a.right.value; y = 0 }) =
        λ own. record {
          first = λ f. a.is.0 variables.FirstArgument (implied first (is_alone variables.FirstArgument a.left.alone) (implied (is_own_call reader s) (not first
              || is_alone variables.FirstArgument a.left.alone) k.1 (own_call s own)) f);
          second = λ f. absurd (one_dimension update.left_y formed_so.left_y (called_one s kept own) f);
        } in
        call reads is_inlined pipeline.inputs pipeline.funcs rules.funcs Stays reader lower_stays (suc reader) (λ func_index l. omega (arith, l))
        (λ func_index l. deeper func_index) s
        (is_below reads is_inlined pipeline.inputs pipeline.funcs rules.funcs (suc reader) s 1 kept) ((seeing reads).level (layer.Call1 s a.right)) a.right None
        (both_stay a.right.points (record { source = s; x = a.right.value; y = 0 } ∷ []) (a.is.1 k.0) (one, tt)) (a.is.1 k.0) tt,
  )
  levels (layer.Call2 s a b) kept = (
    λ v e. absurd cc,
    λ e.
        let held = (not first || is_alone variables.FirstArgument a.left.alone) && (not second || is_alone variables.SecondArgument b.left.alone) in
        let k = and_parts (a.left.stays && b.left.stays) (not (is_own_call reader s) || held) e in
        let m = and_parts a.left.stays b.left.stays k.0 in
        let one : Stays (record { source = s; x = a.right.value; y = b.right.value }) =
        λ own.
        let parts = and_parts (not first || is_alone variables.FirstArgument a.left.alone) (not second || is_alone variables.SecondArgument b.left.alone)
        (implied (is_own_call reader s) held k.1 (own_call s own)) in
        record {
          first = λ f. a.is.0 variables.FirstArgument (implied first (is_alone variables.FirstArgument a.left.alone) parts.0 f);
          second = λ f. b.is.0 variables.SecondArgument (implied second (is_alone variables.SecondArgument b.left.alone) parts.1 f);
        } in
        call reads is_inlined pipeline.inputs pipeline.funcs rules.funcs Stays reader lower_stays (suc reader) (λ func_index l. omega (arith, l))
        (λ func_index l. deeper func_index) s
        (is_below reads is_inlined pipeline.inputs pipeline.funcs rules.funcs (suc reader) s 2 kept) ((seeing reads).level (layer.Call2 s a.right b.right))
        a.right (Some b.right)
        (both_stay (a.right.points ++ b.right.points) (record { source = s; x = a.right.value; y = b.right.value } ∷ []) (both_stay a.right.points
        b.right.points (a.is.1 m.0) (b.is.1 m.1)) (one, tt)) (a.is.1 m.0) (b.is.1 m.1),
  )

  right_stays : AllStay (seen_in pipeline schedule reads (suc reader) point update.right).points
  unfolding through calls_in_place
  right_stays =
      (kept_folds_related Knows (is_read pipeline.inputs pipeline.funcs (suc reader)) (is_update_variable (dimensions func) update.second)
      (placed_at reader first second)
      (through_at (seeing reads) (inside (seeing reads) is_inlined pipeline.funcs (suc reader)) (seen_variable point)) levels update.right formed_so.right).1
      formed_so.own_calls

  -- ---- the left side

  left_stays : (e : Expr) → keeps (is_read pipeline.inputs pipeline.funcs reader) (is_update_variable (dimensions func) update.second) e ≡ true
      → AllStay (seen_in pipeline schedule reads reader point e).points
  left_stays e kept =
      weakened (λ (own : Point). IsBelow reader own.source) Stays lower_stays (seen_in pipeline schedule reads reader point e).points
      (deeper reader (is_update_variable (dimensions func) update.second) (seen_variable point) (λ v. tt) e kept)

  second_stays : (index : Option Expr) → keeps_index (is_read pipeline.inputs pipeline.funcs reader) (is_update_variable (dimensions func) update.second)
      (dimensions func) index ≡ true
      → AllStay (second_seen pipeline schedule reads reader point index).points
  second_stays None kept = tt
  second_stays (Some index) kept = left_stays index (and_parts (dimensions func == 2) (keeps (is_read pipeline.inputs pipeline.funcs reader)
      (is_update_variable (dimensions func) update.second) index) kept).1

  second_is : (index : Option Expr) → is_second index ≡ true → (second_seen pipeline schedule reads reader point index).value ≡ y
  second_is None e = absurd cc
  second_is (Some index) e =
      ap (λ (s : Seen). s.value) (alone reads is_inlined pipeline.inputs pipeline.funcs rules.funcs reader (seen_variable point) index variables.SecondArgument
      e)

  named_stays : Stays (record {
    source = sources.Func reader;
    x = (seen_in pipeline schedule reads reader point update.left_x).value;
    y =
        (second_seen pipeline schedule reads reader point update.left_y).value;
  })
  named_stays = λ own. record {
    first = λ e. ap (λ (s : Seen). s.value) (alone reads is_inlined pipeline.inputs pipeline.funcs rules.funcs reader (seen_variable point) update.left_x
        variables.FirstArgument e);
    second = λ e. second_is update.left_y e;
  }

  pub all_stay : AllStay (update_points pipeline schedule reads reader update number x y)
  all_stay =
      both_stay (seen_in pipeline schedule reads reader point update.left_x).points _ (left_stays update.left_x formed_so.left_x)
      (both_stay (second_seen pipeline schedule reads reader point update.left_y).points _ (second_stays update.left_y formed_so.left_y)
      (named_stays, right_stays))

pub own_reads_stay : OwnReadsStay
own_reads_stay pipeline schedule rules reader func func_is at update update_is reads number x y = all_stay pipeline schedule rules reader func func_is at update
    update_is reads number x y
