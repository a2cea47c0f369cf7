-- What a consumer's loops ask for with the nests at them, and what all phases do: each Func at a loop is at one loop of one consumer.
use Rattle.std.proofs.Common.{◌≡◌, ℕ, zero, suc, ◌+◌, ◌*◌, ◌-◌, ◌<◌, ◌≤◌, Bool, true, false, List, [], ◌∷◌, ◌++◌, length, Option, Some, None, refl, sym, ap}
use Rattle.std.proofs.Common.{subst, ◌∙◌, arith, inl, inr, length-append, append_assoc, append-nil}
use Rattle.std.specs.Prelude.{◌==◌, ◌&&◌, if◌then◌else◌, slice_get, not}
use Rattle.std.proofs.lemmas.Bool.{and_from}
use Rattle.std.proofs.Math.Nat.{add-mul, mul-add, mul_assoc, mul_comm, mul_right_comm}
use Rattle.std.proofs.lemmas.Bool.Decides.{nat_tests}
use Rattle.std.proofs.lemmas.Option.{slice_get_past, slice_get_within}
use Rattle.halide_pipeline.specs.declared.definitions.Func.{Func}
use Rattle.halide_pipeline.specs.declared.definitions.Update.{Update}
use Rattle.halide_pipeline.specs.Pipelines.{Pipeline}
use Rattle.schedule_lines.specs.declared.stages.Loop.{Loop}
use Rattle.schedule_lines.specs.declared.stages.Stage.{Stage}
use Rattle.schedule_lines.specs.declared.stages.Mark.TheVariants as marks
use Rattle.schedule_lines.specs.Directives.{is_marked, same_id}
use Rattle.schedule_lines.specs.Making.{total}
use Rattle.schedule.specs.declared.plans.FuncPlan.{FuncPlan}
use Rattle.schedule.specs.declared.schedules.Schedule.{Schedule}
use Rattle.schedule.specs.declared.placements.LoopPosition.{LoopPosition}
use Rattle.schedule.specs.declared.placements.ComputeLevel.{ComputeLevel}
use Rattle.schedule.specs.declared.placements.ComputeLevel.TheVariants as places
use Rattle.schedule.specs.declared.placements.FuncPlacement.{FuncPlacement}
use Rattle.schedule_loops.specs.declared.extents.Extents.{Extents}
use Rattle.schedule_loops.specs.Visits as loops
use Rattle.schedule_loops.specs.Visits.{parallel}
use Rattle.schedule_loops.specs.Stages.{KeepsRules}
use Rattle.schedule_loops.proofs.Ids.{same_id-self, cases_id}
use Rattle.schedule_loops.proofs.Nesting.{has_id}
use Rattle.schedule_loops.proofs.Selecting.{Unique}
use Rattle.schedule.specs.Legal.{is_inlined, is_root}
use Rattle.bounds_weights.specs.Weight.{copies, all_copies, consumer_copies, copies_from, flags_of, is_computed, update_nodes, stage_weight}
use Rattle.bounds.specs.declared.boxes.SourceBox.{SourceBox}
use Rattle.bounds.specs.declared.verdict.Boxes.{Boxes}
use Rattle.loop_ir.specs.declared.statements.Phase.{Phase}
use Rattle.loop_ir.specs.declared.statements.Stmt.{Stmt}
use Rattle.loop_ir.specs.Sizes.{loop_room, whole_size}
use Rattle.lowering.specs.ProducedFuncs.{is_computed_at, is_at_loop, is_at_loop_of}
use Rattle.lowering.specs.Consuming.{IsNestAt, IsNestOf, HasNests, None_left, One_more, HasLoops, No_loops, One_outside, HasOutermost, IsBody, size_first}
use Rattle.lowering.specs.PurePhases.{is_at_root, inside_of}
use Rattle.bounds.specs.Stages.{IsAtRoot}
use Rattle.lowering.specs.Lowered as lowered
use Rattle.lowering.specs.Sizes.{IsLight, update_share, shares, func_share, placed_share, phase_share, words_of, summed, produced_share, produced_shares}
use Rattle.schedule.specs.Placements.{pure_loops_of}
use Rattle.lowering.proofs.Copies.{ArePaid, Paid, times-most, times-some, copies-some, loop-paid, last-copies, paid-at, copies-at}
use Rattle.lowering.proofs.TaskLanes.{outside_of, loops_by}

-- ---- sums over places

pub summed-more : (f g : ℕ → ℕ) (at n : ℕ) → summed (λ k. f k + g k) at n ≡ summed f at n + summed g at n
summed-more f g at zero = refl
summed-more f g at (suc n) = omega (arith, summed-more f g (suc at) n)

pub summed-most : (f g : ℕ → ℕ) → ((k : ℕ) → f k ≤ g k) → (at n : ℕ) → summed f at n ≤ summed g at n
summed-most f g most at zero = omega arith
summed-most f g most at (suc n) = omega (arith, most at, summed-most f g most (suc at) n)

pub summed-none : (at n : ℕ) → summed (λ k. 0) at n ≡ 0
summed-none at zero = refl
summed-none at (suc n) = omega (arith, summed-none (suc at) n)

pub last-summed : (f : ℕ → ℕ) (at n : ℕ) → summed f at (suc n) ≡ summed f at n + f (at + n)
last-summed f at zero = let e : f at ≡ f (at + 0) = ap f (omega arith) in omega (arith, e)
last-summed f at (suc n) =
    let e : f (suc at + n) ≡ f (at + suc n) = ap f (omega arith) in
    let l = last-summed f (suc at) n in
    omega (arith, l, e)

pub last-first : (f : ℕ → ℕ) (n : ℕ) → summed f 0 (suc n) ≡ summed f 0 n + f n
last-first f n = last-summed f 0 n ∙ ap (λ (k : ℕ). summed f 0 n + f k) (omega arith)

-- ---- Funcs at one loop, and at several

module _ (pipeline : Pipeline) (schedule : Schedule) (boxes : Boxes) where
  abbrev flags : List Bool
  flags = flags_of schedule.standings

  abbrev loop_share : LoopPosition → Option Func → Option FuncPlan → Option FuncPlacement → ℕ
  loop_share at None plan own = 0
  loop_share at (Some func) None own = 0
  loop_share at (Some func) (Some plan) None = 0
  loop_share at (Some func) (Some plan) (Some own) = if is_computed_at at own then placed_share flags pipeline.funcs schedule.funcs func plan own else 0

  abbrev share_at : LoopPosition → ℕ → ℕ
  share_at at place = loop_share at (slice_get pipeline.funcs place) (slice_get schedule.funcs place) (slice_get schedule.standings place)

  abbrev produced_at : ℕ → ℕ → ℕ
  produced_at consumer place = produced_share flags pipeline.funcs schedule.funcs consumer (slice_get pipeline.funcs place) (slice_get schedule.funcs place)
      (slice_get schedule.standings place)

  abbrev count : ℕ
  count = length schedule.standings

  computed-there : (at : LoopPosition) (own : FuncPlacement) → own.is_reached ≡ true → own.place ≡ places.At at → is_computed_at at own ≡ true
  computed-there at own reached is =
      and_from own.is_reached (is_at_loop at own.place) reached (ap (is_at_loop at) is ∙ and_from (at.func == at.func) (same_id at.inside at.inside)
      (grind (arith, nat_tests)) (same_id-self at.inside))

  -- the nests of a Func at a loop, in each copy of the code around them
  module _ (at : LoopPosition) (copied : ℕ) (copied_is : consumer_copies schedule.funcs (places.At at) ≡ copied) where
    nest-size : (place : ℕ) (made : Stmt) → IsNestOf pipeline schedule boxes at place made → whole_size made * copied ≤ 64 * share_at at place
    nest-size place made is =
        let own = is.parts.standing in
        let shared : share_at at place ≡ placed_share flags pipeline.funcs schedule.funcs is.func is.plan own
        = ap (λ (f : Option Func). loop_share at f (slice_get schedule.funcs place) (slice_get schedule.standings place)) is.parts.func_is
        ∙ ap (λ (p : Option FuncPlan). loop_share at (Some is.func) p (slice_get schedule.standings place)) is.parts.plan_is
        ∙ ap (λ (o : Option FuncPlacement). loop_share at (Some is.func) (Some is.plan) o) is.parts.there.standing
        ∙ ap (λ (t : Bool). if t then placed_share flags pipeline.funcs schedule.funcs is.func is.plan own else 0) (computed-there at own is.parts.there.reached
        is.parts.placed_is) in
        let whole = func_share flags pipeline.funcs is.func is.plan in
        let here : placed_share flags pipeline.funcs schedule.funcs is.func is.plan own ≡ whole * copied
        = ap (λ (p : ComputeLevel). whole * consumer_copies schedule.funcs p) is.parts.placed_is ∙ ap (λ (n : ℕ). whole * n) copied_is in
        let l = times-most (whole_size made) (64 * whole) copied is.small in
        let a = mul_assoc 64 whole copied in
        omega (arith, shared, here, l, a)

    found-size : (place : ℕ) (found : Option Stmt) → IsNestAt pipeline schedule boxes at place found → size_first found * copied ≤ 64 * share_at at place
    found-size place None is = omega arith
    found-size place (Some made) is = nest-size place made is

    none-past : (place : ℕ) (found : Option Stmt) → IsNestAt pipeline schedule boxes at place found → count ≤ place → size_first found ≡ 0
    none-past place None is past = refl
    none-past place (Some made) is past = absurd (let l = slice_get_within schedule.standings place is.parts.standing is.parts.there.standing in
        omega (arith, l, past))

    both-size : (made found rest : ℕ) → made ≡ found + rest → made * copied ≡ found * copied + rest * copied
    both-size made found rest e = ap (λ (n : ℕ). n * copied) e ∙ add-mul found rest copied

    nests-size : (from : ℕ) (inside made : Stmt) → HasNests pipeline schedule boxes at from inside made → (n : ℕ) → count ≤ from + n
        → whole_size made * copied ≤ whole_size inside * copied + 64 * summed (share_at at) from n
    nests-size _ inside _ (None_left from _ past) n most = omega arith
    nests-size _ _ _ (One_more from found inside rest made is others first) zero most =
        let e = both-size (whole_size made) (size_first found) (whole_size rest) first.size_is in
        let z = ap (λ (n : ℕ). n * copied) (none-past from found is (omega (arith, most))) in
        let r = nests-size (suc from) inside rest others 0 (omega (arith, most)) in
        omega (arith, e, z, r)
    nests-size _ _ _ (One_more from found inside rest made is others first) (suc n) most =
        let e = both-size (whole_size made) (size_first found) (whole_size rest) first.size_is in
        let f = found-size from found is in
        let r = nests-size (suc from) inside rest others n (omega (arith, most)) in
        omega (arith, e, f, r)

  -- all that are at these loops of a consumer
  abbrev sums : ℕ → Option Func → Option FuncPlan → Option FuncPlacement → List Loop → ℕ
  sums consumer func plan own [] = 0
  sums consumer func plan own (first ∷ others) = loop_share (record { func = consumer; inside = first.id }) func plan own + sums consumer func plan own others

  abbrev around : ℕ → List Loop → ℕ → ℕ
  around consumer own place = sums consumer (slice_get pipeline.funcs place) (slice_get schedule.funcs place) (slice_get schedule.standings place) own

  around-append : (consumer : ℕ) (inside outside : List Loop) (place : ℕ) → around consumer (inside ++ outside) place ≡ around consumer inside place + around
      consumer outside place
  around-append consumer [] outside place = omega arith
  around-append consumer (own ∷ inside) outside place = omega (arith, around-append consumer inside outside place)

  summed-around : (consumer : ℕ) (inside : List Loop) (own : Loop) (n : ℕ)
      → summed (around consumer inside) 0 n + summed (share_at (record { func = consumer; inside = own.id })) 0 n ≤ summed (around consumer (inside ++ own
      ∷ [])) 0 n
  summed-around consumer inside own n =
      let l = summed-most (λ k. around consumer inside k + share_at (record { func = consumer; inside = own.id }) k) (around consumer (inside ++ own ∷ []))
      (λ k. let e = around-append consumer inside (own ∷ []) k in omega (arith, e)) 0 n in
      let m = summed-more (around consumer inside) (share_at (record { func = consumer; inside = own.id })) 0 n in
      omega (arith, l, m)

  -- what is in a loop is made in each of its copies
  around-paid : (made body inner own outside all leaf loops nests before : ℕ) → made ≤ own * (body + 39)
      → body * (own * outside) ≤ inner * (own * outside) + nests → own * outside ≤ all
      → inner * (own * outside) ≤ all * (leaf + 39 * loops) + before → made * outside ≤ all * (leaf + 39 * suc loops) + (before + nests)
  around-paid made body inner own outside all leaf loops nests before few more some so_far =
      let t = times-most made (own * (body + 39)) outside few in
      let e : own * (body + 39) * outside ≡ body * (own * outside) + 39 * (own * outside) = mul_right_comm own (body + 39) outside
      ∙ mul_comm (own * outside) (body + 39) ∙ add-mul body 39 (own * outside) in
      let f = ap (λ (z : ℕ). all * z) (let g : leaf + 39 * suc loops ≡ leaf + 39 * loops + 39 = omega arith in g) ∙ mul-add all (leaf + 39 * loops) 39 in
      omega (arith, t, e, f, some, more, so_far)

  module _ (consumer : ℕ) (counts : loops.Values) (all : List Loop) (paid : ArePaid counts all) (unique : Unique all)
      (all_is : pure_loops_of (slice_get schedule.funcs consumer) ≡ all) where
    copied-here : (inside : List Loop) (own : Loop) (outside : List Loop) → inside ++ own ∷ outside ≡ all
        → consumer_copies schedule.funcs (places.At (record { func = consumer; inside = own.id })) ≡ copies own * all_copies outside
    copied-here inside own outside e =
        ap (copies_from own.id) (all_is ∙ sym e) ∙ copies-at inside own outside (subst Unique (sym e) unique)

    loops-size : (leaf : Stmt) (own : List Loop) (made : Stmt) → HasLoops pipeline schedule boxes consumer counts leaf own made → (outside : List Loop)
        → own ++ outside ≡ all
        → whole_size made * all_copies outside ≤ all_copies all * (whole_size leaf + 39 * length own) + 64 * summed (around consumer own) 0 count
    loops-size leaf _ _ No_loops outside e =
        let k : whole_size leaf * all_copies outside ≡ whole_size leaf * all_copies all = ap (λ (ls : List Loop). whole_size leaf * all_copies ls) e in
        let c = mul_comm (whole_size leaf) (all_copies all) in
        let z = ap (λ (n : ℕ). all_copies all * n) (let g : whole_size leaf + 39 * 0 ≡ whole_size leaf = omega arith in g) in
        omega (arith, k, c, z)
    loops-size leaf _ _ (One_outside inside own inner body made has nests does goes run_goes) outside e =
        let here : inside ++ own ∷ outside ≡ all = sym (append_assoc inside (own ∷ []) outside) ∙ e in
        let all_paid : ArePaid counts (inside ++ own ∷ outside) = subst (ArePaid counts) (sym here) paid in
        let few = loop-paid counts own (whole_size body) (paid-at counts inside own outside all_paid) in
        let size = does.size_is in
        let n = nests-size (record { func = consumer; inside = own.id }) (copies own * all_copies outside) (copied-here inside own outside here) 0 inner body
        nests count (omega arith) in
        let i = loops-size leaf inside inner has (own ∷ outside) here in
        let c = last-copies counts inside (own ∷ outside) all_paid in
        let ca = ap all_copies here in
        let l = length-append inside (own ∷ []) in
        let s = summed-around consumer inside own count in
        let p = around-paid (whole_size made) (whole_size body) (whole_size inner) (copies own) (all_copies outside) (all_copies all) (whole_size leaf)
        (length inside)
        (64 * summed (share_at (record { func = consumer; inside = own.id })) 0 count) (64 * summed (around consumer inside) 0 count) (omega (arith, few, size))
        n (omega (arith, c, ca)) i in
        let m : length (inside ++ own ∷ []) ≡ suc (length inside) = omega (arith, l) in
        let f = ap (λ (k : ℕ). all_copies all * (whole_size leaf + 39 * k)) m in
        omega (arith, p, f, s)

  -- ---- each Func at a loop of the consumer is at one of its loops

  module _ (consumer whole : ℕ) (reached : Bool) where
    abbrev one : ComputeLevel → Loop → ℕ
    one place loop = if reached && is_at_loop (record { func = consumer; inside = loop.id }) place then whole else 0

    abbrev among : ComputeLevel → List Loop → ℕ
    among place [] = 0
    among place (first ∷ others) = one place first + among place others

    abbrev once : ComputeLevel → ℕ
    once place = if reached && is_at_loop_of consumer place then whole else 0

    nowhere : (b : Bool) → (if b && false then whole else 0) ≡ 0
    nowhere true = refl
    nowhere false = refl

    elsewhere : (b here : Bool) → (if b && (here && false) then whole else 0) ≡ 0
    elsewhere true true = refl
    elsewhere true false = refl
    elsewhere false here = refl

    here-most : (b here same : Bool) → (if b && (here && same) then whole else 0) ≤ (if b && here then whole else 0)
    here-most true true true = omega arith
    here-most true true false = omega arith
    here-most true false same = omega arith
    here-most false here same = omega arith

    module _ (at : LoopPosition) where
      abbrev placed : ComputeLevel
      placed = places.At at

      is-one : (loop : Loop) → at.inside ≡ loop.id → has_id at.inside loop ≡ 1
      is-one loop e = ap (λ (t : Bool). if t then 1 else 0) (ap (same_id loop.id) e ∙ same_id-self loop.id)

      not-one : (loop : Loop) → same_id at.inside loop.id ≡ false → one placed loop ≡ 0
      not-one loop d = ap (λ (t : Bool). if reached && (at.func == consumer && t) then whole else 0) d ∙ elsewhere reached (at.func == consumer)

      among-none : (own : List Loop) → total (has_id at.inside) own ≡ 0 → among placed own ≡ 0
      among-none [] none = refl
      among-none (loop ∷ others) none = elim (cases_id at.inside loop.id) [
        | inl e ↦ absurd (let i = is-one loop e in omega (arith, i, none))
        | inr d ↦ let z = not-one loop d in let r = among-none others (omega (arith, none)) in omega (arith, z, r)
      ]

      among-few : (own : List Loop) → total (has_id at.inside) own ≤ 1 → among placed own ≤ once placed
      among-few [] few = omega arith
      among-few (loop ∷ others) few = elim (cases_id at.inside loop.id) [
        | inl e ↦
            let i = is-one loop e in
            let z = among-none others (omega (arith, i, few)) in
            let l = here-most reached (at.func == consumer) (same_id at.inside loop.id) in
            omega (arith, z, l)
        | inr d ↦ let z = not-one loop d in let r = among-few others (omega (arith, few)) in omega (arith, z, r)
      ]

    among-nowhere : (place : ComputeLevel) → ((loop : Loop) → one place loop ≡ 0) → (own : List Loop) → among place own ≡ 0
    among-nowhere place none [] = refl
    among-nowhere place none (loop ∷ others) = omega (arith, none loop, among-nowhere place none others)

    among-once : (place : ComputeLevel) (own : List Loop) → Unique own → among place own ≤ once place
    among-once (places.At at) own unique = among-few at own (unique at.inside)
    among-once places.Root own unique = let z = among-nowhere places.Root (λ loop. nowhere reached) own in omega (arith, z)
    among-once places.Inlined own unique = let z = among-nowhere places.Inlined (λ loop. nowhere reached) own in omega (arith, z)
    among-once places.Nowhere own unique = let z = among-nowhere places.Nowhere (λ loop. nowhere reached) own in omega (arith, z)

  sums-none : (consumer : ℕ) (func : Option Func) (plan : Option FuncPlan) (own : Option FuncPlacement) → ((at : LoopPosition) → loop_share at func plan own ≡ 0)
      → (all : List Loop) → sums consumer func plan own all ≡ 0
  sums-none consumer func plan own none [] = refl
  sums-none consumer func plan own none (first ∷ others) = omega (
    arith,
    none (record { func = consumer; inside = first.id }),
    sums-none consumer func plan own
        none others,
  )

  sums-are : (consumer : ℕ) (func : Func) (plan : FuncPlan) (own : FuncPlacement) (all : List Loop)
      → sums consumer (Some func) (Some plan) (Some own) all ≡ among consumer (placed_share flags pipeline.funcs schedule.funcs func plan own) own.is_reached
      own.place all
  sums-are consumer func plan own [] = refl
  sums-are consumer func plan own (first ∷ others) = omega (arith, sums-are consumer func plan own others)

  sums-once : (consumer : ℕ) (func : Option Func) (plan : Option FuncPlan) (own : Option FuncPlacement) (all : List Loop) → Unique all
      → sums consumer func plan own all ≤ produced_share flags pipeline.funcs schedule.funcs consumer func plan own
  sums-once consumer None plan own all unique = let z = sums-none consumer None plan own (λ at. refl) all in omega (arith, z)
  sums-once consumer (Some func) None own all unique = let z = sums-none consumer (Some func) None own (λ at. refl) all in omega (arith, z)
  sums-once consumer (Some func) (Some plan) None all unique = let z = sums-none consumer (Some func) (Some plan) None (λ at. refl) all in omega (arith, z)
  sums-once consumer (Some func) (Some plan) (Some own) all unique =
      let e = sums-are consumer func plan own all in
      let l = among-once consumer (placed_share flags pipeline.funcs schedule.funcs func plan own) own.is_reached own.place all unique in
      omega (arith, e, l)

  around-once : (consumer : ℕ) (all : List Loop) → Unique all → summed (around consumer all) 0 count ≤ produced_shares pipeline schedule consumer
  around-once consumer all unique =
      summed-most (around consumer all) (produced_at consumer) (λ k. sums-once consumer (slice_get pipeline.funcs k) (slice_get schedule.funcs k)
      (slice_get schedule.standings k) all unique) 0 count

  -- ---- what a task does

  module _ (consumer : ℕ) (plan : FuncPlan) (extents : Extents) (store body : Stmt) (plan_is : slice_get schedule.funcs consumer ≡ Some plan)
      (kept : KeepsRules plan.pure) (unique : Unique plan.pure.loops)
      (paid : ArePaid (loops.counts extents plan.pure.splits) plan.pure.loops) (is : IsBody pipeline schedule boxes consumer plan.pure extents store body) where
    abbrev stage : Stage
    stage = plan.pure

    abbrev counted : loops.Values
    counted = loops.counts extents stage.splits

    abbrev copied : ℕ
    copied = all_copies stage.loops

    all_is : pure_loops_of (slice_get schedule.funcs consumer) ≡ stage.loops
    all_is = ap pure_loops_of plan_is

    ends : (inside outside : List Loop) → inside ++ outside ≡ stage.loops → (n : ℕ) → n ≤ copied * (whole_size is.leaf + 39 * length inside) + 64 * summed
        (around consumer (inside ++ outside)) 0 count
        → n ≤ copied * (25 * length stage.splits + whole_size store + 39 * length stage.loops) + 64 * produced_shares pipeline schedule consumer
    ends inside outside e n few =
        let z = is.size_is in
        let l = length-append inside outside in
        let le = ap (λ (ls : List Loop). length ls) e in
        let s = ap (λ (ls : List Loop). summed (around consumer ls) 0 count) e in
        let o = around-once consumer stage.loops unique in
        let m = times-most (whole_size is.leaf + 39 * length inside) (25 * length stage.splits + whole_size store + 39 * length stage.loops) copied
        (omega (arith, z, l, le)) in
        let c = mul_comm copied (whole_size is.leaf + 39 * length inside) in
        let d = mul_comm copied (25 * length stage.splits + whole_size store + 39 * length stage.loops) in
        omega (arith, few, m, s, o, c, d)

    by-outermost : (found : Option Loop) → HasOutermost pipeline schedule boxes consumer found is.inner body
        → HasLoops pipeline schedule boxes consumer counted is.leaf (inside_of found stage.loops) is.inner
        → inside_of found stage.loops ++ outside_of consumer extents stage kept found ≡ stage.loops
        → whole_size body ≤ copied * (25 * length stage.splits + whole_size store + 39 * length stage.loops) + 64 * produced_shares pipeline schedule consumer
    by-outermost None begun looped e =
        let i = loops-size consumer counted stage.loops paid unique all_is is.leaf stage.loops is.inner looped [] e in
        let b = ap whole_size begun in
        let s = ap (λ (ls : List Loop). summed (around consumer ls) 0 count) (append-nil stage.loops) in
        ends stage.loops [] e (whole_size body) (omega (arith, i, b, s))
    by-outermost (Some own) begun looped e =
        let inside = inside_of (Some own) stage.loops in
        let i = loops-size consumer counted stage.loops paid unique all_is is.leaf inside is.inner looped (own ∷ []) e in
        let n = nests-size (record { func = consumer; inside = own.id }) (copies own * 1) (copied-here consumer counted stage.loops paid unique all_is inside
        own [] e) 0 is.inner body begun count (omega arith) in
        let p = paid-at counted inside own [] (subst (ArePaid counted) (sym e) paid) in
        let t = times-some (copies own) (whole_size body) p.some in
        let q = ap (λ (z : ℕ). whole_size body * z) (let g : copies own * 1 ≡ copies own = omega arith in g) ∙ mul_comm (whole_size body) (copies own) in
        let s = summed-around consumer inside own count in
        ends inside (own ∷ []) e (whole_size body) (omega (arith, i, n, t, s, q))

    pub body-size : whole_size body ≤ copied * (25 * length stage.splits + whole_size store + 39 * length stage.loops) + 64 * produced_shares pipeline schedule
        consumer
    body-size = by-outermost (parallel stage) is.begun is.looped (sym (loops_by consumer extents stage kept (parallel stage) refl))

  -- ---- all phases

  words-behind : (phases : List Phase) (phase : Phase) → words_of (phases ++ phase ∷ []) ≡ words_of phases + (whole_size phase.body + 24)
  words-behind [] phase = omega arith
  words-behind (first ∷ phases) phase = omega (arith, words-behind phases phase)

  abbrev phases_share : ℕ → Func → FuncPlan → ℕ → ℕ
  phases_share place func plan zero = 0
  phases_share place func plan (suc n) = phases_share place func plan n + phase_share pipeline schedule place func plan n

  phases-all : (place : ℕ) (func : Func) (plan : FuncPlan) (n : ℕ) → phases_share place func plan (suc n) ≡ shares flags pipeline.funcs func plan n
      + produced_shares pipeline schedule place
  phases-all place func plan zero = omega arith
  phases-all place func plan (suc n) = omega (arith, phases-all place func plan n)

  stage-light : (place : ℕ) (func : Func) (plan : FuncPlan) (own : SourceBox) (number : ℕ) (phase : Phase)
      → lowered.IsStagePhase pipeline schedule boxes place func plan own number phase → IsLight pipeline schedule place func plan number phase
  stage-light place func plan own _ _ (lowered.Pure phase tasks private_is bytes does touches few stores loop_lanes in_runs) = few.1
  stage-light place func plan own _ _ (lowered.Updating at update stage phase it tasks private_is bytes does touches few stores loop_lanes) = few.1

  pub update-light : (place : ℕ) (func : Func) (plan : FuncPlan) (at : ℕ) (update : Update) (stage : Stage) (phase : Phase)
      → slice_get func.updates at ≡ Some update → slice_get plan.updates at ≡ Some stage
      → whole_size phase.body + 24 ≤ 64 * stage_weight (update_nodes flags pipeline.funcs update) stage
      → IsLight pipeline schedule place func plan (suc at) phase
  update-light place func plan at update stage phase update-is stage-is light =
      let own : update_share flags pipeline.funcs (slice_get func.updates at) (slice_get plan.updates at)
      ≡ stage_weight (update_nodes flags pipeline.funcs update) stage
      = ap (λ (u : Option Update). update_share flags pipeline.funcs u (slice_get plan.updates at)) update-is
      ∙ ap (λ (s : Option Stage). update_share flags pipeline.funcs (Some update) s) stage-is in
      omega (arith, own, light)

  stages-light : (place : ℕ) (func : Func) (plan : FuncPlan) (own : SourceBox) (others phases : List Phase) (number : ℕ)
      → lowered.ArePhasesOf pipeline schedule boxes place func plan own others number phases
      → words_of phases ≤ words_of others + 64 * phases_share place func plan number
  stages-light place func plan own others _ _ lowered.None_yet = omega arith
  stages-light place func plan own others _ _ (lowered.One_more number phases phase rest is) =
      let w = words-behind phases phase in
      let l = stage-light place func plan own number phase is in
      let r = stages-light place func plan own others phases number rest in
      omega (arith, w, l, r)

  abbrev root_share : ℕ → Option Func → Option FuncPlan → Option FuncPlacement → ℕ
  root_share place None plan own = 0
  root_share place (Some func) None own = 0
  root_share place (Some func) (Some plan) None = 0
  root_share place (Some func) (Some plan) (Some own) = if is_at_root own then placed_share flags pipeline.funcs schedule.funcs func plan own else 0

  abbrev root_at : ℕ → ℕ
  root_at place = root_share place (slice_get pipeline.funcs place) (slice_get schedule.funcs place) (slice_get schedule.standings place)

  abbrev with_produced : ℕ → ℕ
  with_produced place = root_at place + produced_shares pipeline schedule place

  root-is : (place : ℕ) (func : Func) (plan : FuncPlan) (own : SourceBox) → IsAtRoot pipeline schedule boxes place func plan own
      → root_at place ≡ func_share flags pipeline.funcs func plan
  root-is place func plan own at =
      ap (λ (f : Option Func). root_share place f (slice_get schedule.funcs place) (slice_get schedule.standings place)) at.func_is
      ∙ ap (λ (p : Option FuncPlan). root_share place (Some func) p (slice_get schedule.standings place)) at.plan_is
      ∙ ap (λ (o : Option FuncPlacement). root_share place (Some func) (Some plan) o) at.there.standing
      ∙ ap (λ (t : Bool). if t then placed_share flags pipeline.funcs schedule.funcs func plan at.standing else 0) (and_from at.standing.is_reached
      (is_root at.standing.place) at.there.reached (ap is_root at.placed_is))
      ∙ ap (λ (p : ComputeLevel). func_share flags pipeline.funcs func plan * consumer_copies schedule.funcs p) at.placed_is
      ∙ (let g : func_share flags pipeline.funcs func plan * 1 ≡ func_share flags pipeline.funcs func plan = omega arith in g)

  pub phases-light : (place : ℕ) (phases : List Phase) → lowered.AreLowered pipeline schedule boxes place phases
      → words_of phases ≤ 64 * summed with_produced 0 place
  phases-light _ _ lowered.No_func = omega arith
  phases-light _ _ (lowered.Passed place phases rest none) =
      let l = phases-light place phases rest in
      let s = last-first with_produced place in
      omega (arith, l, s)
  phases-light _ _ (lowered.Computed place before phases func plan own rest at stages) =
      let l = phases-light place before rest in
      let s = last-first with_produced place in
      let r = stages-light place func plan own before phases (suc (length func.updates)) stages in
      let a = phases-all place func plan (length func.updates) in
      let e = root-is place func plan own at in
      omega (arith, l, s, r, a, e)

  -- ---- what is computed counts once

  exchanged : (g : ℕ → ℕ → ℕ) (at n from m : ℕ) → summed (λ h. summed (λ k. g h k) at n) from m ≡ summed (λ k. summed (λ h. g h k) from m) at n
  exchanged g at n from zero = sym (summed-none at n)
  exchanged g at n from (suc m) =
      let r = exchanged g at n (suc from) m in
      let s = summed-more (λ k. g from k) (λ k. summed (λ h. g h k) (suc from) m) at n in
      omega (arith, r, s)

  abbrev pub computed_share : Option Func → Option FuncPlan → Option FuncPlacement → ℕ
  computed_share None plan own = 0
  computed_share (Some func) None own = 0
  computed_share (Some func) (Some plan) None = 0
  computed_share (Some func) (Some plan) (Some own) = if is_computed own then placed_share flags pipeline.funcs schedule.funcs func plan own else 0

  abbrev computed_at : ℕ → ℕ
  computed_at place = computed_share (slice_get pipeline.funcs place) (slice_get schedule.funcs place) (slice_get schedule.standings place)

  module _ (whole : ℕ) where
    -- one consumer at most
    past : (func at m : ℕ) → func < at → summed (λ h. if func == h then whole else 0) at m ≡ 0
    past func at zero low = refl
    past func at (suc m) low =
        let f : (func == at) ≡ false = grind (arith, nat_tests, low) in
        let z : (if func == at then whole else 0) ≡ 0 = ap (λ (t : Bool). if t then whole else 0) f in
        let r = past func (suc at) m (omega (arith, low)) in
        omega (arith, z, r)

    by-consumer : (func from n : ℕ) (t : Bool) → (func == from) ≡ t → summed (λ h. if func == h then whole else 0) (suc from) n ≤ whole
        → (if t then whole else 0) + summed (λ h. if func == h then whole else 0) (suc from) n ≤ whole
    by-consumer func from n true e later = let s : func ≡ from = grind (arith, nat_tests, e) in let z = past func (suc from) n (omega (arith, s)) in
        omega (arith, z)
    by-consumer func from n false e later = omega (arith, later)

    consumers-once : (func from n : ℕ) → summed (λ h. if func == h then whole else 0) from n ≤ whole
    consumers-once func from zero = omega arith
    consumers-once func from (suc n) = by-consumer func from n (func == from) refl (consumers-once func (suc from) n)

    -- a Func at root, or at a loop of one consumer
    placed-once : (reached : Bool) (place : ComputeLevel) (m : ℕ)
        → (if reached && is_root place then whole else 0) + summed (λ h. if reached && is_at_loop_of h place then whole else 0) 0 m ≤ (if reached
        && not (is_inlined place) then whole else 0)
    placed-once true (places.At at) m = let l = consumers-once at.func 0 m in omega (arith, l)
    placed-once true places.Root m = let z = summed-none 0 m in omega (arith, z)
    placed-once true places.Inlined m = let z = summed-none 0 m in omega (arith, z)
    placed-once true places.Nowhere m = let z = summed-none 0 m in omega (arith, z)
    placed-once false place m = let z = summed-none 0 m in omega (arith, z)

  once-at : (m k : ℕ) (func : Option Func) (plan : Option FuncPlan) (own : Option FuncPlacement)
      → root_share k func plan own + summed (λ h. produced_share flags pipeline.funcs schedule.funcs h func plan own) 0 m ≤ computed_share func plan own
  once-at m k None plan own = let z = summed-none 0 m in omega (arith, z)
  once-at m k (Some func) None own = let z = summed-none 0 m in omega (arith, z)
  once-at m k (Some func) (Some plan) None = let z = summed-none 0 m in omega (arith, z)
  once-at m k (Some func) (Some plan) (Some own) = placed-once (placed_share flags pipeline.funcs schedule.funcs func plan own) own.is_reached own.place m

  -- past the last standing nothing is
  none-after : (place : ℕ) → count ≤ place → root_at place ≡ 0
  none-after place past = ap (λ (o : Option FuncPlacement). root_share place (slice_get pipeline.funcs place) (slice_get schedule.funcs place) o)
      (slice_get_past schedule.standings place past) ∙ by-parts (slice_get pipeline.funcs place) (slice_get schedule.funcs place)
    where
      by-parts : (func : Option Func) (plan : Option FuncPlan) → root_share place func plan None ≡ 0
      by-parts None plan = refl
      by-parts (Some func) None = refl
      by-parts (Some func) (Some plan) = refl

  few-roots : (from m n : ℕ) → count ≤ from + n → summed root_at from m ≤ summed root_at from n
  few-roots from zero n past = omega arith
  few-roots from (suc m) zero past =
      let z = none-after from (omega (arith, past)) in
      let r = few-roots (suc from) m zero (omega (arith, past)) in
      omega (arith, z, r)
  few-roots from (suc m) (suc n) past = let r = few-roots (suc from) m n (omega (arith, past)) in omega (arith, r)

  pub shares-computed : (m : ℕ) → summed with_produced 0 m ≤ summed computed_at 0 count
  shares-computed m =
      let a = summed-more root_at (produced_shares pipeline schedule) 0 m in
      let x = exchanged produced_at 0 count 0 m in
      let r = few-roots 0 m count (omega arith) in
      let b = summed-more root_at (λ k. summed (λ h. produced_at h k) 0 m) 0 count in
      let c = summed-most (λ k. root_at k + summed (λ h. produced_at h k) 0 m) computed_at (λ k. once-at m k (slice_get pipeline.funcs k)
      (slice_get schedule.funcs k) (slice_get schedule.standings k)) 0 count in
      omega (arith, a, x, r, b, c)
